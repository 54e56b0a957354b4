-- `Sent`: a curve read from a ticket, and reasons as the functions are asked for them, by points and rows.
pub mod Sent
