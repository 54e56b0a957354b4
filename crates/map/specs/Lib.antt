-- Document 01 as definitions, in its order; and `Loans`, by which contracts read what is lent.
pub mod Limits
pub mod Rows
pub mod Darts
pub mod Form
pub mod Links
pub mod Faces
pub mod Tickets
pub mod Edits
pub mod Reasons
pub mod Refusals
pub mod Ticket
pub mod Grow
pub mod Sound
pub mod Loans
