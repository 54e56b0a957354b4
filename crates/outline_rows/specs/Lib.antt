-- `Listing`: the lines so far, as they are noted, and what the functions leave.
pub mod Listing
