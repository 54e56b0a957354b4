-- `Counts`: what a count of numbers is read as. `Reading`: what a first number is read as, and a ticket on tables in
-- form. `Affected`: what is looked up before a routine, and what its rows come to.
pub mod Counts
pub mod Reading
pub mod Affected
