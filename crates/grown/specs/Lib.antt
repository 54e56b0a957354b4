-- `Claims`: what is claimed of every list of tickets. `Good`: what every grown map has, more than is claimed, so that
-- each ticket keeps it.
pub mod Claims
pub mod Good
