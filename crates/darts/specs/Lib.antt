-- `Positions`: directed edges by their place in the table. `Claims`: what is claimed of them.
pub mod Claims
pub mod Positions
