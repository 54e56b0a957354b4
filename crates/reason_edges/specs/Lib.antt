-- `Parts`: reasons in parts. `Judging`: what is answered of a new edge.
pub mod Parts
pub mod Judging
