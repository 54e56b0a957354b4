-- `Runs`: what a call for a whole list of tickets leaves and answers. `Claims`: what follows for a list that ends with
-- a split and its heal.
pub mod Runs
pub mod Claims
