-- `Parts`: condition 2 by its parts; `Lent`: what the test of conditions 1 and 2 tells.
pub mod Parts
pub mod Lent
