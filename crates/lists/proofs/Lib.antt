-- Booleans and the test `same` (`Bools`), turns of loops over rows (`Scans`), laws of lists, numbers that rise
-- (`Rising`), rows by their numbers (`Lookups`, `RisingRows`), and linear equations over bits (`Linear`).
pub mod Bools
pub mod Scans
pub mod Members
pub mod Perms
pub mod Sums
pub mod Counts
pub mod Keeps
pub mod Maps
pub mod Parts
pub mod Appends
pub mod Rising
pub mod Lookups
pub mod RisingRows
pub mod Linear
