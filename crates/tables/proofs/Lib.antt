-- `Cells`: copies of parts of a table. `Order`: tests of two numbers, and numbers that rise. `Tests`: tests of one
-- number. `Rows`: rows by their place. `Rising`: numbers that rise from the least to the next. `Scans`: turns of loops
-- over numbers and rows. `Lookups`: rows by their number. `Filled`: rows with zeros behind, read and written.
-- `Writes`: what a table holds after a write. `Numbers`: rows changed or taken out by their number.
pub mod Cells
pub mod Order
pub mod Tests
pub mod Rows
pub mod Rising
pub mod Scans
pub mod Lookups
pub mod Filled
pub mod Writes
pub mod Numbers
