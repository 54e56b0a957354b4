-- Scans of lists (`Scans`), rows counted from a place on (`Tables`), tests of numbers and sums mod 2 (`Tests`), what
-- stands twice (`Members`), and linear functionals over bits (`Functionals`).
pub mod Tests
pub mod Scans
pub mod Tables
pub mod Members
pub mod Functionals
