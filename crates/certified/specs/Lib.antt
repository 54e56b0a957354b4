-- The tests that a map, or lent tables, must pass (`Certified`), and what they say (`Claims`).
pub mod Certified
pub mod Claims
