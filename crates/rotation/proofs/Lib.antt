-- The order of directions (`Order`, by `Ways`); the link law at one node (`Node`, by `Clock`), at all (`Whole`), under
-- a split and a heal (`Halves`, by `Rename`); the law and the ties of a linked map (`Ties`).
pub mod Ways
pub mod Order
pub mod Clock
pub mod Tells
pub mod Node
pub mod Whole
pub mod Rename
pub mod Halves
pub mod Ties
pub mod Example
