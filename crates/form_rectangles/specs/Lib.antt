-- `Merged`: boxes of faces in lists of numbers.
pub mod Merged
