-- `Marks`: a ring marked.
pub mod Marks
