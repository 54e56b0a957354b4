-- `Tables`: rows of any width, what is tested of their numbers, and what a write leaves.
pub mod Tables
