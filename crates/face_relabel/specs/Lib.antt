-- `Sharing`: a face shared out in the numbers of the tables.
pub mod Sharing
