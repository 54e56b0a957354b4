-- `Parts`: reasons in parts.
pub mod Parts
