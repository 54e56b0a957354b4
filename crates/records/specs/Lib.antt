-- `Records`: nodes as records.
pub mod Records
