-- `Values`: calls whose value is always 0.
pub mod Values
