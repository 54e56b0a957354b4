-- `Lines`: the contents of a sheet as text.
pub mod Lines
