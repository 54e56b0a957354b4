-- `Lines`: a line of the contents, part by part.
pub mod Lines
