-- `Lines`: a curve as the functions hand it on.
pub mod Lines
