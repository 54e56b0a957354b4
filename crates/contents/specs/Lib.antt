-- `Lines`: lines by rows, as they are written.
pub mod Lines
