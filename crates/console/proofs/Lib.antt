-- `Lines`: the numbers of a line, and the bytes of lines one after the other. `Texts`: texts put into a buffer.
pub mod Lines
pub mod Texts
pub mod Wrote
pub mod Printed
