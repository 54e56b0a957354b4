-- `Lines`: the numbers of a line of text. `Parsed`: what parsing answers.
pub mod Lines
pub mod Parsed
