-- `Texts`: numbers and rows as text.
pub mod Texts
