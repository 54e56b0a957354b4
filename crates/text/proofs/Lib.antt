-- `Numerals`: a word as a number, as the library reads it. `Words`: a line's words among its parts. `Numbers`: their
-- numbers, one after the other. `Whole`: a whole line.
pub mod Numerals
pub mod Words
pub mod Numbers
pub mod Whole
