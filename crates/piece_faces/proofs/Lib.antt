-- `Words`: one bit of a word; `Rows`: the bits of a row, from a place on; `Matrix`: a bit that is set.
pub mod Words
pub mod Rows
pub mod Matrix
