-- `Decimals`: the library's decimals are what is printed. `Puts`: a text copied into a buffer. `Rows`: a row's text,
-- number by number. `Back`: what is printed is read back.
pub mod Decimals
pub mod Puts
pub mod Rows
pub mod Back
