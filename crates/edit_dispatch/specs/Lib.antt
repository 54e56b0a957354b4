-- `Shaped`: a ticket on tables in form, by what its numbers are read as; the kind of a first number.
pub mod Shaped
