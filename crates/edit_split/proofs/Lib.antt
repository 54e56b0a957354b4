-- `Halves`: how many points a half has. `Rows`: rows of a table with zeros behind. `Cut`: the rows of a split. `Told`:
-- its reasons. `Lent`: what is lent after it.
pub mod Halves
pub mod Rows
pub mod Cut
pub mod Told
pub mod Lent
