-- `Lent`: the maps that rows in use stand for.
pub mod Lent
