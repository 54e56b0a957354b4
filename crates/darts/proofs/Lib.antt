-- `Positions`: directed edges by their place in the table. `Steps`: the first step along a curve. `Narrow`: positions
-- in 16 bits.
pub mod Positions
pub mod Steps
pub mod Narrow
