-- `Columns`: the first column of the map's tables. `Parts`: what is known after each part of condition 2, and the
-- definitions by these parts.
pub mod Columns
pub mod Parts
pub mod Chains
