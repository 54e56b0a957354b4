-- `Stretches`: the boundary of a face, edge by edge. `Rows`: its stretches after each way of changing rows. `Halves`,
-- `Added`: a split, a heal and a face shared out keep the boundaries of all other faces. `Kept`: the theorem. `Stored`:
-- curves stay such that rows may hold them.
pub mod Stretches
pub mod Rows
pub mod Halves
pub mod Added
pub mod Kept
pub mod Stored
