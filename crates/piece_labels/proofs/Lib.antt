-- `Places`: what a search for a node answers. `Roots`: where labels lead. `Joins`: an edge joins two pieces. `Flats`:
-- each row led to itself, and in the end to its root.
pub mod Places
pub mod Roots
pub mod Joins
pub mod Flats
