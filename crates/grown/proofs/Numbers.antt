-- Numbered kept by all fourteen kinds, and rows that fit (`Carried`). It is carried as `Ranked`, which speaks of nodes,
-- outlines of edges, faces and next numbers alone.
pub mod Ranked
pub mod Nodes
pub mod Edges
pub mod Faces
pub mod Add
pub mod Remove
pub mod Split
pub mod Heal
pub mod Sizes
pub mod Carried
