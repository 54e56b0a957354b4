-- `Faces`: faces that are given or not. `Told`: what the tests answered, in the map's terms, and the reasons of kind 1.
-- `Rows`: the row of a node, and the reasons of kinds 2 and 3. `Nodes`: what is lent after a node is added, moved or
-- removed.
pub mod Faces
pub mod Told
pub mod Rows
pub mod Nodes
