-- `Rings`: two rings are one or have nothing in common. `Marks`: the rings marked by their sides. `Faces`: the side of
-- a node and of a directed edge, from the tables.
pub mod Rings
pub mod Marks
pub mod Faces
