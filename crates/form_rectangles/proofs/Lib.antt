-- `Boxes`: a box that takes in another. `Sides`: the boxes that take in an edge are
-- those of the faces on its sides. `Rows`: the cells of a face row, and the rectangle that they are compared with.
pub mod Boxes
pub mod Sides
pub mod Rows
