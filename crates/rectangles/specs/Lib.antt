-- `Boxes`: the least box around a face's boundary, and rectangles set in the face table.
pub mod Boxes
