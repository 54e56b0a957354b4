-- `Boundaries`: the box around a face's boundary is its rectangle. `FaceRows`: a face's row in a sweep of the face
-- table. `Settings`: rectangles set one after the other.
pub mod Boundaries
pub mod FaceRows
pub mod Settings
