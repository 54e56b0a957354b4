-- `InFaces`: pieces and faces of a map by rows, and the matrix that has them.
pub mod InFaces
