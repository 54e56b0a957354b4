-- `CornerFaces`: the corner face as the numbers of the tables show it.
-- `Drawing`: a new edge beside the rows, by position.
pub mod CornerFaces
pub mod Drawing
