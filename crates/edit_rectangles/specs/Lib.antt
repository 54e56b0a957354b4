-- `FacePairs`: the faces on the sides of edges, and their rectangles set.
pub mod FacePairs
