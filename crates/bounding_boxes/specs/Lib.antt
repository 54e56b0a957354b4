-- `Extents`: the least box around the points of a curve.
pub mod Extents
