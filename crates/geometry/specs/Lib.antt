-- What the tests and edits of points, segments and curves mean, over rational points. `Spots`: rational points, the
-- points of a segment, directions. `Meaning`: the four contacts of two segments, the points of a curve, simple curves,
-- curves that share common ends only. `Drawing`: lists of curves.
pub mod Spots
pub mod Meaning
pub mod Drawing
