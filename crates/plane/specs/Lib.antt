-- The plane: points, doubled areas, segments and how they meet, directions in counterclockwise order, what passes below
-- a point.
pub mod Points
pub mod Areas
pub mod Segments
pub mod Directions
pub mod Below
