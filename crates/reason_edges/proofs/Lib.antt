-- `Words`: the lower of two faces, a row that is found. `Drawing`: the reasons before 20, in the map's terms.
-- `Adding`: those of kinds 11 and 12. `Removing`: those of 13 and 14.
pub mod Words
pub mod Drawing
pub mod Adding
pub mod Removing
