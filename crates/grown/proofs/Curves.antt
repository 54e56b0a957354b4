-- Surveyed kept by all fourteen kinds (`Kinds`, `Heal`), by the lines and places of a map; directions at the ends of
-- curves (`Ends`), and departures that differ (`Apart`).
pub mod Bent
pub mod Ends
pub mod Kept
pub mod Survey
pub mod Sites
pub mod Cut
pub mod Join
pub mod Rows
pub mod Halves
pub mod Kinds
pub mod Heal
pub mod Apart
