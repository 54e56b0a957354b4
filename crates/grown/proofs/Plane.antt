-- A map in the plane stays one: kinds 1, 2, 3 and 6 (`Change`), 7 and 8 (`Split`), 9 and 10 (`Heal`), 4 (`Join`), 11
-- and 12 (`Join`, `SplitFace`, `Add`), 5 (`RemoveLone`), 13 and 14 (`Remove`). All faces are reached from face 0
-- (`Reached`).
pub mod Change
pub mod SplitEdge
pub mod Split
pub mod HealEdge
pub mod Heal
pub mod Drawn
pub mod Join
pub mod Share
pub mod SplitFace
pub mod Add
pub mod Unlink
pub mod Merge
pub mod RemoveLone
pub mod Remove
pub mod Reached
