-- `Affected`: the faces whose rectangles a ticket may change. `Claims`: no other changes.
pub mod Affected
pub mod Claims
