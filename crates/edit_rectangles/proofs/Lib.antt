-- `Set`: the rectangles of four faces set, two at a time. `Named`: the sides that are found are those of the map.
-- `Covers`: the faces whose rectangles are set are all that a ticket affects. `Settled`: the tables are then those with
-- the rectangles that the edges give.
pub mod Set
pub mod Named
pub mod Covers
pub mod Settled
