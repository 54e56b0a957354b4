-- `Finding`: a search from a row on. `Packing`: nodes as rows of numbers. `Moving`: kind 2 on them. `Refused`: too many
-- nodes.
pub mod Finding
pub mod Packing
pub mod Moving
pub mod Refused
