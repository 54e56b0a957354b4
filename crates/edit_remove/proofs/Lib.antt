-- `Heal`: after a heal the edge can be undrawn. `Undraw`: what is left once it is, and where both sides are one face.
-- `Removal`: what kinds 13 and 14 answer.
pub mod Heal
pub mod Undraw
pub mod Removal
