-- `Heals`: two edge rows healed, in the numbers, and the reasons in parts.
pub mod Heals
