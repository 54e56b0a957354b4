-- `Sides`: what both sides of each edge name.
pub mod Sides
