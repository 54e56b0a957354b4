-- `Highest`: the highest segment below a point, as a fold over segments.
pub mod Highest
