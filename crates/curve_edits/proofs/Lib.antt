-- `Lines`: one point more in a line. `Places`: cut, join and reverse of the curve through f 0, f 1, .. `Curves`: the
-- same of a run's curve, and what is left of it without surplus points.
pub mod Lines
pub mod Places
pub mod Curves
