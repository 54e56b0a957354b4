-- Curves: straight runs between points. `Curves`: what a curve is and how it stands in a run of numbers. `Tests`:
-- neighbours, straight points, places, simple, how curves meet. `Shares`: the points that segments may share.
-- `Measures`: doubled area and what passes below a point. `Edits`: cut, join, reverse, surplus points dropped.
-- `Inner`: the first place inside the ends, and the cut there.
pub mod Curves
pub mod Tests
pub mod Shares
pub mod Measures
pub mod Edits
pub mod Inner
