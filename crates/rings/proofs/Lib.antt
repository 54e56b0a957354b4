-- `Walks`: what is left of a ring, turn by turn. `Lowest`: what of it is lower than its first directed edge, turn by
-- turn. `Marks`: the marks after it, place by place.
-- `Reversed`: a reversed curve's measures, and how great a run's area is. `Sums`: what is left of a ring's measures,
-- turn by turn.
pub mod Walks
pub mod Lowest
pub mod Marks
pub mod Reversed
pub mod Sums
