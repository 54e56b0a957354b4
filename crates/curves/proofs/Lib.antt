-- `Runs`: the points of a run, one after the other. `Reverses`: how a reverse departs. `Meetings`: how curves meet.
-- `Turns`: the turn and the end of a loop over a run's segments, for each test of curves. `Areas`: the doubled area,
-- segment by segment.
pub mod Runs
pub mod Reverses
pub mod Meetings
pub mod Turns
pub mod Areas
