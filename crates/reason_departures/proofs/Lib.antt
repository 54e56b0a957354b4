-- `Scans`: scans of departures as scans of positions. `Ends`: edge ends at a node, and two edges joined.
-- `Taken`: a direction that is taken. `Turns`: the turn from a departure, and where an edge has another curve.
-- `Listed`: the departures from a node listed. `Alone`: the reasons depend on a map's edges alone.
pub mod Scans
pub mod Ends
pub mod Taken
pub mod Turns
pub mod Listed
pub mod Alone
