-- `Drawn`: the map of nodes and edges alone. `Chains`: departures of one node with one pair of signs, each chained to
-- the one before it.
pub mod Drawn
pub mod Chains
