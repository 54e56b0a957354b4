-- `Words`: cells compared. `Named`: the rows that are named. `Links`: what the links name. `Chains`: the earlier
-- departures of one slot. `Departures`: the conditions on them.
pub mod Words
pub mod Named
pub mod Links
pub mod Chains
pub mod Departures
