-- `Words`: numbers compared as words. `Choices`, `ByRows`: the scan for the first departure met clockwise. `FirstMet`:
-- what its answer tells. `Listed`: departures written to a list, and the first one met clockwise of those. `Kept`:
-- links changed in a table, and nothing else. `Sweeps`: two columns in one pass. `Darts`: directed edges as they are
-- written. `LinksKept`: rows as required, kept. `Departures`: departures by position and of the map. `Redirected`,
-- `LinkedEdges`, `Filled`: links changed in the table and in the map.
pub mod Words
pub mod Choices
pub mod ByRows
pub mod FirstMet
pub mod Listed
pub mod Kept
pub mod Sweeps
pub mod Darts
pub mod LinksKept
pub mod Departures
pub mod Redirected
pub mod LinkedEdges
pub mod Filled
