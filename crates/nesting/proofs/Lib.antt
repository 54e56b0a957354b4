-- Of any map: what is listed (`Walks`), under other names too (`Renamed`), and what contents are (`Exact`). Of grown
-- maps: what lies beyond a bridge of a graph (`Branches`), a graph with only bridges listed whole (`Listing`), faces
-- and pieces as such a graph (`Tree`), so that contents list each once (`Listed`). Contents of small sheets, by
-- computation (`Examples`).
pub mod Opened
pub mod Walks
pub mod Renamed
pub mod Exact
pub mod Branches
pub mod Listing
pub mod Tree
pub mod Listed
pub mod Examples
