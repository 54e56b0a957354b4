-- `Points`: coordinates, points of node rows and of curves. `Others`: scans of all rows but one.
-- `Maps`: the tests in the map's terms. `Left`: what is read of a ticket's curve.
pub mod Points
pub mod Others
pub mod Maps
pub mod Left
