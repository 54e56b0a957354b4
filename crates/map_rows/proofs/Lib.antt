-- `Rows`: rows by their place. `Points`: the point and the containing face of a node row. `RowCurves`: the curve of an
-- edge row. `Lookups`: rows by their number. `Cells`: the numbers written are those of the row. `Lines`: a line that a
-- row can hold is read again.
pub mod Rows
pub mod Points
pub mod RowCurves
pub mod Lookups
pub mod Cells
pub mod Lines
