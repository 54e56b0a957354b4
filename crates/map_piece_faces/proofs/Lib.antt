-- The matrix with what the rows passed relate (`Passed`), and what is asked of tables in form, by counts (`Asked`).
-- Scans over the numbers of rows (`RowScans`), by which the matrix by rows, labels and rows named is that of the map's
-- pieces and faces (`Pieces`).
pub mod Passed
pub mod Asked
pub mod RowScans
pub mod Pieces
