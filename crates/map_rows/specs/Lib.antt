-- `Rows`: nodes, edges and faces in tables, and what functions on tables require. `Cells`: the numbers of an edge row.
pub mod Rows
pub mod Cells
