-- `RemovedEdges`: tables and head after an edge row goes and the faces on its sides become one.
pub mod RemovedEdges
