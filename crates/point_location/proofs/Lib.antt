-- `Folds`: the highest floor is what the fold over all segments holds. `Cells`: a face as a number of a row.
pub mod Folds
pub mod Cells
