-- `Words`: counts and next numbers as words. `Formed`: what tables in form hold, and what a call on them answers.
-- `FoundRows`: their rows in the map's terms. `Ends`: the nodes of a new edge, looked up. `Results`: refusals by number.
pub mod Words
pub mod Formed
pub mod FoundRows
pub mod Ends
pub mod Results
