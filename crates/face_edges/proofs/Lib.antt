-- `Firsts`: the first members of rings, by position. `Walks`: what is marked, and the rings that are left. `Writes`: a
-- list written from the front. `Asked`: the answer by its reasons.
pub mod Firsts
pub mod Walks
pub mod Writes
pub mod Asked
