-- `Writes`: lines written one after the other from the front of a list. `Sheet`: the contents of a map by its rows.
-- `Answers`: what a call answers, reason by reason.
pub mod Writes
pub mod Sheet
pub mod Answers
