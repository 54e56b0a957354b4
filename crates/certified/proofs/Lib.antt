-- Tables that pass the tests stay, whatever tickets come, as grown ones are, and all grown tables pass (`Tables`): a
-- map passes just when it is good (`Certified`). No test is too many (`Example`).
pub mod Woven
pub mod Surveys
pub mod Certified
pub mod Tables
pub mod Example
