-- `Empty`: tables of zeros hold the empty map. `Answers`: what one ticket answers by 1 and 2.
pub mod Empty
pub mod Answers
