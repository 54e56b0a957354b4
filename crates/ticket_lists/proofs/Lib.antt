-- `Answers`: reason by reason, what a list of tickets answers. `Turns`: a list of tickets, ticket by ticket. `Written`:
-- every list of tickets can be written in two slices, and `Handed` claims so. `Called`: what a call that was carried out
-- left. `SplitHeal`: lists that end with a split and its heal. `Nested`: contents of what a call left.
pub mod Answers
pub mod Turns
pub mod Written
pub mod Handed
pub mod Called
pub mod SplitHeal
pub mod Nested
