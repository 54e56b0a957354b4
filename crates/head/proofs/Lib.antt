-- `Words`: counts and next numbers as words. `Heads`: the head of a changed map, and the room that is left.
pub mod Words
pub mod Heads
