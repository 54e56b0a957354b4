-- `Heads`: what is asked of the head, the head after an edit, and 20 and 21 read from it.
pub mod Heads
