-- `Names`: named rows, and what is read of them. `Nexts`: the position that a link names. `Rows`: the rows that
-- directed edges name.
pub mod Names
pub mod Nexts
pub mod Rows
