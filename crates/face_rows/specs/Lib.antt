-- `Holds`: tables and head that hold a map, and what is asked of them when a face is split or two are healed.
pub mod Holds
