-- `Holds`: tables of nodes and edges that hold a map, and what is left of them when an edge is drawn or undrawn.
pub mod Holds
