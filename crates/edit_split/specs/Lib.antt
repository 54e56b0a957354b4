-- `Cuts`: an edge row cut in two, in the numbers, and the reasons in parts.
pub mod Cuts
