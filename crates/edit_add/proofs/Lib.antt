-- `Rings`: an edge drawn into a map in form leaves it linked, and its rows show it. `Drawn`: tables in form with the
-- edge drawn are such that its face can be split. `Added`: what kinds 11 and 12 answer along a curve. `Tickets`: the
-- same of points sent.
pub mod Rings
pub mod Drawn
pub mod Added
pub mod Tickets
