-- `Redrawn`: what a new curve for an edge changes of the rings on its two sides. `Areas`: what their areas lose by it.
-- `Others`: the points of rings on other pieces, by the edges that start there. `Pieces`: edges of one piece, by their
-- labels. `Sides`: all of it on tables in form.
pub mod Redrawn
pub mod Areas
pub mod Others
pub mod Pieces
pub mod Sides
