-- The chords of a map. Its edges, taken from the last of the list to the first, make a spanning forest: an edge is put
-- in if its ends are not connected by those put in before. Each edge left over is a chord: it closes a circle, itself
-- and the chain in the forest between its ends. Definitions only. Assumes nothing.
use Rattle.std.specs.Prelude.{cond, List, [], ◌∷◌}
use Rattle.lists.specs.Tests.{same}
use Rattle.planar_maps.specs.Map.{Arc}
use Rattle.planar_maps.specs.Pieces.{label}

-- the edges whose ends are connected by the edges after them in the list
unfoldable pub chords : List Arc → List Arc
chords [] = []
chords (a ∷ es) = let rest = chords es in cond (same (label es a.from) (label es a.to)) (a ∷ rest) rest
