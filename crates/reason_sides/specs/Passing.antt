-- What the curve of an edge passes over as it becomes another, and the area that a ring loses by it. With e and -e on
-- two rings that is what changes on either side of the edge.
use Rattle.std.specs.Prelude.{Bool, not, ◌&&◌, ◌||◌, ℤ, ◌-ℤ◌}
use Rattle.integers.specs.Order.{sgn}
use Rattle.lists.specs.Tests.{same, ◌⊕◌}
use Rattle.plane.specs.declared.Point.{Point}
use Rattle.plane.specs.Areas.{is_positive}
use Rattle.curves.specs.Curves.{Curve}
use Rattle.curves.specs.Measures.{odd_below}
use Rattle.planar_maps.specs.Map.{fwd, bwd}
use Rattle.map.specs.Rows.{Edge, Map}
use Rattle.map.specs.Darts.{is_lowest, piece_of}

-- an area changes between positive and not positive where so much is lost
abbrev pub sign_changes : ℤ → ℤ → Bool
sign_changes area lost = is_positive (sgn area) ⊕ is_positive (sgn (area -ℤ lost))

-- the curve c, as it becomes c', passes over p: an odd number of segments of just one of them pass below it
abbrev pub passes_over : Curve → Curve → Point → Bool
passes_over c c' p = odd_below c p ⊕ odd_below c' p

-- the edge e starts at a point that is passed over, and not at a node of the edge o
abbrev pub start_passed : Edge → Curve → Edge → Bool
start_passed o c e = not (same e.start o.start || same e.start o.end)
    && passes_over o.curve c e.curve.first

-- the edge e starts at a point that is passed over, is the lowest of a ring, and lies on another piece than the edge o
abbrev pub ring_passed : Map → Edge → Curve → Edge → Bool
ring_passed m o c e =
    passes_over o.curve c e.curve.first
    && not (same (piece_of m e.start) (piece_of m o.start))
    && (is_lowest m (fwd e.number) || is_lowest m (bwd e.number))
