-- `reason_sides::ring_passed` meets its contract: three tests, one after the other. Assumes nothing.
use mathlib.Core.Path.{◌≡◌, sym, ap, ap₂, ◌∙◌}
use mathlib.Core.Bool.{Bool, true, false, not, ◌&&◌, ◌||◌}
use mathlib.Core.List.{List}
use Prim.Native.Nat.{ℕ}
use lib.IntN.{ℤ}
use Rattle.lists.specs.Tests.{same}
use Rattle.curves.specs.Curves.{Curve, curve_of}
use Rattle.planar_maps.specs.Map.{fwd, bwd}
use Rattle.map.specs.Rows.{Edge, Map}
use Rattle.map.specs.Darts.{is_lowest, piece_of}
use Rattle.map_rows.specs.Rows.{edge_at, edge_map}
use Rattle.map_rows.proofs.Rows.{edge-row_of}
use Rattle.darts.proofs.Positions.{dart_even, dart_odd}
use Rattle.reason_sides.specs.Passing.{passes_over}
use Rattle.reason_sides.proofs.ring_passed.Goals as goal
use Rattle.reason_sides.proofs.ring_passed.Goals.{then-passes_start, else-passes_start}

module _ (l : List ℤ) (count i : ℕ) (d : Curve) (j : ℕ) where
  abbrev m : Map
  m = edge_map l count

  abbrev row : Edge
  row = edge_at l j

  -- it is passed over, lies on the piece of the edge, and is the lowest of a ring
  abbrev over : Bool
  over = passes_over (edge_at l i).curve d row.curve.first

  abbrev one : Bool
  one = same (piece_of m row.start) (piece_of m (edge_at l i).start)

  abbrev low : Bool
  low = is_lowest m (fwd row.number) || is_lowest m (bwd row.number)

-- the first two tests by what each answered
then_told : {p s v a b : Bool} → p ≡ a → s ≡ b → p ≡ true → v ≡ not s → v ≡ a && not b
then_told {b = b} ep es t ev = ev ∙ ap not es ∙ ap (λ (x : Bool). x && not b) (sym t ∙ ep)

else_told : {p v a : Bool} → p ≡ a → p ≡ false → v ≡ p → (b : Bool) → v ≡ a && b
else_told ep f ev b = ev ∙ f ∙ ap (λ (x : Bool). x && b) (sym f ∙ ep)

pub returns-then-not-same_piece : goal.returns-then-not-same_piece
returns-then-not-same_piece c =
    let a = c.args in
    let l = a.edges.rows.now in
    let d = curve_of a.c.now in
    let first = c.is_lowest.ensures ∙ ap (is_lowest (m l a.edges.count a.i d a.j)) (dart_even l a.j) in
    let second = c.is_lowest-then-not-same_piece.ensures
    ∙ ap (is_lowest (m l a.edges.count a.i d a.j)) (dart_odd l a.j) in
    let both : c.if-passes_start.value ≡ over l a.edges.count a.i d a.j && not (one l a.edges.count a.i d a.j) =
    elim c.if-passes_start.branch [
      | then-passes_start w ↦ then_told c.passes_start.ensures w.same_piece.ensures w.if-passes_start.true w.value-is
      | else-passes_start w ↦ else_told c.passes_start.ensures w.if-passes_start.false w.value-is _
    ] in
    ap₂ ◌||◌ first second
    ∙ ap (λ (x : Bool). x && low l a.edges.count a.i d a.j) (sym c.if-not-same_piece.true ∙ both)

pub returns-else-not-same_piece : goal.returns-else-not-same_piece
returns-else-not-same_piece c =
    let a = c.args in
    let l = a.edges.rows.now in
    let d = curve_of a.c.now in
    let both : c.if-passes_start.value ≡ over l a.edges.count a.i d a.j && not (one l a.edges.count a.i d a.j) =
    elim c.if-passes_start.branch [
      | then-passes_start w ↦ then_told c.passes_start.ensures w.same_piece.ensures w.if-passes_start.true w.value-is
      | else-passes_start w ↦ else_told c.passes_start.ensures w.if-passes_start.false w.value-is _
    ] in
    c.if-not-same_piece.false
    ∙ ap (λ (x : Bool). x && low l a.edges.count a.i d a.j) (sym c.if-not-same_piece.false ∙ both)

pub passes_start-requires : goal.passes_start-requires
passes_start-requires c = let p = c.requires in
    (edge-row_of p.0.edges _ p.1, edge-row_of p.0.edges _ p.2, p.3)
