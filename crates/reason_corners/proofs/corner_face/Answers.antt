-- `reason_corners::corner_face` meets its contract: no edge row has another curve, and what is met is among the
-- positions. Assumes nothing.
use borrow.Author.Rules.{rules}
use mathlib.Core.Path.{◌≡◌, sym, ap, ◌∙◌}
use Prim.Native.Nat.{◌*◌}
use native.Mathlib.Omega.{arith}
use lib.IntN.{ℤ, pos}
use lib.ListN.{get_or}
use mir.Syntax.{w64}
use mir.Val.{to_z, of_z}
use mir.Facts.{to_z-of_z}
use Rattle.integers.specs.Signs.{sent}
use Rattle.plane.specs.Directions.{way_to}
use Rattle.darts.specs.Positions.{way_at}
use Rattle.darts.proofs.Positions.{half_below}
use Rattle.links.specs.Linking.{departures_but, first_met}
use Rattle.reason_corners.specs.CornerFaces.{corner_by}
use Rattle.reason_corners.proofs.CornerFaces.{met_alike, met_below}
use Rattle.reason_corners.proofs.corner_face.Lts as lts
use Rattle.reason_corners.proofs.corner_face.Tie as tie
use Rattle.reason_corners.proofs.corner_face.Reads as reads
use Rattle.reason_corners.proofs.corner_face.Goals as goal

-- places in the code, by their names in what is generated
abbrev After-first_clockwise : Type 0
After-first_clockwise = lts.After-first_clockwise tie.the-claims reads.Pre reads.Post

-- what the search answers
found : (c : After-first_clockwise)
    → let a = c.args in c.first_clockwise.result
    ≡ first_met (way_at a.edges.rows.now) (way_to a.v.from a.v.to)
    (departures_but a.edges.rows.now a.edges.count (get_or a.nodes.now (a.i * 4) (pos 0))
    (a.edges.count * 2) (a.edges.count * 2))
found c =
    let a = c.args in
    let l = a.edges.rows.now in
    let n = a.edges.count in
    let v = way_to a.v.from a.v.to in
    let z = get_or a.nodes.now (a.i * 4) (pos 0) in
    let e : to_z w64 (of_z w64 z) ≡ z = to_z-of_z {w = w64} (search rules) in
    c.first_clockwise.ensures ∙ met_alike l n (to_z w64 (of_z w64 z)) (n * 2) (n * 2) v
    ∙ ap (λ (x : ℤ). first_met (way_at l) v (departures_but l n x (n * 2) (n * 2))) e

pub dart_cell-requires : goal.dart_cell-requires
dart_cell-requires c =
    let f = c in
    let q = f.in-Some.p in
    let s = f in
    let a = s.args in
    let b = met_below a.edges.rows.now a.edges.count (get_or a.nodes.now (a.i * 4) (pos 0)) (a.edges.count * 2)
    (a.edges.count * 2) (way_to a.v.from a.v.to) q (sym (found c.before.before) ∙ f.in-Some.is) in
    let h = half_below a.edges.count q b in
    (omega (arith, s.args.edges.ranged.fits), omega arith)

pub returns-in-Some : goal.returns-in-Some
returns-in-Some c =
    let f = c in
    let a = f.args in
    sent c.dart_cell.type_inv ∙ c.dart_cell.ensures
    ∙ ap (corner_by a.nodes.now a.i a.edges.rows.now) (sym f.in-Some.is ∙ found c.before.before.before)
