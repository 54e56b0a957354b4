-- `links::met` meets its contract: no edge row has another curve. Assumes nothing.
use borrow.Author.Rules.{sfits_of}
use mathlib.Core.Path.{◌≡◌, ap₂, ◌∙◌}
use mathlib.Core.List.{[]}
use Prim.Native.Nat.{◌/◌}
use native.Mathlib.Omega.{arith}
use lib.IntN.{ℤ}
use mir.Syntax.{w64}
use mir.Val.{to_z, of_z}
use mir.Facts.{to_z-of_z}
use Rattle.plane.specs.Directions.{Way}
use Rattle.map_rows.proofs.Rows.{edge-row_of}
use Rattle.darts.specs.Positions.{side_cell, way_at, way_with}
use Rattle.links.specs.Linking.{departures_but, first_met}
use Rattle.links.proofs.FirstMet.{met-same, leaving_below, with_none}
use Rattle.links.proofs.met.Goals as goal

pub step_at-v-requires : goal.step_at-v-requires
step_at-v-requires c = let s = c in edge-row_of s.args.edges.ranged (s.args.p / 2) (let h = s.requires in omega arith)

pub first_clockwise-requires : goal.first_clockwise-requires
first_clockwise-requires c = (
  (λ h. absurd (omega arith)),
  (c.step_at-v.ensures.from, c.step_at-v.ensures.to),
)

pub returns : goal.returns
returns c =
    let b = c in
    let a = b.args in
    let l = a.edges.rows.now in
    let n = a.edges.count in
    let node = b.dart_cell-node in
    let e : to_z w64 (of_z w64 node.result) ≡ side_cell l a.p 1 = to_z-of_z {w = w64} (sfits_of node.type_inv)
    ∙ node.ensures in
    let ds = departures_but l n (side_cell l a.p 1) a.p a.other in
    c.first_clockwise.ensures
    ∙ ap₂ (λ (v : Way) (z : ℤ). first_met (way_with l n []) v (departures_but l n z a.p a.other))
    b.step_at-v.ensures.way e
    ∙ met-same (way_at l) (way_with l n []) (way_at l a.p) ds
    (λ q m. with_none l n [] q (let h = leaving_below l n (side_cell l a.p 1) a.p a.other q m in omega arith))
