-- `rectangles::boundary_boxes` meets its contract: each box, widened by the points of the edges left, is that of the
-- whole boundary. Assumes nothing.
use mathlib.Core.Path.{◌≡◌, ap, ◌∙◌}
use native.Mathlib.Omega.{arith}
use lib.IntN.{ℤ, pos, nat_abs}
use mir.Syntax.{w64}
use mir.Val.{to_z, of_z, SFits}
use mir.Facts.{to_z-of_z}
use Rattle.map_rows.specs.Rows.{edges_of}
use Rattle.map_rows.proofs.Rows.{edge_row_lem}
use Rattle.rectangles.specs.Boxes.{boundary_box}
use Rattle.rectangles.proofs.Boundaries.{rest_start, rest_turn, rest_end}
use Rattle.rectangles.proofs.boundary_boxes.Goals as goal

pub loop-i-init : goal.loop-i-init
loop-i-init c =
    let a = c.args in
    let l = a.edges.now in (
      omega arith,
      rest_start l a.count (nat_abs (to_z w64 (of_z w64 a.a))),
      rest_start l a.count (nat_abs (to_z w64 (of_z w64 a.b))),
    )

-- a face as it is passed
sent : {z : ℤ} → SFits w64 z → z ≡ pos (nat_abs z) → to_z w64 (of_z w64 z) ≡ pos (nat_abs (to_z w64 (of_z w64 z)))
sent {z} f e = rw (to_z-of_z {w = w64} {z = z} f) e

pub with_edge-first-requires : goal.with_edge-first-requires
with_edge-first-requires c =
    let s = c in (
      edge_row_lem s.args.edges.now s.args.count c.loop-i.i s.requires.0.fits s.requires.0.ranges
          c.loop-i-test.true,
      sent s.ranges.a s.requires.1,
    )

pub with_edge-second-requires : goal.with_edge-second-requires
with_edge-second-requires c =
    let s = c in (
      edge_row_lem s.args.edges.now s.args.count c.loop-i.i s.requires.0.fits s.requires.0.ranges
          c.loop-i-test.true,
      sent s.ranges.b s.requires.2,
    )

pub loop-i-preserved : goal.loop-i-preserved
loop-i-preserved c =
    let b = c in
    let a = b.args in
    let l = b.loop-i in
    let t = c.loop-i-test.true in (
      omega arith,
      rest_turn a.edges.now a.count (nat_abs (to_z w64 (of_z w64 a.a))) l.i l.first l.invariant.1 t
          c.with_edge-first.ensures,
      rest_turn a.edges.now a.count (nat_abs (to_z w64 (of_z w64 a.b))) l.i l.second l.invariant.2 t
          c.with_edge-second.ensures,
    )

pub returns : goal.returns
returns c =
    let s = c in
    let a = s.args in
    let l = c.loop-i in
    let es = edges_of a.edges.now a.count in (
      rest_end a.edges.now a.count (nat_abs (to_z w64 (of_z w64 a.a))) l.i l.first l.invariant.1
          c.loop-i-test.false ∙ ap (λ (z : ℤ). boundary_box es (nat_abs z)) (to_z-of_z s.ranges.a),
      rest_end a.edges.now a.count (nat_abs (to_z w64 (of_z w64 a.b))) l.i l.second l.invariant.2
          c.loop-i-test.false ∙ ap (λ (z : ℤ). boundary_box es (nat_abs z)) (to_z-of_z s.ranges.b),
    )
