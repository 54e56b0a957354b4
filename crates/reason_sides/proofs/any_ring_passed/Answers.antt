-- `reason_sides::any_ring_passed` meets its contract: a ring by an edge from row j on is passed over if and only if one
-- is. Assumes nothing.
use mathlib.Core.Path.{sym, ap, ◌∙◌}
use native.Mathlib.Nat.{sub-zero}
use native.Mathlib.Omega.{arith}
use Rattle.lists.specs.Scans.{any_of}
use Rattle.lists.proofs.Scans.{any_hit, any_miss, any_end}
use Rattle.curves.specs.Curves.{curve_of}
use Rattle.map_rows.specs.Rows.{edge_at, edge_map}
use Rattle.map_rows.proofs.Rows.{edges_table}
use Rattle.reason_sides.specs.Passing.{ring_passed}
use Rattle.reason_sides.proofs.any_ring_passed.Goals as goal

pub loop-j-init : goal.loop-j-init
loop-j-init c =
    let a = c.args in
    let l = a.edges.rows.now in (
      omega arith,
      rw sub-zero (ap (any_of (ring_passed (edge_map l a.edges.count) (edge_at l a.i) (curve_of a.c.now)))
          (sym (edges_table l a.edges.count))),
    )

pub returns-then-ring_passed : goal.returns-then-ring_passed
returns-then-ring_passed c =
    let b = c in
    let a = b.args in
    let l = a.edges.rows.now in
    sym (any_hit (edge_at l) _ _ (ring_passed (edge_map l a.edges.count) (edge_at l a.i) (curve_of a.c.now))
    b.loop-j-test.true (sym c.ring_passed.ensures ∙ c.if-ring_passed.true)) ∙ b.loop-j.invariant.1

pub loop-j-preserved : goal.loop-j-preserved
loop-j-preserved c =
    let b = c in
    let a = b.args in
    let l = a.edges.rows.now in (
      omega arith,
      sym (any_miss (edge_at l) _ _
          (ring_passed (edge_map l a.edges.count) (edge_at l a.i) (curve_of a.c.now)) b.loop-j-test.true
          (sym c.ring_passed.ensures ∙ c.if-ring_passed.false)) ∙ b.loop-j.invariant.1,
    )

pub returns : goal.returns
returns c =
    let a = c.args in
    let l = a.edges.rows.now in
    sym (any_end (edge_at l) _ _ (ring_passed (edge_map l a.edges.count) (edge_at l a.i) (curve_of a.c.now))
    c.loop-j-test.false) ∙ c.loop-j.invariant.1

pub ring_passed-requires : goal.ring_passed-requires
ring_passed-requires c = let p = c.requires in (p.0, p.1, c.loop-j-test.true, p.2, p.3)
