-- `reason_sides::any_start_passed` meets its contract: the start of an edge from row j on is passed over if and only if
-- that of one is. Assumes nothing.
use mathlib.Core.Path.{◌≡◌, sym, ap, ap₂, ◌∙◌}
use mathlib.Core.Bool.{Bool, not, ◌&&◌}
use native.Mathlib.Nat.{sub-zero}
use native.Mathlib.Omega.{arith}
use Rattle.lists.specs.Scans.{any_of}
use Rattle.lists.proofs.Scans.{any_hit, any_miss, any_end}
use Rattle.curves.specs.Curves.{curve_of}
use Rattle.map_rows.specs.Rows.{edge_at}
use Rattle.map_rows.proofs.Rows.{edges_table, edge-row_of}
use Rattle.reason_sides.specs.Passing.{start_passed}
use Rattle.reason_sides.proofs.any_start_passed.Lts as lts
use Rattle.reason_sides.proofs.any_start_passed.Tie as tie
use Rattle.reason_sides.proofs.any_start_passed.Reads as reads
use Rattle.reason_sides.proofs.any_start_passed.Goals as goal

-- places in the code, by their names in what is generated
abbrev After-passes_start : Type 0
After-passes_start = lts.After-passes_start tie.the-claims reads.Pre reads.Post goal.the-invariant-loop-j goal.the-decreases-loop-j

pub loop-j-init : goal.loop-j-init
loop-j-init c = (
  omega arith,
  rw sub-zero (ap (any_of (start_passed (edge_at c.args.edges.rows.now c.args.i) (curve_of c.args.c.now)))
      (sym (edges_table c.args.edges.rows.now c.args.edges.count))),
)

-- what the tests of row j answered
told : (c : After-passes_start)
    → let a = c.args in
    let l = a.edges.rows.now in
    not c.starts_at_end.result && c.passes_start.result
    ≡ start_passed (edge_at l a.i) (curve_of a.c.now) (edge_at l c.loop-j.j)
told c = ap₂ (λ (x y : Bool). not x && y) c.starts_at_end.ensures c.passes_start.ensures

pub returns-then-starts_at_end-passes_start : goal.returns-then-starts_at_end-passes_start
returns-then-starts_at_end-passes_start c =
    let b = c in
    let a = b.args in
    sym (any_hit (edge_at a.edges.rows.now) _ _ (start_passed (edge_at a.edges.rows.now a.i) (curve_of a.c.now))
    b.loop-j-test.true (sym (told c.before) ∙ c.if-starts_at_end-passes_start.true)) ∙ b.loop-j.invariant.1

pub loop-j-preserved : goal.loop-j-preserved
loop-j-preserved c =
    let b = c in
    let a = b.args in (
      omega arith,
      sym (any_miss (edge_at a.edges.rows.now) _ _
          (start_passed (edge_at a.edges.rows.now a.i) (curve_of a.c.now)) b.loop-j-test.true
          (sym (told c.before) ∙ c.if-starts_at_end-passes_start.false)) ∙ b.loop-j.invariant.1,
    )

pub returns : goal.returns
returns c =
    let a = c.args in
    sym (any_end (edge_at a.edges.rows.now) _ _ (start_passed (edge_at a.edges.rows.now a.i) (curve_of a.c.now))
    c.loop-j-test.false) ∙ c.loop-j.invariant.1

pub starts_at_end-requires : goal.starts_at_end-requires
starts_at_end-requires c = let s = c in (
  edge-row_of s.args.edges.ranged _ s.requires.0,
  edge-row_of s.args.edges.ranged _ c.loop-j-test.true,
)

pub passes_start-requires : goal.passes_start-requires
passes_start-requires c = let s = c in (
  edge-row_of s.args.edges.ranged _ s.requires.0,
  edge-row_of s.args.edges.ranged _ c.loop-j-test.true,
  s.requires.1,
)
