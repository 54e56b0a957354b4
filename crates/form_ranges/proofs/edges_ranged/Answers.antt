-- `form_ranges::edges_ranged` meets its contract: the edge rows from row i on are in range if and only if all are.
-- Assumes nothing.
use mathlib.Core.Path.{◌≡◌, sym, ap, ◌∙◌}
use native.Mathlib.Omega.{arith}
use lib.IntN.{ℤ}
use lib.ListN.{length}
use mir.Syntax.{w64}
use mir.Val.{to_z, of_z}
use mir.Facts.{to_z-of_z}
use Rattle.lists.specs.Scans.{all_of}
use Rattle.tables.specs.Tables.{rows}
use Rattle.map.specs.Limits.{is_record}
use Rattle.tables.proofs.Scans.{row_part, row_length, rows_start, rows_hit, rows_miss, rows_end}
use Rattle.form_ranges.proofs.edges_ranged.Invariants.{tested}
use Rattle.form_ranges.proofs.edges_ranged.Goals as goal

-- the record, read back from its bits
back : (s : goal.Start) → to_z w64 (of_z w64 s.args.points) ≡ s.args.points
back s = to_z-of_z {w = w64} s.ranges.points

-- what the loop tests is what is asked
asked : (s : goal.Start)
    → all_of (tested (to_z w64 (of_z w64 s.args.points))) (rows 32 s.args.n s.args.edges.now)
    ≡ all_of (tested s.args.points) (rows 32 s.args.n s.args.edges.now)
asked s = ap (λ (z : ℤ). all_of (tested z) (rows 32 s.args.n s.args.edges.now)) (back s)

pub loop-i-init : goal.loop-i-init
loop-i-init c = (
  omega arith,
  rows_start 32 c.args.edges.now (tested (to_z w64 (of_z w64 c.args.points))) c.args.n,
)

pub edge_ranges-requires : goal.edge_ranges-requires
edge_ranges-requires c =
    let s = c.before.before.before in
    let i = c.loop-i.i in (
      ap length (row_part 32 s.args.edges.now i)
          ∙ row_length 32 s.args.edges.now s.args.n i s.requires.0 c.loop-i-test.true,
      ap is_record (back s) ∙ s.requires.1,
    )

pub returns-then-not-edge_ranges : goal.returns-then-not-edge_ranges
returns-then-not-edge_ranges c =
    let s = c.before.before.before.before.before in
    let a = s.args in
    let l = c.loop-i in
    sym (rows_miss 32 a.edges.now (tested (to_z w64 (of_z w64 a.points))) a.n l.i
    c.loop-i-test.true c.edge_ranges.ensures
    (row_part 32 a.edges.now l.i) (c.if-not-edge_ranges.true)) ∙ l.invariant.1 ∙ asked s

pub loop-i-preserved : goal.loop-i-preserved
loop-i-preserved c =
    let a = c.args in
    let l = c.loop-i in (
      omega arith,
      sym (rows_hit 32 a.edges.now (tested (to_z w64 (of_z w64 a.points))) a.n l.i
          c.loop-i-test.true c.edge_ranges.ensures
          (row_part 32 a.edges.now l.i) (c.if-not-edge_ranges.false)) ∙ l.invariant.1,
    )

pub returns : goal.returns
returns c =
    let s = c.before.before in
    let a = s.args in
    sym (rows_end 32 a.edges.now (tested (to_z w64 (of_z w64 a.points))) a.n c.loop-i.i
    c.loop-i-test.false)
    ∙ c.loop-i.invariant.1 ∙ asked s
