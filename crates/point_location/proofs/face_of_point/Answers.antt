-- `point_location::face_of_point` meets its contract: the edges from row i on, from the highest so far, are all edges
-- from none. Assumes nothing.
use mathlib.Core.Path.{◌≡◌, sym, ap, ◌∙◌}
use mathlib.Core.List.{List}
use Rattle.std.specs.Prelude.{Option, Some, None, IfSome}
use Prim.Native.Nat.{ℕ, ◌-◌, ◌≤◌}
use native.Mathlib.Nat.{sub-zero}
use native.Mathlib.Omega.{arith}
use lib.IntN.{ℤ, pos}
use mir.Syntax.{w64}
use mir.Facts.{to_z_pos}
use borrow.Author.Rules.{sfits_of}
use Rattle.lists.specs.Scans.{fold}
use Rattle.lists.specs.Tables.{table}
use Rattle.lists.proofs.Scans.{fold_step, fold_end}
use Rattle.plane.specs.declared.Point.{Point}
use Rattle.map.specs.Faces.{face_of_point}
use Rattle.map_rows.specs.Rows.{edge_at, edge_map}
use Rattle.map_rows.proofs.Rows.{edges_table, edge-row_of}
use Rattle.point_location.specs.declared.Highest.{Highest}
use Rattle.point_location.specs.Highest.{HighestFits, highest_floor, rowed}
use Rattle.point_location.proofs.Folds.{upper, face_fold}
use Rattle.point_location.proofs.face_of_point.Goals as goal

pub loop-i-init : goal.loop-i-init
loop-i-init c =
    let a = c.args in (
      omega arith,
      tt,
      rw sub-zero (sym (face_fold (edge_map a.edges.rows.now a.edges.count) a.p
          ∙ ap (λ r. upper (fold (rowed a.p) None r)) (edges_table a.edges.rows.now a.edges.count))),
    )

pub loop-i-preserved : goal.loop-i-preserved
loop-i-preserved c =
    let a = c.args in
    let b = c in (
      omega arith,
      c.floor_over-best.ensures.1,
      rw c.floor_over-best.ensures.0 (sym
          (ap upper (fold_step (edge_at a.edges.rows.now) _ _ (rowed a.p) (highest_floor b.loop-i.best)
          c.loop-i-test.true)) ∙ b.loop-i.invariant.2),
    )

-- after the last row
rest : (l : List ℤ) (n i : ℕ) (p : Point) {h : Option Highest} (v : Option Highest) → n ≤ i → h ≡ v
    → upper (fold (rowed p) (highest_floor h) (table (edge_at l) i (n - i))) ≡ face_of_point (edge_map l n) p
    → upper (highest_floor v) ≡ face_of_point (edge_map l n) p
rest l n i p {h} v left e inv =
    sym (ap upper (fold_end (edge_at l) i n (rowed p) (highest_floor h) left ∙ ap highest_floor e)) ∙ inv

pub returns-in-None : goal.returns-in-None
returns-in-None c = ap pos (rest _ _ _ c.args.p None c.loop-i-test.false c.in-None.is c.loop-i.invariant.2)

pub returns-in-Some : goal.returns-in-Some
returns-in-Some c =
    let h = c.in-Some.h in
    let fits : IfSome (Some h) HighestFits = rw c.in-Some.is at c.loop-i.invariant.1 in
    to_z_pos w64 fits.upper
    ∙ ap pos (rest _ _ _ c.args.p (Some h) c.loop-i-test.false c.in-Some.is c.loop-i.invariant.2)

pub overflow_cast-result : goal.overflow_cast-result
overflow_cast-result c =
    let fits : IfSome (Some c.in-Some.h) HighestFits = rw c.in-Some.is at c.loop-i.invariant.1 in
    sfits_of fits.upper

pub floor_over-best-requires : goal.floor_over-best-requires
floor_over-best-requires c =
    (c.loop-i.invariant.1, c.requires, edge-row_of c.args.edges.ranged _ c.loop-i-test.true)
