-- `form_rectangles::rows_fit` meets its contract: what is left of the rows decides. Assumes nothing.
use mathlib.Core.Path.{◌≡◌, sym, ap, ◌∙◌, subst}
use mathlib.Core.Bool.{Bool}
use mathlib.Core.List.{List}
use Prim.Native.Nat.{ℕ}
use native.Mathlib.Nat.{sub-zero}
use native.Mathlib.Omega.{arith}
use lib.IntN.{ℤ}
use Rattle.lists.specs.Scans.{all_of}
use Rattle.lists.specs.Tables.{table}
use Rattle.lists.proofs.Scans.{all_hit, all_miss, all_end}
use Rattle.tables.specs.Tables.{row_at}
use Rattle.tables.proofs.Cells.{row_room}
use Rattle.bounding_boxes.specs.declared.Extent.{Extent}
use Rattle.map.specs.Limits.{face_width}
use Rattle.map.specs.Form.{has_box}
use Rattle.map_rows.specs.Rows.{face_at}
use Rattle.rectangles.specs.Boxes.{Bounded}
use Rattle.form_rectangles.specs.Merged.{box_in, settled_for, row_fits}
use Rattle.form_rectangles.proofs.Rows.{settled_bounds}
use Rattle.form_rectangles.proofs.rows_fit.Goals as goal

pub loop-k-init : goal.loop-k-init
loop-k-init c =
    let s = c in (
      omega arith,
      ap (λ (k : ℕ). all_of (row_fits s.args.faces.now s.args.boxes.now)
          (table (λ j. j) 0 k)) (sub-zero s.args.n),
    )

pub settled-requires : goal.settled-requires
settled-requires c =
    let room = row_room 5 c.args.n c.loop-k.k c.loop-k-test.true in
    (omega (arith, c.loop-k-test.true, c.requires.0), omega (arith, room, c.requires.1))

pub has_box-requires : goal.has_box-requires
has_box-requires c =
    let k = c.loop-k.k in
    let room = row_room 5 c.args.n k c.loop-k-test.true in (
      omega (arith, c.loop-k-test.true, c.requires.0),
      omega (arith, room, c.requires.1),
      subst (λ (e : Extent). Bounded e) (sym c.settled.ensures)
          (settled_bounds (face_at c.args.faces.now k) (c.requires.2 k c.loop-k-test.true)),
    )

-- the test of a turn
test-is : (faces : List ℤ) (boxes : List Extent) (k : ℕ) {e : Extent} {r b : Bool} → r
    ≡ has_box (λ f. e) (row_at face_width faces k) → e ≡ settled_for (face_at faces k) (box_in boxes k) → r ≡ b
    → row_fits faces boxes k ≡ b
test-is faces boxes k f g t =
    sym (f ∙ ap (λ (e : Extent). has_box (λ f. e) (row_at face_width faces k)) g) ∙ t

pub returns-then-not-has_box : goal.returns-then-not-has_box
returns-then-not-has_box c =
    let b = c in
    let w = b.loop-k in
    let a = b.args in
    sym (sym w.invariant.1 ∙ all_miss (λ j. j) w.k a.n (row_fits a.faces.now a.boxes.now)
    b.loop-k-test.true (test-is a.faces.now a.boxes.now w.k c.has_box.ensures c.settled.ensures c.if-not-has_box.true))

pub loop-k-preserved : goal.loop-k-preserved
loop-k-preserved c =
    let b = c in
    let w = b.loop-k in
    let a = b.args in (
      omega (arith, b.loop-k-test.true),
      sym (all_hit (λ j. j) w.k a.n (row_fits a.faces.now a.boxes.now)
          b.loop-k-test.true (test-is a.faces.now a.boxes.now w.k c.has_box.ensures c.settled.ensures c.if-not-has_box.false))
          ∙ w.invariant.1,
    )

pub returns : goal.returns
returns c =
    let w = c.loop-k in
    let a = c.args in
    sym (sym w.invariant.1 ∙ all_end (λ j. j) w.k a.n (row_fits a.faces.now a.boxes.now)
    c.loop-k-test.false)

pub overflow_step-k : goal.overflow_step-k
overflow_step-k c = omega (arith, c.loop-k-test.true)

pub loop-k-smaller : goal.loop-k-smaller
loop-k-smaller c = omega (arith, c.loop-k-test.true)
