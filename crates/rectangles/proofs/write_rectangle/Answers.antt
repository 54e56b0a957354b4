-- `rectangles::write_rectangle` meets its contract: a sweep of the rows left, from what the rows passed left, is the
-- sweep of all. Assumes nothing.
use borrow.Author.Rules.{sfits_of}
use mathlib.Core.Path.{◌≡◌, sym, ap, ◌∙◌}
use mathlib.Core.List.{List}
use Prim.Native.Nat.{◌+◌, ◌*◌, ◌-◌, ◌≤◌}
use native.Mathlib.Omega.{arith}
use lib.IntN.{ℤ, pos}
use lib.ListN.{length, get_or}
use mir.Syntax.{w64}
use mir.Val.{to_z, of_z, SFits}
use mir.Facts.{to_z-of_z}
use Rattle.lists.specs.Tables.{sweep}
use Rattle.lists.proofs.Scans.{sweep_step, sweep-end}
use Rattle.tables.proofs.Cells.{row_room}
use Rattle.tables.proofs.Order.{word_is}
use Rattle.rectangles.specs.Boxes.{set_row}
use Rattle.rectangles.proofs.FaceRows.{set_hit, set_miss, set-length}
use Rattle.rectangles.proofs.write_rectangle.Goals as goal
use Rattle.rectangles.proofs.write_rectangle.Goals.{In-loop-k, then-faces-k, else-faces-k}

-- row k lies in the table
room : (c : In-loop-k) → let a = c.args in
    c.loop-k.k * 5 + 5 ≤ a.n * 5
room c = row_room 5 c.args.n c.loop-k.k c.loop-k-test.true

pub loop-k-preserved : goal.loop-k-preserved
loop-k-preserved c =
    let s = c in
    let a = s.args in
    let l = c.loop-k in
    let face = to_z w64 (of_z w64 a.face) in
    let z = get_or l.faces (l.k * 5) (pos 0) in
    let fits-z : SFits w64 z = sfits_of c.t10-1.given in
    let read : face ≡ a.face = to_z-of_z s.ranges.face in
    let turn : set_row face a.e l.faces l.k ≡ c.if-faces-k.faces =
    elim c.if-faces-k.branch [
      | then-faces-k w ↦ set_hit face a.e l.faces l.k (word_is fits-z s.ranges.face w.if-faces-k.true ∙ sym read)
          ∙ sym w.write_box.ensures ∙ sym w.faces-is
      | else-faces-k w ↦ set_miss face a.e l.faces l.k (λ e. w.if-faces-k.false (ap (of_z w64) (e ∙ read))) ∙ sym w.faces-is
    ] in (
      omega arith,
      ap length (sym turn) ∙ set-length face a.e l.faces l.k
          (omega (arith, room c.before.before, l.invariant.1, s.requires.0)) ∙ l.invariant.1,
      ap (λ (x : List ℤ). sweep (set_row face a.e) x (l.k + 1) (a.n - (l.k + 1))) (sym turn)
          ∙ sym (sweep_step (set_row face a.e) l.faces l.k a.n c.loop-k-test.true)
          ∙ l.invariant.2,
    )

pub returns : goal.returns
returns c =
    rw (to_z-of_z c.ranges.face) at
    (sym (sweep-end _ _ _ _ c.loop-k-test.false) ∙ c.loop-k.invariant.2)
