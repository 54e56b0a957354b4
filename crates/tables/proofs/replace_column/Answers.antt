-- `tables::replace_column` meets its contract: a sweep of the rows left, from what the rows passed left, is the sweep
-- of all. Assumes nothing.
use Prim.Native.Nat.{◌-◌, ◌+◌, ◌*◌}
use mathlib.Core.Path.{◌≡◌, sym, ap, ◌∙◌}
use mathlib.Core.List.{List}
use native.Mathlib.Omega.{arith}
use mir.Syntax.{w64}
use mir.Val.{to_z, of_z, SFits}
use mir.Facts.{to_z-of_z}
use borrow.Author.Rules.{sfits_of}
use lib.IntN.{ℤ, pos}
use lib.ListN.{length, get_or}
use Rattle.lists.specs.Tables.{sweep}
use Rattle.lists.proofs.Scans.{sweep_step}
use Rattle.tables.specs.Tables.{replace_at}
use Rattle.tables.proofs.Order.{word_is, replace_hit, replace_miss, replace_length}
use Rattle.tables.proofs.replace_column.Goals as goal
use Rattle.tables.proofs.replace_column.Goals.{then-t-i, else-t-i}

pub loop-i-preserved : goal.loop-i-preserved
loop-i-preserved c =
    let s = c in
    let a = s.args in
    let l = c.loop-i in
    let j = l.i * a.w + a.k in
    let old = to_z w64 (of_z w64 a.old) in
    let new = to_z w64 (of_z w64 a.new) in
    let z = get_or l.t j (pos 0) in
    let fits-z : SFits w64 z = sfits_of c.t13-1.given in
    let read-old : old ≡ a.old = to_z-of_z s.ranges.old in
    let turn : replace_at old new l.t j ≡ c.if-t-i.t =
    elim c.if-t-i.branch [
      | then-t-i w ↦ replace_hit old new l.t j (word_is fits-z s.ranges.old w.if-t-i.true ∙ sym read-old) ∙ sym w.t-is
      | else-t-i w ↦ replace_miss old new l.t j (λ e. w.if-t-i.false (ap (of_z w64) (e ∙ read-old))) ∙ sym w.t-is
    ] in (
      omega arith,
      ap length (sym turn) ∙ replace_length old new l.t j ∙ l.invariant.1,
      ap (λ (x : List ℤ). sweep (λ l j. replace_at old new l (j * a.w + a.k)) x (l.i + 1) (a.count - (l.i + 1)))
          (sym turn)
          ∙ sym (sweep_step (λ l j. replace_at old new l (j * a.w + a.k)) l.t l.i a.count
          c.loop-i-test.true) ∙ l.invariant.2,
    )
