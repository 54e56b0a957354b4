-- `form_ranges::faces_ranged` meets its contract: the face rows from row i on are in range if and only if all are.
-- Assumes nothing.
use mathlib.Core.Path.{sym, ◌∙◌}
use native.Mathlib.Omega.{arith}
use Rattle.lists.proofs.Scans.{all_hit, all_miss}
use Rattle.tables.specs.Tables.{row_at}
use Rattle.map.specs.Form.{face_ranges}
use Rattle.tables.proofs.Scans.{rows_start, rows_end}
use Rattle.form_ranges.proofs.Columns.{face_tested}
use Rattle.form_ranges.proofs.faces_ranged.Goals as goal

pub loop-i-init : goal.loop-i-init
loop-i-init c = (omega arith, rows_start 5 c.args.faces.now face_ranges c.args.n)

pub returns-then-not-is_natural : goal.returns-then-not-is_natural
returns-then-not-is_natural c =
    let a = c.args in
    let i = c.loop-i.i in
    let e = face_tested a.faces.now i ∙ sym c.is_natural.ensures ∙ c.if-not-is_natural.true in
    sym (all_miss (row_at 5 a.faces.now) i a.n face_ranges c.loop-i-test.true e)
    ∙ c.loop-i.invariant.1

pub loop-i-preserved : goal.loop-i-preserved
loop-i-preserved c =
    let a = c.args in
    let i = c.loop-i.i in
    let e = face_tested a.faces.now i ∙ sym c.is_natural.ensures ∙ c.if-not-is_natural.false in (
      omega arith,
      sym (all_hit (row_at 5 a.faces.now) i a.n face_ranges c.loop-i-test.true e)
          ∙ c.loop-i.invariant.1,
    )

pub returns : goal.returns
returns c = let a = c.args in
    sym (rows_end 5 a.faces.now face_ranges a.n c.loop-i.i c.loop-i-test.false)
    ∙ c.loop-i.invariant.1
