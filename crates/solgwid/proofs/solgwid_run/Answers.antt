-- `solgwid::solgwid_run` meets its contract: the value is 0. Assumes nothing.
use borrow.Author.Rules.{rules}
use mathlib.Core.Path.{sym, subst}
use lib.IntN.{ℤ, pos}
use mir.Syntax.{w64}
use mir.Facts.{to_z-of_z}
use Rattle.map.specs.declared.Head.{Head}
use Rattle.map.specs.Rows.{Lent, lent}
use Rattle.ticket_lists.specs.Runs.{Runs}
use Rattle.head.specs.Heads.{head_in}
use Rattle.solgwid.proofs.Values.{runs_told}
use Rattle.solgwid.proofs.solgwid_run.Goals as goal

pub returns : goal.returns
returns c =
    let k = c in
    let s = k in
    let a = s.args in
    let l : Head → Lent = lent a.nodes.now a.edges.now a.faces.now in
    let after : Head → Lent = lent k.run-done.new.nodes k.run-done.new.edges k.run-done.new.faces in
    let rs = k.run-done.new.refusals in
    let vs = k.run-done.new.values in
    let given = runs_told (l k.from_numbers.result) _ a.numbers.now a.lengths.now
    a.refusals.now a.values.now (after k.run-done.result.head) rs vs k.run-done.result.answer
    k.run-done.ensures in
    let recorded = subst (λ (z : ℤ). Runs (l k.from_numbers.result) z a.numbers.now
    a.lengths.now a.refusals.now a.values.now
    (record {
      lent = after k.run-done.result.head;
      refusals = rs;
      values = vs;
      answer = record { refusal = k.run-done.result.answer.refusal; value = pos 0 };
    })) (to_z-of_z {w = w64} s.ranges.points) given in
    let put = subst (λ (h : Head). Runs (l k.from_numbers.result) a.points
    a.numbers.now a.lengths.now a.refusals.now a.values.now
    (record {
      lent = after h;
      refusals = rs;
      values = vs;
      answer = record { refusal = k.run-done.result.answer.refusal; value = pos 0 };
    })) (sym c.put_numbers.ensures) recorded in
    subst (λ (h : Head). Runs (l h) a.points a.numbers.now a.lengths.now a.refusals.now a.values.now
    (record {
      lent = after (head_in c.put_numbers.new.l);
      refusals = rs;
      values = vs;
      answer = record { refusal = k.run-done.result.answer.refusal; value = pos 0 };
    })) k.from_numbers.ensures put
