use Rattle.std.proofs.Common.{List, ℕ, length, sym, ap, subst, ◌∙◌}
use Rattle.std.proofs.lemmas.Bool.{eqb-true, eqb-false}
use Rattle.map.specs.Rows.{Lent}
use Rattle.console.specs.Desks.{desk_now}
use Rattle.console.specs.Lines.{Desk}
use Rattle.console.specs.Wrote.{Wrote}
use Rattle.console.proofs.Lines.{finished-line, finished_none}
use Rattle.console.proofs.Wrote.{wrote_none}
use Rattle.console.proofs.Printed.{line-printed, no_line_printed}
use Rattle.console.proofs.Desk.serve_rest.Goals as goal

pub returns-then-not-is_empty-clause-leaves : goal.returns-then-not-is_empty-clause-leaves
returns-then-not-is_empty-clause-leaves g c =
    let d = desk_now c.args.self.now in
    let some = eqb-false (length d.line) 0 (sym c.is_empty.ensures ∙ c.if-not-is_empty.true) in
    ap (λ (e : Desk). e.lent) c.serve_line.ensures.leaves ∙ sym (finished-line d some)

pub returns-then-not-is_empty-clause-writes : goal.returns-then-not-is_empty-clause-writes
returns-then-not-is_empty-clause-writes g c =
    let a = c.args in
    let d = desk_now a.self.now in
    let w = c.serve_line in
    let some = eqb-false (length d.line) 0 (sym c.is_empty.ensures ∙ c.if-not-is_empty.true) in
    subst (λ (t : List ℕ). Wrote g.W.Write.contents a.streams.now w.new.streams t) (sym (line-printed a.rows d some))
    w.ensures.writes

pub returns-else-not-is_empty-clause-leaves : goal.returns-else-not-is_empty-clause-leaves
returns-else-not-is_empty-clause-leaves g c =
    let d = desk_now c.args.self.now in
    let none = eqb-true (length d.line) 0 (sym c.is_empty.ensures ∙ c.if-not-is_empty.false) in
    sym (finished_none d none)

pub returns-else-not-is_empty-clause-writes : goal.returns-else-not-is_empty-clause-writes
returns-else-not-is_empty-clause-writes g c =
    let a = c.args in
    let d = desk_now a.self.now in
    let none = eqb-true (length d.line) 0 (sym c.is_empty.ensures ∙ c.if-not-is_empty.false) in
    subst (λ (t : List ℕ). Wrote g.W.Write.contents a.streams.now a.streams.now t) (sym (no_line_printed a.rows d none))
    (wrote_none g.W.Write.contents a.streams.now)
