use Rattle.std.proofs.Common.{arith, ◌≡◌, ◌<◌, ◌≤◌, List, ℕ, length, refl, sym, subst, ◌∙◌}
use Rattle.std.proofs.lemmas.Bool.{eqb-true, eqb-false}
use Rattle.console.specs.Desks.{desk_now}
use Rattle.console.specs.Lines.{kept_bytes}
use Rattle.console.specs.Wrote.{Wrote}
use Rattle.console.proofs.Lines.{same_desk, line-ended, line_longer, line-full}
use Rattle.console.proofs.Wrote.{wrote_none}
use Rattle.console.proofs.Printed.{ended-printed, none-printed}
use Rattle.console.proofs.Desk.serve_byte.Goals as goal

pub returns-then-b-eq10-clause-leaves : goal.returns-then-b-eq10-clause-leaves
returns-then-b-eq10-clause-leaves g c =
    c.serve_line.ensures.leaves ∙ line-ended (desk_now c.args.self.now) c.args.b c.if-b-eq10.true

pub returns-then-b-eq10-clause-writes : goal.returns-then-b-eq10-clause-writes
returns-then-b-eq10-clause-writes g c =
    let a = c.args in
    let w = c.serve_line in
    let e = ended-printed a.rows (desk_now a.self.now) a.b c.if-b-eq10.true in
    subst (λ (t : List ℕ). Wrote g.W.Write.contents a.streams.now w.new.streams t) (sym e) w.ensures.writes

pub returns-then-not-is_full-clause-leaves : goal.returns-then-not-is_full-clause-leaves
returns-then-not-is_full-clause-leaves g c =
    let d = desk_now c.args.self.now in
    let more = eqb-false (length d.line) kept_bytes (sym c.is_full.ensures.value ∙ c.if-not-is_full.true) in
    same_desk refl c.push.ensures.items ∙ line_longer d c.args.b c.if-b-eq10.false (omega (arith, c.is_full.ensures.fits))

pub returns-then-not-is_full-clause-writes : goal.returns-then-not-is_full-clause-writes
returns-then-not-is_full-clause-writes g c =
    let a = c.args in
    let e = none-printed a.rows (desk_now a.self.now) a.b c.if-b-eq10.false in
    subst (λ (t : List ℕ). Wrote g.W.Write.contents a.streams.now a.streams.now t) (sym e)
    (wrote_none g.W.Write.contents a.streams.now)

pub returns-else-not-is_full-clause-leaves : goal.returns-else-not-is_full-clause-leaves
returns-else-not-is_full-clause-leaves g c =
    let d = desk_now c.args.self.now in
    let full = eqb-true (length d.line) kept_bytes (sym c.is_full.ensures.value ∙ c.if-not-is_full.false) in
    line-full d c.args.b c.if-b-eq10.false full

pub returns-else-not-is_full-clause-writes : goal.returns-else-not-is_full-clause-writes
returns-else-not-is_full-clause-writes g c =
    let a = c.args in
    let e = none-printed a.rows (desk_now a.self.now) a.b c.if-b-eq10.false in
    subst (λ (t : List ℕ). Wrote g.W.Write.contents a.streams.now a.streams.now t) (sym e)
    (wrote_none g.W.Write.contents a.streams.now)
