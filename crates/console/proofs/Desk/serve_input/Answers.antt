use Rattle.std.proofs.Common.{arith, inr, take, ◌∙◌}
use Rattle.console.specs.Desks.{desk_now}
use Rattle.console.proofs.Printed.{took_more}
use Rattle.console.proofs.Desk.serve_input.Goals as goal

pub loop-preserved : goal.loop-preserved
loop-preserved g c =
    let a = c.args in
    let l = c.loop in
    let r = c.read_some-got in
    let w = c.serve_bytes in
    let start = desk_now a.self.now in
    let now = desk_now l.self in
    let next = desk_now w.new.self in
    let more = take r.result r.new.buf in
    let took = took_more g.R.Read.remaining g.W.Write.contents a.rows a.streams.now l.streams r.new.self w.new.streams
    start now next more l.invariant.1.0 (λ h. (r.ensures.fails_once h).1) r.ensures.writes_none r.ensures.takes
    w.ensures.writes w.ensures.are_bytes w.ensures.leaves in (
      (w.ensures.loans.0 ∙ l.invariant.0.0, w.ensures.loans.1 ∙ l.invariant.0.1, w.ensures.loans.2 ∙ l.invariant.0.2),
      (took.0, omega (arith, took.1, r.ensures.within.1)),
    )

pub returns-after-loop-clause-told : goal.returns-after-loop-clause-told
returns-after-loop-clause-told g c = (c.loop.invariant.1.0, λ n. inr (omega arith))
