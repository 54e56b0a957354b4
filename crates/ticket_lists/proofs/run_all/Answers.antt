-- `ticket_lists::run_all` meets its contract: turned down by the first reason, or every ticket from the empty map on.
-- Assumes nothing.
use Rattle.std.specs.Prelude.{Result}
use mathlib.Core.Path.{◌≡◌, refl, sym, ap, ◌∙◌}
use mathlib.Core.List.{List}
use Prim.Native.Nat.{ℕ}
use lib.IntN.{ℤ}
use mir.Syntax.{w64}
use mir.Facts.{to_z-of_z}
use Rattle.map.specs.declared.Refusal.{Refusal}
use Rattle.map.specs.Rows.{Lent, lent}
use Rattle.map.specs.Reasons.{first_reason}
use Rattle.map.specs.Ticket.{Outcome, emptied}
use Rattle.map.specs.Grow.{after}
use Rattle.outcomes.specs.declared.Carried.{Carried}
use Rattle.outcomes.proofs.Results.{number_some, handed_on}
use Rattle.ticket_lists.specs.Runs.{tickets_of}
use Rattle.ticket_lists.proofs.Answers.{run_reasons, runs_refused, room_left, runs_all}
use Rattle.ticket_lists.proofs.run_all.Goals as goal

-- the reasons, with the record that was asked for as it was passed on
module _ (l : Lent) (numbers : List ℤ) (lengths refusals : List ℕ) (values : List ℤ) where
  told : {k z : ℤ} {n : ℕ} → z ≡ k → n ≡ first_reason (run_reasons l z numbers lengths refusals values)
      → first_reason (run_reasons l k numbers lengths refusals values) ≡ n
  told e f = sym (f ∙ ap (λ (x : ℤ). first_reason (run_reasons l x numbers lengths refusals values)) e)

pub returns-in_err-check_run : goal.returns-in_err-check_run
returns-in_err-check_run c =
    let a = c.args in
    let l = lent a.nodes.now a.edges.now a.faces.now a.h in
    let e = c.in_err-check_run.field-0.0 in
    rw (handed_on c.from_residual.result e c.from_residual.ensures.1)
    (runs_refused l a.points a.numbers.now a.lengths.now a.refusals.now a.values.now (number_some e)
    (told l a.numbers.now a.lengths.now a.refusals.now a.values.now (to_z-of_z {w = w64} c.ranges.points)
    (c.in_err-check_run.ensures a.h)))

pub run_tickets-head-requires : goal.run_tickets-head-requires
run_tickets-head-requires c =
    let a = c.args in
    let l = lent a.nodes.now a.edges.now a.faces.now a.h in
    room_left l a.points a.numbers.now a.lengths.now a.refusals.now a.values.now
    (told l a.numbers.now a.lengths.now a.refusals.now a.values.now (to_z-of_z {w = w64} c.ranges.points)
    (c.in_ok-check_run.ensures a.h))

pub returns : goal.returns
returns c =
    let a = c.args in
    let l = lent a.nodes.now a.edges.now a.faces.now a.h in
    let g = after (emptied l a.points).lent (tickets_of a.numbers.now a.lengths.now) in
    let e = ap (λ (o : Outcome). after o.lent (tickets_of a.numbers.now a.lengths.now))
    (sym (c.empty_map-empty.ensures ∙ ap (emptied l) (to_z-of_z {w = w64} c.ranges.points))) in
    runs_all l a.points a.numbers.now a.lengths.now a.refusals.now a.values.now
    (told l a.numbers.now a.lengths.now a.refusals.now a.values.now (to_z-of_z {w = w64} c.ranges.points)
    (c.in_ok-check_run.ensures a.h))
    g refl (c.run_tickets-head.ensures g e)
