-- `engine::create` meets its contract. Assumes nothing.
use mathlib.Core.Path.{sym, ap, ◌∙◌}
use mir.Syntax.{w64}
use mir.Val.{of_z, to_z}
use mir.Facts.{to_z-of_z}
use lib.IntN.{ℤ, pos}
use Rattle.std.specs.Prelude.{Result}
use Rattle.map.specs.declared.Refusal.{Refusal}
use Rattle.map.specs.Limits.{limit_of}
use Rattle.map.specs.Rows.{empty_map, head_of, lent}
use Rattle.map.specs.Reasons.{first_reason}
use Rattle.map.specs.Ticket.{create_reasons}
use Rattle.outcomes.specs.declared.Carried.{Carried}
use Rattle.outcomes.specs.Outcomes.{done_of, outcome}
use Rattle.outcomes.proofs.Results.{number_some, handed_on}
use Rattle.engine.proofs.Answers.{emptied-turned}
use Rattle.engine.proofs.Empty.{emptied-done, create_whole, create_recorded}
use Rattle.engine.proofs.create.Goals as goal

pub returns-in_err-check_create : goal.returns-in_err-check_create
returns-in_err-check_create c =
    let a = c.args in
    let e = c.in_err-check_create.field-0.0 in
    let p = to_z-of_z {w = w64} c.ranges.points in
    λ h. ap (λ (r : Result Carried Refusal). outcome a.nodes.now a.edges.now a.faces.now (done_of h r))
    (handed_on c.from_residual.result e c.from_residual.ensures.1)
    ∙ sym (emptied-turned (lent a.nodes.now a.edges.now a.faces.now h) (number_some e) a.points
    (ap (λ (z : ℤ). first_reason (create_reasons (lent a.nodes.now a.edges.now a.faces.now h) z)) (sym p)
    ∙ sym (c.in_err-check_create.ensures h)))

pub empty-requires : goal.empty-requires
empty-requires c =
    let a = c.args in
    let h = head_of (limit_of a.points) empty_map in
    create_recorded (lent a.nodes.now a.edges.now a.faces.now h) (to_z w64 (of_z w64 a.points))
    (sym (c.in_ok-check_create.ensures h))

pub returns : goal.returns
returns c =
    let a = c.args in
    let p = to_z-of_z {w = w64} c.ranges.points in
    λ h.
    let l = lent a.nodes.now a.edges.now a.faces.now h in
    let free = ap (λ (z : ℤ). first_reason (create_reasons l z)) (sym p) ∙ sym (c.in_ok-check_create.ensures h) in
    let n = c.fill.ensures.after (λ y e. e) in
    let e = c.fill-2.ensures.after (λ y e. e) in
    let f = c.fill-3.ensures.after (λ y e. e) in
    let d = c.empty.ensures ∙ ap (λ (z : ℤ). head_of (limit_of z) empty_map) p in
    (λ i. outcome (n i) (e i) (f i) (record { head = d i; answer = record { refusal = 0; value = pos 0 } }))
    ∙ sym (emptied-done a.nodes.now a.edges.now a.faces.now h (create_whole l a.points free) a.points
    (create_recorded l a.points free))
