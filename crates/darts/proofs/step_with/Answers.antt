-- `darts::step_with` meets its contract. Assumes nothing.
use mathlib.Core.Path.{sym, ap, subst}
use mathlib.Core.Bool.{Bool, cond}
use Prim.Native.Nat.{◌/◌}
use Rattle.lists.specs.Tests.{same}
use Rattle.lists.proofs.Bools.{same_eq, same_false}
use Rattle.curves.specs.Curves.{Curve, curve_of}
use Rattle.curves.specs.Edits.{course}
use Rattle.map_rows.specs.Rows.{edge_at}
use Rattle.darts.specs.Positions.{odd, Along}
use Rattle.darts.proofs.step_with.Goals as goal

pub returns-then-p-own : goal.returns-then-p-own
unfolding same
returns-then-p-own c =
    let a = c.args in
    let e = ap (λ (b : Bool). cond b (curve_of a.c.now) (edge_at a.edges.now (a.p / 2)).curve)
    (same_eq (a.p / 2) a.own c.if-p-own.true) in
    subst (λ (k : Curve). Along c.first_step.result (course (odd a.p) k)) (sym e)
    c.first_step.ensures

pub returns-else-p-own : goal.returns-else-p-own
returns-else-p-own c =
    let a = c.args in
    let e = ap (λ (b : Bool). cond b (curve_of a.c.now) (edge_at a.edges.now (a.p / 2)).curve)
    (same_false (a.p / 2) a.own c.if-p-own.false) in
    subst (λ (k : Curve). Along c.step_at.result (course (odd a.p) k)) (sym e) c.step_at.ensures

pub first_step-requires : goal.first_step-requires
first_step-requires c = c.requires.0 c.if-p-own.true

pub step_at-requires : goal.step_at-requires
step_at-requires c = c.requires.1 c.if-p-own.false
