-- `links::clockwise` meets its contract: the choice, with what is left of the list, is the choice of all. Assumes
-- nothing.
use Rattle.std.specs.Prelude.{Option}
use Rattle.std.specs.Option.{unwrap_or}
use mathlib.Core.Path.{◌≡◌, refl, sym, ap, ◌∙◌}
use mathlib.Core.Bool.{not}
use Prim.Native.Nat.{ℕ, ◌+◌}
use lib.ListN.{get_or}
use Rattle.lists.specs.Tests.{same}
use Rattle.lists.proofs.Bools.{same_eq, same_false}
use Rattle.plane.specs.Directions.{Way, way_to}
use Rattle.rotation.specs.Law.{others, first_clockwise}
use Rattle.darts.specs.Positions.{way_with}
use Rattle.links.specs.declared.Choice.{Choice}
use Rattle.links.specs.Linking.{Known, chosen_of, answer}
use Rattle.links.proofs.Choices.{chosen_has}
use Rattle.links.proofs.Listed.{settled_all, chosen_from, chosen_hit, chosen_miss, chosen-end}
use Rattle.links.proofs.clockwise.Invariants.{but}
use Rattle.links.proofs.clockwise.Goals as goal
use Rattle.links.proofs.clockwise.Goals.{then-q-p, else-q-p}

pub step_with-v-requires : goal.step_with-v-requires
step_with-v-requires c = c.requires.0

pub loop-d-init : goal.loop-d-init
loop-d-init c = (tt, tt, refl)

pub chosen-h-requires : goal.chosen-h-requires
chosen-h-requires c = let l = c.loop-d in (
  c.requires.1 l.d-index c.loop-d-test.true,
  l.invariant.0,
  l.invariant.1,
  (c.step_with-v.ensures.from, c.step_with-v.ensures.to),
)

pub loop-d-preserved : goal.loop-d-preserved
loop-d-preserved c =
    let l = c.loop-d in
    let a = c.args in
    let w = way_with a.edges.now a.own a.c.now in
    let v = way_to c.step_with-v.result.from c.step_with-v.result.to in
    let t = c.loop-d-test.true in
    let q = get_or a.list.now l.d-index 0 in
    elim c.if-q-p.branch [
      | then-q-p k ↦
          let e : c.if-q-p.h ≡ chosen_of w v l.h q = k.h-is ∙ k.chosen-h.ensures in
          let has = chosen_has w v (Known a.edges.now a.own a.c.now) l.h q (c.requires.1 l.d-index t) l.invariant.0
          l.invariant.1 in (
            rw e has.0,
            rw e has.1,
            ap (λ (h : Choice). chosen_from w v (but a.p) a.list.now h (l.d-index + 1)) e
                ∙ sym (chosen_hit w v (but a.p) a.list.now l.h l.d-index t
                (ap not (same_false q a.p k.if-q-p.true))) ∙ l.invariant.2,
          )
      | else-q-p k ↦ (
        rw k.h-is l.invariant.0,
        rw k.h-is l.invariant.1,
        ap (λ (h : Choice). chosen_from w v (but a.p) a.list.now h (l.d-index + 1)) k.h-is
            ∙ sym (chosen_miss w v (but a.p) a.list.now l.h l.d-index t (ap not (same_eq q a.p k.if-q-p.false)))
            ∙ l.invariant.2,
      )
    ]

pub returns : goal.returns
returns c =
    let l = c.loop-d in
    let a = c.args in
    let w = way_with a.edges.now a.own a.c.now in
    let v = way_to c.step_with-v.result.from c.step_with-v.result.to in
    c.unwrap_or.ensures ∙ ap (λ (o : Option ℕ). unwrap_or o a.p) c.answer.ensures
    ∙ ap (λ (h : Choice). unwrap_or (answer h) a.p)
    (sym (chosen-end w v (but a.p) a.list.now l.h l.d-index c.loop-d-test.false) ∙ l.invariant.2)
    ∙ settled_all w v a.p (others same a.p a.list.now)
    ∙ ap (λ (x : Way). first_clockwise w x a.p (others same a.p a.list.now)) c.step_with-v.ensures.way
