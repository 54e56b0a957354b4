-- `links::way_taken` meets its contract. Assumes nothing.
use mathlib.Core.Path.{◌≡◌, sym, ap, ◌∙◌, subst}
use mathlib.Core.Bool.{true, not, ◌&&◌}
use Prim.Native.Nat.{ℕ, ◌+◌, ◌*◌, ◌/◌}
use native.Mathlib.Omega.{arith}
use mir.Syntax.{w64}
use mir.Val.{to_z, of_z}
use mir.Facts.{to_z-of_z}
use native.Mathlib.Nat.{sub-zero}
use borrow.Author.Rules.{sfits_of}
use Rattle.lists.proofs.Bools.{and_is, same_eq, same_false}
use Rattle.links.proofs.Words.{and_left_none, and_right_none}
use Rattle.lists.proofs.Scans.{any_hit, any_miss, any_end}
use Rattle.map_rows.proofs.Rows.{edge-row_of}
use Rattle.lists.specs.Tests.{same}
use Rattle.lists.specs.Scans.{any_of}
use Rattle.plane.specs.Directions.{way_to}
use Rattle.links.specs.Linking.{positions}
use Rattle.links.proofs.ByRows.{taken, near_start, near_end, taken_none, taken_here, taken_past}
use Rattle.links.proofs.way_taken.Invariants.{any_from}
use Rattle.links.proofs.way_taken.Goals as goal
use Rattle.links.proofs.way_taken.Goals.{Joined-else-edges-i, else-edges-i-via-then-edges-i+then-i-own+else-same_way}
use Rattle.links.proofs.way_taken.Goals.{else-edges-i-via-then-edges-i+else-i-own, else-edges-i-via-else-edges-i}
use Rattle.links.proofs.way_taken.Goals.{else-edges-i-2-via-then-edges-i-2+then-i-own-2+else-same_way-2}
use Rattle.links.proofs.way_taken.Goals.{else-edges-i-2-via-then-edges-i-2+else-i-own-2, else-edges-i-2-via-else-edges-i-2}

-- the node, and another row than `own`
own_other : {x y : ℕ} (i own : ℕ) → x ≡ y → (i ≡ own → ⊥) → same x y && not (same i own) ≡ true
own_other {x} {y} i own e d = and_is (same_eq x y e) (ap not (same_false i own d))

pub loop-i-init : goal.loop-i-init
loop-i-init c = (omega arith, rw sub-zero)

pub step_at-requires : goal.step_at-requires
step_at-requires c =
    let l = c in
    let t = l.loop-i-test.true in
    edge-row_of l.args.edges.ranged (l.loop-i.i * 2 / 2) (omega arith)

pub same_way-requires : goal.same_way-requires
same_way-requires c =
    let s = c in
    ((c.step_at.ensures.from, c.step_at.ensures.to), s.requires)

pub returns-then-same_way : goal.returns-then-same_way
unfolding same
returns-then-same_way c =
    let b = c in
    let l = b.loop-i in
    let s = b in
    let a = s.args in
    let node = to_z w64 (of_z w64 a.node) in
    let v = way_to a.v.from a.v.to in
    let t = b.loop-i-test.true in
    let near = near_start a.edges.rows.now a.own l.i s.ranges.node (sfits_of b.t14-1.given) in
    rw (to_z-of_z {w = w64} s.ranges.node) at
    (sym (any_hit (λ q. q) (l.i * 2) (a.edges.count * 2) (taken a.edges.rows.now node a.own v) (omega arith)
    (taken_here a.edges.rows.now node a.own v (l.i * 2) near c.same_way.ensures
    c.step_at.ensures.way (own_other _ _ c.if-edges-i.true c.if-i-own.true) c.if-same_way.true)) ∙ l.invariant.1)

-- the edge of row i passed
halfway : (c : Joined-else-edges-i)
    → (let a = c.args in let f =
    taken a.edges.rows.now (to_z w64 (of_z w64 a.node)) a.own (way_to a.v.from a.v.to) in
    any_from f (c.loop-i.i * 2 + 1) (a.edges.count * 2) ≡ any_of f (positions a.edges.count))
unfolding same
halfway c =
    let b = c in
    let l = b.loop-i in
    let s = b in
    let a = s.args in
    let node = to_z w64 (of_z w64 a.node) in
    let v = way_to a.v.from a.v.to in
    let t = b.loop-i-test.true in
    let near = near_start a.edges.rows.now a.own l.i s.ranges.node (sfits_of b.t14-1.given) in
    sym (any_miss (λ q. q) (l.i * 2) (a.edges.count * 2) (taken a.edges.rows.now node a.own v) (omega arith)
    (elim c.else-edges-i.branch [
      | else-edges-i-via-then-edges-i+then-i-own+else-same_way k ↦ taken_past a.edges.rows.now node a.own v (l.i * 2) near
          k.same_way.ensures k.step_at.ensures.way k.if-same_way.false
      | else-edges-i-via-then-edges-i+else-i-own k ↦ taken_none a.edges.rows.now node a.own v (l.i * 2) near
          (and_right_none _ _ (ap not (same_eq l.i a.own k.if-i-own.false)))
      | else-edges-i-via-else-edges-i k ↦ taken_none a.edges.rows.now node a.own v (l.i * 2) near
          (and_left_none _ _ (same_false _ _ k.if-edges-i.false))
    ]))
    ∙ l.invariant.1

pub step_at-requires-then-i-own-2 : goal.step_at-requires-then-i-own-2
step_at-requires-then-i-own-2 c =
    let l = c in
    let t = l.loop-i-test.true in
    edge-row_of l.args.edges.ranged ((l.loop-i.i * 2 + 1) / 2) (omega arith)

pub same_way-requires-then-i-own-2 : goal.same_way-requires-then-i-own-2
same_way-requires-then-i-own-2 c =
    let s = c in
    ((c.step_at-then-i-own-2.ensures.from, c.step_at-then-i-own-2.ensures.to), s.requires)

pub returns-then-same_way-2 : goal.returns-then-same_way-2
unfolding same
returns-then-same_way-2 c =
    let d = c in
    let j = c.before.before.before.before.before.before.before in
    let l = j.loop-i in
    let s = j in
    let a = s.args in
    let node = to_z w64 (of_z w64 a.node) in
    let v = way_to a.v.from a.v.to in
    let t = j.loop-i-test.true in
    let near = near_end a.edges.rows.now a.own l.i s.ranges.node (sfits_of d.t14-in-loop-i-1.given) in
    rw (to_z-of_z {w = w64} s.ranges.node) at
    (sym (any_hit (λ q. q) (l.i * 2 + 1) (a.edges.count * 2) (taken a.edges.rows.now node a.own v) (omega arith)
    (taken_here a.edges.rows.now node a.own v (l.i * 2 + 1) near c.same_way-then-i-own-2.ensures
    c.step_at-then-i-own-2.ensures.way (own_other _ _ c.if-edges-i-2.true c.if-i-own-2.true) c.if-same_way-2.true)) ∙ halfway j)

pub loop-i-preserved : goal.loop-i-preserved
unfolding same
loop-i-preserved c =
    let d = c in
    let j = c.before.before in
    let l = j.loop-i in
    let s = j in
    let a = s.args in
    let node = to_z w64 (of_z w64 a.node) in
    let v = way_to a.v.from a.v.to in
    let f = taken a.edges.rows.now node a.own v in
    let t = j.loop-i-test.true in
    let near = near_end a.edges.rows.now a.own l.i s.ranges.node (sfits_of d.t14-in-loop-i-1.given) in
    let e : l.i * 2 + 1 + 1 ≡ (l.i + 1) * 2 = omega arith in (
      omega arith,
      subst (λ (p : ℕ). any_from f p (a.edges.count * 2) ≡ any_of f (positions a.edges.count)) e
          (sym (any_miss (λ q. q) (l.i * 2 + 1) (a.edges.count * 2) f (omega arith)
          (elim c.else-edges-i-2.branch [
            | else-edges-i-2-via-then-edges-i-2+then-i-own-2+else-same_way-2 k ↦
                taken_past a.edges.rows.now node a.own v (l.i * 2 + 1) near
                k.same_way-then-i-own-2.ensures k.step_at-then-i-own-2.ensures.way k.if-same_way-2.false
            | else-edges-i-2-via-then-edges-i-2+else-i-own-2 k ↦ taken_none a.edges.rows.now node a.own v (l.i * 2 + 1) near
                (and_right_none _ _ (ap not (same_eq l.i a.own k.if-i-own-2.false)))
            | else-edges-i-2-via-else-edges-i-2 k ↦ taken_none a.edges.rows.now node a.own v (l.i * 2 + 1) near
                (and_left_none _ _ (same_false _ _ k.if-edges-i-2.false))
          ])) ∙ halfway j),
    )

pub returns : goal.returns
returns c =
    let l = c.loop-i in
    let s = c in
    let a = s.args in
    let t = c.loop-i-test.false in
    rw (to_z-of_z {w = w64} s.ranges.node) at
    (sym (any_end (λ q. q) (l.i * 2) (a.edges.count * 2)
    (taken a.edges.rows.now (to_z w64 (of_z w64 a.node)) a.own (way_to a.v.from a.v.to)) (omega arith))
    ∙ l.invariant.1)
