-- `links::first_clockwise` meets its contract: the choice, with what is left, is the choice of all. Assumes nothing.
use mathlib.Core.Path.{◌≡◌, refl, sym, ap, ◌∙◌, subst}
use mathlib.Core.Bool.{not}
use Prim.Native.Nat.{ℕ, ◌+◌, ◌*◌, ◌<◌}
use native.Mathlib.Omega.{arith}
use lib.IntN.{ℤ}
use mir.Syntax.{w64}
use mir.Val.{to_z, of_z}
use mir.Facts.{to_z-of_z}
use native.Mathlib.Nat.{sub-zero}
use borrow.Author.Rules.{sfits_of}
use Rattle.std.proofs.lemmas.Option.{IfSome_then}
use Rattle.lists.specs.Tests.{same}
use Rattle.lists.proofs.Bools.{and_is, same_eq, same_false}
use Rattle.links.proofs.Words.{and_left_none, and_right_none}
use Rattle.plane.specs.Directions.{way_to}
use Rattle.darts.specs.Positions.{way_with}
use Rattle.darts.proofs.Positions.{side_even, side_odd}
use Rattle.links.specs.Linking.{positions, departures_but, first_met, chosen_of, answer}
use Rattle.lists.specs.Scans.{keep, fold}
use Rattle.lists.specs.Tables.{table}
use Rattle.links.proofs.Choices.{no_choice, scan_end, scan_all}
use Rattle.links.proofs.ByRows.{known_of, cell_is, cell-differs, leaves_but, Passed, passed-chosen, passed_but}
use Rattle.links.proofs.ByRows.{passed_other}
use Rattle.links.proofs.first_clockwise.Goals as goal
use Rattle.links.proofs.first_clockwise.Goals.{Joined-edges-i, then-edges-i+then-p-a+then-p-b, else-edges-i}
use Rattle.links.proofs.first_clockwise.Goals.{else-edges-i-via-then-edges-i+then-p-a+else-p-b}
use Rattle.links.proofs.first_clockwise.Goals.{else-edges-i-via-then-edges-i+else-p-a, else-edges-i-via-else-edges-i}
use Rattle.links.proofs.first_clockwise.Goals.{then-edges-i-2+then-p-a-2+then-p-b-2, else-edges-i-2}
use Rattle.links.proofs.first_clockwise.Goals.{else-edges-i-2-via-then-edges-i-2+then-p-a-2+else-p-b-2}
use Rattle.links.proofs.first_clockwise.Goals.{else-edges-i-2-via-then-edges-i-2+else-p-a-2}
use Rattle.links.proofs.first_clockwise.Goals.{else-edges-i-2-via-else-edges-i-2}

pub loop-i-init : goal.loop-i-init
loop-i-init c = (omega arith, record { all = tt; below = tt; rest = refl })

pub chosen-h-requires : goal.chosen-h-requires
chosen-h-requires c =
    let known = known_of c.args.edges.ranged c.requires.0 in
    let t = c.loop-i-test.true in
    let x = c.loop-i.invariant.1 in (
      known (c.loop-i.i * 2) (omega arith),
      IfSome_then _ x.all known,
      IfSome_then _ x.below known,
      c.requires.1,
    )

-- the edge of row i passed
halfway : (c : Joined-edges-i)
    → (let a = c.args in
    Passed (way_with a.edges.rows.now a.own a.c.now) (way_to a.v.from a.v.to) a.edges.rows.now
    (to_z w64 (of_z w64 a.node)) a.a a.b (a.edges.count * 2) c.if-edges-i.h (c.loop-i.i * 2 + 1))
unfolding same
halfway c =
    let a = c.args in
    let l = c.loop-i in
    let w = way_with a.edges.rows.now a.own a.c.now in
    let v = way_to a.v.from a.v.to in
    let node = to_z w64 (of_z w64 a.node) in
    let n = a.edges.count * 2 in
    let p = l.i * 2 in
    let t = c.loop-i-test.true in
    let b : p < n = omega arith in
    let fits = sfits_of c.t21-1.given in
    let cell = sym (side_even a.edges.rows.now l.i 1) in
    elim c.if-edges-i.branch [
      | then-edges-i+then-p-a+then-p-b k ↦ passed-chosen w v a.edges.rows.now node a.a a.b n l.invariant.1 b
          (cell_is fits c.ranges.node cell k.if-edges-i.true)
          (and_is (ap not (same_false p a.a k.if-p-a.true)) (ap not (same_false p a.b k.if-p-b.true)))
          (k.h-is ∙ k.chosen-h.ensures)
      | else-edges-i k ↦ elim k.else-edges-i.branch [
        | else-edges-i-via-then-edges-i+then-p-a+else-p-b j ↦ passed_but w v a.edges.rows.now node a.a a.b n l.invariant.1 b
            (cell_is fits c.ranges.node cell j.if-edges-i.true)
            (and_right_none _ _ (ap not (same_eq p a.b j.if-p-b.false))) k.h-is
        | else-edges-i-via-then-edges-i+else-p-a j ↦ passed_but w v a.edges.rows.now node a.a a.b n l.invariant.1 b
            (cell_is fits c.ranges.node cell j.if-edges-i.true)
            (and_left_none _ _ (ap not (same_eq p a.a j.if-p-a.false))) k.h-is
        | else-edges-i-via-else-edges-i j ↦ passed_other w v a.edges.rows.now node a.a a.b n l.invariant.1 b
            (cell-differs fits c.ranges.node cell j.if-edges-i.false) k.h-is
      ]
    ]

pub chosen-h-requires-then-p-b-2 : goal.chosen-h-requires-then-p-b-2
chosen-h-requires-then-p-b-2 c =
    let known = known_of c.args.edges.ranged c.requires.0 in
    let t = c.loop-i-test.true in
    let x = halfway c.before.before.before.before.before in (
      known (c.loop-i.i * 2 + 1) (omega arith),
      IfSome_then _ x.all known,
      IfSome_then _ x.below known,
      c.requires.1,
    )

pub loop-i-preserved : goal.loop-i-preserved
unfolding same
loop-i-preserved c =
    let half = halfway c.before.before in
    let a = c.args in
    let l = c.loop-i in
    let w = way_with a.edges.rows.now a.own a.c.now in
    let v = way_to a.v.from a.v.to in
    let node = to_z w64 (of_z w64 a.node) in
    let n = a.edges.count * 2 in
    let p = l.i * 2 + 1 in
    let t = c.loop-i-test.true in
    let b : p < n = omega arith in
    let fits = sfits_of c.t21-in-loop-i-1.given in
    let cell = sym (side_odd a.edges.rows.now l.i 1) in
    let e : p + 1 ≡ (l.i + 1) * 2 = omega arith in (
      omega arith,
      subst (Passed w v a.edges.rows.now node a.a a.b n c.if-edges-i-2.h) e
          (elim c.if-edges-i-2.branch [
            | then-edges-i-2+then-p-a-2+then-p-b-2 k ↦ passed-chosen w v a.edges.rows.now node a.a a.b n half b
                (cell_is fits c.ranges.node cell k.if-edges-i-2.true)
                (and_is (ap not (same_false p a.a k.if-p-a-2.true)) (ap not (same_false p a.b k.if-p-b-2.true)))
                (k.h-is ∙ k.chosen-h-then-p-b-2.ensures)
            | else-edges-i-2 k ↦ elim k.else-edges-i-2.branch [
              | else-edges-i-2-via-then-edges-i-2+then-p-a-2+else-p-b-2 j ↦ passed_but w v a.edges.rows.now node a.a a.b n half b
                  (cell_is fits c.ranges.node cell j.if-edges-i-2.true)
                  (and_right_none _ _ (ap not (same_eq p a.b j.if-p-b-2.false))) k.h-is
              | else-edges-i-2-via-then-edges-i-2+else-p-a-2 j ↦ passed_but w v a.edges.rows.now node a.a a.b n half b
                  (cell_is fits c.ranges.node cell j.if-edges-i-2.true)
                  (and_left_none _ _ (ap not (same_eq p a.a j.if-p-a-2.false))) k.h-is
              | else-edges-i-2-via-else-edges-i-2 j ↦ passed_other w v a.edges.rows.now node a.a a.b n half b
                  (cell-differs fits c.ranges.node cell j.if-edges-i-2.false) k.h-is
            ]
          ]),
    )

-- the choice at the loop's end answers
pub returns : goal.returns
returns c =
    let a = c.args in
    let l = c.loop-i in
    let w = way_with a.edges.rows.now a.own a.c.now in
    let v = way_to a.v.from a.v.to in
    let f = leaves_but a.edges.rows.now (to_z w64 (of_z w64 a.node)) a.a a.b in
    let t = c.loop-i-test.false in
    c.answer.ensures
    ∙ ap answer (sym (scan_end w v f l.h (l.i * 2) (a.edges.count * 2) (omega arith)) ∙ l.invariant.1.rest)
    ∙ ap (λ (m : ℕ). answer (fold (chosen_of w v) no_choice (keep f (table (λ p. p) 0 m)))) (sub-zero (a.edges.count * 2))
    ∙ scan_all w v (keep f (positions a.edges.count))
    ∙ ap (λ (z : ℤ). first_met w v (departures_but a.edges.rows.now a.edges.count z a.a a.b))
    (to_z-of_z {w = w64} c.ranges.node)
