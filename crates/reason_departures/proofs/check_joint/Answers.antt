-- `reason_departures::check_joint` meets its contract. Assumes nothing.
use borrow.Author.Rules.{sfits_of}
use mathlib.Core.Path.{◌≡◌, refl, sym, ap, ◌∙◌}
use mathlib.Core.Bool.{Bool}
use lib.IntN.{ℤ, nat_abs}
use lib.Signed.{non_neg}
use mir.Syntax.{w64}
use mir.Facts.{to_z-of_z}
use Rattle.lists.proofs.Bools.{same_eq, same_false}
use Rattle.lent_rows.specs.Lent.{drawn}
use Rattle.map_rows.specs.Rows.{edge_at}
use Rattle.reason_departures.specs.Turning.{ends_at, joins_at}
use Rattle.reason_departures.proofs.Ends.{start_cell, end-cell, ends_is, first_holds, second_asked}
use Rattle.reason_departures.proofs.Ends.{shared, joined, joint_told}
use Rattle.reason_departures.proofs.check_joint.Goals as goal
use Rattle.reason_departures.proofs.check_joint.Goals.{Joined-ends_at, then-ends_at, else-ends_at}
use Rattle.reason_departures.proofs.check_joint.Goals.{Joined-joins_at, then-joins_at, else-joins_at}
use Rattle.reason_departures.proofs.check_joint.Goals.{then-i-j-via-then-i-j, then-i-j-via-else-i-j+then-not-ends_at}

-- a node of row i is one of row j
shares : (c : Joined-ends_at) → let a = c.args in let p = c.requires in
    c.if-ends_at.value ≡ shared a.edges.ranged a.i a.j p.0 p.1
shares c =
    let a = c.args in
    let p = c.requires in
    let at = ends_at a.edges.rows.now a.j in
    let first = c.ends_at.ensures
    ∙ ap at (to_z-of_z {w = w64} (sfits_of c.u-1.given) ∙ start_cell a.edges.ranged a.i p.0)
    ∙ ends_is a.edges.ranged a.j p.1 _ in
    elim c.if-ends_at.branch [
      | then-ends_at w ↦ first_holds _ w.value-is w.if-ends_at.true first
      | else-ends_at w ↦ second_asked w.value-is w.if-ends_at.false first (w.ends_at-else-ends_at.ensures
          ∙ ap at (to_z-of_z {w = w64} (sfits_of c.v-1.given) ∙ end-cell a.edges.ranged a.i p.0)
          ∙ ends_is a.edges.ranged a.j p.1 _)
    ]

-- a node joins the two
joins : (c : Joined-joins_at) → let a = c.args in let p = c.requires in
    c.if-joins_at.value ≡ joined a.edges.ranged a.i a.j p.0 p.1
joins c =
    let a = c.args in
    let p = c.requires in
    let here : ℤ → Bool = λ z. joins_at (drawn a.edges) (edge_at a.edges.rows.now a.j).number (nat_abs z) in
    let first = c.joins_at.ensures
    ∙ ap here (to_z-of_z {w = w64} (sfits_of c.v-1.given) ∙ end-cell a.edges.ranged a.i p.0) in
    elim c.if-joins_at.branch [
      | then-joins_at w ↦ first_holds _ w.value-is w.if-joins_at.true first
      | else-joins_at w ↦ second_asked w.value-is w.if-joins_at.false first (w.joins_at-else-joins_at.ensures
          ∙ ap here (to_z-of_z {w = w64} (sfits_of c.u-1.given) ∙ start_cell a.edges.ranged a.i p.0))
    ]

pub joins_at-requires : goal.joins_at-requires
joins_at-requires c = let a = c.args in let p = c.requires in
    (p.1, ap non_neg (to_z-of_z {w = w64} (sfits_of c.v-1.given) ∙ end-cell a.edges.ranged a.i p.0))

pub joins_at-requires-else-joins_at : goal.joins_at-requires-else-joins_at
joins_at-requires-else-joins_at c = let a = c.args in let p = c.requires in
    (p.1, ap non_neg (to_z-of_z {w = w64} (sfits_of c.u-1.given) ∙ start_cell a.edges.ranged a.i p.0))

pub returns-then-i-j : goal.returns-then-i-j
returns-then-i-j c =
    let a = c.args in
    let p = c.requires in
    elim c.then-i-j.branch [
      | then-i-j-via-then-i-j w ↦ joint_told a.edges.ranged a.i a.j p.0 p.1 (same_eq a.i a.j w.if-i-j.true) refl refl
      | then-i-j-via-else-i-j+then-not-ends_at w ↦
          let s : Joined-ends_at = record {
            before = record {
              before = record {
                before = record { before = c.before; if-i-j = w.if-i-j };
                ends_at-arg-1 = w.ends_at-arg-1;
              };
              ends_at = w.ends_at;
            };
            if-ends_at = w.if-ends_at;
          } in
          joint_told a.edges.ranged a.i a.j p.0 p.1 (same_false a.i a.j w.if-i-j.false)
          (sym (shares s) ∙ w.if-not-ends_at.true) refl
    ]

pub returns-then-not-joins_at : goal.returns-then-not-joins_at
returns-then-not-joins_at c =
    let a = c.args in
    let p = c.requires in
    joint_told a.edges.ranged a.i a.j p.0 p.1 (same_false a.i a.j c.if-i-j.false)
    (sym (shares c.before.before.before.before) ∙ c.if-not-ends_at.false)
    (sym (joins c.before) ∙ c.if-not-joins_at.true)

pub returns : goal.returns
returns c =
    let a = c.args in
    let p = c.requires in
    joint_told a.edges.ranged a.i a.j p.0 p.1 (same_false a.i a.j c.if-i-j.false)
    (sym (shares c.before.before.before.before) ∙ c.if-not-ends_at.false)
    (sym (joins c.before) ∙ c.if-not-joins_at.false)
