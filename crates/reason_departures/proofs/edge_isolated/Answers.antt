-- `reason_departures::edge_isolated` meets its contract. Assumes nothing.
use borrow.Author.Rules.{sfits_of}
use mathlib.Core.Path.{◌≡◌, refl, sym, ap, ◌∙◌}
use mathlib.Core.Bool.{Bool, not, ◌&&◌}
use Prim.Native.Nat.{ℕ, ◌+◌, ◌*◌}
use lib.IntN.{ℤ, pos}
use lib.ListN.{get_or}
use mir.Syntax.{w64}
use mir.Val.{of_z}
use mir.Facts.{to_z-of_z}
use Rattle.lists.specs.Tests.{same}
use Rattle.lists.specs.Scans.{count_of}
use Rattle.links.specs.Linking.{positions, leaves_node}
use Rattle.tables.proofs.Order.{is_same, not_same, word_is, word_test}
use Rattle.tables.specs.Tables.{same_z}
use Rattle.reason_departures.proofs.Ends.{isolated_is}
use Rattle.reason_departures.proofs.edge_isolated.Goals as goal
use Rattle.reason_departures.proofs.edge_isolated.Goals.{Joined-u-v, then-u-v, else-u-v}

module _ (c : Joined-u-v) where
  abbrev ends : ℤ → ℕ
  ends z = count_of (leaves_node c.args.edges.rows.now z) (positions c.args.edges.count)

  abbrev u : ℤ
  u = get_or c.args.edges.rows.now (c.args.i * 32 + 1) (pos 0)

  abbrev v : ℤ
  v = get_or c.args.edges.rows.now (c.args.i * 32 + 2) (pos 0)

  -- the first two tests
  pair : c.if-u-v.value ≡ not (same_z u v) && same (ends u) 1
  unfolding same
  pair =
      let fu = sfits_of c.u-1.given in
      let fv = sfits_of c.v-1.given in
      elim c.if-u-v.branch [
        | then-u-v w ↦ w.value-is
            ∙ ap (λ (k : ℕ). same k 1) (w.edge_ends.ensures.0
            ∙ ap ends (to_z-of_z {w = w64} fu))
            ∙ ap (λ (b : Bool). not b && same (ends u) 1)
            (sym (not_same u v (λ q. w.if-u-v.true (ap (of_z w64) q))))
        | else-u-v w ↦ w.value-is ∙ ap not (word_test fu fv ∙ is_same u v (word_is fu fv w.if-u-v.false))
            ∙ ap (λ (b : Bool). not b && same (ends u) 1)
            (sym (is_same u v (word_is fu fv w.if-u-v.false)))
      ]

pub returns-then-edge_ends-eq1 : goal.returns-then-edge_ends-eq1
unfolding same
returns-then-edge_ends-eq1 c =
    ap (λ (b : Bool). b && same c.edge_ends-then-edge_ends-eq1.result 1)
    (sym c.if-edge_ends-eq1.true ∙ pair c.before.before)
    ∙ isolated_is c.args.edges.ranged c.args.i c.requires _ _ _ _ refl refl refl
    (c.edge_ends-then-edge_ends-eq1.ensures.0
    ∙ ap (ends c.before.before) (to_z-of_z {w = w64} (sfits_of c.v-1.given)))

pub returns-else-edge_ends-eq1 : goal.returns-else-edge_ends-eq1
unfolding same
returns-else-edge_ends-eq1 c =
    c.if-edge_ends-eq1.false
    ∙ ap (λ (b : Bool). b && same (ends c.before (v c.before)) 1) (sym c.if-edge_ends-eq1.false ∙ pair c.before)
    ∙ isolated_is c.args.edges.ranged c.args.i c.requires _ _ _ _ refl refl refl refl
