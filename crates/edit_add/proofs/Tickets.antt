-- Kinds 11 and 12 as tickets: 4 where a node is missing, 5 and 6 by the points sent, and else what is done along the
-- points left. Assumes nothing.
use mathlib.Core.Path.{◌≡◌, refl, sym, ap, ◌∙◌}
use mathlib.Core.Bool.{true, false, ◌||◌}
use mathlib.Core.List.{List}
use Prim.Native.Nat.{ℕ, ◌<◌}
use lib.IntN.{ℤ, pos, nat_abs}
use Rattle.curves.specs.Curves.{Curve}
use Rattle.map.specs.declared.Head.{Head}
use Rattle.map.specs.declared.Variant.{Variant}
use Rattle.map.specs.declared.Variant.TheVariants.{New, Mod}
use Rattle.map.specs.Limits.{most_points}
use Rattle.map.specs.Rows.{Map, Sizes, map_of, sizes_of, lent}
use Rattle.map.specs.Edits.{add_edge}
use Rattle.map.specs.Reasons.{first_reason, reasons, no_node, sent_reasons, curve_in, curve_ticket_reasons, add_edge_reasons}
use Rattle.map.specs.Ticket.{carried}
use Rattle.map.proofs.Reasons.{first_hit}
use Rattle.map_rows.specs.Rows.{node_at}
use Rattle.outcomes.specs.Outcomes.{Formed, edited_unless, edited}
use Rattle.outcomes.specs.Variants.{add_ticket}
use Rattle.outcomes.proofs.Formed.{against_sent, by_points_left}
use Rattle.outcomes.proofs.FoundRows.{node_there_lem}
use Rattle.edit_add.specs.Along.{added_along}

module _ (m : Map) (a b : ℤ) (sent : List ℤ) where
  add-reasons : (s : Sizes) (how : Variant) → reasons s m (add_ticket how a b sent)
      ≡ curve_ticket_reasons s (no_node m a || no_node m b) sent (add_edge_reasons how s m (nat_abs a) (nat_abs b))
  unfolding reasons
  add-reasons s New = refl
  add-reasons s Mod = refl

  -- a node that is missing
  pub missing : (s : Sizes) (how : Variant) → no_node m a || no_node m b ≡ true
      → first_reason (reasons s m (add_ticket how a b sent)) ≡ 4
  missing s how e = ap first_reason (add-reasons s how) ∙ first_hit 4 (no_node m a || no_node m b) _ e

  add-carried : (how : Variant) → carried m (add_ticket how a b sent)
      ≡ (add_edge how (nat_abs a) (nat_abs b) (curve_in sent) m, pos m.next.edges)
  unfolding carried
  add-carried New = refl
  add-carried Mod = refl

module _ {nodes edges faces : List ℤ} {h : Head} (f : Formed nodes edges faces h) (how : Variant) where
  abbrev m : Map
  m = map_of (lent nodes edges faces h)

  abbrev s : Sizes
  s = sizes_of (lent nodes edges faces h)

  -- between the nodes of two rows
  module _ (u v : ℕ) (hu : u < nat_abs h.nodes) (hv : v < nat_abs h.nodes) (sent : List ℤ) where
    abbrev a : ℕ
    a = (node_at nodes u).number

    abbrev b : ℕ
    b = (node_at nodes v).number

    there : no_node m (pos a) || no_node m (pos b) ≡ false
    there = rw (node_there_lem f u hu, node_there_lem f v hv)

    pub add-refused : (r : ℕ) → 0 < r → first_reason (sent_reasons (most_points s.limit) sent) ≡ r
        → first_reason (reasons s m (add_ticket how (pos a) (pos b) sent)) ≡ r
    add-refused = against_sent (lent nodes edges faces h) (add_ticket how (pos a) (pos b) sent) there sent
        (add_edge_reasons how s m a b) (add-reasons m (pos a) (pos b) sent s how)

    pub add_left : first_reason (sent_reasons (most_points s.limit) sent) ≡ 0 → {c : Curve} → c ≡ curve_in sent
        → added_along how (lent nodes edges faces h) a b c
        ≡ edited (lent nodes edges faces h) (add_ticket how (pos a) (pos b) sent)
    add_left passed e =
        ap (added_along how (lent nodes edges faces h) a b) e
        ∙ ap (edited_unless (lent nodes edges faces h) (add_edge_reasons how s m a b (curve_in sent)))
        (sym (add-carried m (pos a) (pos b) sent how))
        ∙ by_points_left (lent nodes edges faces h) (add_ticket how (pos a) (pos b) sent) there sent
        (add_edge_reasons how s m a b) (add-reasons m (pos a) (pos b) sent s how) passed
