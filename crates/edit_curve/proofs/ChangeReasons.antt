-- The first reason of kind 6, test by test. Assumes nothing.
use mathlib.Core.Path.{◌≡◌, refl, sym, ◌∙◌}
use mathlib.Core.Bool.{Bool, true, false}
use mathlib.Core.List.{List, [], ◌∷◌, ◌++◌}
use Prim.Native.Nat.{ℕ, ◌<◌}
use lib.IntN.{ℤ, nat_abs}
use Rattle.curves.specs.Curves.{curve_of}
use Rattle.map.specs.declared.Head.{Head}
use Rattle.map.specs.Reasons.{Reasons, first_reason, meeting_reasons, order_changes}
use Rattle.map_rows.specs.Rows.{node_at, node_map, edge_at, edge_map}
use Rattle.reason_curves.specs.Sent.{curve_reasons_at, edges_but}
use Rattle.map.proofs.Reasons.{first_hit, first_miss, first_none, first_append, first_after}
use Rattle.edit_curve.specs.Change.{taken_at, turn_reasons, change_reasons}

-- from 11 on
module _ (nodes : List ℤ) (n : ℕ) (edges : List ℤ) (count i : ℕ) (c : List ℤ) where
  abbrev meeting : Reasons
  meeting = meeting_reasons (node_map nodes n) (edges_but edges count i) (curve_of c)

  abbrev turned : Bool
  turned = order_changes (edge_map edges count) (edge_at edges i).number (curve_of c)

  pub turn-taken : {b : Bool} → b ≡ taken_at edges count i c → b ≡ true → 11
      ≡ first_reason (turn_reasons nodes n edges count i c)
  turn-taken q t = sym (first_hit 11 (taken_at edges count i c) (meeting ++ (19, turned) ∷ []) (sym q ∙ t))

  module _ {b : Bool} (q : b ≡ taken_at edges count i c) (t : b ≡ false) where
    after-taken : first_reason (turn_reasons nodes n edges count i c) ≡ first_reason (meeting ++ (19, turned) ∷ [])
    after-taken = first_miss 11 (taken_at edges count i c) (meeting ++ (19, turned) ∷ []) (sym q ∙ t)

    pub turn-meeting : {r : ℕ} → r ≡ first_reason
        (meeting_reasons (node_map nodes n) (edges_but edges count i) (curve_of c)) → 0 < r → r
        ≡ first_reason (turn_reasons nodes n edges count i c)
    turn-meeting {r} m some = sym (after-taken ∙ first_append meeting ((19, turned) ∷ []) r some (sym m))

    module _ (m : first_reason (meeting_reasons (node_map nodes n) (edges_but edges count i) (curve_of c)) ≡ 0) {d : Bool}
        (p : d ≡ order_changes (edge_map edges count) (edge_at edges i).number (curve_of c)) where
      after-meeting : first_reason (turn_reasons nodes n edges count i c) ≡ first_reason ((19, turned) ∷ [])
      after-meeting = after-taken ∙ first_after meeting ((19, turned) ∷ []) refl m

      pub turn-turned : d ≡ true → 19 ≡ first_reason (turn_reasons nodes n edges count i c)
      turn-turned w = sym (after-meeting ∙ first_hit 19 turned [] (sym p ∙ w))

      pub turn-free : d ≡ false → 0 ≡ first_reason (turn_reasons nodes n edges count i c)
      turn-free w = sym (after-meeting ∙ first_miss 19 turned [] (sym p ∙ w) ∙ first_none)

-- from 7 on
module _ (nodes edges : List ℤ) (h : Head) (i u v : ℕ) (c : List ℤ) where
  abbrev ends : Reasons
  ends = curve_reasons_at (curve_of c) (node_at nodes u).at (node_at nodes v).at

  abbrev turns : Reasons
  turns = turn_reasons nodes (nat_abs h.nodes) edges (nat_abs h.edges) i c

  pub change_ends : {r : ℕ} → r ≡ first_reason (curve_reasons_at (curve_of c) (node_at nodes u).at (node_at nodes v).at)
      → 0 < r → r ≡ first_reason (change_reasons nodes edges h i u v c)
  change_ends {r} e some = sym (first_append ends turns r some (sym e))

  pub change_turns : {r : ℕ} → first_reason (curve_reasons_at (curve_of c) (node_at nodes u).at (node_at nodes v).at) ≡ 0
      → r ≡ first_reason (turn_reasons nodes (nat_abs h.nodes) edges (nat_abs h.edges) i c)
      → r ≡ first_reason (change_reasons nodes edges h i u v c)
  change_turns e g = g ∙ sym (first_after ends turns refl e)

  -- 22 behind them
  module _ (b : Bool) where
    pub redraw_changed : {r : ℕ} → r ≡ first_reason (change_reasons nodes edges h i u v c) → 0 < r
        → r ≡ first_reason (change_reasons nodes edges h i u v c ++ (22, b) ∷ [])
    redraw_changed {r} e some = sym (first_append (ends ++ turns) ((22, b) ∷ []) r some (sym e))

    module _ (e : first_reason (change_reasons nodes edges h i u v c) ≡ 0) where
      after-changed : first_reason (change_reasons nodes edges h i u v c ++ (22, b) ∷ []) ≡ first_reason ((22, b) ∷ [])
      after-changed = first_after (ends ++ turns) ((22, b) ∷ []) refl e

      pub redraw_sides : b ≡ true → 22 ≡ first_reason (change_reasons nodes edges h i u v c ++ (22, b) ∷ [])
      redraw_sides t = sym (after-changed ∙ first_hit 22 b [] t)

      pub redraw_free : b ≡ false → 0 ≡ first_reason (change_reasons nodes edges h i u v c ++ (22, b) ∷ [])
      redraw_free t = sym (after-changed ∙ first_miss 22 b [] t ∙ first_none)
