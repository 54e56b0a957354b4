-- The first reason of kind 4, test by test. Assumes nothing.
use mathlib.Core.Path.{◌≡◌, refl, sym, ap₂, ◌∙◌}
use mathlib.Core.Bool.{Bool, true, false, not, ◌&&◌, ◌||◌}
use mathlib.Core.List.{List, ◌∷◌}
use mathlib.Core.Option.{get_or}
use Prim.Native.Nat.{ℕ, ◌/◌, ◌≤◌, ◌<◌}
use lib.ListN.{length}
use native.Mathlib.Omega.{arith}
use lib.IntN.{ℤ, nat_abs}
use Rattle.lists.specs.Tests.{same}
use Rattle.lists.specs.Scans.{is_some}
use Rattle.curves.specs.Curves.{curve_of}
use Rattle.map.specs.declared.Head.{Head}
use Rattle.map.specs.Limits.{edge_width, last_number}
use Rattle.map.specs.Rows.{counts}
use Rattle.map.specs.Reasons.{Reasons, first_reason, meeting_reasons}
use Rattle.map_rows.specs.Rows.{node_at, node_map}
use Rattle.head.specs.Heads.{sizes_in, room_at}
use Rattle.head.proofs.Heads.{room_left}
use Rattle.reason_curves.specs.Sent.{curve_reasons_at, edges_but}
use Rattle.map.proofs.Reasons.{first_hit, first_miss, first_append, first_after, first_zero}
use Rattle.edit_isolated.specs.Isolated.{meeting_or_room_reasons, isolated_reasons}

-- from 14 on
module _ (nodes edges faces : List ℤ) (h : Head) (c : List ℤ) where
  abbrev meeting : Reasons
  meeting = meeting_reasons (node_map nodes (nat_abs h.nodes)) (edges_but edges (nat_abs h.edges) (nat_abs h.edges))
      (curve_of c)

  abbrev room : Reasons
  room = room_at (sizes_in nodes edges faces) h (counts 0 1 0) (counts 0 1 0)

  -- the reasons of the curve, with the counts as they were read
  pub meeting_told : {r n k : ℕ} → r ≡ first_reason (meeting_reasons (node_map nodes n) (edges_but edges k k) (curve_of c))
      → n ≡ nat_abs h.nodes → k ≡ nat_abs h.edges → r ≡ first_reason
      (meeting_reasons (node_map nodes (nat_abs h.nodes))
      (edges_but edges (nat_abs h.edges) (nat_abs h.edges)) (curve_of c))
  meeting_told e en ek = e ∙ ap₂ (λ (n k : ℕ). first_reason
      (meeting_reasons (node_map nodes n) (edges_but edges k k) (curve_of c))) en ek

  pub late_meeting : {r : ℕ} → 0 < r → r ≡ first_reason
      (meeting_reasons (node_map nodes (nat_abs h.nodes))
      (edges_but edges (nat_abs h.edges) (nat_abs h.edges)) (curve_of c)) → r
      ≡ first_reason (meeting_or_room_reasons nodes edges faces h c)
  late_meeting {r} some m = sym (first_append meeting room r some (sym m))

  pub late_room : {r : ℕ} → first_reason
      (meeting_reasons (node_map nodes (nat_abs h.nodes))
      (edges_but edges (nat_abs h.edges) (nat_abs h.edges)) (curve_of c)) ≡ 0 → r
      ≡ first_reason (room_at (sizes_in nodes edges faces) h (counts 0 1 0) (counts 0 1 0))
      → r ≡ first_reason (meeting_or_room_reasons nodes edges faces h c)
  late_room m g = g ∙ sym (first_after meeting room refl m)

-- from 7 on
module _ (nodes edges faces : List ℤ) (h : Head) (u v : ℕ) (c : List ℤ) where
  abbrev ends : Reasons
  ends = curve_reasons_at (curve_of c) (node_at nodes u).at (node_at nodes v).at

  abbrev late : Reasons
  late = meeting_or_room_reasons nodes edges faces h c

  abbrev joined : Bool
  joined = same u v || not (is_some (node_at nodes u).face && is_some (node_at nodes v).face)

  abbrev apart : Bool
  apart = not (same (get_or (node_at nodes u).face 0) (get_or (node_at nodes v).face 0))

  both_of : joined ≡ false → (is_some (node_at nodes u).face ≡ true) × (is_some (node_at nodes v).face ≡ true)
  both_of q = go (same u v) (is_some (node_at nodes u).face) (is_some (node_at nodes v).face) q
    where
      go : (a x y : Bool) → a || not (x && y) ≡ false → (x ≡ true) × (y ≡ true)
      go true x y e = let z : ◌≡◌ {A = ℕ} 0 1 = cc in absurd (omega arith)
      go false true true e = (refl, refl)
      go false true false e = let z : ◌≡◌ {A = ℕ} 0 1 = cc in absurd (omega arith)
      go false false y e = let z : ◌≡◌ {A = ℕ} 0 1 = cc in absurd (omega arith)

  pub isolated_ends : {r : ℕ} → r ≡ first_reason (curve_reasons_at (curve_of c) (node_at nodes u).at (node_at nodes v).at)
      → 0 < r → r ≡ first_reason (isolated_reasons nodes edges faces h u v c)
  isolated_ends {r} e some = sym (first_append ends ((9, joined) ∷ (12, apart) ∷ late) r some (sym e))

  module _ (e : first_reason (curve_reasons_at (curve_of c) (node_at nodes u).at (node_at nodes v).at) ≡ 0) where
    after_ends : first_reason (isolated_reasons nodes edges faces h u v c)
        ≡ first_reason ((9, joined) ∷ (12, apart) ∷ late)
    after_ends = first_after ends ((9, joined) ∷ (12, apart) ∷ late) refl e

    pub isolated-joined : {b : Bool} → b ≡ joined → b ≡ true
        → 9 ≡ first_reason (isolated_reasons nodes edges faces h u v c)
    isolated-joined q t = sym (after_ends ∙ first_hit 9 joined ((12, apart) ∷ late) (sym q ∙ t))

    module _ {b : Bool} (q : b ≡ joined) (t : b ≡ false) where
      after-joined : first_reason (isolated_reasons nodes edges faces h u v c) ≡ first_reason ((12, apart) ∷ late)
      after-joined = after_ends ∙ first_miss 9 joined ((12, apart) ∷ late) (sym q ∙ t)

      pub both-isolated : (is_some (node_at nodes u).face ≡ true) × (is_some (node_at nodes v).face ≡ true)
      both-isolated = both_of (sym q ∙ t)

      module _ {d : Bool} (p : d ≡ apart) where
        pub isolated-apart : d ≡ true → 12 ≡ first_reason (isolated_reasons nodes edges faces h u v c)
        isolated-apart w = sym (after-joined ∙ first_hit 12 apart late (sym p ∙ w))

        pub isolated_late : d ≡ false → {r : ℕ} → r ≡ first_reason (meeting_or_room_reasons nodes edges faces h c) → r
            ≡ first_reason (isolated_reasons nodes edges faces h u v c)
        isolated_late w g = g ∙ sym (after-joined ∙ first_miss 12 apart late (sym p ∙ w))

  -- no reason at all
  pub isolated-free : first_reason (isolated_reasons nodes edges faces h u v c) ≡ 0
      → (is_some (node_at nodes u).face ≡ true) × (nat_abs h.edges < length edges / edge_width)
      × (nat_abs h.next_edge ≤ last_number)
  isolated-free e =
      let e₇ = first_zero 7 _ _ (omega arith) e in
      let e₈ = first_zero 8 _ _ (omega arith) e₇.1 in
      let e₉ = first_zero 9 joined _ (omega arith) e₈.1 in
      let e₁₂ = first_zero 12 _ _ (omega arith) e₉.1 in
      let e₁₄ = first_zero 14 _ _ (omega arith) e₁₂.1 in
      let e₂₃ = first_zero 23 _ _ (omega arith) e₁₄.1 in
      let e₁₅ = first_zero 15 _ _ (omega arith) e₂₃.1 in
      let e₂₄ = first_zero 24 _ _ (omega arith) e₁₅.1 in
      let r = room_left (sizes_in nodes edges faces) h (counts 0 1 0) (counts 0 1 0) e₂₄.1 in
      ((both_of e₉.0).0, omega (arith, r.edges), omega (arith, r.next_edge))
