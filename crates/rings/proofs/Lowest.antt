-- Directed edges in the order of positions, and what of a ring is lower than its first directed edge, turn by turn.
-- Assumes nothing.
use mathlib.Core.Path.{◌≡◌, sym, ap, ◌∙◌}
use mathlib.Core.Bool.{Bool, true, false, not, ◌&&◌, ◌||◌, false≢true}
use mathlib.Core.Logic.{inl, inr}
use mathlib.Core.List.{List, [], ◌∷◌}
use Prim.Native.Nat.{ℕ, zero, suc, ◌+◌, ◌*◌, ◌-◌, ◌/◌, ◌%◌, ◌<◌, ◌≤◌}
use native.Mathlib.Nat.{eq-or-lt_of_le}
use native.Mathlib.Omega.{arith}
use lib.Dec.{ltb}
use lib.IntN.{ℤ, pos}
use lib.ListN.{get_or}
use borrow.Author.Tests.{ltb-true, lt-ltb}
use Rattle.lists.specs.Tests.{same}
use Rattle.lists.specs.Scans.{any_of}
use Rattle.lists.proofs.Bools.{same_true, same_eq, same_false, not-true, or-true, or_right, equal?, either}
use Rattle.lists.proofs.Bools.{and_left, and_right}
use Rattle.tables.proofs.Order.{rise, lt_or_ge}
use Rattle.planar_maps.specs.Map.{Dart}
use Rattle.planar_maps.specs.Rings.{same_dart}
use Rattle.map.specs.Limits.{edge_width}
use Rattle.map.specs.Darts.{next, steps_to, lower}
use Rattle.map_rows.specs.Rows.{edge_at, edge_map, EdgeRows}
use Rattle.map_rows.proofs.Rows.{edge_rows_rising}
use Rattle.darts.specs.Positions.{dart_at}
use Rattle.darts.proofs.Positions.{side, even_of, odd_of, cells_of_lem, number_injective}
use Rattle.rings.proofs.Walks.{steps, Follows, steps_on, steps_last}

-- ---- a lower position is a lower directed edge

module _ {l : List ℤ} {n : ℕ} (t : EdgeRows l n) where
  rises : (i j : ℕ) → i < j → j < n → (edge_at l i).number < (edge_at l j).number
  rises i j s h =
      let f : ℕ → ℤ = λ k. get_or l (k * edge_width) (pos 0) in
      let e = rise f n (edge_rows_rising t).rising i j s h in
      let a = (cells_of_lem t i (omega arith)).number in
      let b = (cells_of_lem t j h).number in
      ltb-true (edge_at l i).number (edge_at l j).number (rw (a, b) at e)

  pub lower-before : (k p : ℕ) → k < n * 2 → p < n * 2 → k < p → lower (dart_at l k) (dart_at l p) ≡ true
  lower-before k p u v h =
      let a = (edge_at l (k / 2)).number in
      let b = (edge_at l (p / 2)).number in
      elim (equal? (k / 2) (p / 2)) [
        | inl e ↦
            let even = (even_of k (omega arith)).test in
            let odd = (odd_of p (omega arith)).test in
            let one = same_eq a b (ap (λ (i : ℕ). (edge_at l i).number) e) in
            or_right (ltb a b) (same a b && not (dart_at l k).back && (dart_at l p).back) (rw (one, even, odd))
        | inr e ↦ let s = lt-ltb a b (rises (k / 2) (p / 2) (omega arith) (omega arith)) in rw s
      ]

  pub before-lower : (k p : ℕ) → k < n * 2 → p < n * 2 → lower (dart_at l k) (dart_at l p) ≡ true → k < p
  before-lower k p u v e =
      let a = (edge_at l (k / 2)).number in
      let b = (edge_at l (p / 2)).number in
      elim (or-true (ltb a b) (same a b && not (dart_at l k).back && (dart_at l p).back) e) [
        | inl s ↦
            let less = ltb-true a b s in
            elim (lt_or_ge (k / 2) (p / 2)) [
              | inl t ↦ omega arith
              | inr t ↦ elim (eq-or-lt_of_le t) [
                | inl q ↦ let one : b ≡ a = ap (λ (i : ℕ). (edge_at l i).number) q in absurd (omega arith)
                | inr q ↦ let more = rises (p / 2) (k / 2) q (omega arith) in absurd (omega arith)
              ]
            ]
        | inr s ↦
            let x = same a b && not (dart_at l k).back in
            let row = number_injective t (k / 2) (p / 2) (omega arith) (omega arith)
            (same_true a b (and_left (same a b) (not (dart_at l k).back) (and_left x (dart_at l p).back s))) in
            let odd-p = same_true (p % 2) 1 (and_right x (dart_at l p).back s) in
            elim (side k) [
              | inl t ↦ let r = t.rest in omega arith
              | inr t ↦ absurd (false≢true
                  (sym (ap not t.test)
                  ∙ and_right (same a b) (not (dart_at l k).back) (and_left x (dart_at l p).back s)))
            ]
      ]

-- ---- what is left of the ring of p from position c on, which is not lower

-- a directed edge among them is lower than p
abbrev pub any_lower : List ℤ → ℕ → List Dart → Bool
any_lower l p r = any_of (λ c. lower c (dart_at l p)) r

module _ {l : List ℤ} {n : ℕ} (t : EdgeRows l n) (p : ℕ) (hp : p < n * 2) (k c : ℕ) (hc : c < n * 2) (from : p ≤ c)
    (h : k < n * 2) where
  rest_lower : (r : List Dart) → steps l n p (n * 2 - k) c ≡ dart_at l c ∷ r → any_lower l p (steps l n p (n * 2 - k) c)
      ≡ any_lower l p r
  rest_lower r e =
      ap (any_lower l p) e
      ∙ ap (λ (b : Bool). b || any_lower l p r) (not-true (lower (dart_at l c) (dart_at l p))
      (λ q. let s = before-lower t c p hc hp q in omega arith))

  -- it is the last
  pub lower-end : n * 2 ≤ k + 1 → any_lower l p (steps l n p (n * 2 - k) c) ≡ false
  unfolding steps_to
  lower-end end = let e : n * 2 - k ≡ suc zero = omega arith in
      rest_lower [] (rw (e, either {A = List Dart} (same_dart (next (edge_map l n) (dart_at l c)) (dart_at l p)) []))

  module _ (s : ℕ) (f : Follows l n c s) where
    -- the walk goes on
    pub lower_on : (s ≡ p → ⊥) → any_lower l p (steps l n p (n * 2 - k) c)
        ≡ any_lower l p (steps l n p (n * 2 - (k + 1)) s)
    lower_on apart = rest_lower (steps l n p (n * 2 - (k + 1)) s) (steps_on t p hp k c h s f apart)

    -- it is back at p
    lower_last : s ≡ p → any_lower l p (steps l n p (n * 2 - k) c) ≡ false
    lower_last is = rest_lower [] (steps_last t p hp k c h s f is)

    -- it meets a lower one
    lower_here : s < p → k + 1 < n * 2 → any_lower l p (steps l n p (n * 2 - k) c) ≡ true
    unfolding steps_to
    lower_here less more =
        let e : n * 2 - (k + 1) ≡ suc (n * 2 - (k + 1 + 1)) = omega arith in
        lower_on (λ q. omega arith) ∙ rw (e, lower-before t s p f.below hp less)

    -- one or the other
    pub lower-back : s ≤ p → k + 1 < n * 2 → same s p ≡ not (any_lower l p (steps l n p (n * 2 - k) c))
    lower-back most more =
        elim (equal? s p) [
          | inl e ↦ same_eq s p e ∙ ap not (sym (lower_last e))
          | inr e ↦ same_false s p e ∙ ap not (sym (lower_here (omega arith) more))
        ]
