-- What is left of the ring of p from position c on, with the steps that are left. A walk's turn takes its first
-- directed edge off. Assumes nothing.
use mathlib.Core.Path.{◌≡◌, sym, ap, ◌∙◌}
use mathlib.Core.Bool.{Bool, true, false, cond}
use mathlib.Core.Logic.{inl, inr}
use mathlib.Core.List.{List, [], ◌∷◌, map}
use Prim.Native.Nat.{ℕ, suc, ◌+◌, ◌*◌, ◌-◌, ◌<◌, ◌≤◌}
use native.Mathlib.Nat.{add-zero}
use native.Mathlib.Omega.{arith}
use lib.IntN.{ℤ, pos}
use lib.ListN.{length, get_or, set, drop, length-drop, length-map}
use lib.Seq.{get_or-drop, drop-drop, get_or-set_same, get_or-set_other}
use Rattle.lists.proofs.Bools.{not-true, equal?, either}
use Rattle.planar_maps.specs.Map.{Dart}
use Rattle.planar_maps.specs.Rings.{same_dart}
use Rattle.planar_maps.proofs.Rings.{same_dart_refl, same_dart-true}
use Rattle.map.specs.Rows.{dart_cell}
use Rattle.map.specs.Darts.{next, steps_to, ring, among}
use Rattle.map_rows.specs.Rows.{edge_map, EdgeRows}
use Rattle.tables.proofs.Order.{lt_or_ge}
use Rattle.map_rows.proofs.Rows.{edges_length}
use Rattle.darts.specs.Positions.{dart_at}
use Rattle.darts.proofs.Positions.{dart_injective}

-- the steps from position c, k of them at most
abbrev pub steps : List ℤ → ℕ → ℕ → ℕ → ℕ → List Dart
steps l n p k c = steps_to (edge_map l n) (dart_at l p) k (dart_at l c)

-- the ring of position p
abbrev pub ring_at : List ℤ → ℕ → ℕ → List Dart
ring_at l n p = ring (edge_map l n) (dart_at l p)

pub ring-steps : (l : List ℤ) (n p : ℕ) → ring_at l n p ≡ steps l n p (n * 2 - 0) p
unfolding ring
ring-steps l n p = let e : 2 * length (edge_map l n).edges ≡ n * 2 - 0 = omega (arith, edges_length l n) in
    ap (λ (k : ℕ). steps l n p k p) e

-- as it is written
abbrev pub cells : List ℤ → ℕ → ℕ → List ℤ
cells l n p = map dart_cell (ring_at l n p)

-- position s follows position c
pub record Follows (l : List ℤ) (n c s : ℕ) : Type 0 where
  pub below : s < n * 2
  pub is : dart_at l s ≡ next (edge_map l n) (dart_at l c)

module _ {l : List ℤ} {n : ℕ} (t : EdgeRows l n) where
  other : (c q : ℕ) → c < n * 2 → q < n * 2 → (c ≡ q → ⊥) → same_dart (dart_at l q) (dart_at l c) ≡ false
  other c q h k apart = not-true (same_dart (dart_at l q) (dart_at l c))
      (λ e. apart (dart_injective t c q h k (sym (same_dart-true (dart_at l q) (dart_at l c) e))))

  module _ (p : ℕ) (hp : p < n * 2) (k : ℕ) (c : ℕ) where
    pub steps-end : n * 2 ≤ k → steps l n p (n * 2 - k) c ≡ []
    unfolding steps_to
    steps-end h = let e : n * 2 - k ≡ 0 = omega arith in rw e

    -- it begins with c
    pub met_here : k < n * 2 → (q : ℕ) → c ≡ q → among (steps l n p (n * 2 - k) c) (dart_at l q) ≡ true
    unfolding steps_to
    met_here h q e = let f : n * 2 - k ≡ suc (n * 2 - (k + 1)) = omega arith in rw (f, ← e, same_dart_refl (dart_at l c))

    module _ (h : k < n * 2) (s : ℕ) (f : Follows l n c s) where
      one_more : n * 2 - k ≡ suc (n * 2 - (k + 1))
      one_more = omega arith

      -- the walk goes on
      pub steps_on : (s ≡ p → ⊥) → steps l n p (n * 2 - k) c ≡ dart_at l c ∷ steps l n p (n * 2 - (k + 1)) s
      unfolding steps_to
      steps_on apart =
          let e : same_dart (next (edge_map l n) (dart_at l c)) (dart_at l p) ≡ false =
          rw (← f.is) (other p s hp f.below (λ q. apart (sym q))) in
          rw (one_more, e, ← f.is)

      -- it is back at p
      pub steps_last : s ≡ p → steps l n p (n * 2 - k) c ≡ dart_at l c ∷ []
      unfolding steps_to
      steps_last is =
          let e : same_dart (next (edge_map l n) (dart_at l c)) (dart_at l p) ≡ true =
          rw (← f.is, is) (same_dart_refl (dart_at l p)) in
          rw (one_more, e)

      -- ---- whether q is met

      module _ (hc : c < n * 2) (q : ℕ) (hq : q < n * 2) (apart : c ≡ q → ⊥) where
        pub met_on : (s ≡ p → ⊥) → among (steps l n p (n * 2 - k) c) (dart_at l q)
            ≡ among (steps l n p (n * 2 - (k + 1)) s) (dart_at l q)
        met_on d = ap (λ (r : List Dart). among r (dart_at l q)) (steps_on d) ∙ rw (other c q hc hq apart)

        pub met_last : s ≡ p → among (steps l n p (n * 2 - k) c) (dart_at l q) ≡ false
        met_last e = ap (λ (r : List Dart). among r (dart_at l q)) (steps_last e) ∙ rw (other c q hc hq apart)

      -- ---- the marks, of which that of c is v

      module _ (hc : c < n * 2) (v : ℕ) (marks : List ℕ) (room : n * 2 ≤ length marks) (q : ℕ) (hq : q < n * 2) where
        marked : (r : List Dart) → ((c ≡ q → ⊥) → among (steps l n p (n * 2 - k) c) (dart_at l q) ≡ among r (dart_at l q))
            → cond (among r (dart_at l q)) v (get_or (set marks c v) q 0)
            ≡ cond (among (steps l n p (n * 2 - k) c) (dart_at l q)) v (get_or marks q 0)
        marked r e =
            elim (equal? c q) [
              | inl is ↦
                  ap (cond (among r (dart_at l q)) v)
                  (ap (λ (j : ℕ). get_or (set marks c v) j 0) (sym is) ∙ get_or-set_same marks c v 0 (omega arith))
                  ∙ either (among r (dart_at l q)) v
                  ∙ ap (λ (b : Bool). cond b v (get_or marks q 0)) (sym (met_here h q is))
              | inr apart ↦
                  ap (cond (among r (dart_at l q)) v) (get_or-set_other marks c q v 0 (λ is. apart (sym is)))
                  ∙ ap (λ (b : Bool). cond b v (get_or marks q 0)) (sym (e apart))
            ]

        pub mark_on : (s ≡ p → ⊥) → cond (among (steps l n p (n * 2 - (k + 1)) s) (dart_at l q)) v
            (get_or (set marks c v) q 0) ≡ cond (among (steps l n p (n * 2 - k) c) (dart_at l q)) v (get_or marks q 0)
        mark_on d = marked (steps l n p (n * 2 - (k + 1)) s) (λ a. met_on hc q hq a d)

        pub mark_last : s ≡ p → get_or (set marks c v) q 0
            ≡ cond (among (steps l n p (n * 2 - k) c) (dart_at l q)) v (get_or marks q 0)
        mark_last e = marked [] (λ a. met_last hc q hq a e)

    -- ---- the ring written, of which k numbers are

    module _ (h : k < length (ring_at l n p))
        (left : drop k (cells l n p) ≡ map dart_cell (steps l n p (n * 2 - k) c)) where
      left-length : length (drop k (cells l n p)) ≡ length (ring_at l n p) - k
      left-length = length-drop k (cells l n p) ∙ ap (λ (m : ℕ). m - k) (length-map (ring_at l n p) dart_cell)

      -- some step is left
      pub steps-left : k < n * 2
      steps-left =
          elim (lt_or_ge k (n * 2)) [
            | inl g ↦ g
            | inr g ↦ let e : length (drop k (cells l n p)) ≡ 0 = ap length (left ∙ ap (map dart_cell) (steps-end g)) in
                absurd (omega (arith, left-length))
          ]

      pub written_here : get_or (cells l n p) k (pos 0) ≡ dart_cell (dart_at l c)
      unfolding steps_to
      written_here =
          let f : n * 2 - k ≡ suc (n * 2 - (k + 1)) = omega (arith, steps-left) in
          let e : get_or (drop k (cells l n p)) 0 (pos 0) ≡ dart_cell (dart_at l c) = rw (left, f) in
          ap (λ (j : ℕ). get_or (cells l n p) j (pos 0)) (sym (add-zero k)) ∙ sym (get_or-drop k (cells l n p) 0 (pos 0))
          ∙ e

      -- what is left after it
      pub written_on : (s : ℕ) → Follows l n c s → k + 1 < length (ring_at l n p) → drop (k + 1) (cells l n p)
          ≡ map dart_cell (steps l n p (n * 2 - (k + 1)) s)
      written_on s f g =
          let e : drop (k + 1) (cells l n p) ≡ drop 1 (map dart_cell (steps l n p (n * 2 - k) c)) =
          sym (drop-drop 1 k (cells l n p)) ∙ ap (drop 1) left in
          elim (equal? s p) [
            | inl is ↦
                let z : length (drop (k + 1) (cells l n p)) ≡ 0 =
                ap length (e ∙ ap (λ (r : List Dart). drop 1 (map dart_cell r)) (steps_last steps-left s f is)) in
                absurd (omega (arith, length-drop (k + 1) (cells l n p), length-map (ring_at l n p) dart_cell))
            | inr apart ↦ e ∙ ap (λ (r : List Dart). drop 1 (map dart_cell r)) (steps_on steps-left s f apart)
          ]
