-- The new edge's positions, after those of the rows: no two positions have one directed edge. Assumes nothing.
use mathlib.Core.Path.{◌≡◌, refl, sym, ap, ◌∙◌}
use mathlib.Core.Logic.{◌⊎◌, inl, inr}
use mathlib.Core.Bool.{Bool, true, false, cond}
use mathlib.Core.List.{List}
use Prim.Native.Nat.{ℕ, ◌+◌, ◌*◌, ◌/◌, ◌%◌, ◌<◌}
use native.Mathlib.Omega.{arith}
use lib.IntN.{ℤ}
use Rattle.lists.specs.Tests.{same}
use Rattle.lists.proofs.Bools.{equal?, same_eq, same_false, same_true, differ, not-true}
use Rattle.planar_maps.specs.Map.{Dart, fwd, bwd}
use Rattle.planar_maps.specs.Rings.{same_dart}
use Rattle.planar_maps.proofs.Rings.{same_dart_refl, same_dart-true, dart_is}
use Rattle.map.specs.Links.{instead}
use Rattle.map_rows.specs.Rows.{edge_at, EdgeRows}
use Rattle.darts.specs.Positions.{odd, dart_at}
use Rattle.darts.proofs.Positions.{side, even_of, odd_of, number_injective}
use Rattle.reason_corners.specs.Drawing.{drawn_dart}

module _ (l : List ℤ) (e new : ℕ) where
  -- the rows' positions
  pub place_old : (p : ℕ) → p < e * 2 → drawn_dart l e new p ≡ dart_at l p
  place_old p h = dart_is (ap (λ (b : Bool). cond b new (edge_at l (p / 2)).number)
      (same_false (p / 2) e (λ q. omega arith))) refl

  -- the new edge's
  pub place_forward : drawn_dart l e new (e * 2) ≡ fwd new
  place_forward = dart_is (ap (λ (b : Bool). cond b new (edge_at l (e * 2 / 2)).number)
      (same_eq (e * 2 / 2) e (omega arith))) (even_of (e * 2) (omega arith)).test

  pub place_backward : drawn_dart l e new (e * 2 + 1) ≡ bwd new
  place_backward = dart_is (ap (λ (b : Bool). cond b new (edge_at l ((e * 2 + 1) / 2)).number)
      (same_eq ((e * 2 + 1) / 2) e (omega arith))) (odd_of (e * 2 + 1) (omega arith)).test

-- a position is a row's, or the new edge's
pub which_place : (e p : ℕ) → p < e * 2 + 2 → (p < e * 2) ⊎ ((p ≡ e * 2) ⊎ (p ≡ e * 2 + 1))
which_place e p h =
    elim (equal? p (e * 2)) [
      | inl a ↦ inr (inl a)
      | inr a ↦ elim (equal? p (e * 2 + 1)) [ inl b ↦ inr (inr b) | inr b ↦ inl (omega arith) ]
    ]

module _ {l : List ℤ} {e : ℕ} (t : EdgeRows l e) (new : ℕ)
    (fresh : (i : ℕ) → i < e → ((edge_at l i).number ≡ new) → ⊥) where
  abbrev number : ℕ → ℕ
  number i = cond (same i e) new (edge_at l i).number

  number-one : (i j : ℕ) → i < e + 1 → j < e + 1 → number i ≡ number j → i ≡ j
  number-one i j h k q = go (equal? i e) (equal? j e)
    where
      is : (i : ℕ) → i ≡ e → number i ≡ new
      is i a = ap (λ (b : Bool). cond b new (edge_at l i).number) (same_eq i e a)

      old : (i : ℕ) → ((i ≡ e) → ⊥) → number i ≡ (edge_at l i).number
      old i a = ap (λ (b : Bool). cond b new (edge_at l i).number) (same_false i e a)

      go : (i ≡ e) ⊎ ((i ≡ e) → ⊥) → (j ≡ e) ⊎ ((j ≡ e) → ⊥) → i ≡ j
      go (inl a) (inl b) = a ∙ sym b
      go (inl a) (inr b) = absurd (fresh j (omega arith) (sym (old j b) ∙ sym q ∙ is i a))
      go (inr a) (inl b) = absurd (fresh i (omega arith) (sym (old i a) ∙ q ∙ is j b))
      go (inr a) (inr b) = number_injective t i j (omega arith) (omega arith) (sym (old i a) ∙ q ∙ old j b)

  pub place-one : (p q : ℕ) → p < e * 2 + 2 → q < e * 2 + 2 → drawn_dart l e new p ≡ drawn_dart l e new q → p ≡ q
  place-one p q h k r =
      let f : p / 2 ≡ q / 2 = number-one (p / 2) (q / 2) (omega arith) (omega arith) (ap (λ (d : Dart). d.edge) r) in
      let g : odd p ≡ odd q = ap (λ (d : Dart). d.back) r in
      elim (side p) [
        | inl a ↦ let x = a.rest in let s = differ (q % 2) 1 (sym g ∙ a.test) in omega arith
        | inr a ↦ let x = a.rest in let s = same_true (q % 2) 1 (sym g ∙ a.test) in omega arith
      ]

  pub place_test : (p q : ℕ) → p < e * 2 + 2 → q < e * 2 + 2 → same_dart (drawn_dart l e new p) (drawn_dart l e new q)
      ≡ same p q
  place_test p q h k =
      elim (equal? p q) [
        | inl a ↦ ap (λ (j : ℕ). same_dart (drawn_dart l e new j) (drawn_dart l e new q)) a
            ∙ same_dart_refl (drawn_dart l e new q) ∙ sym (same_eq p q a)
        | inr a ↦ not-true (same_dart (drawn_dart l e new p) (drawn_dart l e new q))
            (λ s. a (place-one p q h k (same_dart-true (drawn_dart l e new p) (drawn_dart l e new q) s)))
            ∙ sym (same_false p q a)
      ]

  -- one position for another is one directed edge for another
  pub place-instead : (q old x : ℕ) (d : Dart) → q < e * 2 + 2 → old < e * 2 + 2 → drawn_dart l e new x ≡ d
      → drawn_dart l e new (cond (same q old) x q) ≡ instead (drawn_dart l e new old) d (drawn_dart l e new q)
  place-instead q old x d h k r = rw (place_test q old h k, ← r) (go (same q old))
    where
      go : (b : Bool) → drawn_dart l e new (cond b x q) ≡ cond b (drawn_dart l e new x) (drawn_dart l e new q)
      go true = refl
      go false = refl

-- one of two
pub instead_below : (n q old x : ℕ) → q < n → x < n → cond (same q old) x q < n
instead_below n q old x h k = go (same q old)
  where
    go : (b : Bool) → cond b x q < n
    go true = k
    go false = h
