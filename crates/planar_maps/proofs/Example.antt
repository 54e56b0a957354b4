-- The theorems applied: two nodes, an edge between them that joins two pieces, and a second edge that splits the face.
-- Assumes nothing.
use mathlib.Core.Path.{◌≡◌, refl, sym, ap, ◌∙◌}
use mathlib.Core.Bool.{cond, ◌||◌}
use mathlib.Core.List.Memᴰ
use mathlib.Core.List.{[], ◌∷◌}
use Prim.Native.Nat.{ℕ}
use native.Mathlib.Omega.{arith}
use Rattle.lists.specs.Tests.{same}
use Rattle.lists.proofs.Members.{each-cons}
use Rattle.planar_maps.specs.Map.{Dart, fwd, bwd}
use Rattle.planar_maps.specs.Pieces.{pieces, label}
use Rattle.planar_maps.specs.Rings.{same_dart}
use Rattle.planar_maps.specs.Weave.{exchange, with_edge, alone, after, woven}
use Rattle.planar_maps.specs.Planar.{Planar}
use Rattle.planar_maps.proofs.Moves.{planar_empty, planar_node}
use Rattle.planar_maps.proofs.Weaving.{planar_join, planar_split}
use Rattle.planar_maps.proofs.Subdivide.{arc}

abbrev T₁ : Dart → ℕ
T₁ = with_edge 1 1 2 (λ d. 0)

abbrev N₁ : Dart → Dart
N₁ = woven 1 alone alone (λ d. d)

abbrev F₁ : Dart → ℕ
F₁ = with_edge 1 0 0 (λ d. 0)

one≢two : (◌≡◌ {A = ℕ} 1 2) → ⊥
one≢two e = omega arith

two_nodes : Planar (2 ∷ 1 ∷ []) [] (λ d. 0) (λ d. d) (λ d. 0) 1
two_nodes = planar_node (planar_node (planar_empty (λ d. 0) (λ d. d) (λ d. 0)) 1 Memᴰ.not-nil) 2
    (λ m. one≢two (sym (Memᴰ.eq_of_singleton m)))

joined : Planar (2 ∷ 1 ∷ []) (arc 1 1 2 ∷ []) T₁ N₁ F₁ 1
unfolding with_edge same
joined = planar_join two_nodes (arc 1 1 2) Memᴰ.not-nil (Memᴰ.tail (Memᴰ.head refl))
    (Memᴰ.head refl) 0 alone alone
    (λ d m. absurd (Memᴰ.not-nil m)) (λ d m e. one≢two (sym (ap T₁ (Memᴰ.eq_of_singleton m)) ∙ e)) (1, refl)

abbrev N₂ : Dart → Dart
N₂ = woven 2 (after (bwd 1)) (after (fwd 1)) N₁

F₂ : Dart → ℕ
F₂ d = cond (same_dart d (fwd 2) || same_dart d (bwd 1)) 1 0

split : Planar (2 ∷ 1 ∷ []) (arc 2 1 2 ∷ arc 1 1 2 ∷ []) (with_edge 2 1 2 T₁) N₂ F₂ 2
unfolding with_edge same same_dart exchange F₂
split = planar_split joined (arc 2 1 2) (λ m. one≢two (sym (Memᴰ.eq_of_singleton m)))
    (Memᴰ.tail (Memᴰ.head refl)) (Memᴰ.head refl) 0 (after (bwd 1)) (after (fwd 1))
    (Memᴰ.head refl, refl, refl) (Memᴰ.tail (Memᴰ.tail (Memᴰ.head refl)), refl, refl)
    F₂ (λ f. 0) (record {
      others = each-cons {p = λ d. 0 ≡ F₁ d} refl
          (each-cons {p = λ d. 0 ≡ F₁ d} refl (λ d m. absurd (Memᴰ.not-nil m)));
      sides = refl;
    }) (λ e. zero≢one (sym e))
    (each-cons {p = λ d. F₂ (N₂ d) ≡ F₂ d} refl
    (each-cons {p = λ d. F₂ (N₂ d) ≡ F₂ d} refl
    (each-cons {p = λ d. F₂ (N₂ d) ≡ F₂ d} refl
    (each-cons {p = λ d. F₂ (N₂ d) ≡ F₂ d} refl (λ d m. absurd (Memᴰ.not-nil m))))))
  where
    zero≢one : (◌≡◌ {A = ℕ} 0 1) → ⊥
    zero≢one e = omega arith

one_piece : pieces (2 ∷ 1 ∷ []) (arc 2 1 2 ∷ arc 1 1 2 ∷ []) ≡ 1
unfolding pieces label same
one_piece = refl
