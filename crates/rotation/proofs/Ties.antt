-- Linking in and unlinking a departure are the ties by which planar puts an edge in and takes it out.
-- No two links may lead to one dart; the law is not needed. Assumes nothing.
use mathlib.Core.Path.{◌≡◌, sym, ap, ◌∙◌}
use mathlib.Core.Logic.{inl, inr}
use mathlib.Core.Bool.{Bool, cond}
use mathlib.Core.List.Memᴰ
use mathlib.Core.List.{List, ◌∷◌, Memᴰ}
use Rattle.planar_maps.specs.Map.{Dart}
use Rattle.planar_maps.specs.Rings.{same_dart}
use Rattle.planar_maps.specs.Weave.{exchange, alone, after, tie}
use Rattle.planar_maps.proofs.Rings.{same_dart_refl, same_dart-true}
use Rattle.planar_maps.proofs.Hooks.{sameDart?, exchange-left, exchange_right, exchange_other}
use Rattle.rotation.specs.Law.{Tells, redirect, leading}
use Rattle.rotation.proofs.Tells.{is_yes, is_no}

-- `same_dart` tells darts apart
pub tells : Tells same_dart
tells = record { yes = λ a b e. same_dart-true a b e; self = λ a. same_dart_refl a }

-- a new departure p with the reverse y, which led to p as an edge by itself, and no other at its node: nothing changes
pub link_alone_is_tie : (next : Dart → Dart) (p y d : Dart) → next y ≡ p
    → leading same_dart y p (redirect same_dart p p next) d ≡ tie alone y next d
link_alone_is_tie next p y d ey = elim (sameDart? d y) [
  | inl e ↦ ap (λ (b : Bool). cond b p (redirect same_dart p p next d)) (is_yes tells d y e) ∙ sym (ap next e ∙ ey)
  | inr ne ↦ ap (λ (b : Bool). cond b p (redirect same_dart p p next d)) (is_no tells d y ne)
      ∙ elim (sameDart? (next d) p) [
        | inl e ↦ ap (λ (b : Bool). cond b p (next d)) (is_yes tells (next d) p e)
            ∙ sym e
        | inr q ↦ ap (λ (b : Bool). cond b p (next d)) (is_no tells (next d) p q)
      ]
]

module _ (ds : List Dart) (next : Dart → Dart)
    (one : (d c : Dart) → Memᴰ d ds → Memᴰ c ds → next d ≡ next c → d ≡ c) where
  -- the same with others at its node: x led to c, the first one met. So it is for `link`, where c is `first_clockwise`
  pub link_is_tie : (p y x c : Dart) → (Memᴰ y ds → ⊥) → Memᴰ x ds → next x ≡ c → next y ≡ p → (d : Dart)
      → Memᴰ d (y ∷ ds) → leading same_dart y c (redirect same_dart c p next) d ≡ tie (after x) y next d
  link_is_tie p y x c new mx ex ey d m = elim (sameDart? d y) [
    | inl e ↦ ap (λ (b : Bool). cond b c (redirect same_dart c p next d)) (is_yes tells d y e)
        ∙ sym (ap next (ap (exchange x y) e ∙ exchange_right x y) ∙ ex)
    | inr ne ↦ ap (λ (b : Bool). cond b c (redirect same_dart c p next d)) (is_no tells d y ne)
        ∙ elim (Memᴰ.cases_cons m) [ inl e ↦ absurd (ne e) | inr k ↦ old ne k ]
  ]
    where
      old : ((d ≡ y) → ⊥) → Memᴰ d ds → redirect same_dart c p next d ≡ next (exchange x y d)
      old ne k = elim (sameDart? d x) [
        | inl e ↦ ap (λ (b : Bool). cond b p (next d)) (is_yes tells (next d) c (ap next e ∙ ex))
            ∙ sym (ap next (ap (exchange x y) e ∙ exchange-left x y) ∙ ey)
        | inr nx ↦ ap (λ (b : Bool). cond b p (next d)) (is_no tells (next d) c (λ q. nx (one d x k mx (q ∙ sym ex))))
            ∙ sym (ap next (exchange_other x y d nx ne))
      ]

  -- a departure p with the reverse y is removed, as by `unlink`: x led to p. At every dart but y, which goes
  pub unlink_is_tie : (p y x : Dart) → Memᴰ x ds → next x ≡ p → (d : Dart) → Memᴰ d ds → ((d ≡ y) → ⊥)
      → redirect same_dart p (next y) next d ≡ tie (after x) y next d
  unlink_is_tie p y x mx ex d m ne = elim (sameDart? d x) [
    | inl e ↦ ap (λ (b : Bool). cond b (next y) (next d)) (is_yes tells (next d) p (ap next e ∙ ex))
        ∙ sym (ap next (ap (exchange x y) e ∙ exchange-left x y))
    | inr nx ↦ ap (λ (b : Bool). cond b (next y) (next d))
        (is_no tells (next d) p (λ q. nx (one d x m mx (q ∙ sym ex)))) ∙ sym (ap next (exchange_other x y d nx ne))
  ]
