-- The turn about each node as an edge is put in or taken out. Assumes nothing.
use mathlib.Core.Path.{◌≡◌, refl, sym, ap, ◌∙◌, subst}
use mathlib.Core.Logic.{inl, inr}
use mathlib.Core.Bool.{not-not}
use mathlib.Core.List.Memᴰ
use mathlib.Core.List.{List, ◌∷◌, Memᴰ}
use Prim.Native.Nat.{ℕ, zero, suc}
use Rattle.lists.proofs.Members.{each-cons}
use Rattle.planar_maps.specs.Map.{Arc, Dart, rev, darts, Linked}
use Rattle.planar_maps.specs.Rings.{Leads, about_node, Round, OneTurn}
use Rattle.planar_maps.specs.Weave.{exchange, Corner, alone, after, tie, CornerFits}
use Rattle.planar_maps.proofs.Leads.{leads_join, leads_through}
use Rattle.planar_maps.proofs.Rings.{rev_in, next_in_lem}
use Rattle.planar_maps.proofs.Hooks.{sameDart?, exchange-left, exchange_right, exchange_other, exchange_by}
use Rattle.planar_maps.proofs.Hooks.{exchange_alike, exchange_in}

pub rev-rev : (d : Dart) → rev (rev d) ≡ d
rev-rev d = λ i. record { edge = d.edge; back = not-not d.back i }

-- a turn that stays among the departures ds and at their nodes, one round for each node
pub record Turning (ds : List Dart) (tail : Dart → ℕ) (f : Dart → Dart) : Type 0 where
  pub into : (d : Dart) → Memᴰ d ds → Memᴰ (f d) ds
  pub stays : (d : Dart) → Memᴰ d ds → tail (f d) ≡ tail d
  pub round : Round ds tail f

pub turning : {es : List Arc} {tail : Dart → ℕ} {next : Dart → Dart} {face : Dart → ℕ} → Linked es tail next face
    → OneTurn es tail next → Turning (darts es) tail (about_node next)
turning {es} {tail} l one = record {
  into = λ d m. next_in_lem l (rev_in es m);
  stays = λ d m. l.meets (rev d) (rev_in es m) ∙ ap tail (rev-rev d);
  round = one;
}

-- a departure y is put in after x
module _ {ds : List Dart} {tail : Dart → ℕ} {f : Dart → Dart} (t : Turning ds tail f) (y : Dart)
    (new : (d : Dart) → Memᴰ d ds → (d ≡ y) → ⊥) (fixed : f y ≡ y) where
  both_into : (d : Dart) → Memᴰ d (y ∷ ds) → Memᴰ (f d) (y ∷ ds)
  both_into = each-cons {p = λ d. Memᴰ (f d) (y ∷ ds)} (Memᴰ.head fixed) (λ d m. Memᴰ.tail (t.into d m))

  both_stays : (d : Dart) → Memᴰ d (y ∷ ds) → tail (f d) ≡ tail d
  both_stays = each-cons {p = λ d. tail (f d) ≡ tail d} (ap tail fixed) t.stays

  insert_alone : ((d : Dart) → Memᴰ d ds → tail d ≡ tail y → ⊥) → Turning (y ∷ ds) tail f
  insert_alone none = record { into = both_into; stays = both_stays; round = round }
    where
      round : Round (y ∷ ds) tail f
      round d d' m m' e = elim (Memᴰ.cases_cons m) [
        | inl p ↦ elim (Memᴰ.cases_cons m') [
          | inl q ↦ (zero, p ∙ sym q)
          | inr q ↦ absurd
              (none d' q (sym e ∙ ap tail p))
        ]
        | inr p ↦ elim (Memᴰ.cases_cons m') [
          | inl q ↦ absurd
              (none d p (e ∙ ap tail q))
          | inr q ↦ t.round d d' p q e
        ]
      ]

  module _ (x : Dart) (mx : Memᴰ x ds) (at : tail x ≡ tail y) where
    f' : Dart → Dart
    f' d = f (exchange x y d)

    x_y : f' x ≡ y
    unfolding f'
    x_y = ap f (exchange-left x y) ∙ fixed

    y_x : f' y ≡ f x
    unfolding f'
    y_x = ap f (exchange_right x y)

    step : (d : Dart) → Memᴰ d ds → Leads f' d (f d)
    unfolding f'
    step d m = elim (sameDart? d x) [
      | inl e ↦ rw e (suc (suc zero), ap f' x_y ∙ y_x)
      | inr n ↦ (suc zero, ap f (exchange_other x y d n (new d m)))
    ]

    old : (d d' : Dart) → Memᴰ d ds → Memᴰ d' ds → tail d ≡ tail d' → Leads f' d d'
    old d d' m m' e = leads_through f f' (λ c. c) ds t.into step m (t.round d d' m m' e)

    insert-after : Turning (y ∷ ds) tail (λ d. f (exchange x y d))
    unfolding f'
    insert-after = record {
      into = λ d m. both_into (exchange x y d) (exchange_in x y (Memᴰ.tail mx) (Memᴰ.head refl) d m);
      stays = λ d m. both_stays (exchange x y d) (exchange_in x y (Memᴰ.tail mx) (Memᴰ.head refl) d m)
          ∙ exchange_alike tail x y at d;
      round = round;
    }
      where
        from_y : (d' : Dart) → Memᴰ d' ds → tail y ≡ tail d' → Leads f' y d'
        from_y d' m' e = leads_join (suc zero, y_x) (old (f x) d' (t.into x mx) m' (t.stays x mx ∙ at ∙ e))

        to_y : (d : Dart) → Memᴰ d ds → tail d ≡ tail y → Leads f' d y
        to_y d m e = leads_join (old d x m mx (e ∙ sym at)) (suc zero, x_y)

        round : Round (y ∷ ds) tail f'
        round d d' m m' e = elim (Memᴰ.cases_cons m) [
          | inl p ↦ elim (Memᴰ.cases_cons m') [
            | inl q ↦ (zero, p ∙ sym q)
            | inr q ↦ subst (λ c. Leads f' c d')
                (sym p) (from_y d' q (ap tail (sym p) ∙ e))
          ]
          | inr p ↦ elim (Memᴰ.cases_cons m') [
            | inl q ↦ subst (λ c. Leads f' d c) (sym q)
                (to_y d p (e ∙ ap tail q))
            | inr q ↦ old d d' p q e
          ]
        ]

-- ---- the same by `tie`

pub exchange-rev : (p z d : Dart) → exchange p z (rev d) ≡ rev (exchange (rev p) (rev z) d)
exchange-rev p z = exchange_by (λ d c. exchange p z (rev d) ≡ rev c) (rev p) (rev z)
    (ap (exchange p z) (rev-rev p) ∙ exchange-left p z ∙ sym (rev-rev z))
    (ap (exchange p z) (rev-rev z) ∙ exchange_right p z ∙ sym (rev-rev p))
    (λ d n k. exchange_other p z (rev d) (λ e. n (sym (rev-rev d) ∙ ap rev e)) (λ e. k (sym (rev-rev d) ∙ ap rev e)))

module _ {ds : List Dart} {tail : Dart → ℕ} (next : Dart → Dart) (t : Turning ds tail (about_node next)) (z : Dart)
    (new : (d : Dart) → Memᴰ d ds → (d ≡ rev z) → ⊥) (fixed : next z ≡ rev z) where
  turned : about_node next (rev z) ≡ rev z
  turned = ap next (rev-rev z) ∙ fixed

  pub tie_turning : (face : Dart → ℕ) (φ : ℕ) (k : Corner) → CornerFits ds tail face (tail (rev z)) φ k
      → Turning (rev z ∷ ds) tail (about_node (tie k z next))
  tie_turning face φ alone none = insert_alone t (rev z) new turned none
  tie_turning face φ (after p) fits = subst (λ f. Turning (rev z ∷ ds) tail f)
      (λ i d. next (sym (exchange-rev p z d) i)) (insert-after t (rev z) new turned (rev p) fits.0 fits.1)
