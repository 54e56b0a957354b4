-- Surplus points dropped: each inner point that lies straight between its given neighbours. What is left has the same
-- spots, ends and directions, is simple and has different neighbours exactly where the curve did, and has no straight
-- inner point. Assumes nothing.
use mathlib.Core.Path.{◌≡◌, refl, sym, ap, ◌∙◌, subst}
use mathlib.Core.Bool.{Bool, true, false, cond, false≢true}
use mathlib.Core.List.Memᴰ
use mathlib.Core.List.{List, [], ◌∷◌, Memᴰ}
use mathlib.Core.Logic.{◌↔◌, ◌⊎◌, inl, inr}
use Prim.Native.Nat.{suc, ◌≤◌}
use native.Mathlib.Omega.{arith}
use lib.ListN.{length}
use Rattle.lists.proofs.Bools.{which, or-false, not-true}
use Rattle.plane.specs.declared.Point.{Point}
use Rattle.plane.specs.Segments.{straight_between}
use Rattle.plane.specs.Directions.{same_way}
use Rattle.curves.specs.Curves.{Curve, points, last_of, second_of, last_point, start_way, end_way}
use Rattle.curves.specs.Tests.{straight_in, neighbours_differ, straight_inside, is_simple}
use Rattle.curves.specs.Edits.{join_here, thinned, without_surplus}
use Rattle.geometry.specs.Spots.{Spot, Between}
use Rattle.geometry.specs.Meaning.{Some, On, Differ}
use Rattle.geometry.specs.Drawing.{OnCurve}
use Rattle.geometry.proofs.Meeting.{straight_between-true, straight_between_is, differs_true, differs_is}
use Rattle.geometry.proofs.Truth.{simple-true}
use Rattle.geometry.proofs.Exact.{simple_is}
use Rattle.geometry.proofs.Ways.{same_way_is}
use Rattle.geometry.proofs.Alike.{Alike, alike_refl, alike_sym, alike_trans, alike_cons, alike_insert}
use Rattle.geometry.proofs.Bent.{between_sym, extend, shorten, unless_between, bent_cons, bent_first}

-- t is what is left of r after a; its second point is that of a ∷ r or lies behind it
pub record Thin (a : Point) (r t : List Point) : Type 0 where
  pub alike : Alike a r t
  pub bent : straight_in a t ≡ false
  pub second : (second_of a t ≡ second_of a r) ⊎ Between a (second_of a r) (second_of a t)
  pub fewer : length t ≤ length r
  pub given : (p : Point) → Memᴰ p t → Memᴰ p r

-- b kept
keep : (a b c : Point) (r t : List Point) → straight_between a b c ≡ false → Thin b (c ∷ r) t
    → Thin a (b ∷ c ∷ r) (b ∷ t)
keep a b c r t e h =
    record {
      alike = alike_cons a b h.alike;
      bent = bent_cons a b t (λ k. turn (second_of b t) h.second) h.bent;
      second = inl refl;
      fewer = let f = h.fewer in omega arith;
      given = λ p k. elim (Memᴰ.cases_cons k) [
        | inl q ↦ Memᴰ.head q
        | inr j ↦ Memᴰ.tail (h.given p j)
      ];
    }
  where
    turn : (z : Point) → (z ≡ c) ⊎ Between b c z → straight_between a b z ≡ false
    turn z (inl q) = subst (λ (y : Point). straight_between a b y ≡ false) (sym q) e
    turn z (inr s) = unless_between (λ w. between_sym (shorten (between_sym s) (between_sym w))) e

-- b dropped
drop : (a b c : Point) (r t : List Point) → Between a b c → Thin b (c ∷ r) t → Thin a (b ∷ c ∷ r) t
drop a b c r [] s h = absurd h.alike.some'
drop a b c r (d ∷ t) s h =
    record {
      alike = alike_trans (alike_cons a b h.alike) (alike_sym (alike_insert beyond t));
      bent = bent_first b a d t (λ e. shorten beyond) h.bent;
      second = inr beyond;
      fewer = let f = h.fewer in omega arith;
      given = λ p k. Memᴰ.tail (h.given p k);
    }
  where
    reach : (d ≡ c) ⊎ Between b c d → Between a b d
    reach (inl q) = subst (Between a b) (sym q) s
    reach (inr w) = between_sym (extend (between_sym w) (between_sym s))

    beyond : Between a b d
    beyond = reach h.second

pub thin : (a : Point) (r : List Point) → Some r → Thin a r (thinned a r)
thin a [] h = absurd h
thin a (b ∷ []) h = record {
  alike = alike_refl a (b ∷ []) tt;
  bent = refl;
  second = inl refl;
  fewer = omega arith;
  given = λ p k. k;
}
thin a (b ∷ c ∷ r) h = go (straight_between a b c) refl (thin b (c ∷ r) tt)
  where
    go : (q : Bool) → straight_between a b c ≡ q → Thin b (c ∷ r) (thinned b (c ∷ r))
        → Thin a (b ∷ c ∷ r) (join_here q b (thinned b (c ∷ r)))
    go true e k = drop a b c r (thinned b (c ∷ r)) (straight_between-true a b c e) k
    go false e k = keep a b c r (thinned b (c ∷ r)) e k

-- nothing is dropped where no inner point is straight between its neighbours
pub thinned_bent : (a : Point) (r : List Point) → straight_in a r ≡ false → thinned a r ≡ r
thinned_bent a [] e = refl
thinned_bent a (b ∷ []) e = refl
thinned_bent a (b ∷ c ∷ r) e =
    let k = or-false (straight_between a b c) (straight_in b (c ∷ r)) e in
    ap (λ (q : Bool). join_here q b (thinned b (c ∷ r))) k.0
    ∙ ap (λ (t : List Point). b ∷ t) (thinned_bent b (c ∷ r) k.1)

-- ---- by which neighbours

-- the points after p, the last one kept: each is judged by the neighbours that are left, one after the other
abbrev pub thinned_in_turn : Point → List Point → List Point
thinned_in_turn p [] = []
thinned_in_turn p (b ∷ []) = b ∷ []
thinned_in_turn p (b ∷ c ∷ r) = cond (straight_between p b c) (thinned_in_turn p (c ∷ r)) (b ∷ thinned_in_turn b (c ∷ r))

-- that leaves the same points: where a was dropped after p, it lies straight between p and the next
pub in_turn : (p a b : Point) (r : List Point) → (p ≡ a) ⊎ Between p a b → thinned_in_turn p (b ∷ r) ≡ thinned a (b ∷ r)
in_turn p a b [] h = refl
in_turn p a b (c ∷ r) h = go (straight_between a b c) refl (λ k. in_turn p b c r k) (in_turn b b c r (inl refl))
  where
    behind : (p ≡ a) ⊎ Between p a b → Between a b c → Between p b c
    behind (inl e) k = subst (λ (q : Point). Between q b c) (sym e) k
    behind (inr s) k = extend s k

    before : (p ≡ a) ⊎ Between p a b → Between p b c → Between a b c
    before (inl e) k = subst (λ (q : Point). Between q b c) e k
    before (inr s) k = shorten s k

    go : (q : Bool) → straight_between a b c ≡ q
        → ((p ≡ b) ⊎ Between p b c → thinned_in_turn p (c ∷ r) ≡ thinned b (c ∷ r))
        → thinned_in_turn b (c ∷ r) ≡ thinned b (c ∷ r)
        → cond (straight_between p b c) (thinned_in_turn p (c ∷ r)) (b ∷ thinned_in_turn b (c ∷ r))
        ≡ join_here q b (thinned b (c ∷ r))
    go true e drops keeps = let k = behind h (straight_between-true a b c e) in
        ap (λ (t : Bool). cond t (thinned_in_turn p (c ∷ r)) (b ∷ thinned_in_turn b (c ∷ r))) (straight_between_is k)
        ∙ drops (inr k)
    go false e drops keeps =
        ap (λ (t : Bool). cond t (thinned_in_turn p (c ∷ r)) (b ∷ thinned_in_turn b (c ∷ r)))
        (unless_between (before h) e)
        ∙ ap (λ (t : List Point). b ∷ t) keeps

-- ---- the same of curves

pub surplus_none : (c : Curve) → straight_inside c ≡ false → without_surplus c ≡ c
surplus_none c e = λ i. record { first = c.first; rest = thinned_bent c.first c.rest e i }

pub surplus_bent : (c : Curve) → straight_inside (without_surplus c) ≡ false
surplus_bent c = go c.rest
  where
    go : (r : List Point) → straight_in c.first (thinned c.first r) ≡ false
    go [] = refl
    go (b ∷ r) = (thin c.first (b ∷ r) tt).bent

-- dropping again drops nothing
pub surplus_once : (c : Curve) → without_surplus (without_surplus c) ≡ without_surplus c
surplus_once c = surplus_none (without_surplus c) (surplus_bent c)

-- the same spots
pub surplus_points : (c : Curve) (P : Spot) → OnCurve P (without_surplus c) ↔ OnCurve P c
surplus_points c P = go c.rest
  where
    go : (r : List Point) → On P c.first (thinned c.first r) ↔ On P c.first r
    go [] = ((λ o. o), λ o. o)
    go (b ∷ r) = let h = (thin c.first (b ∷ r) tt).alike in (h.on' P, h.on P)

-- the same ends: the first point is kept by definition
pub surplus_last : (c : Curve) → last_point (without_surplus c) ≡ last_point c
surplus_last c = go c.rest
  where
    go : (r : List Point) → last_of c.first (thinned c.first r) ≡ last_of c.first r
    go [] = refl
    go (b ∷ r) = sym (thin c.first (b ∷ r) tt).alike.last

-- never longer, and every point left was given
pub surplus_fewer : (c : Curve) → length (points (without_surplus c)) ≤ length (points c)
surplus_fewer c = go c.rest
  where
    go : (r : List Point) → suc (length (thinned c.first r)) ≤ suc (length r)
    go [] = omega arith
    go (b ∷ r) = let h = (thin c.first (b ∷ r) tt).fewer in omega arith

pub surplus_given : (c : Curve) (p : Point) → Memᴰ p (points (without_surplus c)) → Memᴰ p (points c)
surplus_given c p k = elim (Memᴰ.cases_cons k) [
  | inl q ↦ Memᴰ.head q
  | inr j ↦ Memᴰ.tail (go c.rest j)
]
  where
    go : (r : List Point) → Memᴰ p (thinned c.first r) → Memᴰ p r
    go [] j = j
    go (b ∷ r) j = (thin c.first (b ∷ r) tt).given p j

-- two points at least are left of two at least
pub surplus_some : (c : Curve) → Some c.rest → Some (without_surplus c).rest
surplus_some c h = (thin c.first c.rest h).alike.some'

module _ (c : Curve) (differ : neighbours_differ c ≡ true) where
  go_differ : (r : List Point) → Differ c.first r → Differ c.first (thinned c.first r)
  go_differ [] n = tt
  go_differ (b ∷ r) n = (thin c.first (b ∷ r) tt).alike.differ n

  left : Differ c.first (thinned c.first c.rest)
  left = go_differ c.rest (differs_true c.first c.rest differ)

  -- neighbours that differ still do
  pub surplus_differ : neighbours_differ (without_surplus c) ≡ true
  surplus_differ = differs_is c.first (thinned c.first c.rest) left

  -- the curve is simple exactly if what is left is
  pub surplus_simple : (is_simple (without_surplus c) ≡ true) ↔ (is_simple c ≡ true)
  surplus_simple = go c.rest refl
    where
      go : (r : List Point) → c.rest ≡ r → (is_simple (without_surplus c) ≡ true) ↔ (is_simple c ≡ true)
      go [] e = (
        (λ h. ap (λ (r : List Point). is_simple (record { first = c.first; rest = r })) e
            ∙ sym (ap (λ (r : List Point). is_simple (without_surplus (record { first = c.first; rest = r }))) e) ∙ h),
        λ h. ap (λ (r : List Point). is_simple (without_surplus (record { first = c.first; rest = r }))) e
            ∙ sym (ap (λ (r : List Point). is_simple (record { first = c.first; rest = r })) e) ∙ h,
      )
      go (b ∷ r) e =
          let h = (thin c.first c.rest (subst Some (sym e) tt)).alike in (
            (λ k. simple_is c.first c.rest (differs_true c.first c.rest differ)
                (h.simple' (simple-true c.first (thinned c.first c.rest) k))),
            λ k. simple_is c.first (thinned c.first c.rest) left
                (h.simple (simple-true c.first c.rest k)),
          )

-- equal neighbours are never dropped
pub surplus_differs : (c : Curve) → neighbours_differ (without_surplus c) ≡ neighbours_differ c
surplus_differs c = elim (which (neighbours_differ c)) [
  | inl e ↦ surplus_differ c e ∙ sym e
  | inr e ↦ not-true (neighbours_differ (without_surplus c)) (λ t. false≢true (sym e
      ∙ differs_is c.first c.rest (back c.rest
      (differs_true c.first (thinned c.first c.rest) t)))) ∙ sym e
]
  where
    back : (r : List Point) → Differ c.first (thinned c.first r) → Differ c.first r
    back [] n = n
    back (b ∷ r) n = (thin c.first (b ∷ r) tt).alike.differ' n

-- the same directions of departure
pub surplus_ways : (c : Curve) → Some c.rest
    → (same_way (start_way c) (start_way (without_surplus c)) ≡ true)
    × (same_way (end_way c) (end_way (without_surplus c)) ≡ true)
surplus_ways c h = let k = (thin c.first c.rest h).alike in (same_way_is k.start, same_way_is k.finish)
