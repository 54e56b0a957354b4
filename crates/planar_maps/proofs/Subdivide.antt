-- An edge is split at a new node, or two edges are healed to one. Assumes nothing.
use mathlib.Core.Path.{◌≡◌, refl, sym, ap, ap₂, ◌∙◌, subst}
use mathlib.Core.Logic.{inl, inr}
use mathlib.Core.Bool.{Bool, true, false, cond, ◌&&◌}
use mathlib.Core.List.Memᴰ
use mathlib.Core.List.{List, ◌∷◌, Memᴰ}
use Prim.Native.Nat.{ℕ, suc}
use native.Mathlib.Omega.{arith}
use Rattle.lists.specs.Tests.{◌⊕◌, same}
use Rattle.lists.specs.Scans.{odd_count}
use Rattle.lists.specs.Members.{Distinct}
use Rattle.lists.proofs.Bools.{eq1, eq3, eq4, ⊕-equal, same_refl, same_false}
use Rattle.lists.proofs.Members.{each-cons, each_two}
use Rattle.lists.proofs.Sums.{sum_cong, sum-zero}
use Rattle.planar_maps.specs.Map.{Arc, Dart, fwd, bwd, darts, across, Cycle, Colouring}
use Rattle.planar_maps.specs.Pieces.{Chain, stay, along, against, pieces, Within, Isolated, nums}
use Rattle.planar_maps.specs.Weave.{departs_as}
use Rattle.planar_maps.proofs.Cycles.{fwd_in, bwd_in}
use Rattle.planar_maps.proofs.Rings.{same_dart_refl}
use Rattle.planar_maps.proofs.Hooks.{same_dart-false, fwd≢bwd}
use Rattle.planar_maps.proofs.Chains.{chain_join, chain_more, chain_image, connected?, isolated_chain}
use Rattle.planar_maps.proofs.Chains.{pieces-isolated, pieces_loop, pieces_bridge}

abbrev pub arc : ℕ → ℕ → ℕ → Arc
arc e s t = record { num = e; from = s; to = t }

-- ---- departures renamed

pub renamed_at : (e e' : ℕ) → departs_as e e' (bwd e) ≡ bwd e'
unfolding departs_as
renamed_at e e' = rw (same_dart_refl (bwd e))

pub renamed_other : (e e' : ℕ) (d : Dart) → ((d ≡ bwd e) → ⊥) → departs_as e e' d ≡ d
unfolding departs_as
renamed_other e e' d h = rw (same_dart-false d (bwd e) h)

pub renamed-fwd : (e e' k : ℕ) → departs_as e e' (fwd k) ≡ fwd k
renamed-fwd e e' k = renamed_other e e' (fwd k) fwd≢bwd

pub renamed_old : (e e' : ℕ) {d : Dart} → ((d.edge ≡ e) → ⊥) → departs_as e e' d ≡ d
renamed_old e e' {d} h = renamed_other e e' d (λ p. h (ap (λ (c : Dart). c.edge) p))

-- ---- the edge e from s to t, as against e from s to n and e' from n to t
module _ (e e' s n t : ℕ) (es : List Arc) where
  abbrev pub whole : List Arc
  whole = arc e s t ∷ es

  abbrev pub halves : List Arc
  halves = arc e s n ∷ arc e' n t ∷ es

  -- the faces are the same, and the new half has those of the old edge
  pub record Alike (old new : Dart → ℕ) : Type 0 where
    pub others : (d : Dart) → Memᴰ d (darts whole) → new d ≡ old d
    pub left : new (fwd e') ≡ old (fwd e)
    pub right : new (bwd e') ≡ old (bwd e)

  pub halves_within : {nodes : List ℕ} → Within nodes whole → Within (n ∷ nodes) halves
  halves_within {nodes} w = record {
    starts = each_two (λ a. Memᴰ a.from (n ∷ nodes))
        (Memᴰ.tail (w.starts (arc e s t) (Memᴰ.head refl))) (Memᴰ.head refl)
        (λ a m. Memᴰ.tail (w.starts a (Memᴰ.tail m)));
    ends = each_two (λ a. Memᴰ a.to (n ∷ nodes)) (Memᴰ.head refl)
        (Memᴰ.tail (w.ends (arc e s t) (Memᴰ.head refl)))
        (λ a m. Memᴰ.tail (w.ends a (Memᴰ.tail m)));
  }

  module _ (lone : Isolated n es) (s≢n : (s ≡ n) → ⊥) (t≢n : (t ≡ n) → ⊥) where
    halves_equal : (c : ℕ → Bool) → Cycle halves c → c e ≡ c e'
    halves_equal c cycle = ⊕-equal (c e) (c e')
        (eq3 (λ x y z. x ⊕ y) (λ x y z. x && true ⊕ (y && true ⊕ false)) tt (c e) (c e') true
        ∙ sym (ap₂ (λ x y. x ⊕ (y ⊕ odd_count es (λ a. c a.num && across X a))) here here'
        ∙ ap (λ z. c e && true ⊕ (c e' && true ⊕ z)) rest) ∙ cycle X)
      where
        X : ℕ → Bool
        X m = same m n

        here : c e && across X (arc e s n) ≡ c e && true
        here = rw (same_false s n s≢n, same_refl n)

        here' : c e' && across X (arc e' n t) ≡ c e' && true
        here' = rw (same_false t n t≢n, same_refl n)

        rest : odd_count es (λ a. c a.num && across X a) ≡ false
        rest = sum-zero es _ (λ a m. rw
            (same_false a.from n (lone.starts a m), same_false a.to n (lone.ends a m))
            (eq1 (λ x. x && false) (λ x. false) tt (c a.num)))

    pub subdivide_keeps : (old new : Dart → ℕ) → Alike old new → Colouring whole old → Colouring halves new
    subdivide_keeps old new alike P c cycle = (S, each_two divided first second others)
      where
        both : c e ≡ c e'
        both = halves_equal c cycle

        before : Cycle whole c
        before X = eq4 (λ x y z r. x ⊕ r) (λ x y z r. x ⊕ (false ⊕ r)) tt (c e && (X s ⊕ X t)) true true
            (odd_count es (λ a. c a.num && across X a))
            ∙ ap (λ q. q ⊕ odd_count es (λ a. c a.num && across X a))
            (eq4 (λ k x y z. k && (x ⊕ z)) (λ k x y z. k && (x ⊕ y) ⊕ (k && (y ⊕ z))) tt (c e) (X s) (X n) (X t))
            ∙ eq3 (λ x y r. x ⊕ y ⊕ r) (λ x y r. x ⊕ (y ⊕ r)) tt (c e && (X s ⊕ X n)) (c e && (X n ⊕ X t))
            (odd_count es (λ a. c a.num && across X a))
            ∙ ap (λ k. c e && (X s ⊕ X n) ⊕ (k && (X n ⊕ X t) ⊕ odd_count es (λ a. c a.num && across X a))) both
            ∙ cycle X

        S : ℕ → Bool
        S = (P c before).0

        divided : Arc → Type 0
        divided a = c a.num ≡ S (new (fwd a.num)) ⊕ S (new (bwd a.num))

        first : divided (arc e s n)
        first = rw (
          alike.others (fwd e) (Memᴰ.head refl),
          alike.others (bwd e) (Memᴰ.tail (Memᴰ.head refl)),
        ) ((P c before).1 (arc e s t) (Memᴰ.head refl))

        second : divided (arc e' n t)
        second = rw (alike.left, alike.right) (sym both ∙ (P c before).1 (arc e s t) (Memᴰ.head refl))

        others : (a : Arc) → Memᴰ a es → divided a
        others a k = rw (
          alike.others (fwd a.num) (Memᴰ.tail (Memᴰ.tail (fwd_in k))),
          alike.others (bwd a.num) (Memᴰ.tail (Memᴰ.tail (bwd_in k))),
        ) ((P c before).1 a (Memᴰ.tail k))

    contract : ℕ → ℕ
    contract m = cond (same m n) t m

    unconnected : (Chain es s t → ⊥) → Chain (arc e' n t ∷ es) s n → ⊥
    unfolding contract
    unconnected apart p = apart (subst (λ x. Chain es x t) (rw (same_false s n s≢n))
        (subst (λ x. Chain es (contract s) x) (rw (same_refl n))
        (chain_image contract (each-cons {p = λ a. Chain es (contract a.from) (contract a.to)} joined kept) p)))
      where
        joined : Chain es (contract n) (contract t)
        joined = rw (same_refl n, same_false t n t≢n) stay

        kept : (a : Arc) → Memᴰ a es → Chain es (contract a.from) (contract a.to)
        kept a m = rw (same_false a.from n (lone.starts a m), same_false a.to n (lone.ends a m))
            (along a m stay)

    pub subdivide_pieces : (nodes : List ℕ) → Distinct (n ∷ nodes) → Within nodes whole → pieces (n ∷ nodes) halves
        ≡ pieces nodes whole
    subdivide_pieces nodes dis w = elim (connected? es s t) [
      | inl p ↦ omega (
        arith,
        added,
        pieces-isolated n nodes es lone,
        pieces_loop nodes (arc e s t) es p,
        pieces_loop (n ∷ nodes) (arc e s n) (arc e' n t ∷ es)
            (chain_join (chain_more (arc e' n t) p) (against (arc e' n t) (Memᴰ.head refl) stay)),
      )
      | inr q ↦ omega (
        arith,
        added,
        pieces-isolated n nodes es lone,
        pieces_bridge nodes (arc e s t) es dis.1 w q,
        pieces_bridge (n ∷ nodes) (arc e s n) (arc e' n t ∷ es) dis within (unconnected q),
      )
    ]
      where
        within : Within (n ∷ nodes) halves
        within = halves_within w

        added : pieces (n ∷ nodes) es ≡ suc (pieces (n ∷ nodes) (arc e' n t ∷ es))
        added = pieces_bridge (n ∷ nodes) (arc e' n t) es dis
            (record {
              starts = λ a m. within.starts a (Memᴰ.tail m);
              ends = λ a m. within.ends a (Memᴰ.tail m);
            }) (λ p. t≢n (isolated_chain lone p))

  -- the halves are healed
  pub heal_keeps : (old new : Dart → ℕ) → Alike old new → Distinct (e ∷ e' ∷ nums es) → Colouring halves new
      → Colouring whole old
  heal_keeps old new alike dis P c cycle = (S, each-cons {p = divided} first others)
    where
      c' : ℕ → Bool
      c' x = cond (same x e') (c e) (c x)

      c'_e : c' e ≡ c e
      c'_e = rw (same_false e e' (λ p. dis.0 (Memᴰ.head p)))

      c'_e' : c' e' ≡ c e
      c'_e' = rw (same_refl e')

      c'_others : (a : Arc) → Memᴰ a es → c' a.num ≡ c a.num
      c'_others a m = rw (same_false a.num e' (λ p. dis.1.0 (Memᴰ.cast (sym p) (Memᴰ.map (λ a. a.num) m))))

      after : Cycle halves c'
      after X = ap₂ (λ x y. x && (X s ⊕ X n) ⊕ y) c'_e
          (ap₂ (λ x y. x && (X n ⊕ X t) ⊕ y) c'_e'
          (sum_cong es (λ a. c' a.num && across X a) (λ a. c a.num && across X a)
          (λ a m. ap (λ x. x && across X a) (c'_others a m))))
          ∙ eq3 (λ x y r. x ⊕ (y ⊕ r)) (λ x y r. x ⊕ y ⊕ r) tt (c e && (X s ⊕ X n)) (c e && (X n ⊕ X t))
          (odd_count es (λ a. c a.num && across X a))
          ∙ ap (λ q. q ⊕ odd_count es (λ a. c a.num && across X a))
          (eq4 (λ k x y z. k && (x ⊕ y) ⊕ (k && (y ⊕ z))) (λ k x y z. k && (x ⊕ z)) tt (c e) (X s) (X n) (X t))
          ∙ cycle X

      S : ℕ → Bool
      S = (P c' after).0

      divided : Arc → Type 0
      divided a = c a.num ≡ S (old (fwd a.num)) ⊕ S (old (bwd a.num))

      first : divided (arc e s t)
      first = sym c'_e ∙ (P c' after).1 (arc e s n) (Memᴰ.head refl)
          ∙ ap₂ (λ x y. S x ⊕ S y) (alike.others (fwd e) (Memᴰ.head refl))
          (alike.others (bwd e) (Memᴰ.tail (Memᴰ.head refl)))

      others : (a : Arc) → Memᴰ a es → divided a
      others a k = sym (c'_others a k) ∙ (P c' after).1 a (Memᴰ.tail (Memᴰ.tail k))
          ∙ ap₂ (λ x y. S x ⊕ S y) (alike.others (fwd a.num) (Memᴰ.tail (Memᴰ.tail (fwd_in k))))
          (alike.others (bwd a.num) (Memᴰ.tail (Memᴰ.tail (bwd_in k))))
