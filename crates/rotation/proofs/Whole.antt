-- The link law at all nodes: a new edge and a removed edge keep it, loops included. Assumes nothing.
use mathlib.Core.Path.{◌≡◌, refl, sym, ap, ◌∙◌, subst}
use mathlib.Core.Logic.{inl, inr}
use mathlib.Core.Bool.{Bool, true, false, cond, not, true≢false}
use mathlib.Core.List.Memᴰ
use mathlib.Core.List.{List, ◌∷◌, Memᴰ}
use Prim.Native.Nat.{ℕ, zero, suc}
use Rattle.lists.specs.Tests.{same, iterate}
use Rattle.lists.proofs.Bools.{which, same_refl, same_true, same_eq, same_false, equal?}
use Rattle.lists.proofs.Members.{some?}
use Rattle.lists.proofs.Keeps.{keep_in, keep_has, keep_all, keep_swap}
use Rattle.plane.specs.Directions.{Way}
use Rattle.rotation.specs.Law.{Tells, first_clockwise, Differ, others, Lawful, redirect, put, from, reverse_leads}
use Rattle.rotation.specs.Law.{Law}
use Rattle.rotation.specs.Law.{Apart, link, unlink, link_edge, unlink_edge}
use Rattle.rotation.proofs.Tells.{is_no}
use Rattle.rotation.proofs.Node.{lawful_in, first_in, first_none, put-lawful, take-lawful, lawful_reach}

module _ {D : Type 0} (is : D → D → Bool) (rev : D → D) (tail : D → ℕ) (way : D → Way) (tells : Tells is)
    (rev-rev : (d : D) → rev (rev d) ≡ d) where
  is_rev : (a b : D) → is (rev a) (rev b) ≡ is a b
  is_rev a b = elim (which (is a b)) [
    | inl e ↦ subst (λ (c : D). is (rev a) (rev c) ≡ true) (tells.yes a b e) (tells.self (rev a)) ∙ sym e
    | inr e ↦
        is_no tells (rev a) (rev b)
        (λ q. true≢false (sym (tells.self a) ∙ ap (is a) (sym (rev-rev a) ∙ ap rev q ∙ rev-rev b) ∙ e)) ∙ sym e
  ]

  from_in : {n : ℕ} (all : List D) {d : D} → Memᴰ d (from tail all n) → Memᴰ d all × (tail d ≡ n)
  from_in {n} all {d} m = let k = keep_in (λ (d : D). same (tail d) n) all m in (k.0, same_true (tail d) n k.1)

  from_has : {n : ℕ} (all : List D) {d : D} → Memᴰ d all → tail d ≡ n → Memᴰ d (from tail all n)
  from_has {n} all {d} m e = keep_has (λ (d : D). same (tail d) n) all m (same_eq (tail d) n e)

  -- the law speaks of the departures alone
  lawful_cong : (ds : List D) (f g : D → D) → ((d : D) → Memᴰ d ds → g d ≡ f d) → Lawful way is ds f
      → Lawful way is ds g
  lawful_cong ds f g h l d m = h d m ∙ l d m

  -- a lawful link stays at its node
  law_stays : (all : List D) (next : D → D) (n : ℕ) → Law is rev tail way all next → (d : D)
      → Memᴰ d (from tail all n) → Memᴰ (next (rev d)) (from tail all n)
  law_stays all next n l d m = subst (λ (c : D). Memᴰ c (from tail all n)) (sym (l n d m))
      (lawful_in way is (from tail all n) d m)

  module _ (all : List D) (next : D → D) (l : Law is rev tail way all next) where
    -- a departure more
    link_law : (p : D) → (Memᴰ p all → ⊥) → Differ way (from tail (p ∷ all) (tail p))
        → Law is rev tail way (p ∷ all) (link is rev way p (from tail all (tail p)) next)
    link_law p new differ n = elim (equal? (tail p) n) [ inl e ↦ here e | inr ne ↦ there ne (same_false (tail p) n ne) ]
      where
        ds : List D
        ds = from tail all (tail p)

        c : D
        c = first_clockwise way (way p) p ds

        c_tail : tail c ≡ tail p
        c_tail =
            elim (some? ds) [
              | inl q ↦ (from_in all (first_in way (way p) p ds q.1)).1
              | inr q ↦ ap tail (first_none way (way p) p ds q)
            ]

        grown : from tail (p ∷ all) (tail p) ≡ p ∷ ds
        grown = rw (same_refl (tail p))

        at_p : Lawful way is (p ∷ ds) (reverse_leads rev (link is rev way p ds next))
        at_p = lawful_cong (p ∷ ds) (put way is p ds (reverse_leads rev next))
            (reverse_leads rev (link is rev way p ds next))
            (λ d m. ap (λ (b : Bool). cond b c (redirect is c p next (rev d))) (is_rev d p))
            (put-lawful way is tells p ds (reverse_leads rev next) (subst (Differ way) grown differ)
            (λ m. new (from_in all m).0) (l (tail p)))

        here : tail p ≡ n → Lawful way is (from tail (p ∷ all) n) (reverse_leads rev (link is rev way p ds next))
        here e = subst (λ (k : ℕ). Lawful way is (from tail (p ∷ all) k)
            (reverse_leads rev (link is rev way p ds next))) e
            (subst (λ (l : List D). Lawful way is l (reverse_leads rev (link is rev way p ds next))) (sym grown) at_p)

        there : ((tail p ≡ n) → ⊥) → same (tail p) n ≡ false
            → Lawful way is (from tail (p ∷ all) n) (reverse_leads rev (link is rev way p ds next))
        there ne q =
            rw q (lawful_cong (from tail all n) (reverse_leads rev next) (reverse_leads rev (link is rev way p ds next))
            same (l n))
          where
            same : (d : D) → Memᴰ d (from tail all n) → reverse_leads rev (link is rev way p ds next) d
                ≡ reverse_leads rev next d
            same d m = rw (
              is_no tells (rev d) (rev p)
                  (λ e. new (Memᴰ.cast (sym (sym (rev-rev d) ∙ ap rev e ∙ rev-rev p)) (from_in all m).0)),
              is_no tells (next (rev d)) c
                  (λ e. ne (sym c_tail ∙ ap tail (sym e) ∙ (from_in all (law_stays all next n l d m)).1)),
            )

    -- a departure less
    unlink_law : (p : D) → Memᴰ p all → Differ way (from tail all (tail p))
        → Law is rev tail way (others is p all) (unlink is rev p next)
    unlink_law p mp differ n = subst (λ (ds : List D). Lawful way is ds (reverse_leads rev (unlink is rev p next)))
        (keep_swap (λ q. not (is q p)) (λ (d : D). same (tail d) n) all)
        (elim (equal? (tail p) n) [ inl e ↦ here e | inr ne ↦ there ne ])
      where
        here : tail p ≡ n → Lawful way is (others is p (from tail all n)) (reverse_leads rev (unlink is rev p next))
        here e = subst (λ (k : ℕ). Lawful way is (others is p (from tail all k))
            (reverse_leads rev (unlink is rev p next))) e
            (take-lawful way is tells p (from tail all (tail p)) (reverse_leads rev next) differ (from_has all mp refl)
            (l (tail p)))

        there : ((tail p ≡ n) → ⊥) → Lawful way is (others is p (from tail all n))
            (reverse_leads rev (unlink is rev p next))
        there ne = subst (λ (ds : List D). Lawful way is ds (reverse_leads rev (unlink is rev p next)))
            (sym (keep_all (λ q. not (is q p)) (from tail all n)
            (λ d m. ap not (is_no tells d p (λ e. ne (ap tail (sym e) ∙ (from_in all m).1))))))
            (lawful_cong (from tail all n) (reverse_leads rev next) (reverse_leads rev (unlink is rev p next))
            (λ d m.
            rw (is_no tells (next (rev d)) p (λ e. ne (ap tail (sym e) ∙ (from_in all (law_stays all next n l d m)).1))))
            (l n))

  sub_differ : {ds ds' : List D} → ((d : D) → Memᴰ d ds → Memᴰ d ds') → Differ way ds' → Differ way ds
  sub_differ h f d c md mc e = f d c (h d md) (h c mc) e

  -- an edge more, from `tail e` to `tail (rev e)`, a loop where the two are one
  pub link_edge_law : (all : List D) (next : D → D) (e : D) → Law is rev tail way all next → (Memᴰ e all → ⊥)
      → (Memᴰ (rev e) all → ⊥) → ((rev e ≡ e) → ⊥) → Apart tail way (rev e ∷ e ∷ all)
      → Law is rev tail way (rev e ∷ e ∷ all) (link_edge is rev way tail e all next)
  link_edge_law all next e l new new' ne apart =
      link_law (e ∷ all) (link is rev way e (from tail all (tail e)) next)
      (link_law all next l e new
      (sub_differ (λ d m. let k = from_in (e ∷ all) m in from_has (rev e ∷ e ∷ all) (Memᴰ.tail k.0) k.1)
      (apart (tail e))))
      (rev e) (λ m. elim (Memᴰ.cases_cons m) [ inl q ↦ ne q | inr k ↦ new' k ]) (apart (tail (rev e)))

  -- an edge less
  pub unlink_edge_law : (all : List D) (next : D → D) (e : D) → Law is rev tail way all next → Memᴰ e all
      → Memᴰ (rev e) all → ((rev e ≡ e) → ⊥) → Apart tail way all
      → Law is rev tail way (others is (rev e) (others is e all)) (unlink_edge is rev e next)
  unlink_edge_law all next e l me me' ne apart =
      unlink_law (others is e all) (unlink is rev e next) (unlink_law all next l e me (apart (tail e)))
      (rev e) (keep_has (λ q. not (is q e)) all me' (ap not (is_no tells (rev e) e ne)))
      (sub_differ (λ d m. let k = from_in (others is e all) m in
      from_has all (keep_in (λ q. not (is q e)) all k.0).0 k.1) (apart (tail (rev e))))

  -- the departures of a node are met in one turn
  pub law_reach : (all : List D) (next : D → D) → Law is rev tail way all next → Apart tail way all → (d c : D)
      → Memᴰ d all → Memᴰ c all → tail d ≡ tail c → (k : ℕ) × (iterate k (reverse_leads rev next) d ≡ c)
  law_reach all next l apart d c md mc e = lawful_reach way is tells (from tail all (tail d)) (reverse_leads rev next)
      (apart (tail d)) (l (tail d)) d c (from_has all md refl) (from_has all mc (sym e))

  -- each departure is the lawful next of some departure's reverse
  pub law_onto : (all : List D) (next : D → D) → Law is rev tail way all next → Apart tail way all
      → (c : D) → Memᴰ c all → (d : D) × Memᴰ d all × (next (rev d) ≡ c)
  law_onto all next l apart c mc =
      let first = from_in all (along zero) in
      let r = law_reach all next l apart (next (rev c)) c first.0 mc first.1 in
      go r.0 r.1
    where
      -- a turn from c on stays at its node
      along : (k : ℕ) → Memᴰ (iterate k (reverse_leads rev next) (next (rev c))) (from tail all (tail c))
      along zero = law_stays all next (tail c) l c (from_has all mc refl)
      along (suc k) = law_stays all next (tail c) l (iterate k (reverse_leads rev next) (next (rev c))) (along k)

      go : (k : ℕ) → iterate k (reverse_leads rev next) (next (rev c)) ≡ c
          → (d : D) × Memᴰ d all × (next (rev d) ≡ c)
      go zero e = (c, mc, e)
      go (suc k) e = (iterate k (reverse_leads rev next) (next (rev c)), (from_in all (along k)).0, e)
