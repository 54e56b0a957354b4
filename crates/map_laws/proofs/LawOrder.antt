-- The link law depends neither on the order in which departures are listed nor on more of their ways than the
-- direction. Assumes nothing.
use mathlib.Core.Path.{◌≡◌, refl, sym, ap, ap₂, ◌∙◌}
use mathlib.Core.Logic.{inl, inr}
use mathlib.Core.Bool.{Bool, true, false, cond, not}
use mathlib.Core.List.Memᴰ
use mathlib.Core.List.{List, [], ◌∷◌, Memᴰ}
use Prim.Native.Nat.{ℕ}
use Rattle.lists.specs.Tests.{same}
use Rattle.lists.specs.Scans.{keep}
use Rattle.lists.proofs.Members.{some?}
use Rattle.lists.proofs.Keeps.{keep_in, keep_has, keep_cong}
use Rattle.plane.specs.Directions.{Way, before, same_way}
use Rattle.rotation.specs.Law.{Tells, greatest, pick, first_clockwise, Differ, others, lawful_next, Lawful, from, Apart}
use Rattle.rotation.specs.Law.{AllLawful}
use Rattle.rotation.proofs.Order.{respects_left, respects_right}
use Rattle.rotation.proofs.Node.{first_none}
use Rattle.rotation.proofs.Rename.{first_same}

-- ---- the order of the list

module _ {D : Type 0} (way : D → Way) (is : D → D → Bool) (tells : Tells is) (ds ds' : List D) (differ : Differ way ds)
    (to : (d : D) → Memᴰ d ds → Memᴰ d ds') (back : (d : D) → Memᴰ d ds' → Memᴰ d ds) where
  lawful-order : (d : D) → Memᴰ d ds → lawful_next way is d ds ≡ lawful_next way is d ds'
  lawful-order d m = elim (some? (others is d ds)) [
    | inl q ↦ first_same way is tells d d d (others is d ds) (others is d ds') apart (move ds ds' to)
        (move ds' ds back) q.1
    | inr q ↦ first_none way (way d) d (others is d ds) q
        ∙ sym (first_none way (way d) d (others is d ds') (λ c k. q c (move ds' ds back c k)))
  ]
    where
      move : (l k : List D) → ((c : D) → Memᴰ c l → Memᴰ c k) → (c : D) → Memᴰ c (others is d l)
          → Memᴰ c (others is d k)
      move l k h c j = let x = keep_in (λ c. not (is c d)) l j in keep_has (λ c. not (is c d)) k (h c x.0) x.1

      here : (c : D) → Memᴰ c (d ∷ others is d ds) → Memᴰ c ds
      here c k = elim (Memᴰ.cases_cons k) [ inl e ↦ Memᴰ.cast e m | inr j ↦ (keep_in (λ c. not (is c d)) ds j).0 ]

      apart : Differ way (d ∷ others is d ds)
      apart a b j k = differ a b (here a j) (here b k)

  lawful-listed : (lead : D → D) → Lawful way is ds lead → Lawful way is ds' lead
  lawful-listed lead l d m = l d (back d m) ∙ lawful-order d (back d m)

module _ {D : Type 0} (is : D → D → Bool) (tells : Tells is) (tail : D → ℕ) (way : D → Way) (all all' : List D)
    (to : (d : D) → Memᴰ d all → Memᴰ d all') (back : (d : D) → Memᴰ d all' → Memᴰ d all) where
  -- those of one node, in either list
  from_move : (n : ℕ) (d : D) → Memᴰ d (from tail all n) → Memᴰ d (from tail all' n)
  from_move n d m = let x = keep_in (λ d. same (tail d) n) all m in
      keep_has (λ d. same (tail d) n) all' (to d x.0) x.1

  from_back : (n : ℕ) (d : D) → Memᴰ d (from tail all' n) → Memᴰ d (from tail all n)
  from_back n d m = let x = keep_in (λ d. same (tail d) n) all' m in
      keep_has (λ d. same (tail d) n) all (back d x.0) x.1

  -- the law at a node where directions differ
  pub law_order_at : (lead : D → D) (n : ℕ) → Differ way (from tail all n) → Lawful way is (from tail all n) lead
      → Lawful way is (from tail all' n) lead
  law_order_at lead n differ l = lawful-listed way is tells (from tail all n) (from tail all' n) differ (from_move n)
      (from_back n) lead l

  -- at all nodes
  pub law_order : (lead : D → D) → Apart tail way all → AllLawful is tail way all lead → AllLawful is tail way all' lead
  law_order lead apart l n = law_order_at lead n (apart n) (l n)

-- ---- ways that are alike

module _ {D : Type 0} (way way' : D → Way) where
  abbrev AlikeOn : List D → Type 0
  AlikeOn ds = (d : D) → Memᴰ d ds → same_way (way d) (way' d) ≡ true

  before_alike : (u d : D) → same_way (way u) (way' u) ≡ true → same_way (way d) (way' d) ≡ true → before (way u) (way d)
      ≡ before (way' u) (way' d)
  before_alike u d e f = respects_left (way u) (way' u) (way d) e ∙ respects_right (way' u) (way d) (way' d) f

  greatest_alike : (u : D) (ds : List D) → AlikeOn (u ∷ ds) → greatest way u ds ≡ greatest way' u ds
  greatest_alike u [] h = refl
  greatest_alike u (d ∷ ds) h = go (before (way u) (way d)) (before (way' u) (way' d))
      (before_alike u d (h u (Memᴰ.head refl)) (h d (Memᴰ.tail (Memᴰ.head refl))))
      (λ w. greatest_alike w ds)
    where
      go : (a b : Bool) → a ≡ b → ((w : D) → AlikeOn (w ∷ ds) → greatest way w ds ≡ greatest way' w ds)
          → greatest way (cond a d u) ds ≡ greatest way' (cond b d u) ds
      go true b e ih = ih d (λ c m. h c (Memᴰ.tail m)) ∙ ap (λ (b : Bool). greatest way' (cond b d u) ds) e
      go false b e ih = ih u (λ c m. elim
          (Memᴰ.cases_cons m) [
            | inl q ↦ h c (Memᴰ.head q)
            | inr k ↦ h c
                (Memᴰ.tail (Memᴰ.tail k))
          ]) ∙ ap (λ (b : Bool). greatest way' (cond b d u) ds) e

  pick_alike : (u : D) (ds : List D) → AlikeOn ds → pick way u ds ≡ pick way' u ds
  unfolding pick
  pick_alike u [] h = refl
  pick_alike u (d ∷ ds) h = greatest_alike d ds h

  pub first_alike : (v v' : Way) (u : D) (ds : List D) → same_way v v' ≡ true → AlikeOn ds → first_clockwise way v u ds
      ≡ first_clockwise way' v' u ds
  unfolding first_clockwise
  first_alike v v' u ds e h = ap₂ (λ (c : D) (l : List D). pick way c l) (pick_alike u ds h)
      (keep_cong (λ d. before (way d) v) (λ d. before (way' d) v') ds
      (λ d m. respects_left (way d) (way' d) v (h d m) ∙ respects_right (way' d) v v' e))
      ∙ pick_alike (pick way' u ds) (keep (λ d. before (way' d) v') ds)
      (λ d m. h d (keep_in (λ d. before (way' d) v') ds m).0)

  pub lawful_alike : (is : D → D → Bool) (ds : List D) → AlikeOn ds → (d : D) → Memᴰ d ds → lawful_next way is d ds
      ≡ lawful_next way' is d ds
  lawful_alike is ds h d m = first_alike (way d) (way' d) d (others is d ds) (h d m)
      (λ c k. h c (keep_in (λ q. not (is q d)) ds k).0)

  pub law_alike : (is : D → D → Bool) (tail : D → ℕ) (all : List D) (lead : D → D) → AlikeOn all
      → AllLawful is tail way all lead → AllLawful is tail way' all lead
  law_alike is tail all lead h l n d m = l n d m
      ∙ lawful_alike is (from tail all n) (λ c k. h c (keep_in (λ d. same (tail d) n) all k).0) d m
