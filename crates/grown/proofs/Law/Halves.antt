-- The link law and the faces of a map with an edge whole and with it in halves. Assumes nothing.
use mathlib.Core.Path.{◌≡◌, refl, sym, ap, ap₂, ◌∙◌, subst}
use mathlib.Core.Logic.{◌⊎◌, inl, inr, ◌≢◌}
use mathlib.Core.Bool.{Bool, true, not, true≢false}
use mathlib.Core.List.Memᴰ
use mathlib.Core.List.{List, ◌∷◌, map, Memᴰ}
use Prim.Native.Nat.{ℕ}
use Rattle.lists.specs.Tests.{same}
use Rattle.lists.proofs.Bools.{same_true, same_eq, equal?}
use Rattle.lists.proofs.Keeps.{keep_in, keep_has}
use Rattle.plane.specs.Directions.{Way, same_way}
use Rattle.planar_maps.specs.Map.{Arc, Dart, rev}
use Rattle.planar_maps.specs.Rings.{same_dart}
use Rattle.planar_maps.proofs.Rings.{rev_in}
use Rattle.planar_maps.proofs.Hooks.{sameDart?}
use Rattle.planar_maps.proofs.Turns.{rev-rev}
use Rattle.planar_maps.proofs.Subdivide.{arc}
use Rattle.rotation.specs.Law.{Tells, Differ, others, lawful_next, Lawful, from, reverse_leads, Apart, AllLawful, Law}
use Rattle.rotation.proofs.Ways.{alike_says, alike_is}
use Rattle.rotation.proofs.Order.{same_way_sym, same_way_trans}
use Rattle.rotation.proofs.Tells.{is_yes, is_no}
use Rattle.rotation.proofs.Node.{first_in}
use Rattle.rotation.proofs.Halves.{Halves, split_law, heal_law}
use Rattle.rotation.proofs.Ties.{tells}
use Rattle.map_laws.proofs.LawOrder.{law_order_at, law_order, law_alike}
use Rattle.grown.proofs.Halved.{Halved, departs, whole, halved, turned, f_in, f_one, kind, joint_c, joint_d}
use Rattle.grown.proofs.Halved.{joint-differs}

-- of two departures alone at a node, the one that is not a
pub lawful_other : {D : Type 0} (way : D → Way) (is : D → D → Bool) → Tells is → (ds : List D) (a b : D)
    → Memᴰ b ds → b ≢ a → ((c : D) → Memᴰ c ds → (c ≡ a) ⊎ (c ≡ b)) → lawful_next way is a ds ≡ b
lawful_other {D} way is t ds a b mb nb two =
    go (keep_in (λ q. not (is q a)) ds (first_in way (way a) a (others is a ds)
    (keep_has (λ q. not (is q a)) ds mb (ap not (is_no t b a nb)))))
  where
    go : Memᴰ (lawful_next way is a ds) ds × (not (is (lawful_next way is a ds) a) ≡ true) → lawful_next way is a ds
        ≡ b
    go r = elim (two (lawful_next way is a ds) r.0) [
      | inl e ↦ absurd
          (true≢false (sym r.1 ∙ ap not (is_yes t (lawful_next way is a ds) a e)))
      | inr e ↦ e
    ]

pub swap : {A B : Type 0} → A ⊎ B → B ⊎ A
swap (inl a) = inr a
swap (inr b) = inl b

-- they lead to one another
lawful_pair : {D : Type 0} (way : D → Way) (is : D → D → Bool) → Tells is → (x y : D) (ds : List D) (lead : D → D)
    → x ≢ y → Memᴰ x ds → Memᴰ y ds → ((d : D) → Memᴰ d ds → (d ≡ x) ⊎ (d ≡ y)) → lead x ≡ y → lead y ≡ x
    → Lawful way is ds lead
lawful_pair way is t x y ds lead ne mx my only ex ey d m = elim (only d m) [
  | inl e ↦ subst (λ d. lead d ≡ lawful_next way is d ds) (sym e)
      (ex ∙ sym (lawful_other way is t ds x y my (λ p. ne (sym p)) only))
  | inr e ↦ subst (λ d. lead d ≡ lawful_next way is d ds) (sym e)
      (ey ∙ sym (lawful_other way is t ds y x mx ne (λ c k. swap (only c k))))
]

module _ (h : ℕ) (c d : Dart) (n : ℕ)
    (r : List Arc) {tail tail' : Dart → ℕ} {next next' : Dart → Dart} {face face' : Dart → ℕ} {way way' : Dart → Way}
    (H : Halved h c d n r tail tail' next next' face face' way way')
    (all all' : List Dart) (in_whole : (z : Dart) → Memᴰ z all → Memᴰ z (whole h r))
    (of-whole : (z : Dart) → Memᴰ z (whole h r) → Memᴰ z all)
    (in-halved : (z : Dart) → Memᴰ z all' → Memᴰ z (halved c d r))
    (of-halved : (z : Dart) → Memᴰ z (halved c d r) → Memᴰ z all') where
  names : Halves same_dart tells (departs h c d) tail tail' (λ z. way' (departs h c d z)) way' (reverse_leads rev next)
      (reverse_leads rev next') all n (rev c) d
  names = record {
    tails = λ z k. H.tails z (in_whole z k);
    ways = λ z k. refl;
    tests = λ z w k j. tests z w (in_whole z k) (in_whole w j);
    leads = λ z k. ap next' (turned H.parts z (in_whole z k))
        ∙ H.nexts (rev z) (rev_in (arc h 0 0 ∷ r) (in_whole z k));
    only = λ z k. H.away z (in_whole z k);
    x_there = H.tail_c;
    y_there = H.tail_d;
    differ = joint-differs H.parts;
    x_leads = ap next' (rev-rev c) ∙ H.next_c;
    y_leads = H.next_d;
  }
    where
      tests : (z w : Dart) → Memᴰ z (whole h r) → Memᴰ w (whole h r)
          → same_dart (departs h c d z) (departs h c d w) ≡ same_dart z w
      tests z w k j = elim (sameDart? z w) [
        | inl e ↦ is_yes tells (departs h c d z) (departs h c d w) (ap (departs h c d) e) ∙ sym (is_yes tells z w e)
        | inr ne ↦ is_no tells (departs h c d z) (departs h c d w)
            (λ e. ne (f_one H.parts z w k j e)) ∙ sym (is_no tells z w ne)
      ]

  -- the halves' darts: the joint's two and the renamed
  listed : List Dart
  listed = rev c ∷ d ∷ map (departs h c d) all

  to_listed : (z : Dart) → Memᴰ z all' → Memᴰ z listed
  unfolding listed
  to_listed z k = elim (kind H.parts z (in-halved z k)) [
    | inl q ↦ elim q [ inl e ↦ Memᴰ.head e | inr e ↦ Memᴰ.tail (Memᴰ.head e) ]
    | inr q ↦ Memᴰ.tail (Memᴰ.tail
        (Memᴰ.cast (sym q.2) (Memᴰ.map (departs h c d) (of-whole q.0 q.1))))
  ]

  renamed_in : (z : Dart) → Memᴰ z (map (departs h c d) all) → Memᴰ z all'
  renamed_in z k = go (Memᴰ.of_map (departs h c d) all k)
    where
      go : (w : Dart) × Memᴰ w all × (departs h c d w ≡ z) → Memᴰ z all'
      go q = Memᴰ.cast (sym q.2) (of-halved (departs h c d q.0)
          (f_in H.parts q.0 (in_whole q.0 q.1)))

  of_listed : (z : Dart) → Memᴰ z listed → Memᴰ z all'
  unfolding listed
  of_listed z k = elim (Memᴰ.cases_cons k) [
    | inl e ↦ Memᴰ.cast e (of-halved (rev c) (joint_c H.parts))
    | inr j ↦ elim (Memᴰ.cases_cons j) [
      | inl e ↦ Memᴰ.cast e
          (of-halved d (joint_d H.parts))
      | inr i ↦ renamed_in z i
    ]
  ]

  -- at another node than the joint
  differ_there : Apart tail way all → (k : ℕ) → k ≢ n → Differ way' (from tail' listed k)
  unfolding listed
  differ_there apart k ne a b ma mb alike = go (origin a ma) (origin b mb)
    where
      origin : (z : Dart) → Memᴰ z (from tail' (rev c ∷ d ∷ map (departs h c d) all) k)
          → ((w : Dart) × Memᴰ w all × (departs h c d w ≡ z)) × (tail' z ≡ k)
      origin z m = (
        elim (Memᴰ.cases_cons x.0) [
          | inl e ↦ absurd (ne (sym there ∙ ap tail' e ∙ H.tail_c))
          | inr j ↦ elim (Memᴰ.cases_cons j) [
            | inl e ↦ absurd
                (ne (sym there ∙ ap tail' e ∙ H.tail_d))
            | inr i ↦ Memᴰ.of_map (departs h c d) all i
          ]
        ],
        there,
      )
        where
          x : Memᴰ z (rev c ∷ d ∷ map (departs h c d) all) × (same (tail' z) k ≡ true)
          x = keep_in (λ z. same (tail' z) k) (rev c ∷ d ∷ map (departs h c d) all) m

          there : tail' z ≡ k
          there = same_true (tail' z) k x.1

      go : ((w : Dart) × Memᴰ w all × (departs h c d w ≡ a)) × (tail' a ≡ k)
          → ((w : Dart) × Memᴰ w all × (departs h c d w ≡ b)) × (tail' b ≡ k) → a ≡ b
      go x y = sym x.0.2 ∙ ap (departs h c d)
          (apart k x.0.0 y.0.0 (at x.0.0 x.0.1 (ap tail' x.0.2 ∙ x.1))
          (at y.0.0 y.0.1 (ap tail' y.0.2 ∙ y.1)) (alike_says _ _ ways)) ∙ y.0.2
        where
          at : (w : Dart) → Memᴰ w all → tail' (departs h c d w) ≡ k → Memᴰ w (from tail all k)
          at w m e = keep_has (λ z. same (tail z) k) all m (same_eq (tail w) k (sym (H.tails w (in_whole w m)) ∙ e))

          halves_ways : same_way (way' (departs h c d x.0.0)) (way' (departs h c d y.0.0)) ≡ true
          halves_ways = ap₂ (λ v w. same_way (way' v) (way' w)) x.0.2 y.0.2 ∙ alike_is (way' a) (way' b) alike

          ways : same_way (way x.0.0) (way y.0.0) ≡ true
          ways = same_way_trans _ (way' (departs h c d x.0.0)) _ (H.ways x.0.0 (in_whole x.0.0 x.0.1))
              (same_way_trans _ (way' (departs h c d y.0.0)) _ halves_ways
              (same_way_sym _ _ (H.ways y.0.0 (in_whole y.0.0 y.0.1))))

  -- at the joint
  lawful-joint : Lawful way' same_dart (from tail' all' n) (reverse_leads rev next')
  lawful-joint = lawful_pair way' same_dart tells (rev c) d (from tail' all' n) (reverse_leads rev next')
      (joint-differs H.parts)
      (keep_has (λ z. same (tail' z) n) all' (of-halved (rev c) (joint_c H.parts))
      (same_eq (tail' (rev c)) n H.tail_c))
      (keep_has (λ z. same (tail' z) n) all' (of-halved d (joint_d H.parts))
      (same_eq (tail' d) n H.tail_d))
      two (ap next' (rev-rev c) ∙ H.next_c) H.next_d
    where
      two : (z : Dart) → Memᴰ z (from tail' all' n) → (z ≡ rev c) ⊎ (z ≡ d)
      two z m = let x = keep_in (λ z. same (tail' z) n) all' m in
          elim (kind H.parts z (in-halved z x.0)) [
            | inl q ↦ q
            | inr q ↦ absurd (H.away q.0 q.1
                (sym (H.tails q.0 q.1) ∙ ap tail' q.2 ∙ same_true (tail' z) n x.1))
          ]

  -- a split keeps the law
  pub split-lawful : Apart tail way all → Law same_dart rev tail way all next → Law same_dart rev tail' way' all' next'
  unfolding listed
  split-lawful apart l k = elim (equal? k n) [
    | inl e ↦ subst (λ (k : ℕ). Lawful way' same_dart (from tail' all' k) (reverse_leads rev next')) (sym e) lawful-joint
    | inr ne ↦ law_order_at same_dart tells tail' way' listed all' of_listed to_listed (reverse_leads rev next') k
        (differ_there apart k ne) (halves k)
  ]
    where
      halves : AllLawful same_dart tail' way' (rev c ∷ d ∷ map (departs h c d) all) (reverse_leads rev next')
      halves = split_law same_dart tells (departs h c d) tail tail' (λ z. way' (departs h c d z)) way'
          (reverse_leads rev next)
          (reverse_leads rev next') all n (rev c) d names
          (law_alike way (λ z. way' (departs h c d z)) same_dart tail all (reverse_leads rev next)
          (λ z k. H.ways z (in_whole z k)) l)

  -- so does a heal
  pub heal-lawful : Apart tail' way' all' → Law same_dart rev tail' way' all' next' → Law same_dart rev tail way all next
  unfolding listed
  heal-lawful apart l = law_alike (λ z. way' (departs h c d z)) way same_dart tail all (reverse_leads rev next)
      (λ z k. same_way_sym _ _ (H.ways z (in_whole z k)))
      (heal_law same_dart tells (departs h c d) tail tail' (λ z. way' (departs h c d z)) way' (reverse_leads rev next)
      (reverse_leads rev next') all n (rev c) d names
      (λ z k. of-whole (next (rev z)) (H.into (rev z) (rev_in (arc h 0 0 ∷ r) (in_whole z k))))
      (law_order same_dart tells tail' way' all' listed to_listed of_listed (reverse_leads rev next') apart l))
