-- Chains, labels and the number of pieces. Assumes nothing.
use mathlib.Core.Path.{◌≡◌, refl, sym, ap, ◌∙◌}
use mathlib.Core.Logic.{◌⊎◌, inl, inr, ◌↔◌}
use mathlib.Core.Bool.{true, false}
use mathlib.Core.List.Memᴰ
use mathlib.Core.List.{List, [], ◌∷◌, Memᴰ}
use Prim.Native.Nat.{ℕ, suc, ◌≤◌, min, max}
use native.Mathlib.Omega.{arith}
use Rattle.lists.specs.Tests.{same}
use Rattle.lists.specs.Members.{Distinct}
use Rattle.lists.proofs.Bools.{which, same_refl, same_true, same_false, same_eq, differ, equal?}
use Rattle.lists.proofs.Counts.{count_cong, count_one}
use Rattle.planar_maps.specs.Map.{Arc}
use Rattle.planar_maps.specs.Pieces.{Chain, stay, along, against, merge, label, pieces, Within, Isolated}

-- ---- chains

pub chain_join : {es : List Arc} {a b c : ℕ} → Chain es a b → Chain es b c → Chain es a c
chain_join stay q = q
chain_join (along a m p) q = along a m (chain_join p q)
chain_join (against a m p) q = against a m (chain_join p q)

pub chain_back : {es : List Arc} {a b : ℕ} → Chain es a b → Chain es b a
chain_back stay = stay
chain_back (along a m p) = chain_join (chain_back p) (against a m stay)
chain_back (against a m p) = chain_join (chain_back p) (along a m stay)

-- a chain in one map is one in another that has its edges
pub chain_into : {es fs : List Arc} {a b : ℕ} → ((x : Arc) → Memᴰ x es → Memᴰ x fs) → Chain es a b
    → Chain fs a b
chain_into h stay = stay
chain_into h (along a m p) = along a (h a m) (chain_into h p)
chain_into h (against a m p) = against a (h a m) (chain_into h p)

pub chain_more : {es : List Arc} {x y : ℕ} (a : Arc) → Chain es x y → Chain (a ∷ es) x y
chain_more a p = chain_into (λ x m. Memᴰ.tail m) p

-- what is alike at the two ends of each edge is alike at the ends of a chain
pub chain_alike : {B : Type 0} {es : List Arc} {x y : ℕ} (f : ℕ → B)
    → ((a : Arc) → Memᴰ a es → f a.from ≡ f a.to) → Chain es x y → f x ≡ f y
chain_alike f h stay = refl
chain_alike f h (along a m p) = h a m ∙ chain_alike f h p
chain_alike f h (against a m p) = sym (h a m) ∙ chain_alike f h p

-- a map of the nodes that carries each edge to a chain carries chains to chains
pub chain_image : {es fs : List Arc} {x y : ℕ} (φ : ℕ → ℕ)
    → ((a : Arc) → Memᴰ a es → Chain fs (φ a.from) (φ a.to)) → Chain es x y → Chain fs (φ x) (φ y)
chain_image φ h stay = stay
chain_image φ h (along a m p) = chain_join (h a m) (chain_image φ h p)
chain_image φ h (against a m p) = chain_join (chain_back (h a m)) (chain_image φ h p)

-- ---- labels

pub merge_cases : (s t x : ℕ)
    → ((merge s t x ≡ min s t) × ((x ≡ s) ⊎ (x ≡ t))) ⊎ ((merge s t x ≡ x) × ((x ≡ s) → ⊥) × ((x ≡ t) → ⊥))
merge_cases s t x = elim (which (same x s)) [
  | inl e ↦ inl (rw e, inl (same_true x s e))
  | inr e ↦ elim (which (same x t)) [
    | inl k ↦ inl (rw (e, k), inr (same_true x t k))
    | inr k ↦ inr (rw (e, k), differ x s e, differ x t k)
  ]
]

merge-left : (s t : ℕ) → merge s t s ≡ min s t
merge-left s t = rw (same_refl s)

pub merge_right : (s t : ℕ) → merge s t t ≡ min s t
merge_right s t = elim (which (same t s)) [ inl e ↦ rw e | inr e ↦ rw (e, same_refl t) ]

pub min_one : (s t : ℕ) → (min s t ≡ s) ⊎ (min s t ≡ t)
min_one s t = elim (equal? (min s t) s) [ inl e ↦ inl e | inr e ↦ inr (omega arith) ]

label_alike : (es : List Arc) (a : Arc) → Memᴰ a es → label es a.from ≡ label es a.to
unfolding label
label_alike [] a m = absurd (Memᴰ.not-nil m)
label_alike (b ∷ es) a m = elim (Memᴰ.cases_cons m) [
  | inl e ↦
      rw e (merge-left (label es b.from) (label es b.to)
      ∙ sym (merge_right (label es b.from) (label es b.to)))
  | inr k ↦ ap (merge (label es b.from) (label es b.to)) (label_alike es a k)
]

-- connected nodes have one label
pub label_of_chain : {es : List Arc} {x y : ℕ} → Chain es x y → label es x ≡ label es y
label_of_chain {es} p = chain_alike (label es) (label_alike es) p

meet : {es : List Arc} {x y u v : ℕ} → Chain es x u → Chain es y v → u ≡ v → Chain es x y
meet {es} {x} p q e = chain_join (rw e at p) (chain_back q)

label_step : (a : Arc) (es : List Arc) (n : ℕ) → Chain es n (label es n) → Chain es a.from (label es a.from)
    → Chain es a.to (label es a.to) → Chain (a ∷ es) n (label (a ∷ es) n)
unfolding label
label_step a es n p ps pt = elim (merge_cases (label es a.from) (label es a.to) (label es n)) [
  | inr h ↦ rw h.0 (chain_more a p)
  | inl h ↦
      rw h.0
      (lowest (elim h.1 [
        | inl e ↦ chain_more a (meet p ps e)
        | inr e ↦ chain_join (chain_more a (meet p pt e)) (against a (Memᴰ.head refl) stay)
      ]))
]
  where
    lowest : Chain (a ∷ es) n a.from → Chain (a ∷ es) n (min (label es a.from) (label es a.to))
    lowest q = elim (min_one (label es a.from) (label es a.to)) [
      | inl e ↦ rw e (chain_join q (chain_more a ps))
      | inr e ↦ rw e (chain_join q (along a (Memᴰ.head refl) (chain_more a pt)))
    ]

-- a chain leads from a node to its label
pub label_chain : (es : List Arc) (n : ℕ) → Chain es n (label es n)
unfolding label
label_chain [] n = stay
label_chain (a ∷ es) n = label_step a es n (label_chain es n) (label_chain es a.from) (label_chain es a.to)

pub chain_of_label : (es : List Arc) (x y : ℕ) → label es x ≡ label es y → Chain es x y
chain_of_label es x y e = meet (label_chain es x) (label_chain es y) e

pub connected? : (es : List Arc) (x y : ℕ) → Chain es x y ⊎ (Chain es x y → ⊥)
connected? es x y = elim (equal? (label es x) (label es y)) [
  | inl e ↦ inl (chain_of_label es x y e)
  | inr e ↦ inr (λ p. e (label_of_chain p))
]

label-le : (es : List Arc) (n : ℕ) → label es n ≤ n
unfolding label
label-le [] n = omega arith
label-le (a ∷ es) n = step (label-le es n)
  where
    step : label es n ≤ n → label (a ∷ es) n ≤ n
    step h = elim (merge_cases (label es a.from) (label es a.to) (label es n)) [
      | inr k ↦ omega (arith, k.0)
      | inl k ↦ elim k.1 [ inl e ↦ omega (arith, k.0) | inr e ↦ omega (arith, k.0) ]
    ]

pub label_idem : (es : List Arc) (n : ℕ) → label es (label es n) ≡ label es n
label_idem es n = sym (label_of_chain (label_chain es n))

-- the label is the lowest node that a chain leads to
label-least : {es : List Arc} {n m : ℕ} → Chain es n m → label es n ≤ m
label-least {es} {n} {m} p = omega (arith, label_of_chain p, label-le es m)

-- what `pieces` counts
pub root_least : (es : List Arc) (n : ℕ) → (same (label es n) n ≡ true) ↔ ((m : ℕ) → Chain es n m → n ≤ m)
root_least es n = (
  λ e m p. omega (arith, same_true (label es n) n e, label-least p),
  λ h. same_eq (label es n) n (omega (arith, h (label es n) (label_chain es n), label-le es n)),
)

-- ---- L4: the pieces

pieces_alike : (nodes : List ℕ) (es fs : List Arc) → ((n : ℕ) → label es n ≡ label fs n)
    → pieces nodes es ≡ pieces nodes fs
unfolding pieces
pieces_alike nodes es fs h = count_cong _ _ nodes (λ n m. ap (λ x. same x n) (h n))

-- pieces depends on which nodes are connected, and on nothing else of the edges
pub pieces_of_chains : (nodes : List ℕ) (es fs : List Arc) → ((x y : ℕ) → Chain es x y → Chain fs x y)
    → ((x y : ℕ) → Chain fs x y → Chain es x y) → pieces nodes es ≡ pieces nodes fs
pieces_of_chains nodes es fs h k = pieces_alike nodes es fs
    (λ n. omega (
      arith,
      label-least (k n (label fs n) (label_chain fs n)),
      label-least (h n (label es n) (label_chain es n)),
    ))

pub pieces_loop : (nodes : List ℕ) (a : Arc) (es : List Arc) → Chain es a.from a.to
    → pieces nodes (a ∷ es) ≡ pieces nodes es
unfolding label
pieces_loop nodes a es p = pieces_alike nodes (a ∷ es) es
    (λ n. elim (merge_cases (label es a.from) (label es a.to) (label es n)) [
      | inr k ↦ k.0
      | inl k ↦
          elim k.1 [ inl e ↦ omega (arith, k.0, label_of_chain p) | inr e ↦ omega (arith, k.0, label_of_chain p) ]
    ])

-- a chain from a node of the list ends in the list
pub chain_within : {nodes : List ℕ} {es : List Arc} {x y : ℕ} → Within nodes es → Memᴰ x nodes → Chain es x y
    → Memᴰ y nodes
chain_within w m stay = m
chain_within w m (along a k p) = chain_within w (w.ends a k) p
chain_within w m (against a k p) = chain_within w (w.starts a k) p

pub pieces_bridge : (nodes : List ℕ) (a : Arc) (es : List Arc) → Distinct nodes → Within nodes (a ∷ es)
    → (Chain es a.from a.to → ⊥) → pieces nodes es ≡ suc (pieces nodes (a ∷ es))
unfolding label pieces
pieces_bridge nodes a es dis w apart = count_one (λ n. same (label es n) n) (λ n. same (label (a ∷ es) n) n) M nodes dis
    inside at_p at_q rest
  where
    s : ℕ
    s = label es a.from

    t : ℕ
    t = label es a.to

    M : ℕ
    M = max s t

    s≢t : (s ≡ t) → ⊥
    s≢t e = apart (chain_of_label es a.from a.to e)

    M-one : (M ≡ s) ⊎ (M ≡ t)
    M-one = elim (equal? M s) [ inl e ↦ inl e | inr e ↦ inr (omega arith) ]

    before : Within nodes es
    before = record { starts = λ b m. w.starts b (Memᴰ.tail m); ends = λ b m. w.ends b (Memᴰ.tail m) }

    inside : Memᴰ M nodes
    inside = elim M-one [
      | inl e ↦ Memᴰ.cast e (chain_within before (w.starts a (Memᴰ.head refl)) (label_chain es a.from))
      | inr e ↦ Memᴰ.cast e (chain_within before (w.ends a (Memᴰ.head refl)) (label_chain es a.to))
    ]

    root : (n : ℕ) → (n ≡ s) ⊎ (n ≡ t) → label es n ≡ n
    root n (inl e) = rw e (label_idem es a.from)
    root n (inr e) = rw e (label_idem es a.to)

    merged : (n : ℕ) → (n ≡ s) ⊎ (n ≡ t) → merge s t (label es n) ≡ min s t
    merged n (inl e) = rw e (rw (label_idem es a.from) (merge-left s t))
    merged n (inr e) = rw e (rw (label_idem es a.to) (merge_right s t))

    at_p : same (label es M) M ≡ true
    at_p = same_eq (label es M) M (root M M-one)

    at_q : same (merge s t (label es M)) M ≡ false
    at_q = same_false _ M (λ e. s≢t (omega (arith, merged M M-one)))

    both_true : (n : ℕ) → ((n ≡ M) → ⊥) → (n ≡ s) ⊎ (n ≡ t) → same (label es n) n ≡ same (merge s t (label es n)) n
    both_true n ne o = same_eq (label es n) n (root n o)
        ∙ sym (same_eq _ n (merged n o ∙ elim o [ inl e ↦ omega arith | inr e ↦ omega arith ]))

    rest : (n : ℕ) → ((n ≡ M) → ⊥) → same (label es n) n ≡ same (merge s t (label es n)) n
    rest n ne = elim (equal? n s) [
      | inl e ↦ both_true n ne (inl e)
      | inr ns ↦ elim (equal? n t) [
        | inl e ↦ both_true n ne (inr e)
        | inr nt ↦ elim (merge_cases s t (label es n)) [
          | inr k ↦ rw k.0
          | inl k ↦ same_false (label es n) n (λ e. elim k.1 [ inl f ↦ ns (sym e ∙ f) | inr f ↦ nt (sym e ∙ f) ])
              ∙ sym (same_false (merge s t (label es n)) n
              (λ e. elim (min_one s t) [ inl f ↦ ns (omega (arith, k.0)) | inr f ↦ nt (omega (arith, k.0)) ]))
        ]
      ]
    ]

pub isolated_chain : {n m : ℕ} {es : List Arc} → Isolated n es → Chain es n m → m ≡ n
isolated_chain {n} {m} i p =
    same_true m n
    (sym (chain_alike (λ x. same x n) (λ a k. same_false a.from n (i.starts a k)
    ∙ sym (same_false a.to n (i.ends a k))) p) ∙ same_refl n)

pub pieces-isolated : (n : ℕ) (nodes : List ℕ) (es : List Arc) → Isolated n es
    → pieces (n ∷ nodes) es ≡ suc (pieces nodes es)
unfolding pieces
pieces-isolated n nodes es i = rw (same_eq (label es n) n (isolated_chain i (label_chain es n))) (omega arith)
