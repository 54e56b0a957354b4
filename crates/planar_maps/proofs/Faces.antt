-- The other way round: in a map in the plane every face is reached. Else some set R of faces has both or no side of
-- each edge, has the face g and not f. For each face but these two ask that a set of chords has an even number of sides
-- in it: fewer equations than chords, so some set y that is not empty solves them all. Then y has an even number of
-- chords between any two colours (`between_none`); but some cycle takes an odd number of y (`odd`), and is coloured.
-- Assumes nothing.
use mathlib.Core.Path.{◌≡◌, refl, sym, ap, ap₂, ◌∙◌, subst}
use mathlib.Core.Logic.{◌⊎◌, inl, inr}
use mathlib.Core.Bool.{Bool, true, false, ◌&&◌, true≢false}
use mathlib.Core.List.Memᴰ
use mathlib.Core.List.{List, [], ◌∷◌, map, Memᴰ}
use mathlib.Core.List.{Permᴰ}
use Prim.Native.Nat.{ℕ, ◌<◌}
use native.Mathlib.Omega.{arith}
use lib.ListN.{length, length-map}
use Rattle.lists.specs.Tests.{◌⊕◌, same}
use Rattle.lists.specs.Scans.{odd_count}
use Rattle.lists.specs.Members.{Distinct}
use Rattle.lists.specs.Functionals.{Functional, Solution}
use Rattle.lists.proofs.Bools.{eq1, eq2, eq3, ⊕-self, ⊕-equal, not-true, which, same_refl, same_false}
use Rattle.lists.proofs.Members.{takes?}
use Rattle.lists.proofs.Perms.{extract, perm_in, perm_length}
use Rattle.lists.proofs.Sums.{sum_cong, sum-⊕, sum-zero}
use Rattle.lists.proofs.Linear.{point, scaled, plus, plus_all, plus_all_lem, unseen, solution}
use Rattle.lists.proofs.Linear.{cleared, cleared_at, cleared-false, cleared_in}
use Rattle.planar_maps.specs.Map.{Arc, Dart, fwd, bwd, across, crossings, Cycle}
use Rattle.planar_maps.specs.Pieces.{Chain, stay, along, against, nums}
use Rattle.planar_maps.specs.Chords.{chords}
use Rattle.planar_maps.specs.Reached.{Even, Reached}
use Rattle.planar_maps.specs.Planar.{Planar}
use Rattle.planar_maps.proofs.Circles.{closes, closes_chain, chords_yes, chords_no, chords-length}

-- ---- chords are edges

chords_in : (es : List Arc) {a : Arc} → Memᴰ a (chords es) → Memᴰ a es
unfolding chords
chords_in [] m = m
chords_in (b ∷ es) {a} m = step (chords_in es) (which (closes b es))
  where
    step : (Memᴰ a (chords es) → Memᴰ a es) → (closes b es ≡ true) ⊎ (closes b es ≡ false)
        → Memᴰ a (b ∷ es)
    step ih (inl e) = elim (Memᴰ.cases_cons (subst (Memᴰ a) (chords_yes b es e) m)) [
      | inl q ↦ Memᴰ.head q
      | inr k ↦ Memᴰ.tail (ih k)
    ]
    step ih (inr e) = Memᴰ.tail (ih (subst (Memᴰ a) (chords_no b es e) m))

nums_in : (es : List Arc) {n : ℕ} → Memᴰ n (nums (chords es)) → Memᴰ n (nums es)
nums_in es {n} m = let r = Memᴰ.of_map (λ (a : Arc). a.num) (chords es) m in
    subst (λ k. Memᴰ k (nums es)) r.2 (Memᴰ.map (λ (a : Arc). a.num) (chords_in es r.1))

chords_once : (es : List Arc) → Distinct (nums es) → Distinct (nums (chords es))
unfolding chords
chords_once [] d = tt
chords_once (a ∷ es) d = step (chords_once es d.1) (which (closes a es))
  where
    step : Distinct (nums (chords es)) → (closes a es ≡ true) ⊎ (closes a es ≡ false)
        → Distinct (nums (chords (a ∷ es)))
    step ih (inl e) = subst (λ l. Distinct (nums l)) (sym (chords_yes a es e)) (λ m. d.0 (nums_in es m), ih)
    step ih (inr e) = subst (λ l. Distinct (nums l)) (sym (chords_no a es e)) ih

-- ---- a chain as a set of edges: it crosses a cut as often as its ends lie on two sides

single : (es : List Arc) → Distinct (nums es) → (b : Arc) → Memᴰ b es → (X : ℕ → Bool)
    → crossings es (λ n. same n b.num) X ≡ across X b
single [] d b m X = absurd (Memᴰ.not-nil m)
single (a ∷ es) d b m X = step (single es d.1 b) (Memᴰ.cases_cons m)
  where
    none : b ≡ a → crossings es (λ n. same n b.num) X ≡ false
    none e = sum-zero es (λ c. same c.num b.num && across X c)
        (λ c k.
        rw (same_false c.num b.num (λ q. d.0 (Memᴰ.cast (ap (λ (x : Arc). x.num) (sym e) ∙ sym q)
        (Memᴰ.map (λ (x : Arc). x.num) k)))))

    step : (Memᴰ b es → (X : ℕ → Bool) → crossings es (λ n. same n b.num) X ≡ across X b)
        → (b ≡ a) ⊎ Memᴰ b es → same a.num b.num && across X a ⊕ crossings es (λ n. same n b.num) X
        ≡ across X b
    step ih (inl e) = ap₂ (λ v w. v && across X a ⊕ w) (ap (λ (x : Arc). same a.num x.num) e ∙ same_refl a.num)
        (none e) ∙ eq1 (λ x. x ⊕ false) (λ x. x) tt (across X a) ∙ ap (across X) (sym e)
    step ih (inr k) = ap₂ (λ v w. v && across X a ⊕ w)
        (same_false a.num b.num (λ q. d.0 (Memᴰ.cast q (Memᴰ.map (λ (x : Arc). x.num) k)))) (ih k X)

crossings-⊕ : (es : List Arc) (b c : ℕ → Bool) (X : ℕ → Bool)
    → crossings es (λ n. b n ⊕ c n) X ≡ crossings es b X ⊕ crossings es c X
crossings-⊕ es b c X =
    sum_cong es _ _ (λ a m. eq3 (λ x y z. (x ⊕ y) && z) (λ x y z. x && z ⊕ (y && z)) tt (b a.num) (c a.num)
    (across X a)) ∙ sum-⊕ es (λ a. b a.num && across X a) (λ a. c a.num && across X a)

chain_set : (es : List Arc) → Distinct (nums es) → {x y : ℕ} → Chain es x y
    → (c : ℕ → Bool) × ((X : ℕ → Bool) → crossings es c X ≡ X x ⊕ X y)
chain_set es d (stay {n = n}) = ((λ k. false), λ X. sum-zero es _ (λ a m. refl) ∙ sym (⊕-self (X n)))
chain_set es d (along {n = n} a m p) = go (chain_set es d p)
  where
    go : (c : ℕ → Bool) × ((X : ℕ → Bool) → crossings es c X ≡ X a.to ⊕ X n)
        → (c : ℕ → Bool) × ((X : ℕ → Bool) → crossings es c X ≡ X a.from ⊕ X n)
    go r = (
      (λ k. r.0 k ⊕ same k a.num),
      λ X. crossings-⊕ es r.0 (λ k. same k a.num) X
          ∙ ap₂ ◌⊕◌ (r.1 X) (single es d a m X) ∙ eq3 (λ f t n. t ⊕ n ⊕ (f ⊕ t)) (λ f t n. f ⊕ n) tt (X a.from)
          (X a.to) (X n),
    )
chain_set es d (against {n = n} a m p) = go (chain_set es d p)
  where
    go : (c : ℕ → Bool) × ((X : ℕ → Bool) → crossings es c X ≡ X a.from ⊕ X n)
        → (c : ℕ → Bool) × ((X : ℕ → Bool) → crossings es c X ≡ X a.to ⊕ X n)
    go r = (
      (λ k. r.0 k ⊕ same k a.num),
      λ X. crossings-⊕ es r.0 (λ k. same k a.num) X
          ∙ ap₂ ◌⊕◌ (r.1 X) (single es d a m X) ∙ eq3 (λ f t n. f ⊕ n ⊕ (f ⊕ t)) (λ f t n. t ⊕ n) tt (X a.from)
          (X a.to) (X n),
    )

-- ---- some cycle takes an odd number of the chords of a set that has any

abbrev Odd : List Arc → (ℕ → Bool) → Type 0
Odd es y = (c : ℕ → Bool) × Cycle es c × (odd_count (chords es) (λ a. y a.num && c a.num) ≡ true)

-- c, but v at n
set : (ℕ → Bool) → ℕ → Bool → ℕ → Bool
set c n v k = c k ⊕ ((c n ⊕ v) && same k n)

set_here : (c : ℕ → Bool) (n : ℕ) (v : Bool) → set c n v n ≡ v
unfolding set
set_here c n v = rw (same_refl n) (eq2 (λ x v. x ⊕ ((x ⊕ v) && true)) (λ x v. v) tt (c n) v)

set_there : (c : ℕ → Bool) (n : ℕ) (v : Bool) (k : ℕ) → ((k ≡ n) → ⊥) → set c n v k ≡ c k
unfolding set
set_there c n v k ne = rw (same_false k n ne) (eq3 (λ x y v. y ⊕ ((x ⊕ v) && false)) (λ x y v. y) tt (c n) (c k) v)

module _ (a : Arc) (es : List Arc) (d : Distinct (nums (a ∷ es))) (y : ℕ → Bool) where
  other : {b : Arc} → Memᴰ b es → (b.num ≡ a.num) → ⊥
  other k q = d.0 (Memᴰ.cast (sym q) (Memᴰ.map (λ (x : Arc). x.num) k))

  set_sum : (c : ℕ → Bool) (v : Bool) (l : List Arc) → ((b : Arc) → Memᴰ b l → Memᴰ b es) → (w : Arc → Bool)
      → odd_count l (λ b. w b && set c a.num v b.num) ≡ odd_count l (λ b. w b && c b.num)
  set_sum c v l sub w = sum_cong l _ _ (λ b k. ap (λ x. w b && x) (set_there c a.num v b.num (other (sub b k))))

  set-crossings : (c : ℕ → Bool) (v : Bool) (X : ℕ → Bool)
      → crossings (a ∷ es) (set c a.num v) X ≡ v && across X a ⊕ crossings es c X
  set-crossings c v X = ap₂ (λ u w. u && across X a ⊕ w) (set_here c a.num v)
      (sum_cong es _ _ (λ b k. ap (λ x. x && across X b) (set_there c a.num v b.num (other k))))

  -- one that takes an odd number later on leaves the edge out
  later : Odd es y → Odd (a ∷ es) y
  later r = (
    set r.0 a.num false,
    (λ X. set-crossings r.0 false X ∙ r.1 X),
    elim (which (closes a es)) [
      | inl e ↦ ap (λ l. odd_count l (λ b. y b.num && set r.0 a.num false b.num)) (chords_yes a es e)
          ∙ ap₂ (λ u w. y a.num && u ⊕ w) (set_here r.0 a.num false) rest
          ∙ eq1 (λ x. x && false ⊕ true) (λ x. true) tt (y a.num)
      | inr e ↦ ap (λ l. odd_count l (λ b. y b.num && set r.0 a.num false b.num)) (chords_no a es e) ∙ rest
    ],
  )
    where
      rest : odd_count (chords es) (λ b. y b.num && set r.0 a.num false b.num) ≡ true
      rest = set_sum r.0 false (chords es) (λ b k. chords_in es k) (λ b. y b.num) ∙ r.2

  -- the last chord of the set, with a chain back
  last : closes a es ≡ true → y a.num ≡ true → ((b : Arc) → Memᴰ b (chords es) → y b.num ≡ false)
      → Odd (a ∷ es) y
  last e at none = (
    set c a.num true,
    (λ X. set-crossings c true X ∙ ap (λ w. across X a ⊕ w) (r.1 X)
        ∙ eq2 (λ f t. f ⊕ t ⊕ (f ⊕ t)) (λ f t. false) tt (X a.from) (X a.to)),
    ap (λ l. odd_count l (λ b. y b.num && set c a.num true b.num)) (chords_yes a es e)
        ∙ ap₂ (λ u w. u ⊕ w) (ap₂ ◌&&◌ at (set_here c a.num true))
        (sum-zero (chords es) (λ b. y b.num && set c a.num true b.num) (λ b k. rw (none b k))),
  )
    where
      r : (c : ℕ → Bool) × ((X : ℕ → Bool) → crossings es c X ≡ X a.from ⊕ X a.to)
      r = chain_set es d.1 (closes_chain a es e)

      c : ℕ → Bool
      c = r.0

odd : (es : List Arc) → Distinct (nums es) → (y : ℕ → Bool) (b : Arc) → Memᴰ b (chords es) → y b.num ≡ true
    → Odd es y
unfolding chords
odd [] d y b m e = absurd (Memᴰ.not-nil m)
odd (a ∷ es) d y b m e = step (odd es d.1 y) (takes? (λ b. y b.num) (chords es)) (which (closes a es))
  where
    step : ((b : Arc) → Memᴰ b (chords es) → y b.num ≡ true → Odd es y)
        → ((b : Arc) × Memᴰ b (chords es) × (y b.num ≡ true))
        ⊎ ((b : Arc) → Memᴰ b (chords es) → y b.num ≡ false)
        → (closes a es ≡ true) ⊎ (closes a es ≡ false) → Odd (a ∷ es) y
    step ih (inl r) q = later a es d y (ih r.0 r.1 r.2)
    step ih (inr none) (inl q) = elim (Memᴰ.cases_cons (subst (Memᴰ b) (chords_yes a es q) m)) [
      | inl p ↦ last a es d y q (ap (λ (x : Arc). y x.num) (sym p) ∙ e) none
      | inr k ↦ absurd (true≢false (sym e ∙ none b k))
    ]
    step ih (inr none) (inr q) = absurd (true≢false (sym e ∙ none b (subst (Memᴰ b) (chords_no a es q) m)))

-- ---- a face that is not reached

module _ {nodes : List ℕ} {es : List Arc} {tail : Dart → ℕ} {next : Dart → Dart} {face : Dart → ℕ} (faces : List ℕ)
    (f : ℕ) (planar : Planar nodes es tail next face (length faces)) (first : Memᴰ f faces)
    (sides : (a : Arc) → Memᴰ a es → Memᴰ (face (fwd a.num)) faces × Memᴰ (face (bwd a.num)) faces)
  where
    module _ (R : ℕ → Bool) (even : Even es face R) (out : R f ≡ false) (g : ℕ) (there : Memᴰ g faces)
        (has : R g ≡ true) where
      abbrev one : (r : List ℕ) × Permᴰ faces (f ∷ r)
      one = extract first

      second : Memᴰ g one.0
      second = elim (Memᴰ.cases_cons (perm_in one.1 there)) [
        | inl e ↦ absurd (true≢false (sym has ∙ ap R e ∙ out))
        | inr k ↦ k
      ]

      abbrev two : (r : List ℕ) × Permᴰ one.0 (g ∷ r)
      two = extract second

      -- the faces but f and g
      abbrev rest : List ℕ
      rest = two.0

      parts : (n : ℕ) → Memᴰ n faces → (n ≡ f) ⊎ ((n ≡ g) ⊎ Memᴰ n rest)
      parts n m = elim (Memᴰ.cases_cons (perm_in one.1 m)) [
        | inl e ↦ inl e
        | inr k ↦ inr (Memᴰ.cases_cons (perm_in two.1 k))
      ]

      -- one side of the edge is in the face x and not both
      abbrev beside : ℕ → Arc → Bool
      beside x a = same (face (fwd a.num)) x ⊕ same (face (bwd a.num)) x

      -- whether a set has an odd number of chords with one side in x
      abbrev sides_in : ℕ → Functional
      sides_in x = plus_all (chords es) (λ a. scaled (beside x a) (point a.num))

      few : length (map sides_in rest) < length (nums (chords es))
      few = omega (
        arith,
        planar.euler,
        chords-length nodes es planar.nodes_once planar.within,
        length-map rest sides_in,
        length-map (chords es) (λ (a : Arc). a.num),
        perm_length one.1,
        perm_length two.1,
      )

      solved : Solution (nums (chords es)) (map sides_in rest)
      solved = solution (nums (chords es)) (chords_once es planar.edges_once) (map sides_in rest) few

      abbrev y : ℕ → Bool
      y = solved.0

      -- whether an odd number of the chords of y lie between two colours
      abbrev between : Functional
      between =
          plus_all (chords es)
          (λ a. scaled (y a.num) (plus (point (face (fwd a.num))) (point (face (bwd a.num)))))

      between_at : (T : ℕ → Bool)
          → between.at T ≡ odd_count (chords es)
          (λ a. y a.num && (T (face (fwd a.num)) ⊕ T (face (bwd a.num))))
      between_at T =
          plus_all_lem (chords es) (λ a. scaled (y a.num)
          (plus (point (face (fwd a.num))) (point (face (bwd a.num))))) T

      between_one : (x : ℕ) → Memᴰ x rest → between.at (λ n. same n x) ≡ false
      between_one x k = between_at (λ n. same n x) ∙ sum_cong (chords es) _ (λ a. beside x a && y a.num)
          (λ a j. eq2 (λ p s. p && s) (λ p s. s && p) tt (y a.num) (beside x a))
          ∙ sym (plus_all_lem (chords es) (λ a. scaled (beside x a) (point a.num)) y)
          ∙ solved.1 (sides_in x) (Memᴰ.map sides_in k)

      between_even : (T : ℕ → Bool) → Even es face T → between.at T ≡ false
      between_even T h = between_at T ∙ sum-zero (chords es) _
          (λ a k. ap (λ v. y a.num && (v ⊕ T (face (bwd a.num)))) (h a (chords_in es k))
          ∙ eq2 (λ p t. p && (t ⊕ t)) (λ p t. false) tt (y a.num) (T (face (bwd a.num))))

      -- from any colours we come to all faces of one: f's is taken from all, then g's from R, then the others singly
      abbrev lifted : (ℕ → Bool) → ℕ → Bool
      lifted T n = T n ⊕ (T f && true)

      abbrev flat : (ℕ → Bool) → ℕ → Bool
      flat T n = lifted T n ⊕ (lifted T g && R n)

      same_lifted : (T : ℕ → Bool) → between.at (lifted T) ≡ between.at T
      same_lifted T = unseen between T (λ n. true) (T f) (between_even (λ n. true) (λ a k. refl))

      same_flat : (T : ℕ → Bool) → between.at (flat T) ≡ between.at (lifted T)
      same_flat T = unseen between (lifted T) R (lifted T g) (between_even R even)

      empty : (T : ℕ → Bool) (n : ℕ) → Memᴰ n faces → cleared rest (flat T) n ≡ false
      empty T n m = elim (parts n m) [
        | inl e ↦
            cleared-false rest (flat T) n (ap (flat T) e ∙ ap (λ v. lifted T f ⊕ (lifted T g && v)) out
            ∙ eq2 (λ t u. t ⊕ (t && true) ⊕ (u && false)) (λ t u. false) tt (T f) (lifted T g))
        | inr o ↦ elim o [
          | inl e ↦
              cleared-false rest (flat T) n (ap (flat T) e ∙ ap (λ v. lifted T g ⊕ (lifted T g && v)) has
              ∙ eq1 (λ t. t ⊕ (t && true)) (λ t. false) tt (lifted T g))
          | inr k ↦ cleared_in rest (flat T) n k
        ]
      ]

      between_none : (T : ℕ → Bool) → between.at T ≡ false
      between_none T = sym (same_lifted T) ∙ sym (same_flat T) ∙ sym (cleared_at between rest between_one (flat T))
          ∙ between_even (cleared rest (flat T)) (λ a k. empty T _ (sides a k).0 ∙ sym (empty T _ (sides a k).1))

      impossible : ⊥
      impossible =
          true≢false (sym o.2 ∙ sum_cong (chords es) _ _
          (λ a k. ap (λ v. y a.num && v) ((planar.colouring o.0 o.1).1 a (chords_in es k)))
          ∙ sym (between_at T) ∙ between_none T)
        where
          chord : (a : Arc) × Memᴰ a (chords es) × (a.num ≡ solved.2.0)
          chord = Memᴰ.of_map (λ (a : Arc). a.num) (chords es) solved.2.1

          o : Odd es y
          o = odd es planar.edges_once y chord.0 chord.1 (ap y chord.2 ∙ solved.2.2)

          T : ℕ → Bool
          T = (planar.colouring o.0 o.1).0

    pub planar_reached : Reached es face faces f
    planar_reached S even g m = ⊕-equal (S g) (S f)
        (not-true (S g ⊕ S f) (impossible (λ n. S n ⊕ S f) (λ a k. ap (λ v. v ⊕ S f) (even a k)) (⊕-self (S f)) g m))
