-- A reversed curve has the opposite area, and as many of its segments pass below a point. A run's area is at most 11
-- products of coordinates. Assumes nothing.
use mathlib.Core.Path.{◌≡◌, refl, sym, ap, ap₂, ◌∙◌, subst}
use mathlib.Core.Bool.{Bool, true, false, cond}
use mathlib.Core.Logic.{inl, inr}
use mathlib.Core.List.{List, [], ◌∷◌, ◌++◌, foldr}
use Prim.Native.Nat.{ℕ, zero, suc, ◌+◌, ◌*◌, ◌-◌, ◌/◌, ◌≤◌}
use native.Mathlib.Omega.{arith}
use lib.Dec.{leb}
use lib.IntN.{ℤ, pos, neg_ℤ, ◌+ℤ◌, ◌-ℤ◌}
use lib.ListN.{length}
use lib.Signed.{◌≤ℤ◌}
use borrow.Author.Tests.{leb-true, leb-false, le-ltb}
use Rattle.lists.specs.Tests.{◌⊕◌}
use Rattle.lists.specs.Scans.{odd_count}
use Rattle.lists.proofs.Bools.{which, eq2, eq3}
use Rattle.integers.specs.Solver.{con, ⊝◌, ◌⊕◌ as ◌⊞◌, ◌⊖◌, ◌⊗◌, ◌≐◌, solve}
use Rattle.integers.specs.Linear.{linear, ◌≼◌, ◌⇒◌}
use Rattle.integers.specs.Order.{nonneg, pos-≤}
use Rattle.plane.specs.declared.Point.{Point}
use Rattle.plane.specs.Points.{origin, max_coordinate, InRange}
use Rattle.plane.specs.Areas.{area}
use Rattle.plane.specs.Below.{Segment, is_below, passes_below}
use Rattle.plane.proofs.Laws.{product_le}
use Rattle.curves.specs.Curves.{Curve, Run, last_of, segments_of, point_at, curve_of}
use Rattle.curves.specs.Edits.{turned, reversed}
use Rattle.curves.specs.Measures.{curve_area, odd_below}
use Rattle.curves.proofs.Runs.{two-points, few_points, point_in, curve_is}
use Rattle.curves.proofs.Turns.{segments_step, segments-end}
use Rattle.curves.proofs.Areas.{area_from}
use Rattle.geometry.proofs.Turning.{last_turned}

abbrev areas : List Segment → ℤ
areas l = foldr (λ s a. area origin s.from s.to +ℤ a) (pos 0) l

-- ---- segments one after the other

segments-append : (a : Point) (r s : List Point) → segments_of a (r ++ s) ≡ segments_of a r ++ segments_of (last_of a r) s
segments-append a [] s = refl
segments-append a (b ∷ r) s = ap (λ (l : List Segment). record { from = a; to = b } ∷ l) (segments-append b r s)

-- the segments of a ∷ b ∷ r the other way round: those of b ∷ r, then b a
segments-turned : (a b : Point) (r : List Point) → segments_of (last_of b r) (turned a (b ∷ r))
    ≡ segments_of (last_of b r) (turned b r) ++ (record { from = b; to = a } ∷ [])
segments-turned a b r =
    segments-append (last_of b r) (turned b r) (a ∷ [])
    ∙ ap (λ (z : Point). segments_of (last_of b r) (turned b r) ++ (record { from = z; to = a } ∷ [])) (last_turned b r)

sum-append : (f : Segment → Bool) (k l : List Segment) → odd_count (k ++ l) f ≡ odd_count k f ⊕ odd_count l f
sum-append f [] l = refl
sum-append f (s ∷ k) l = ap (λ (b : Bool). f s ⊕ b) (sum-append f k l)
    ∙ eq3 (λ a b c. a ⊕ (b ⊕ c)) (λ a b c. (a ⊕ b) ⊕ c) tt (f s) (odd_count k f) (odd_count l f)

areas_append : (k l : List Segment) → areas (k ++ l) ≡ areas k +ℤ areas l
areas_append [] l = solve 1 (λ z. z ≐ con (pos 0) ⊞ z) tt (areas l)
areas_append (s ∷ k) l =
    ap (λ (z : ℤ). area origin s.from s.to +ℤ z) (areas_append k l)
    ∙ solve 3 (λ a b c. a ⊞ (b ⊞ c) ≐ (a ⊞ b) ⊞ c) tt (area origin s.from s.to) (areas k) (areas l)

-- ---- the area

area_flip : (a b : Point) → area origin b a ≡ neg_ℤ (area origin a b)
unfolding area
area_flip a b =
    solve 4 (λ x y u v. (u ⊖ con (pos 0)) ⊗ (y ⊖ con (pos 0)) ⊖ (v ⊖ con (pos 0)) ⊗ (x ⊖ con (pos 0)) ≐ ⊝
    ((x ⊖ con (pos 0)) ⊗ (v ⊖ con (pos 0)) ⊖ (y ⊖ con (pos 0)) ⊗ (u ⊖ con (pos 0)))) tt
    (pos a.x) (pos a.y) (pos b.x) (pos b.y)

areas_turned : (a : Point) (r : List Point) → areas (segments_of (last_of a r) (turned a r))
    ≡ neg_ℤ (areas (segments_of a r))
areas_turned a [] = refl
areas_turned a (b ∷ r) =
    ap areas (segments-turned a b r)
    ∙ areas_append (segments_of (last_of b r) (turned b r)) (record { from = b; to = a } ∷ [])
    ∙ ap₂ (λ (x y : ℤ). x +ℤ (y +ℤ pos 0)) (areas_turned b r) (area_flip a b)
    ∙ solve 2 (λ x y. ⊝ x ⊞ (⊝ y ⊞ con (pos 0)) ≐ ⊝ (y ⊞ x)) tt (areas (segments_of b r)) (area origin a b)

pub area-reversed : (c : Curve) → curve_area (reversed c) ≡ neg_ℤ (curve_area c)
unfolding curve_area
area-reversed c = areas_turned c.first c.rest

-- ---- what passes below a point

-- an upright segment does not
upright : (p : Point) (s : Segment) → s.to.x ≤ s.from.x → is_below p s ≡ false
upright p s h =
    elim (which (leb s.from.x p.x)) [
      | inl e ↦ let k : s.from.x ≤ p.x = leb-true s.from.x p.x e in
          rw (e, le-ltb p.x s.to.x (omega arith))
      | inr e ↦ rw e
    ]

below_flip : (p a b : Point) → passes_below p (record { from = b; to = a }) ≡ passes_below p (record { from = a; to = b })
unfolding passes_below
below_flip p a b = go (leb a.x b.x) refl (leb b.x a.x) refl
  where
    s : Segment
    s = record { from = a; to = b }

    t : Segment
    t = record { from = b; to = a }

    go : (u : Bool) → leb a.x b.x ≡ u → (v : Bool) → leb b.x a.x ≡ v → is_below p (cond v t s)
        ≡ is_below p (cond u s t)
    go true e true f =
        upright p t (leb-true a.x b.x e) ∙ sym (upright p s (leb-true b.x a.x f))
    go true e false f = refl
    go false e true f = refl
    go false e false f =
        let g = leb-false a.x b.x e in
        let h = leb-false b.x a.x f in
        absurd (omega arith)

below_turned : (p a : Point) (r : List Point) → odd_count (segments_of (last_of a r) (turned a r)) (passes_below p)
    ≡ odd_count (segments_of a r) (passes_below p)
below_turned p a [] = refl
below_turned p a (b ∷ r) =
    ap (λ (l : List Segment). odd_count l (passes_below p)) (segments-turned a b r)
    ∙ sum-append (passes_below p) (segments_of (last_of b r) (turned b r)) (record { from = b; to = a } ∷ [])
    ∙ ap₂ (λ (x y : Bool). x ⊕ (y ⊕ false)) (below_turned p b r) (below_flip p a b)
    ∙ eq2 (λ x y. x ⊕ (y ⊕ false)) (λ x y. y ⊕ x) tt (odd_count (segments_of b r) (passes_below p))
    (passes_below p (record { from = a; to = b }))

pub below_reversed : (c : Curve) (p : Point) → odd_below (reversed c) p ≡ odd_below c p
unfolding odd_below
below_reversed c p = below_turned p c.first c.rest

-- ---- how great an area is

-- between -k and k
pub record Within (k : ℕ) (z : ℤ) : Type 0 where
  pub least : neg_ℤ (pos k) ≤ℤ z
  pub most : z ≤ℤ pos k

pub within-add : (j k : ℕ) {y z : ℤ} → Within j y → Within k z → Within (j + k) (y +ℤ z)
within-add j k {y} {z} a b =
    record {
      least = linear 4 (λ j k y z. ⊝ j ≼ y ⇒ ⊝ k ≼ z ⇒ ⊝ (j ⊞ k) ≼ y ⊞ z) (omega arith) (pos j) (pos k) y z a.least
          b.least;
      most = linear 4 (λ j k y z. y ≼ j ⇒ z ≼ k ⇒ y ⊞ z ≼ j ⊞ k) (omega arith) (pos j) (pos k) y z a.most b.most;
    }

pub within_neg : (k : ℕ) {z : ℤ} → Within k z → Within k (neg_ℤ z)
within_neg k {z} a =
    record {
      least = linear 2 (λ k z. z ≼ k ⇒ ⊝ k ≼ ⊝ z) (omega arith) (pos k) z a.most;
      most = linear 2 (λ k z. ⊝ k ≼ z ⇒ ⊝ z ≼ k) (omega arith) (pos k) z a.least;
    }

pub within_more : (j k : ℕ) {z : ℤ} → j ≤ k → Within j z → Within k z
within_more j k {z} h a =
    record {
      least = linear 3 (λ j k z. j ≼ k ⇒ ⊝ j ≼ z ⇒ ⊝ k ≼ z) (omega arith) (pos j) (pos k) z (pos-≤ h) a.least;
      most = linear 3 (λ j k z. j ≼ k ⇒ z ≼ j ⇒ z ≼ k) (omega arith) (pos j) (pos k) z (pos-≤ h) a.most;
    }

-- a difference of naturals
pub within-sub : (k p q : ℕ) → p ≤ k → q ≤ k → Within k (pos p -ℤ pos q)
within-sub k p q h g =
    record {
      least = linear 3 (λ k p q. con (pos 0) ≼ p ⇒ q ≼ k ⇒ ⊝ k ≼ p ⊖ q) (omega arith) (pos k) (pos p) (pos q)
          (nonneg p) (pos-≤ g);
      most = linear 3 (λ k p q. con (pos 0) ≼ q ⇒ p ≼ k ⇒ p ⊖ q ≼ k) (omega arith) (pos k) (pos p) (pos q) (nonneg q)
          (pos-≤ h);
    }

-- one segment's, and that of a curve of at most 12 points
abbrev pub segment_most : ℕ
segment_most = 1099509530625

abbrev pub curve_most : ℕ
curve_most = 12094604836875

segment_within : (a b : Point) → InRange a → InRange b → Within segment_most (area origin a b)
unfolding area
segment_within a b i j =
    subst (Within segment_most)
    (solve 4 (λ x y u v. x ⊗ v ⊖ y ⊗ u ≐ (x ⊖ con (pos 0)) ⊗ (v ⊖ con (pos 0)) ⊖ (y ⊖ con (pos 0)) ⊗
    (u ⊖ con (pos 0))) tt
    (pos a.x) (pos a.y) (pos b.x) (pos b.y))
    (within-sub segment_most (a.x * b.y) (a.y * b.x) (product_le max_coordinate i.x j.y)
    (product_le max_coordinate i.y j.x))

areas_within : {l : List ℤ} → Run l → (k i : ℕ) → i + k + 1 ≡ length l / 2 → Within (segment_most * k) (area_from l i)
areas_within {l} run zero i h = rw (segments-end l i {n = i + 0} h (omega arith))
    (within-sub 0 0 0 (omega arith) (omega arith))
areas_within {l} run (suc k) i h =
    rw (segments_step l i {n = i + suc k} h (omega arith))
    (within_more (segment_most + segment_most * k) (segment_most * suc k) (omega arith)
    (within-add segment_most (segment_most * k)
    (segment_within (point_at l i) (point_at l (i + 1)) (point_in run i) (point_in run (i + 1)))
    (areas_within run k (i + 1) (omega arith))))

pub run-within : {l : List ℤ} → Run l → Within curve_most (curve_area (curve_of l))
unfolding curve_area
run-within {l} run =
    let m = length l / 2 - 1 in
    let e = two-points run in
    let f = few_points run in
    rw (curve_is run) (within_more (segment_most * m) curve_most (omega arith) (areas_within run m 0 (omega arith)))
