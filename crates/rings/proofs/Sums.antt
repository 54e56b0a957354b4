-- What a walk has added up, and what is left of its ring, add up to the ring's measure. Assumes nothing.
use mathlib.Core.Path.{◌≡◌, refl, sym, ap, ◌∙◌}
use mathlib.Core.Bool.{Bool, true, false, not, beq}
use mathlib.Core.List.{List, [], ◌∷◌}
use Prim.Native.Nat.{ℕ, zero, suc, ◌+◌, ◌*◌, ◌-◌, ◌/◌, ◌≤◌, ◌<◌}
use native.Mathlib.Omega.{arith}
use lib.Dec.{lit<}
use lib.IntN.{ℤ, pos, negsuc, ◌+ℤ◌}
use lib.Signed.{lt_z}
use mir.Syntax.{w64}
use mir.Val.{SFits}
use borrow.Author.Tests.{lt-ltb}
use Rattle.lists.specs.Tests.{◌⊕◌}
use Rattle.lists.proofs.Bools.{eq1, eq3}
use Rattle.integers.specs.Machine.{fits-within}
use Rattle.integers.specs.Order.{sgn}
use Rattle.integers.specs.Solver.{con, ◌⊕◌ as ◌⊞◌, ◌≐◌, solve}
use Rattle.plane.specs.declared.Point.{Point}
use Rattle.plane.specs.Areas.{is_positive}
use Rattle.curves.specs.Curves.{Curve}
use Rattle.curves.specs.Edits as edits
use Rattle.curves.specs.Measures.{curve_area, odd_below}
use Rattle.planar_maps.specs.Map.{Dart}
use Rattle.map.specs.Rows.{Edge}
use Rattle.map.specs.Darts.{course}
use Rattle.map.specs.Faces.{ring_area, encloses}
use Rattle.map_rows.specs.Rows.{EdgeRow, EdgeRows, edge_map, edge_at}
use Rattle.map_rows.proofs.RowCurves.{run_at_lem, curve_at}
use Rattle.darts.specs.Positions.{odd, dart_at}
use Rattle.darts.proofs.Positions.{edge_of}
use Rattle.rings.proofs.Walks.{steps, ring_at, ring-steps, Follows, steps-end, steps_on, steps_last}
use Rattle.rings.proofs.Reversed.{Within, within_neg, within-add, within_more, curve_most, run-within}
use Rattle.rings.proofs.Reversed.{area-reversed, below_reversed}

-- the measures of the directed edge at a position
abbrev pub area_at : List ℤ → ℕ → ℤ
area_at l p = curve_area (edits.course (odd p) (edge_at l (p / 2)).curve)

-- both directions pass below a point alike
pub below_course : (b : Bool) (c : Curve) (q : Point) → odd_below (edits.course b c) q ≡ odd_below c q
below_course false c q = refl
below_course true c q = below_reversed c q

course-within : (b : Bool) (c : Curve) → Within curve_most (curve_area c)
    → Within curve_most (curve_area (edits.course b c))
course-within false c h = h
course-within true c h = rw (area-reversed c) (within_neg curve_most h)

pub area-within : {l : List ℤ} (p : ℕ) → EdgeRow l (p / 2) → Within curve_most (area_at l p)
area-within {l} p row =
    course-within (odd p) (edge_at l (p / 2)).curve (rw (curve_at row) at (run-within (run_at_lem row)))

-- a walk's sum stays small: 4000 steps at most
pub sum-within : (k : ℕ) {s a : ℤ} → Within (curve_most * k) s → Within curve_most a
    → Within (curve_most * (k + 1)) (s +ℤ a)
sum-within k h g = within_more (curve_most * k + curve_most) (curve_most * (k + 1)) (omega arith)
    (within-add (curve_most * k) curve_most h g)

pub sum_fits : (k : ℕ) {z : ℤ} → k ≤ 4000 → Within (curve_most * k) z → SFits w64 z
sum_fits k {z} few h =
    let m = within_more (curve_most * k) 48378419347500000 (omega arith) h in
    fits-within w64 48378419347500000 z (lit< tt) m.least m.most

-- an area is positive
pub positive_is : (z : ℤ) → lt_z (pos 0) z ≡ is_positive (sgn z)
positive_is (pos zero) = refl
positive_is (pos (suc n)) = lt-ltb 0 (suc n) (omega arith)
positive_is (negsuc n) = refl

add-zero-left : (z : ℤ) → pos 0 +ℤ z ≡ z
add-zero-left = solve 1 (λ z. con (pos 0) ⊞ z ≐ z) tt

add_zero_right : (z : ℤ) → z +ℤ pos 0 ≡ z
add_zero_right = solve 1 (λ z. z ⊞ con (pos 0) ≐ z) tt

regroup : (a b c : ℤ) → (a +ℤ b) +ℤ c ≡ a +ℤ (b +ℤ c)
regroup = solve 3 (λ a b c. (a ⊞ b) ⊞ c ≐ a ⊞ (b ⊞ c)) tt

-- the walk's sum s, with what is left, is the whole
module _ (l : List ℤ) (n : ℕ) where
  abbrev pub area_left : List Dart → ℤ
  area_left r = ring_area (edge_map l n) r

  abbrev pub odd_left : Point → List Dart → Bool
  odd_left q r = encloses (edge_map l n) r q

  pub area_start : (p : ℕ) → pos 0 +ℤ area_left (steps l n p (n * 2 - 0) p) ≡ area_left (ring_at l n p)
  area_start p = add-zero-left (area_left (steps l n p (n * 2 - 0) p)) ∙ ap area_left (sym (ring-steps l n p))

  pub odd_start : (q : Point) (p : ℕ) → false ⊕ odd_left q (steps l n p (n * 2 - 0) p) ≡ odd_left q (ring_at l n p)
  odd_start q p = ap (odd_left q) (sym (ring-steps l n p))

module _ {l : List ℤ} {n : ℕ} (t : EdgeRows l n) where
  course_is : (c : ℕ) → c < n * 2 → course (edge_map l n) (dart_at l c) ≡ edits.course (odd c) (edge_at l (c / 2)).curve
  unfolding course
  course_is c h = ap (λ (e : Edge). edits.course (odd c) e.curve) (edge_of t (c / 2) (omega arith))

  area_first : (c : ℕ) → c < n * 2 → (r : List Dart) → area_left l n (dart_at l c ∷ r) ≡ area_at l c +ℤ area_left l n r
  unfolding ring_area
  area_first c h r = ap (λ (k : Curve). curve_area k +ℤ area_left l n r) (course_is c h)

  odd_first : (q : Point) (c : ℕ) → c < n * 2 → (r : List Dart) → odd_left l n q (dart_at l c ∷ r)
      ≡ odd_below (edge_at l (c / 2)).curve q ⊕ odd_left l n q r
  unfolding encloses
  odd_first q c h r = ap (λ (b : Bool). b ⊕ odd_left l n q r)
      (ap (λ (k : Curve). odd_below k q) (course_is c h) ∙ below_course (odd c) (edge_at l (c / 2)).curve q)

  module _ (p : ℕ) (hp : p < n * 2) (k : ℕ) (c : ℕ) where
    module _ (s : ℤ) (inv : s +ℤ area_left l n (steps l n p (n * 2 - k) c) ≡ area_left l n (ring_at l n p)) where
      area_more : (r : List Dart) → c < n * 2 → steps l n p (n * 2 - k) c ≡ dart_at l c ∷ r
          → (s +ℤ area_at l c) +ℤ area_left l n r ≡ area_left l n (ring_at l n p)
      area_more r hc e = regroup s (area_at l c) (area_left l n r)
          ∙ ap (λ (z : ℤ). s +ℤ z) (sym (ap (area_left l n) e ∙ area_first c hc r)) ∙ inv

      pub area-end : n * 2 ≤ k → s ≡ area_left l n (ring_at l n p)
      unfolding ring_area
      area-end h = sym (add_zero_right s) ∙ ap (λ (r : List Dart). s +ℤ area_left l n r) (sym (steps-end t p hp k c h))
          ∙ inv

      module _ (hc : c < n * 2) (h : k < n * 2) (x : ℕ) (f : Follows l n c x) where
        pub area_on : (x ≡ p → ⊥) → (s +ℤ area_at l c) +ℤ area_left l n (steps l n p (n * 2 - (k + 1)) x)
            ≡ area_left l n (ring_at l n p)
        area_on apart = area_more (steps l n p (n * 2 - (k + 1)) x) hc (steps_on t p hp k c h x f apart)

        pub area_last : x ≡ p → s +ℤ area_at l c ≡ area_left l n (ring_at l n p)
        unfolding ring_area
        area_last is = sym (add_zero_right (s +ℤ area_at l c)) ∙ area_more [] hc (steps_last t p hp k c h x f is)

    module _ (q : Point) (o : Bool) (inv : o ⊕ odd_left l n q (steps l n p (n * 2 - k) c)
        ≡ odd_left l n q (ring_at l n p)) where
      odd_more : (r : List Dart) → c < n * 2 → steps l n p (n * 2 - k) c ≡ dart_at l c ∷ r
          → not (beq o (odd_below (edge_at l (c / 2)).curve q)) ⊕ odd_left l n q r ≡ odd_left l n q (ring_at l n p)
      odd_more r hc e =
          eq3 (λ a b c. not (beq a b) ⊕ c) (λ a b c. a ⊕ (b ⊕ c)) tt o (odd_below (edge_at l (c / 2)).curve q)
          (odd_left l n q r)
          ∙ ap (λ (b : Bool). o ⊕ b) (sym (ap (odd_left l n q) e ∙ odd_first q c hc r)) ∙ inv

      pub odd-end : n * 2 ≤ k → o ≡ odd_left l n q (ring_at l n p)
      unfolding encloses
      odd-end h = sym (eq1 (λ a. a ⊕ false) (λ a. a) tt o)
          ∙ ap (λ (r : List Dart). o ⊕ odd_left l n q r) (sym (steps-end t p hp k c h)) ∙ inv

      module _ (hc : c < n * 2) (h : k < n * 2) (x : ℕ) (f : Follows l n c x) where
        pub odd_on : (x ≡ p → ⊥) → not (beq o (odd_below (edge_at l (c / 2)).curve q)) ⊕ odd_left l n q
            (steps l n p (n * 2 - (k + 1)) x) ≡ odd_left l n q (ring_at l n p)
        odd_on apart = odd_more (steps l n p (n * 2 - (k + 1)) x) hc (steps_on t p hp k c h x f apart)

        pub odd_last : x ≡ p → not (beq o (odd_below (edge_at l (c / 2)).curve q)) ≡ odd_left l n q (ring_at l n p)
        unfolding encloses
        odd_last is =
            sym (eq1 (λ a. a ⊕ false) (λ a. a) tt (not (beq o (odd_below (edge_at l (c / 2)).curve q))))
            ∙ odd_more [] hc (steps_last t p hp k c h x f is)
