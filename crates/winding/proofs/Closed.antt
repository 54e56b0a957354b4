-- Sums along a curve, and over closed segments: what a point counts cancels, and curves that end where they start are
-- closed. Assumes nothing.
use mathlib.Core.Path.{◌≡◌, refl, sym, ap, ◌∙◌}
use mathlib.Core.Logic.{inl, inr}
use mathlib.Core.List.Memᴰ
use mathlib.Core.List.{List, [], ◌∷◌, map, Memᴰ}
use mathlib.Core.List.{Permᴰ}
use lib.IntN.{ℤ, pos, ◌+ℤ◌, ◌-ℤ◌}
use Rattle.integers.specs.Solver.{con, ◌⊕◌, ◌⊖◌, ◌≐◌, solve, zero_of, of_zero}
use Rattle.integers.specs.Totals.{total, total_cong, total--, total-++, total-map, total_perm}
use Rattle.plane.specs.declared.Point.{Point}
use Rattle.plane.specs.Below.{Segment}
use Rattle.curves.specs.Curves.{Curve, segments_of, segments, last_of, last_point}
use Rattle.winding.specs.Winding.{Closed, all_segments}

-- two sums, equal but for what a closed list cancels
pub total-closed : (l : List Segment) → Closed l → (f g : Segment → ℤ) (h : Point → ℤ)
    → ((s : Segment) → Memᴰ s l → f s -ℤ g s ≡ h s.to -ℤ h s.from) → total f l ≡ total g l
total-closed l c f g h e = of_zero (total f l) (total g l)
    (sym (total-- l f g) ∙ total_cong l (λ s. f s -ℤ g s) (λ s. h s.to -ℤ h s.from) e
    ∙ total-- l (λ s. h s.to) (λ s. h s.from) ∙ zero_of (c h))

-- ---- along a curve

telescope : (f : Point → ℤ) (a : Point) (r : List Point)
    → total (λ s. f s.to -ℤ f s.from) (segments_of a r) ≡ f (last_of a r) -ℤ f a
telescope f a [] = solve 1 (λ x. con (pos 0) ≐ x ⊖ x) tt (f a)
telescope f a (b ∷ r) = ap (λ (z : ℤ). f b -ℤ f a +ℤ z) (telescope f b r)
    ∙ solve 3 (λ x y z. x ⊖ y ⊕ (z ⊖ x) ≐ z ⊖ y) tt (f b) (f a) (f (last_of b r))

-- ---- all segments of curves

pub total_curves : (f : Segment → ℤ) (cs : List Curve) → total f (all_segments cs) ≡ total (λ c. total f (segments c)) cs
total_curves f [] = refl
total_curves f (c ∷ cs) = total-++ (segments c) (all_segments cs) f
    ∙ ap (λ (z : ℤ). total f (segments c) +ℤ z) (total_curves f cs)

-- curves are closed if their ends add up to what their starts do
curves_closed : (cs : List Curve)
    → ((f : Point → ℤ) → total (λ c. f (last_point c)) cs ≡ total (λ c. f c.first) cs) → Closed (all_segments cs)
curves_closed cs e f = of_zero (total (λ s. f s.to) (all_segments cs)) (total (λ s. f s.from) (all_segments cs))
    (sym (total-- (all_segments cs) (λ s. f s.to) (λ s. f s.from))
    ∙ total_curves (λ s. f s.to -ℤ f s.from) cs
    ∙ total_cong cs (λ c. total (λ s. f s.to -ℤ f s.from) (segments c)) (λ c. f (last_point c) -ℤ f c.first)
    (λ c m. telescope f c.first c.rest)
    ∙ total-- cs (λ c. f (last_point c)) (λ c. f c.first) ∙ zero_of (e f))

-- .. if they end where they start, in some order
pub ends_closed : (cs : List Curve) → Permᴰ (map last_point cs) (map (λ c. c.first) cs) → Closed (all_segments cs)
ends_closed cs p = curves_closed cs (λ f. sym (total-map last_point cs f) ∙ total_perm f p
    ∙ total-map (λ c. c.first) cs f)

-- .. as those of names that a function permutes, each ending where the next one starts
pub next-closed : {A : Type 0} (next : A → A) (course : A → Curve) (l : List A) → Permᴰ (map next l) l
    → ((d : A) → Memᴰ d l → last_point (course d) ≡ (course (next d)).first) → Closed (all_segments (map course l))
next-closed next course l p joins = curves_closed (map course l) (λ f.
    total-map course l (λ c. f (last_point c))
    ∙ total_cong l (λ d. f (last_point (course d))) (λ d. f (course (next d)).first) (λ d m. ap f (joins d m))
    ∙ sym (total-map next l (λ d. f (course d).first)) ∙ total_perm (λ d. f (course d).first) p
    ∙ sym (total-map course l (λ c. f c.first)))

-- a segment of all is one of some curve
pub of_curve : {A : Type 0} (course : A → Curve) (l : List A) {s : Segment}
    → Memᴰ s (all_segments (map course l)) → (d : A) × Memᴰ d l × Memᴰ s (segments (course d))
of_curve course [] m = absurd (Memᴰ.not-nil m)
of_curve course (d ∷ l) m = elim (Memᴰ.append_cases (segments (course d)) m) [
  | inl n ↦ (d, Memᴰ.head refl, n)
  | inr n ↦ let h = of_curve course l n in (h.0, Memᴰ.tail h.1, h.2)
]
