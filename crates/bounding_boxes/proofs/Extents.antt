-- A curve lies in its extent, so that curves whose extents lie apart share no point. Assumes nothing.
use mathlib.Core.Path.{◌≡◌, refl}
use mathlib.Core.Bool.{true, false, ◌||◌}
use mathlib.Core.Logic.{inl, inr}
use mathlib.Core.List.{List, [], ◌∷◌}
use Prim.Native.Nat.{ℕ, ◌≤◌, ◌<◌, min, max}
use native.Mathlib.Omega.{arith}
use lib.Dec.{leb, ltb}
use borrow.Author.Tests.{ltb-true, lt-leb}
use Rattle.lists.specs.Scans.{fold}
use Rattle.lists.proofs.Bools.{&&-false, or-true}
use Rattle.plane.specs.declared.Point.{Point}
use Rattle.plane.specs.declared.Contact.TheVariants.{None}
use Rattle.plane.specs.Segments.{overlap, meets}
use Rattle.curves.specs.Curves.{Curve, points}
use Rattle.curves.specs.Tests.{seg_wrong, seg_meeting, common_ends, meeting}
use Rattle.curves.proofs.Meetings.{seg_curve, curve_curve}
use Rattle.bounding_boxes.specs.declared.Extent.{Extent}
use Rattle.bounding_boxes.specs.Extents.{extent_at, widen, extent_of, boxes_apart}

-- ---- the points of a curve

-- the point lies in the extent
record Within (e : Extent) (p : Point) : Type 0 where
  left : e.left ≤ p.x
  right : p.x ≤ e.right
  low : e.low ≤ p.y
  high : p.y ≤ e.high

-- every point of the list does
data Inside (e : Extent) : List Point → Type 0 where
  none : Inside e []
  more : {p : Point} {r : List Point} → Within e p → Inside e r → Inside e (p ∷ r)

widen_new : (e : Extent) (p : Point) → Within (widen e p) p
widen_new e p = record { left = omega arith; right = omega arith; low = omega arith; high = omega arith }

widen_old : (e : Extent) (p q : Point) → Within e p → Within (widen e q) p
widen_old e p q w = record { left = omega arith; right = omega arith; low = omega arith; high = omega arith }

fold_old : (e : Extent) (p : Point) (r : List Point) → Within e p → Within (fold widen e r) p
fold_old e p [] w = w
fold_old e p (q ∷ r) w = fold_old (widen e q) p r (widen_old e p q w)

fold_new : (e : Extent) (r : List Point) → Inside (fold widen e r) r
fold_new e [] = none
fold_new e (q ∷ r) = more (fold_old (widen e q) q r (widen_new e q)) (fold_new (widen e q) r)

within_self : (p : Point) → Within (extent_at p) p
within_self p = record { left = omega arith; right = omega arith; low = omega arith; high = omega arith }

curve-inside : (c : Curve) → Inside (extent_of c) (points c)
curve-inside c = more (fold_old (extent_at c.first) c.first c.rest (within_self c.first))
    (fold_new (extent_at c.first) c.rest)

-- ---- ranges that lie apart

range_below : (a b c d : ℕ) {h l : ℕ} → h < l → a ≤ h → b ≤ h → l ≤ c → l ≤ d → overlap a b c d ≡ false
unfolding overlap
range_below a b c d k p q r s =
    let t : max a b < min c d = omega arith in
    rw (lt-leb (min c d) (max a b) t) (&&-false (leb (min a b) (max c d)))

range_above : (a b c d : ℕ) {h l : ℕ} → h < l → c ≤ h → d ≤ h → l ≤ a → l ≤ b → overlap a b c d ≡ false
unfolding overlap
range_above a b c d k p q r s =
    let t : max c d < min a b = omega arith in
    rw (lt-leb (min a b) (max c d) t)

-- ---- curves in extents that lie apart

module _ (a b c d : Point) where
  clear_x : overlap a.x b.x c.x d.x ≡ false → meets a b c d ≡ false
  unfolding meets
  clear_x h = rw h

  clear_y : overlap a.y b.y c.y d.y ≡ false → meets a b c d ≡ false
  unfolding meets
  clear_y h = rw h (&&-false (overlap a.x b.x c.x d.x))

  clear_seg : (l : List Point) → meets a b c d ≡ false → seg_meeting l a b c d ≡ None
  unfolding seg_meeting seg_wrong
  clear_seg l h = rw h

module _ (e f : Extent) (away : boxes_apart e f ≡ true) where
  clear : (a b c d : Point) → Within e a → Within e b → Within f c → Within f d → meets a b c d ≡ false
  clear a b c d wa wb wc wd =
      elim (or-true (ltb e.right f.left || ltb f.right e.left || ltb e.high f.low)
      (ltb f.high e.low) away) [
        | inl h ↦ elim (or-true (ltb e.right f.left || ltb f.right e.left) (ltb e.high f.low) h) [
          | inl h ↦ elim (or-true (ltb e.right f.left) (ltb f.right e.left) h) [
            | inl h ↦ clear_x a b c d (range_below a.x b.x c.x d.x (ltb-true e.right f.left h)
                wa.right wb.right wc.left wd.left)
            | inr h ↦ clear_x a b c d (range_above a.x b.x c.x d.x (ltb-true f.right e.left h)
                wc.right wd.right wa.left wb.left)
          ]
          | inr h ↦ clear_y a b c d (range_below a.y b.y c.y d.y (ltb-true e.high f.low h) wa.high
              wb.high wc.low wd.low)
        ]
        | inr h ↦ clear_y a b c d (range_above a.y b.y c.y d.y (ltb-true f.high e.low h) wc.high
            wd.high wa.low wb.low)
      ]

  segment_apart : (l : List Point) (a b c : Point) (s : List Point) → Within e a → Within e b → Inside f (c ∷ s)
      → seg_curve l a b c s ≡ None
  segment_apart l a b c [] wa wb i = refl
  segment_apart l a b c (d ∷ s) wa wb (more wc (more wd i)) =
      rw (clear_seg a b c d l (clear a b c d wa wb wc wd)) (segment_apart l a b d s wa wb (more wd i))

  curve-apart : (l : List Point) (a : Point) (r : List Point) (c : Point) (s : List Point) → Inside e (a ∷ r)
      → Inside f (c ∷ s) → curve_curve l a r c s ≡ None
  curve-apart l a [] c s i j = refl
  curve-apart l a (b ∷ r) c s (more wa (more wb i)) j =
      rw (segment_apart l a b c s wa wb j) (curve-apart l b r c s (more wb i) j)

-- curves whose extents lie apart do not meet
pub apart-meeting : (c d : Curve) → boxes_apart (extent_of c) (extent_of d) ≡ true → meeting c d ≡ None
unfolding meeting
apart-meeting c d h = curve-apart (extent_of c) (extent_of d) h (common_ends c d) c.first c.rest d.first d.rest
    (curve-inside c) (curve-inside d)
