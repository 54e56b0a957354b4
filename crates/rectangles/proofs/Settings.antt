-- Rectangles set one after the other; face 0 keeps its four zeros. Assumes nothing.
use borrow.Author.Rules.{sfits_of}
use mathlib.Core.Path.{◌≡◌, refl, sym, ap, ◌∙◌, subst}
use mathlib.Core.Logic.{inl, inr}
use mathlib.Core.Bool.{Bool, true, false, cond, ◌||◌}
use mathlib.Core.List.{List, []}
use Prim.Native.Nat.{ℕ}
use lib.Dec.{lit<}
use lib.IntN.{ℤ, pos, nat_abs}
use lib.ListN.{length}
use mir.Syntax.{w64}
use mir.Val.{of_z, SFits}
use Rattle.lists.specs.Tests.{same}
use Rattle.lists.proofs.Bools.{which, cond_has, or-true, same_true, differ}
use Rattle.tables.proofs.Order.{word_is}
use Rattle.bounding_boxes.specs.declared.Extent.{Extent}
use Rattle.map.specs.Rows.{Edge, box_of, rectangle}
use Rattle.map_rows.specs.Rows.{EdgesInRange, edges_of, faces_in}
use Rattle.rectangles.specs.Boxes.{boundary_box, settled_box, Bounded, set_face, set_two, set_for}
use Rattle.rectangles.proofs.Boundaries.{settled_is, rows_bounded}
use Rattle.rectangles.proofs.FaceRows.{faces_agree, faces_set}

-- ---- boxes set

-- where the new box is the old one, nothing changes
set_none : (a b : ℕ) (new old : ℕ → Extent) (f : ℕ) → (same f a || same f b ≡ true → new f ≡ old f)
    → set_for a b new old f ≡ old f
set_none a b new old f h = elim (which (same f a || same f b)) [ inl e ↦ rw e (h e) | inr e ↦ rw e ]

-- only the new boxes of the two faces count
set_alike : (a b : ℕ) (new new' old : ℕ → Extent) (f : ℕ) → (same f a || same f b ≡ true → new f ≡ new' f)
    → set_for a b new old f ≡ set_for a b new' old f
set_alike a b new new' old f h = elim (which (same f a || same f b)) [ inl e ↦ rw e (h e) | inr e ↦ rw e ]

-- one face after the other
set_both : (a b : ℕ) (new old : ℕ → Extent) (f : ℕ) → set_for b b new (set_for a a new old) f ≡ set_for a b new old f
set_both a b new old f = both (same f a) (same f b)
  where
    both : (p q : Bool) → cond (q || q) (new f) (cond (p || p) (new f) (old f)) ≡ cond (p || q) (new f) (old f)
    both true true = refl
    both true false = refl
    both false true = refl
    both false false = refl

-- the face that is set
face_is : (f m : ℕ) → same f m || same f m ≡ true → f ≡ m
face_is f m h = elim (or-true (same f m) (same f m) h) [ inl e ↦ same_true f m e | inr e ↦ same_true f m e ]

-- ---- face 0

pub rectangle-zero : (es : List Edge) → rectangle es 0 ≡ box_of []
unfolding rectangle
rectangle-zero es = refl

module _ (new old : ℕ → Extent) (zero : new 0 ≡ old 0) where
  pub zero_kept : (a b : ℕ) → new 0 ≡ set_for a b new old 0
  zero_kept a b = cond_has (λ (e : Extent). new 0 ≡ e) (same 0 a || same 0 b) refl zero

  -- set or not, it has the box that it had
  zero_none : (m f : ℕ) → m ≡ 0 → set_for m m new old f ≡ old f
  zero_none m f z = set_none m m new old f (λ e. let at = face_is f m e ∙ z in ap new at ∙ zero ∙ ap old (sym at))

-- ---- in the face table

module _ (N : ℕ) (new : ℕ → Extent) (fs : List ℕ) {n : ℕ} (count : length fs ≡ n) where
  face_set : (m : ℕ) (box : ℕ → Extent) {t : List ℤ} → new 0 ≡ box 0 → faces_in N box fs ≡ t
      → faces_in N (set_for m m new box) fs ≡ set_face n m (new m) t
  face_set m box zero h = elim (which (same m 0)) [
    | inl q ↦ rw q
        (faces_agree N (set_for m m new box) box fs (λ f k. zero_none new box zero m f (same_true m 0 q)) ∙ h)
    | inr q ↦ rw q
        (faces_agree N (set_for m m new box) (set_for m m (λ f. new m) box) fs
        (λ f k. set_alike m m new (λ f. new m) box f (λ s. ap new (face_is f m s)))
        ∙ faces_set m (new m) N box fs count h)
  ]

  -- two faces set in the table of a list of faces make the table with their boxes new
  pub two-set : (a b : ℕ) (box : ℕ → Extent) {t : List ℤ} → new 0 ≡ box 0 → faces_in N box fs ≡ t
      → faces_in N (set_for a b new box) fs ≡ set_two n new a b t
  two-set a b box zero h =
      faces_agree N (set_for a b new box) (set_for b b new (set_for a a new box)) fs (λ f k. sym (set_both a b new box f))
      ∙ face_set b (set_for a a new box) (zero_kept new box zero a a) (face_set a box zero h)

-- ---- by the box around the boundary

module _ {l : List ℤ} {c : ℕ} (r : EdgesInRange l c) where
  settled-set : (n m : ℕ) (t : List ℤ)
      → set_face n m (settled_box (boundary_box (edges_of l c) m)) t ≡ set_face n m (rectangle (edges_of l c) m) t
  settled-set n m t = elim (which (same m 0)) [
    | inl q ↦ rw q
    | inr q ↦ ap (λ (e : Extent). set_face n m e t) (settled_is r m (differ m 0 q))
  ]

  -- as a function is handed the face and the box
  module _ {z w : ℤ} (same-face : w ≡ z) {e : Extent} (around : e ≡ boundary_box (edges_of l c) (nat_abs w)) where
    pub face_done : (n : ℕ) (t : List ℤ)
        → set_face n (nat_abs w) (settled_box e) t ≡ set_face n (nat_abs z) (rectangle (edges_of l c) (nat_abs z)) t
    face_done n t =
        ap (λ (x : Extent). set_face n (nat_abs w) (settled_box x) t) around
        ∙ settled-set n (nat_abs w) t
        ∙ ap (λ (x : ℤ). set_face n (nat_abs x) (rectangle (edges_of l c) (nat_abs x)) t) same-face

    pub face_bounded : Bounded e
    face_bounded = subst Bounded (sym around) (rows_bounded r (nat_abs w))

-- a number that is 0 as a word
pub zero_word : {z : ℤ} → SFits w64 z → of_z w64 z ≡ 0 → nat_abs z ≡ 0
zero_word {z} f e = ap nat_abs (word_is {a = z} {b = pos 0} f (sfits_of (lit< tt)) e)
