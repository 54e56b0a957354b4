-- Rectangles of two faces set, and then of two more that are not among them: all four are set. Assumes nothing.
use mathlib.Core.Path.{◌≡◌, sym, ap, ap₂, ◌∙◌, subst}
use mathlib.Core.Logic.{inl, inr}
use mathlib.Core.Bool.{Bool, true, false, cond, ◌||◌}
use mathlib.Core.List.{List, [], ◌∷◌}
use Prim.Native.Nat.{ℕ}
use borrow.Author.Rules.{sfits_of}
use lib.Dec.{lit<}
use lib.IntN.{ℤ, pos, nat_abs}
use lib.ListN.{length}
use mir.Syntax.{w64}
use mir.Val.{of_z, to_z, SFits}
use mir.Facts.{to_z-of_z}
use Rattle.lists.specs.Tests.{same}
use Rattle.lists.proofs.Bools.{eq4, which, equal?, either, cond_has, same_true, same_false}
use Rattle.bounding_boxes.specs.declared.Extent.{Extent}
use Rattle.map_rows.specs.Rows.{faces_in}
use Rattle.rectangles.specs.Boxes.{set_for}
use Rattle.rectangles.proofs.FaceRows.{faces_agree}
use Rattle.rectangles.proofs.Settings.{zero_kept, two-set}
use Rattle.edit_rectangles.specs.declared.Affected.{Affected}
use Rattle.edit_rectangles.specs.FacePairs.{other_than, listed, set_all, set_four}

any_four : (p q r s : Bool) → p || (q || (r || (s || false))) ≡ (p || q) || (r || s)
any_four = eq4 (λ p q r s. p || (q || (r || (s || false)))) (λ p q r s. (p || q) || (r || s)) tt

module _ (a b f : ℕ) (other : same f a || same f b ≡ false) where
  -- a face that is not one of the two
  same-unless : (c : ℕ) → (f ≡ 0 → ⊥) → same f (other_than a b c) ≡ same f c
  same-unless c h = elim (which (same f c)) [
    | inl e ↦ ap (λ (k : Bool). same f (cond k 0 c))
        (subst (λ (x : ℕ). same x a || same x b ≡ false) (same_true f c e) other)
    | inr e ↦ elim (which (same c a || same c b)) [
      | inl k ↦ ap (λ (k : Bool). same f (cond k 0 c)) k ∙ same_false f 0 h ∙ sym e
      | inr k ↦ ap (λ (k : Bool). same f (cond k 0 c)) k
    ]
  ]

  set-others : (new old : ℕ → Extent) (c d : ℕ) → new 0 ≡ old 0
      → set_for (other_than a b c) (other_than a b d) new old f ≡ set_for c d new old f
  set-others new old c d zero = elim (equal? f 0) [
    | inl e ↦
        let is : new f ≡ old f = subst (λ (x : ℕ). new x ≡ old x) (sym e) zero in
        let held : (k : Bool) → cond k (new f) (old f) ≡ old f =
        λ k. ap (λ (x : Extent). cond k x (old f)) is ∙ either k (old f) in
        held (same f (other_than a b c) || same f (other_than a b d)) ∙ sym (held (same f c || same f d))
    | inr h ↦ ap₂ (λ (p q : Bool). cond (p || q) (new f) (old f)) (same-unless c h) (same-unless d h)
  ]

-- face by face
set_twice : (a b c d : ℕ) (new old : ℕ → Extent) → new 0 ≡ old 0 → (f : ℕ)
    → set_for (other_than a b c) (other_than a b d) new (set_for a b new old) f ≡ set_all (a ∷ b ∷ c ∷ d ∷ []) new old f
set_twice a b c d new old zero f =
    let x = same f (other_than a b c) || same f (other_than a b d) in
    let then : (k : Bool) → same f a || same f b ≡ k
    → cond (k || (same f c || same f d)) (new f) (old f) ≡ set_all (a ∷ b ∷ c ∷ d ∷ []) new old f =
    λ k e. sym (ap (λ (k : Bool). cond k (new f) (old f)) (any_four (same f a) (same f b) (same f c) (same f d))
    ∙ ap (λ (k : Bool). cond (k || (same f c || same f d)) (new f) (old f)) e) in
    let first : Bool → Extent = λ k. cond x (new f) (cond k (new f) (old f)) in
    elim (which (same f a || same f b)) [
      | inl e ↦ ap first e ∙ either x (new f) ∙ then true e
      | inr e ↦ ap first e ∙ set-others a b f e new old c d zero ∙ then false e
    ]

-- ---- in the face table

-- a number as it is passed, once it is known
pub passed : {z : ℤ} {n : ℕ} → z ≡ pos n → z ≡ pos (nat_abs z)
passed e = e ∙ ap (λ (z : ℤ). pos (nat_abs z)) (sym e)

-- a face that is kept or left out
pub other_read : (a b c : ℕ) {z : ℤ} → SFits w64 (pos c) → z ≡ pos (other_than a b c)
    → to_z w64 (of_z w64 z) ≡ pos (other_than a b c)
other_read a b c fits e =
    ap (λ (z : ℤ). to_z w64 (of_z w64 z)) e
    ∙ to_z-of_z {w = w64} (cond_has (λ (n : ℕ). SFits w64 (pos n)) (same c a || same c b) (sfits_of (lit< tt)) fits)

-- the four set in the table of a list of faces make the table with their boxes new
pub four_set : (N : ℕ) (new box : ℕ → Extent) (a : Affected) (fs : List ℕ) {n : ℕ} {t : List ℤ} → length fs ≡ n
    → new 0 ≡ box 0 → faces_in N box fs ≡ t → faces_in N (set_all (listed a) new box) fs ≡ set_four n new a t
four_set N new box a fs count zero h =
    let p = nat_abs a.first in
    let q = nat_abs a.second in
    let c = nat_abs a.third in
    let d = nat_abs a.fourth in
    let one = set_for p q new box in
    faces_agree N (set_all (listed a) new box) (set_for (other_than p q c) (other_than p q d) new one) fs
    (λ f k. sym (set_twice p q c d new box zero f))
    ∙ two-set N new fs count (other_than p q c) (other_than p q d) one (zero_kept new box zero p q)
    (two-set N new fs count p q box zero h)
