-- Boxes in a list: a box takes in another, and the others stay. Assumes nothing.
use mathlib.Core.Path.{◌≡◌, sym, ap, ◌∙◌}
use mathlib.Core.Bool.{true, false, cond, ◌||◌}
use mathlib.Core.Logic.{inl, inr}
use mathlib.Core.List.{List}
use Prim.Native.Nat.{ℕ, ◌+◌, ◌<◌}
use lib.ListN.{length, set, replicate, drop, get_or-replicate}
use lib.Seq.{get_or-set_same, get_or-set_other, paste}
use native.Mathlib.Omega.{arith}
use Rattle.std.proofs.lemmas.List.{length-replicate, get_or_append_left}
use Rattle.std.proofs.lemmas.List.Edits.{paste_all}
use Rattle.lists.specs.Tests.{same}
use Rattle.lists.proofs.Bools.{which, equal?, same_eq, same_true, same_false}
use Rattle.bounding_boxes.specs.declared.Extent.{Extent}
use Rattle.bounding_boxes.specs.Extents.{union}
use Rattle.rectangles.specs.Boxes.{no_point}
use Rattle.form_rectangles.specs.Merged.{box_in}

pub taken : (boxes : List Extent) (k : ℕ) (e : Extent) {x : Extent} → k < length boxes → x ≡ union (box_in boxes k) e
    → (j : ℕ) → box_in (set boxes k x) j ≡ cond (same j k) (union (box_in boxes j) e) (box_in boxes j)
taken boxes k e {x} room is j =
    elim (equal? j k) [
      | inl f ↦ rw (same_eq j k f) (ap (box_in (set boxes k x)) f ∙ get_or-set_same boxes k x _ room ∙ is
          ∙ ap (λ (i : ℕ). union (box_in boxes i) e) (sym f))
      | inr d ↦ rw (same_false j k d) (get_or-set_other boxes k j x _ d)
    ]

-- ---- the boxes of two rows, or of one that is both

module _ (j a b : ℕ) (x : Extent) {m e f : Extent} (one : m ≡ cond (same j a) (union x e) x) (is : e ≡ f) where
  pub taken_once : a ≡ b → m ≡ cond (same j a || same j b) (union x f) x
  taken_once same_row = one ∙ go (same j a) (same j b) (ap (same j) same_row)
    where
      go : (p q : _) → p ≡ q → cond p (union x e) x ≡ cond (p || q) (union x f) x
      go true q g = ap (union x) is
      go false q g = rw (sym g)

  pub taken_twice : {y : Extent} → (a ≡ b → ⊥) → y ≡ cond (same j b) (union m e) m
      → y ≡ cond (same j a || same j b) (union x f) x
  taken_twice {y} apart two =
      elim (which (same j a)) [
        | inl g ↦
            let other = same_false j b (λ h. apart (sym (same_true j a g) ∙ h)) in
            let own : m ≡ union x f = rw g at one ∙ ap (union x) is in
            rw g ((rw other at two) ∙ own)
        | inr g ↦ let own : m ≡ x = rw g at one in
            rw g (two ∙ ap (λ (z : Extent). cond (same j b) (union z e) z) own
            ∙ ap (λ (z : Extent). cond (same j b) (union x z) x) is)
      ]

-- ---- no box has a point at first

pub none_taken : (before : List Extent) {boxes : List Extent} {n : ℕ} → boxes ≡ paste before 0 (replicate n no_point) n
    → (j : ℕ) → j < n → box_in boxes j ≡ no_point
none_taken before {boxes} {n} e j h =
    let all = length-replicate n no_point in
    ap (λ (l : List Extent). box_in l j) (e ∙ paste_all before 0 (replicate n no_point) n (sym all))
    ∙ get_or_append_left (replicate n no_point) (drop (0 + n) before) _ j (omega (arith, all, h))
    ∙ get_or-replicate {A = Extent} n j no_point _ h
