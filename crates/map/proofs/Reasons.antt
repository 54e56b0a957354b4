-- The first reason of a list, reason by reason; what a reason tells that does not hold. Assumes nothing.
use mathlib.Core.Path.{◌≡◌, refl, sym, ◌∙◌}
use mathlib.Core.Bool.{Bool, true, false, ◌&&◌}
use mathlib.Core.Logic.{inl, inr}
use mathlib.Core.List.{[], ◌∷◌, ◌++◌}
use Prim.Native.Nat.{ℕ, ◌<◌}
use native.Mathlib.Omega.{arith}
use lib.Dec.{ltb}
use lib.IntN.{ℤ}
use borrow.Author.Tests.{ltb-true, not-false}
use Rattle.lists.specs.Tests.{same}
use Rattle.lists.specs.Scans.{all_of}
use Rattle.lists.proofs.Bools.{which, and-true, and_left, and_right}
use Rattle.plane.specs.declared.Contact.{Contact}
use Rattle.plane.specs.declared.Contact.TheVariants.{None, Touch, Crossing, Stretch}
use Rattle.plane.specs.Points.{InRange}
use Rattle.curves.specs.Curves.{point, coordinate}
use Rattle.curves.proofs.Runs.{coordinate-le}
use Rattle.map.specs.Reasons.{Reasons, first_reason, outside, contact_reason}

-- the reason at the front holds, or the others are looked at
pub first_hit : (n : ℕ) (b : Bool) (rs : Reasons) → b ≡ true → first_reason ((n, b) ∷ rs) ≡ n
unfolding first_reason
first_hit n b rs e = rw e

pub first_miss : (n : ℕ) (b : Bool) (rs : Reasons) → b ≡ false → first_reason ((n, b) ∷ rs) ≡ first_reason rs
unfolding first_reason
first_miss n b rs e = rw e

pub first_none : first_reason [] ≡ 0
unfolding first_reason
first_none = refl

-- no reason holds: not the first, nor one of the others
pub first_zero : (n : ℕ) (b : Bool) (rs : Reasons) → 0 < n → first_reason ((n, b) ∷ rs) ≡ 0
    → (b ≡ false) × (first_reason rs ≡ 0)
first_zero n b rs some e =
    elim (which b) [
      | inl h ↦ let z : n ≡ 0 = sym (first_hit n b rs h) ∙ e in absurd (omega arith)
      | inr h ↦ (h, sym (first_miss n b rs h) ∙ e)
    ]

-- of two lists: the first reason of the one, where it has one
pub first_append : (rs ss : Reasons) (n : ℕ) → 0 < n → first_reason rs ≡ n → first_reason (rs ++ ss) ≡ n
first_append [] ss n some e = let z : 0 ≡ n = sym first_none ∙ e in absurd (omega arith)
first_append (r ∷ rs) ss n some e =
    let later = first_append rs ss n some in
    elim (which r.1) [
      | inl h ↦ first_hit r.0 r.1 (rs ++ ss) h ∙ sym (first_hit r.0 r.1 rs h) ∙ e
      | inr h ↦ first_miss r.0 r.1 (rs ++ ss) h ∙ later (sym (first_miss r.0 r.1 rs h) ∙ e)
    ]

-- no reason of the first holds, and none is numbered 0: those of the second are looked at
pub first_after : (rs ss : Reasons) → all_of (λ r. ltb 0 r.0) rs ≡ true → first_reason rs ≡ 0
    → first_reason (rs ++ ss) ≡ first_reason ss
first_after [] ss a e = refl
first_after (r ∷ rs) ss a e =
    let later = first_after rs ss (and_right (ltb 0 r.0) (all_of (λ r. ltb 0 r.0) rs) a) in
    let some : 0 < r.0 = ltb-true 0 r.0 (and_left (ltb 0 r.0) (all_of (λ r. ltb 0 r.0) rs) a) in
    elim (which r.1) [
      | inl h ↦ let z : r.0 ≡ 0 = sym (first_hit r.0 r.1 rs h) ∙ e in absurd (omega arith)
      | inr h ↦ first_miss r.0 r.1 (rs ++ ss) h ∙ later (sym (first_miss r.0 r.1 rs h) ∙ e)
    ]

-- ---- reason 5

pub point-in_range : (x y : ℤ) → outside x y ≡ false → InRange (point x y)
point-in_range x y h = let k = and-true (coordinate x) (coordinate y) (not-false (coordinate x && coordinate y) h) in
    record { x = coordinate-le x k.0; y = coordinate-le y k.1 }

-- ---- 23, 15 and 24

-- the number of what was found is the first of them
pub first_contact : (k : Contact) → first_reason
    ((23, same (contact_reason k) 23) ∷ (15, same (contact_reason k) 15) ∷ (24, same (contact_reason k) 24) ∷ [])
    ≡ contact_reason k
unfolding first_reason same
first_contact None = refl
first_contact Touch = refl
first_contact Crossing = refl
first_contact Stretch = refl

-- none of them holds where nothing was found
pub zero-contact : (k : Contact) (rs : Reasons) → first_reason
    ((23, same (contact_reason k) 23) ∷ (15, same (contact_reason k) 15) ∷ (24, same (contact_reason k) 24) ∷ rs) ≡ 0
    → (k ≡ None) × (first_reason rs ≡ 0)
unfolding first_reason same
zero-contact None rs e = (refl, e)
zero-contact Touch rs e = absurd (omega (arith, e))
zero-contact Crossing rs e = absurd (omega (arith, e))
zero-contact Stretch rs e = absurd (omega (arith, e))
