-- Faces that are given or not, and the rows of faces. Assumes nothing.
use Rattle.std.specs.Prelude.{None}
use mathlib.Core.Path.{◌≡◌, refl, sym, ap, ◌∙◌}
use mathlib.Core.Bool.{Bool, true, false, not, ◌&&◌, ◌||◌, false≢true}
use mathlib.Core.Logic.{inl, inr}
use mathlib.Core.List.{List}
use Prim.Native.Nat.{ℕ}
use lib.IntN.{ℤ, pos, negsuc, nat_abs}
use lib.Signed.{non_neg}
use Rattle.lists.specs.Tests.{same}
use Rattle.lists.specs.Scans.{any_of, all_of}
use Rattle.lists.specs.Tables.{place}
use Rattle.lists.proofs.Bools.{which, same_true, differ}
use Rattle.map.specs.Limits.{face_width}
use Rattle.tables.specs.Tables.{same_z, column, rows}
use Rattle.map.specs.Form.{face_ranges}
use Rattle.map.specs.Reasons.{minus_one}
use Rattle.map_rows.specs.Rows.{faces_of}
use Rattle.tables.proofs.Order.{is_same, not_same, same-pos}
use Rattle.map_rows.proofs.Lookups.{face_missing}

pub minus_one_is : (z : ℤ) → same_z z (negsuc 0) ≡ minus_one z
minus_one_is (pos n) = refl
minus_one_is (negsuc n) =
    elim (which (same n 0)) [
      | inl e ↦ is_same (negsuc n) (negsuc 0) (ap negsuc (same_true n 0 e)) ∙ sym e
      | inr e ↦ not_same (negsuc n) (negsuc 0) (λ q. differ n 0 e (cc)) ∙ sym e
    ]

-- a face that is none or a number, compared with a number
pub other_is : (a b : ℤ) → minus_one a || non_neg a ≡ true → non_neg b ≡ true → not (minus_one a) && not (same_z a b)
    ≡ not (minus_one a) && not (same (nat_abs a) (nat_abs b))
other_is (pos a) (pos b) h k = ap not (same-pos a b)
other_is (pos a) (negsuc b) h k = absurd (false≢true k)
other_is (negsuc a) b h k = go (same a 0) refl
  where
    go : (t : Bool) → same a 0 ≡ t → not (same a 0) && not (same_z (negsuc a) b) ≡ not (same a 0)
        && not (same (nat_abs (negsuc a)) (nat_abs b))
    go true e = rw e
    go false e = absurd (false≢true (rw e at h))

-- a face that was not found
pub face_none : (l : List ℤ) (n : ℕ) → all_of face_ranges (rows face_width n l) ≡ true → (z : ℤ)
    → place (same_z z) 0 (column face_width l n) ≡ None → non_neg z && any_of (same (nat_abs z)) (faces_of l n) ≡ false
face_none l n ranges (pos m) e = face_missing l n ranges m e
face_none l n ranges (negsuc m) e = refl
