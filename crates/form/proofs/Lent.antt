-- What `form::check_lent` tells: tables that pass are whole and in form, and of tables that don't the reason stands
-- before every other. Assumes nothing.
use mathlib.Core.Path.{◌≡◌, refl}
use mathlib.Core.Bool.{true, not}
use mathlib.Core.List.{[], ◌∷◌, ◌++◌}
use Prim.Native.Nat.{ℕ, ◌<◌}
use native.Mathlib.Omega.{arith}
use borrow.Author.Tests.{not-false}
use Rattle.map.specs.Rows.{Lent, whole}
use Rattle.map.specs.Form.{in_form}
use Rattle.map.specs.Reasons.{Reasons, first_reason}
use Rattle.map.specs.Ticket.{lent_reasons}
use Rattle.map.proofs.Reasons.{first_zero, first_append, first_after}

module _ (l : Lent) where
  -- no reason
  pub lent_whole : first_reason (lent_reasons l) ≡ 0 → whole l ≡ true
  lent_whole e = not-false (whole l) (first_zero 1 (not (whole l)) ((2, not (in_form l)) ∷ []) (omega arith) e).0

  pub lent_in_form : first_reason (lent_reasons l) ≡ 0 → in_form l ≡ true
  lent_in_form e =
      not-false (in_form l)
      (first_zero 2 (not (in_form l)) [] (omega arith)
      (first_zero 1 (not (whole l)) ((2, not (in_form l)) ∷ []) (omega arith) e).1).0

  -- and the others are looked at
  pub lent_passed : (rs : Reasons) → first_reason (lent_reasons l) ≡ 0
      → first_reason (lent_reasons l ++ rs) ≡ first_reason rs
  lent_passed rs e = first_after (lent_reasons l) rs refl e

  -- a reason: it is the first of all
  pub lent_first : (rs : Reasons) {n : ℕ} → 0 < n → first_reason (lent_reasons l) ≡ n
      → first_reason (lent_reasons l ++ rs) ≡ n
  lent_first rs {n} some e = first_append (lent_reasons l) rs n some e
