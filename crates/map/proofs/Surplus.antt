-- Points sent and the points that are left of them: 5 and 6 look at the former, all other reasons at the latter. Curves
-- that a row can hold, thinned and turned. Assumes nothing.
use mathlib.Core.Path.{◌≡◌, refl, ◌∙◌}
use mathlib.Core.Bool.{Bool, true, false, not}
use mathlib.Core.List.{List, ◌++◌}
use Prim.Native.Nat.{ℕ, ◌<◌}
use native.Mathlib.Omega.{arith}
use borrow.Author.Tests.{not-false}
use lib.Dec.{lit<}
use lib.IntN.{ℤ}
use Rattle.curves.specs.Curves.{Curve, curve_of, is_run_to}
use Rattle.curves.specs.Tests.{neighbours_differ, straight_inside}
use Rattle.curves.specs.Edits.{without_surplus, course}
use Rattle.geometry.proofs.Chains.{some_length, length_some}
use Rattle.geometry.proofs.Theorems.{reverse_count}
use Rattle.geometry.proofs.Turning.{turned-given}
use Rattle.geometry.proofs.Thinning.{surplus_some, surplus_fewer, surplus_given, surplus_differ, surplus_bent}
use Rattle.map.specs.Limits.{most_points}
use Rattle.map.specs.Rows.{Sizes}
use Rattle.map.specs.Reasons.{Reasons, first_reason, sent_reasons, curve_in, curve_ticket_reasons}
use Rattle.map.proofs.Reasons.{first_miss, first_zero, first_append, first_after}
use Rattle.map.proofs.RoundTrip.{StoredTo, run_stored}

-- what is left of a curve that a row can hold is such a curve
pub surplus_stored : {k : ℕ} {c : Curve} → StoredTo k c → StoredTo k (without_surplus c)
surplus_stored {k} {c} s = record {
  least = omega (
    arith,
    some_length (without_surplus c).rest (surplus_some c (length_some c.rest
        (omega (arith, s.least)))),
  );
  most = omega (arith, surplus_fewer c, s.most);
  in_range = λ p j. s.in_range p (surplus_given c p j);
}

-- and so is the curve in either direction
pub course_stored : {k : ℕ} (back : Bool) (c : Curve) → StoredTo k c → StoredTo k (course back c)
course_stored false c s = s
course_stored true c s = record {
  least = omega (arith, reverse_count c, s.least);
  most = omega (arith, reverse_count c, s.most);
  in_range = λ p j. s.in_range p (turned-given c.first c.rest j);
}

-- what is left of points that 5, with the limit k, and 6 let pass
pub record Left (k : ℕ) (c : Curve) : Type 0 where
  pub stored : StoredTo k c
  pub differ : neighbours_differ c ≡ true
  pub bent : straight_inside c ≡ false

pub sent_left : (k : ℕ) (sent : List ℤ) (rest : Reasons) → first_reason (sent_reasons k sent ++ rest) ≡ 0
    → Left k (curve_in sent) × (first_reason rest ≡ 0)
sent_left k sent rest e =
    let e₅ = first_zero 5 (not (is_run_to k sent)) _ (lit< tt) e in
    let e₆ = first_zero 6 (not (neighbours_differ (curve_of sent))) rest (lit< tt) e₅.1 in (
      record {
        stored = surplus_stored (run_stored sent (not-false (is_run_to k sent) e₅.0));
        differ = surplus_differ (curve_of sent) (not-false (neighbours_differ (curve_of sent)) e₆.0);
        bent = surplus_bent (curve_of sent);
      },
      e₆.1,
    )

-- a ticket with a curve whose rows are there
module _ (s : Sizes) {missing : Bool} (there : missing ≡ false) (sent : List ℤ) (rest : Curve → Reasons) where
  abbrev passes : Reasons
  passes = sent_reasons (most_points s.limit) sent

  -- 5 or 6 holds
  pub sent_refused : (r : ℕ) → 0 < r → first_reason passes ≡ r → first_reason (curve_ticket_reasons s missing sent rest) ≡ r
  sent_refused r some e = first_miss 4 missing _ there ∙ first_append passes (rest (curve_in sent)) r some e

  -- neither does: what is left decides
  pub sent_passed : first_reason passes ≡ 0
      → first_reason (curve_ticket_reasons s missing sent rest) ≡ first_reason (rest (curve_in sent))
  sent_passed e = first_miss 4 missing _ there ∙ first_after passes (rest (curve_in sent)) refl e
