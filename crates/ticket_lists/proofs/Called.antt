-- What a call of `ticket_lists::run` that was carried out left: the grown map of its list, and its answers. Assumes
-- nothing.
use mathlib.Core.Path.{◌≡◌, refl, sym, ap, ap₂, ◌∙◌}
use mathlib.Core.Bool.{Bool, not, ◌||◌}
use mathlib.Core.List.{List, [], ◌∷◌, ◌++◌}
use Prim.Native.Nat.{ℕ, zero, suc, ◌≤◌}
use native.Mathlib.Omega.{arith}
use borrow.Author.Tests.{not-false}
use lib.Dec.{ltb}
use lib.IntN.{ℤ}
use lib.ListN.{length}
use Rattle.map.specs.Limits.{limit_of}
use Rattle.map.specs.Rows.{Lent, sizes_of, sizes_for, whole}
use Rattle.map.specs.Reasons.{first_reason}
use Rattle.map.specs.Ticket.{create_reasons}
use Rattle.map.specs.Grow.{Grown, grow}
use Rattle.map.proofs.Reasons.{first_zero}
use Rattle.grown.proofs.Grows.{whole_limited}
use Rattle.ticket_lists.specs.Runs.{tickets_of, Ran, ran_unless, ran}
use Rattle.ticket_lists.specs.Claims.{Called}

-- the call was not turned down
ran-zero : (l : Lent) (rs : List ℕ) (vs : List ℤ) (g : Grown) (n : ℕ)
    → (ran_unless l rs vs g n).answer.refusal ≡ 0 → n ≡ 0
ran-zero l rs vs g zero e = refl
ran-zero l rs vs g (suc n) e = e

module _ {l : Lent} {k : ℤ} {ts : List (List ℤ)} {r : Ran} (c : Called l k ts r) where
  abbrev short : Bool
  short =
      let n = length c.lengths in
      ltb (length c.refusals) n || ltb (length c.values) n

  reason : first_reason (create_reasons l k ++ (20, short) ∷ []) ≡ 0
  unfolding ran
  reason =
      ran-zero l c.refusals c.values (grow (sizes_for (limit_of k) l) (tickets_of c.numbers c.lengths)) _
      (sym (ap (λ (x : Ran). x.answer.refusal) c.runs.gives) ∙ c.carried)

  pub some_face : 1 ≤ (sizes_of l).faces
  some_face = (whole_limited l (not-false (whole l) (first_zero 1 (not (whole l)) _ (omega arith) reason).0)).some_face

  pub ran_is : r ≡ ran_unless l c.refusals c.values (grow (sizes_for (limit_of k) l) ts) 0
  unfolding ran
  ran_is =
      let left : Grown → ℕ → Ran = ran_unless l c.refusals c.values in
      c.runs.gives
      ∙ ap₂ (λ (us : List (List ℤ)) (n : ℕ). left (grow (sizes_for (limit_of k) l) us) n) c.list reason
