-- What a list of tickets answers, reason by reason. Assumes nothing.
use mathlib.Core.Path.{◌≡◌, refl, sym, ap, ◌∙◌, subst}
use mathlib.Core.Bool.{Bool, true, false, not, ◌||◌}
use mathlib.Core.List.{List, [], ◌∷◌, ◌++◌, map}
use Prim.Native.Nat.{ℕ, zero, suc, ◌<◌, ◌≤◌}
use native.Mathlib.Omega.{arith}
use borrow.Author.Tests.{not-false, ltb-false}
use lib.Dec.{ltb}
use lib.IntN.{ℤ, pos}
use lib.ListN.{length}
use Rattle.map.specs.Limits.{is_record, limit_of}
use Rattle.map.specs.Rows.{Lent, sizes_for, whole}
use Rattle.lists.proofs.Bools.{or-false}
use Rattle.map.specs.Reasons.{Reasons, first_reason}
use Rattle.map.proofs.Reasons.{first_zero}
use Rattle.map.specs.Ticket.{create_reasons, emptied}
use Rattle.map.specs.Grow.{Grown, after, grow}
use Rattle.grown.specs.Claims.{GrownMap}
use Rattle.grown.proofs.Grows.{grows, whole_limited}
use Rattle.ticket_lists.specs.Runs.{tickets_of, Ran, over_front, ran_unless, ran, Runs}

-- from the empty map on
grow_is : (l : Lent) (k : ℤ) (ts : List (List ℤ)) → whole l ≡ true → is_record k ≡ true
    → grow (sizes_for (limit_of k) l) ts ≡ after (emptied l k).lent ts
unfolding grow emptied first_reason
grow_is l k ts w r = rw (w, r)

module _ (l : Lent) (k : ℤ) (numbers : List ℤ) (lengths refusals : List ℕ) (values : List ℤ) where
  abbrev short : Bool
  short = ltb (length refusals) (length lengths) || ltb (length values) (length lengths)

  abbrev pub run_reasons : Reasons
  run_reasons = create_reasons l k ++ (20, short) ∷ []

  abbrev grew : Grown
  grew = grow (sizes_for (limit_of k) l) (tickets_of numbers lengths)

  abbrev turned : ℕ → Ran
  turned r = record { lent = l; refusals = refusals; values = values; answer = record { refusal = r; value = pos 0 } }

  unless_turned : (n : ℕ) → 0 < n → ran_unless l refusals values grew n ≡ turned n
  unless_turned zero some = absurd (omega arith)
  unless_turned (suc n) some = refl

  ran_is : ran l k numbers lengths refusals values ≡ ran_unless l refusals values grew (first_reason run_reasons)
  unfolding ran
  ran_is = refl

  -- turned down
  pub runs_refused : {n : ℕ} → 0 < n → first_reason run_reasons ≡ n
      → Runs l k numbers lengths refusals values (turned n)
  runs_refused {n} some e = record {
    gives = sym (ran_is ∙ ap (ran_unless l refusals values grew) e ∙ unless_turned n some);
    grown = λ z. absurd (omega arith);
  }

  module _ (none : first_reason run_reasons ≡ 0) where
    first : (not (whole l) ≡ false) × (first_reason ((2, not (is_record k)) ∷ (20, short) ∷ []) ≡ 0)
    first = first_zero 1 (not (whole l)) _ (omega arith) none

    second : (not (is_record k) ≡ false) × (first_reason ((20, short) ∷ []) ≡ 0)
    second = first_zero 2 (not (is_record k)) _ (omega arith) first.1

    room : short ≡ false
    room = (first_zero 20 short _ (omega arith) second.1).0

    pub room_left : (length lengths ≤ length refusals) × (length lengths ≤ length values)
    room_left =
        let r = or-false (ltb (length refusals) (length lengths)) (ltb (length values) (length lengths)) room in
        (ltb-false _ _ r.0, ltb-false _ _ r.1)

    -- carried out: g is what the tickets give from the empty map on
    pub runs_all : (g : Grown) → g ≡ after (emptied l k).lent (tickets_of numbers lengths)
        → {l' : Lent} {refusals' : List ℕ} {values' : List ℤ}
        → (l' ≡ g.lent) × (refusals' ≡ over_front (map (λ a. a.refusal) g.answers) refusals)
        × (values' ≡ over_front (map (λ a. a.value) g.answers) values)
        → Runs l k numbers lengths refusals values
        (record { lent = l'; refusals = refusals'; values = values'; answer = record { refusal = 0; value = pos 0 } })
    runs_all g d q =
        let ts = tickets_of numbers lengths in
        let w = not-false (whole l) first.0 in
        let is : g ≡ grow (sizes_for (limit_of k) l) ts = d ∙ sym (grow_is l k ts w (not-false (is_record k) second.0)) in
        record {
          gives = (λ i. record {
            lent = q.0 i;
            refusals = q.1 i;
            values = q.2 i;
            answer = record { refusal = 0; value = pos 0 };
          }) ∙ ap (λ (x : Grown). ran_unless l refusals values x 0) is
              ∙ sym (ran_is ∙ ap (ran_unless l refusals values grew) none);
          grown = λ z. subst GrownMap (sym (q.0 ∙ ap (λ (x : Grown). x.lent) is))
              (grows (sizes_for (limit_of k) l) (whole_limited l w).some_face ts);
        }
