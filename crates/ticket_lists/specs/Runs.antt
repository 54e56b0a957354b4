-- A whole list of tickets in one call: what it leaves and answers.
use Rattle.std.specs.Prelude.{◌≡◌, ◌||◌, List, [], ◌∷◌, ◌++◌, map, ℕ, zero, suc, ltb, ℤ, pos, length, take, drop}
use Rattle.map.specs.declared.Answer.{Answer}
use Rattle.map.specs.Limits.{limit_of}
use Rattle.map.specs.Rows.{Lent, sizes_for}
use Rattle.map.specs.Reasons.{first_reason}
use Rattle.map.specs.Ticket.{create_reasons}
use Rattle.map.specs.Grow.{Grown, grow}
use Rattle.grown.specs.Claims.{GrownMap}

-- the tickets that two slices hold: their numbers one after the other, and how many each has; the last ones have what
-- is left
abbrev pub tickets_of : List ℤ → List ℕ → List (List ℤ)
tickets_of numbers [] = []
tickets_of numbers (n ∷ ns) = take n numbers ∷ tickets_of (drop n numbers) ns

-- what is lent after the call, and the answer to it
pub record Ran : Type 0 where
  pub lent : Lent
  pub refusals : List ℕ
  pub values : List ℤ
  pub answer : Answer

-- written from the front; the remainder is untouched
abbrev pub over_front : {A : Type 0} → List A → List A → List A
over_front written list = written ++ drop (length written) list

-- an answer for each ticket, unless there is a reason against the call
abbrev pub ran_unless : Lent → List ℕ → List ℤ → Grown → ℕ → Ran
ran_unless l refusals values g zero =
    record {
      lent = g.lent;
      refusals = over_front (map (λ a. a.refusal) g.answers) refusals;
      values = over_front (map (λ a. a.value) g.answers) values;
      answer = record { refusal = 0; value = pos 0 };
    }
ran_unless l refusals values g (suc r) =
    record { lent = l; refusals = refusals; values = values; answer = record { refusal = suc r; value = pos 0 } }

-- the tickets from the empty map for k points on, in tables of these sizes: 1 the tables are not whole, 2 k is neither
-- 6 nor 12, 20 the answers would not fit
unfoldable pub ran : Lent → ℤ → List ℤ → List ℕ → List ℕ → List ℤ → Ran
ran l k numbers lengths refusals values =
    let n = length lengths in
    ran_unless l refusals values (grow (sizes_for (limit_of k) l) (tickets_of numbers lengths))
    (first_reason (create_reasons l k ++ (20, ltb (length refusals) n || ltb (length values) n) ∷ []))

-- demand 3: the call gives what the definitions give from the sizes and the tickets alone, and that is a grown map
pub record Runs (l : Lent) (k : ℤ) (numbers : List ℤ) (lengths refusals : List ℕ) (values : List ℤ) (r : Ran) :
    Type 0 where
  pub gives : r ≡ ran l k numbers lengths refusals values
  pub grown : r.answer.refusal ≡ 0 → GrownMap r.lent
