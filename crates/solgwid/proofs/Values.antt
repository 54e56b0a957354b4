-- The empty map and a list of tickets answer the value 0 whatever happens, so that the refusal alone is their answer.
-- Assumes nothing.
use mathlib.Core.Path.{◌≡◌, refl, ap, subst, sym, ◌∙◌}
use mathlib.Core.Bool.{◌||◌}
use mathlib.Core.List.{List, [], ◌∷◌, ◌++◌}
use Prim.Native.Nat.{ℕ, zero, suc}
use lib.Dec.{ltb}
use lib.IntN.{ℤ, pos}
use lib.ListN.{length}
use Rattle.map.specs.declared.Answer.{Answer}
use Rattle.map.specs.Limits.{limit_of}
use Rattle.map.specs.Rows.{Lent, Sizes, sizes_for}
use Rattle.map.specs.Reasons.{first_reason}
use Rattle.map.specs.Ticket.{Outcome, create_reasons, created_unless, emptied}
use Rattle.map.specs.Grow.{Grown, grow}
use Rattle.ticket_lists.specs.Runs.{Ran, Runs, ran, ran_unless, tickets_of}

-- an answer of value 0
abbrev told : Answer → Answer
told a = record { refusal = a.refusal; value = pos 0 }

told_is : (a : Answer) → a.value ≡ pos 0 → told a ≡ a
told_is a e = λ i. record { refusal = a.refusal; value = sym e i }

created-value : (l : Lent) (s : Sizes) (r : ℕ) → (created_unless l s r).answer.value ≡ pos 0
created-value l s zero = refl
created-value l s (suc r) = refl

pub emptied_told : (l : Lent) (k : ℤ) (l' : Lent) (a : Answer) → record { lent = l'; answer = a } ≡ emptied l k
    → record { lent = l'; answer = told a } ≡ emptied l k
unfolding emptied
emptied_told l k l' a e = ap (λ (x : Answer). record { lent = l'; answer = x })
    (told_is a (ap (λ (o : Outcome). o.answer.value) e
    ∙ created-value l (sizes_for (limit_of k) l) (first_reason (create_reasons l k)))) ∙ e

ran-value : (l : Lent) (rs : List ℕ) (vs : List ℤ) (g : Grown) (r : ℕ) → (ran_unless l rs vs g r).answer.value ≡ pos 0
ran-value l rs vs g zero = refl
ran-value l rs vs g (suc r) = refl

pub runs_told :
    (l : Lent) (k : ℤ) (numbers : List ℤ) (lengths rs : List ℕ) (vs : List ℤ) (l' : Lent) (rs' : List ℕ) (vs' : List ℤ)
    (a : Answer)
    → Runs l k numbers lengths rs vs (record { lent = l'; refusals = rs'; values = vs'; answer = a })
    → Runs l k numbers lengths rs vs (record { lent = l'; refusals = rs'; values = vs'; answer = told a })
unfolding ran
runs_told l k numbers lengths rs vs l' rs' vs' a r =
    let n = length lengths in
    let zero-value = ap (λ (x : Ran). x.answer.value) r.gives
    ∙ ran-value l rs vs (grow (sizes_for (limit_of k) l) (tickets_of numbers lengths))
    (first_reason (create_reasons l k ++ (20, ltb (length rs) n || ltb (length vs) n) ∷ [])) in
    subst (λ (x : Answer). Runs l k numbers lengths rs vs
    (record { lent = l'; refusals = rs'; values = vs'; answer = x })) (sym (told_is a zero-value)) r
