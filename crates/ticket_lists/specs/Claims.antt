-- What a caller of `ticket_lists::run` may count on beside its contract: every list can be handed in; document 02 (vi),
-- a split that is healed at once; document 02 (viii), contents of what the call left.
-- Proved in proofs/: Handed.antt (`handed_in_lem`), SplitHeal.antt (`run_cancels`, `run_renews`), Nested.antt
-- (`run-listed`).
use Rattle.std.specs.Prelude.{◌≡◌, ◌≢◌, ℕ, ◌+◌, ◌≤◌, ℤ, pos, nat_abs, ◌+ℤ◌, length, get_or}
use mathlib.Core.List.{List, [], ◌∷◌, ◌++◌, map, flatten}
use Rattle.map.specs.Limits.{last_number, limit_of}
use Rattle.map.specs.Rows.{Lent, map_of, sizes_for}
use Rattle.map.specs.Ticket.{Outcome}
use Rattle.map.specs.Grow.{grow}
use Rattle.grown.specs.Claims.{restored, renewed}
use Rattle.nesting.specs.Contents.{contents_of}
use Rattle.nesting.specs.Claims.{HasContents}
use Rattle.ticket_lists.specs.Runs.{tickets_of, Ran, Runs}

-- every list of tickets is one that two slices hold: the numbers one after the other, and how many each ticket has
abbrev pub EveryList : Type 0
EveryList = (ts : List (List ℤ)) → tickets_of (flatten ts) (map length ts) ≡ ts

-- a call of `run` on the tables l, for k points, with the list ts was carried out, and left and answered r
pub record Called (l : Lent) (k : ℤ) (ts : List (List ℤ)) (r : Ran) : Type 0 where
  pub numbers : List ℤ
  pub lengths : List ℕ
  pub refusals : List ℕ
  pub values : List ℤ
  pub list : tickets_of numbers lengths ≡ ts
  pub runs : Runs l k numbers lengths refusals values r
  pub carried : r.answer.refusal ≡ 0

-- the refusal of ticket i; what the call left, with its answer to ticket i
abbrev pub refusal_at : Ran → ℕ → ℕ
refusal_at r i = get_or r.refusals i 0

abbrev pub outcome_at : Ran → ℕ → Outcome
outcome_at r i =
    record { lent = r.lent; answer = record { refusal = refusal_at r i; value = get_or r.values i (pos 0) } }

-- the list ends with kind 8 and then kind 10 on the kept edge and the new one: if the split was carried out, so was the
-- heal, and every row is as the list without the two leaves it
abbrev pub RunCancels : Type 0
RunCancels =
    (l : Lent) (k : ℤ) (ts : List (List ℤ)) (e x y : ℤ) (r : Ran) → let g = (grow (sizes_for (limit_of k) l) ts).lent in
    Called l k (ts ++ (pos 8 ∷ e ∷ x ∷ y ∷ []) ∷ (pos 10 ∷ e ∷ g.head.next_edge ∷ []) ∷ []) r
    → refusal_at r (length ts) ≡ 0
    → outcome_at r (length ts + 1) ≡ restored g

-- the list ends with kind 7 and then kind 9 on the start half and the other, and a number is left for the healed edge
abbrev pub RunRenews : Type 0
RunRenews =
    (l : Lent) (k : ℤ) (ts : List (List ℤ)) (e x y : ℤ) (r : Ran) → let g = (grow (sizes_for (limit_of k) l) ts).lent in
    let a = g.head.next_edge in
    Called l k (ts ++ (pos 7 ∷ e ∷ x ∷ y ∷ []) ∷ (pos 9 ∷ a ∷ (a +ℤ pos 1) ∷ []) ∷ []) r
    → refusal_at r (length ts) ≡ 0
    → let h = (map_of g).next.edges + 2 in h ≤ last_number
    → outcome_at r (length ts + 1) ≡ renewed (nat_abs e) h g

-- what the call left has contents, with each face and each piece once; so 28 never answers, whatever list is lent
abbrev pub RunListed : Type 0
RunListed =
    (l : Lent) (k : ℤ) (ts : List (List ℤ)) (r : Ran) → Called l k ts r
    → HasContents (map_of r.lent) × ((list : List ℤ) → (contents_of r.lent list).answer.refusal ≢ 28)
