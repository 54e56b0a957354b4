-- What is claimed of two sheets joined. Proved in proofs/: Joined.antt, Ranged.antt (`join-ranged`).
use Rattle.std.specs.Prelude.{◌≡◌, Bool, true, not, List, ◌++◌, map, ◌≢◌, ℕ, ◌≤◌, ℤ, pos, take}
use Rattle.lists.specs.Tests.{same}
use Rattle.map.specs.declared.Answer.{Answer}
use Rattle.map.specs.Rows.{Lent, Sizes, map_of}
use Rattle.map.specs.Form.{ranged}
use Rattle.map.specs.Reasons.{first_reason}
use Rattle.map.specs.Ticket.{lent_reasons, refused}
use Rattle.map.specs.Grow.{after, grow}
use Rattle.grown.specs.Claims.{GrownMap}
use Rattle.joining.specs.Join.{entries, enter_all, joined_sheet, tickets_for, join_tickets}

-- ---- any two sheets

-- the joined sheet is what the tickets leave
abbrev pub JoinedAfter : Type 0
JoinedAfter = (l second : Lent) → (joined_sheet l second).lent ≡ (after l (join_tickets l second)).lent

-- turned down, the first sheet is as it was, and the value is 0
abbrev pub JoinRefused : Type 0
JoinRefused = (l second : Lent) → let r = (joined_sheet l second).answer.refusal in r ≢ 0 → joined_sheet l second
    ≡ refused l r

-- an answer as a reason
abbrev pub turned_down : Answer → ℕ × Bool
turned_down a = (a.refusal, not (same a.refusal 0))

-- the answer is the first of these: 1 and 2 of the first sheet, 1 and 2 of the second, what the tickets get one by one
abbrev pub JoinedAnswer : Type 0
JoinedAnswer =
    (l second : Lent) → let tickets = tickets_for l (entries (map_of second)) in
    let reasons = lent_reasons l ++ lent_reasons second ++ map turned_down (after l tickets).answers in
    (joined_sheet l second).answer ≡ record { refusal = first_reason reasons; value = pos 0 }

-- counts, ranges and zero rows are as in form wherever a ticket is worked out, also behind one that left the first
-- sheet out of form
abbrev pub JoinRanged : Type 0
JoinRanged =
    (l second : Lent) → ranged l ≡ true → (n : ℕ)
    → ranged (enter_all l (take n (entries (map_of second)))).lent ≡ true

-- ---- a grown sheet and any other

-- the joined sheet is grown, by the first sheet's tickets and the join's
abbrev pub JoinedGrown : Type 0
JoinedGrown =
    (s : Sizes) (ts : List (List ℤ)) (second : Lent) → let first = (grow s ts).lent in
    (joined_sheet first second).lent ≡ (grow s (ts ++ join_tickets first second)).lent

-- so it has all that grown maps have
abbrev pub JoinedMap : Type 0
JoinedMap =
    (s : Sizes) → 1 ≤ s.faces → (ts : List (List ℤ)) (second : Lent)
    → GrownMap (joined_sheet (grow s ts).lent second).lent
