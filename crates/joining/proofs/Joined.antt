-- A joined sheet is what its tickets leave, on any tables, and its answer is that of the first reason
-- (specs/Claims.antt). Assumes nothing.
use mathlib.Core.Path.{◌≡◌, refl, sym, ap, ◌∙◌, subst}
use mathlib.Core.Bool.{true, cond, not}
use mathlib.Core.List.{List, [], ◌∷◌, ◌++◌, map}
use mathlib.Core.Logic.{◌≢◌}
use mathlib.Core.Option.{Option, none, some}
use Prim.Native.Nat.{ℕ, zero, suc}
use lib.Dec.{ltb}
use lib.IntN.{ℤ, pos}
use native.Mathlib.Omega.{arith}
use Rattle.lists.specs.Tests.{same}
use Rattle.lists.specs.Scans.{all_of}
use Rattle.lists.proofs.Bools.{same_refl, same_false}
use Rattle.map.specs.declared.Answer.{Answer}
use Rattle.map.specs.Rows.{Lent, empty_map, map_of, lent_of}
use Rattle.map.specs.Reasons.{Reasons, first_reason}
use Rattle.map.specs.Ticket.{Outcome, lent_reasons, refused, ticket}
use Rattle.map.specs.Grow.{Grown, after, grow}
use Rattle.map.proofs.Facts.{after-append}
use Rattle.map.proofs.Reasons.{first_hit, first_miss, first_none, first_append, first_after}
use Rattle.grown.specs.Claims.{GrownMap}
use Rattle.grown.proofs.Grows.{grows}
use Rattle.joining.specs.Join.{Entry, entries, as_is, enter, unless_reason, enter_all, joined_sheet, handed_in}
use Rattle.joining.specs.Join.{tickets_for, join_tickets}
use Rattle.joining.specs.Claims.{JoinedAfter, JoinRefused, turned_down, JoinedAnswer, JoinedGrown, JoinedMap}

-- ---- no ticket turned down

-- what a row's ticket, or none, leaves to those behind it
handed_lent : (l : Lent) (t : Option (List ℤ)) (ts : List (List ℤ))
    → (after (enter l t).lent ts).lent ≡ (after l (handed_in t ts)).lent
unfolding after
handed_lent l none ts = refl
handed_lent l (some t) ts = refl

unless-zero : (r : ℕ) (l : Lent) (o : Outcome) → (unless_reason r l o).answer.refusal ≡ 0 → r ≡ 0
unless-zero zero l o z = refl
unless-zero (suc r) l o z = z

-- what is left is what the rows' tickets leave
all_after : (l : Lent) (fs : List Entry) → (enter_all l fs).answer.refusal ≡ 0
    → (enter_all l fs).lent ≡ (after l (tickets_for l fs)).lent
unfolding enter_all tickets_for after
all_after l [] z = refl
all_after l (f ∷ fs) z =
    let o = enter l (f (map_of l)) in
    let e = unless-zero o.answer.refusal l (enter_all o.lent fs) z in
    rw e (all_after o.lent fs (rw e at z)) ∙ handed_lent l (f (map_of l)) (tickets_for o.lent fs)

-- ---- what is left by a join

-- the tickets that leave o: none where it was turned down
abbrev unless_refused : Outcome → List (List ℤ) → List (List ℤ)
unless_refused o ts = cond (same o.answer.refusal 0) ts []

unless-after : (r : ℕ) (l : Lent) (o : Outcome) (ts : List (List ℤ))
    → (r ≡ 0 → o.lent ≡ (after l (unless_refused o ts)).lent)
    → (unless_reason r l o).lent ≡ (after l (unless_refused (unless_reason r l o) ts)).lent
unfolding after
unless-after zero l o ts then = then refl
unless-after (suc r) l o ts then = rw (same_false (suc r) 0 (λ e. omega (arith, e)))

pub joined-after : JoinedAfter
unfolding joined_sheet join_tickets
joined-after l second =
    let fs = entries (map_of second) in
    let o = enter_all l fs in
    let ts = tickets_for l fs in
    let left : o.answer.refusal ≡ 0 → o.lent ≡ (after l (unless_refused (as_is o.lent) ts)).lent =
    λ z. rw (same_refl 0) (all_after l fs z) in
    unless-after (first_reason (lent_reasons l ++ lent_reasons second)) l
    (unless_reason o.answer.refusal l (as_is o.lent)) ts
    (λ z. unless-after o.answer.refusal l (as_is o.lent) ts left)

-- ---- turned down

unless_refused_lem : (r : ℕ) (l : Lent) (o : Outcome) → (o.answer.refusal ≢ 0 → o ≡ refused l o.answer.refusal)
    → (unless_reason r l o).answer.refusal ≢ 0 → unless_reason r l o ≡ refused l (unless_reason r l o).answer.refusal
unless_refused_lem zero l o then n = then n
unless_refused_lem (suc r) l o then n = refl

pub join-refused : JoinRefused
unfolding joined_sheet
join-refused l second =
    let o = enter_all l (entries (map_of second)) in
    unless_refused_lem (first_reason (lent_reasons l ++ lent_reasons second)) l
    (unless_reason o.answer.refusal l (as_is o.lent))
    (unless_refused_lem o.answer.refusal l (as_is o.lent) (λ n. absurd (n refl)))

-- ---- the answer

abbrev told : ℕ → Answer
told r = record { refusal = r; value = pos 0 }

-- the reasons rs, and then those of which o tells
unless_told : (rs ss : Reasons) → all_of (λ r. ltb 0 r.0) rs ≡ true → (r : ℕ) → first_reason rs ≡ r
    → (l : Lent) (o : Outcome) → o.answer ≡ told (first_reason ss)
    → (unless_reason r l o).answer ≡ told (first_reason (rs ++ ss))
unless_told rs ss above zero e l o h = h ∙ ap told (sym (first_after rs ss above e))
unless_told rs ss above (suc r) e l o h = ap told (sym (first_append rs ss (suc r) (omega arith) e))

-- an answer, and the reasons behind it
one_told : (r : ℕ) (l : Lent) (o : Outcome) (ss : Reasons) → o.answer ≡ told (first_reason ss)
    → (unless_reason r l o).answer ≡ told (first_reason ((r, not (same r 0)) ∷ ss))
one_told zero l o ss h = h ∙ ap told (sym (first_miss 0 (not (same 0 0)) ss (ap not (same_refl 0))))
one_told (suc r) l o ss h =
    let e = same_false (suc r) 0 (λ e. omega (arith, e)) in
    ap told (sym (first_hit (suc r) (not (same (suc r) 0)) ss (ap not e)))

-- what a row's ticket gets, and what those behind it get
handed_told : (l : Lent) (t : Option (List ℤ)) (ts : List (List ℤ)) (o : Outcome)
    → o.answer ≡ told (first_reason (map turned_down (after (enter l t).lent ts).answers))
    → (unless_reason (enter l t).answer.refusal l o).answer
    ≡ told (first_reason (map turned_down (after l (handed_in t ts)).answers))
unfolding after
handed_told l none ts o h = h
handed_told l (some t) ts o h =
    one_told (ticket l t).answer.refusal l o (map turned_down (after (ticket l t).lent ts).answers) h

all_told : (l : Lent) (fs : List Entry)
    → (enter_all l fs).answer ≡ told (first_reason (map turned_down (after l (tickets_for l fs)).answers))
unfolding enter_all tickets_for after
all_told l [] = ap told (sym first_none)
all_told l (f ∷ fs) =
    let t = f (map_of l) in
    handed_told l t (tickets_for (enter l t).lent fs) (enter_all (enter l t).lent fs) (all_told (enter l t).lent fs)

settled : (r : ℕ) (l k : Lent) → (unless_reason r l (as_is k)).answer ≡ told r
settled zero l k = refl
settled (suc r) l k = refl

pub joined-answer : JoinedAnswer
unfolding joined_sheet
joined-answer l second =
    let fs = entries (map_of second) in
    let o = enter_all l fs in
    let rs = lent_reasons l ++ lent_reasons second in
    let ss = map turned_down (after l (tickets_for l fs)).answers in
    unless_told rs ss refl (first_reason rs) refl l (unless_reason o.answer.refusal l (as_is o.lent))
    (settled o.answer.refusal l o.lent ∙ ap (λ (a : Answer). told a.refusal) (all_told l fs))

-- ---- a grown sheet and any other

pub joined_grown : JoinedGrown
unfolding grow
joined_grown s ts second = joined-after (grow s ts).lent second
    ∙ sym (ap (λ (g : Grown). g.lent) (after-append (lent_of s empty_map) ts (join_tickets (grow s ts).lent second)))

pub joined-map : JoinedMap
joined-map s h ts second =
    subst GrownMap (sym (joined_grown s ts second)) (grows s h (ts ++ join_tickets (grow s ts).lent second))
