-- Lists of tickets that end with a split and its heal, handed to `ticket_lists::run` (specs/Claims.antt). Assumes
-- nothing.
use mathlib.Core.Path.{◌≡◌, refl, sym, ap, ap₂, ◌∙◌}
use mathlib.Core.List.{List, [], ◌∷◌, ◌++◌, map, map-append, append_assoc}
use Prim.Native.Nat.{ℕ, suc, ◌+◌}
use native.Mathlib.Nat.{add-zero}
use lib.IntN.{ℤ, pos, ◌+ℤ◌}
use lib.ListN.{length, drop, get_or, length-map}
use lib.Seq.{get_or-append-add}
use Rattle.map.specs.declared.Answer.{Answer}
use Rattle.map.specs.Limits.{limit_of}
use Rattle.map.specs.Rows.{Lent, empty_map, lent_of, sizes_for}
use Rattle.map.specs.Ticket.{ticket}
use Rattle.map.specs.Grow.{Grown, after, grow}
use Rattle.map.proofs.Facts.{followed, after-append}
use Rattle.grown.proofs.SplitHeal.{split_cancelled, split-renewed}
use Rattle.ticket_lists.proofs.Called as called
use Rattle.ticket_lists.specs.Runs.{Ran, over_front, ran_unless}
use Rattle.ticket_lists.specs.Claims.{Called, refusal_at, outcome_at, RunCancels, RunRenews}

-- ---- two tickets more

after-length : (l : Lent) (ts : List (List ℤ)) → length (after l ts).answers ≡ length ts
unfolding after
after-length l [] = refl
after-length l (t ∷ ts) = ap suc (after-length (ticket l t).lent ts)

-- an answer in its place, behind those of xs
answer_at : {A : Type 0} (f : Answer → A) (xs ys : List Answer) (old : List A) (i : ℕ) (d : A)
    → get_or (over_front (map f (xs ++ ys)) old) (length xs + i) d
    ≡ get_or (map f ys ++ drop (length (map f (xs ++ ys))) old) i d
answer_at f xs ys old i d =
    let rest = drop (length (map f (xs ++ ys))) old in
    ap₂ (λ (l : List _) (n : ℕ). get_or (l ++ rest) (n + i) d) (map-append f xs ys) (sym (length-map xs f))
    ∙ ap (λ (l : List _). get_or l (length (map f xs) + i) d) (append_assoc (map f xs) (map f ys) rest)
    ∙ get_or-append-add (map f xs) (map f ys ++ rest) i d

module _ (l : Lent) (k : ℤ) (ts : List (List ℤ)) (t u : List ℤ) (r : Ran) (c : Called l k (ts ++ t ∷ u ∷ []) r) where
  abbrev g : Lent
  g = (grow (sizes_for (limit_of k) l) ts).lent

  abbrev all : Grown
  all = followed (grow (sizes_for (limit_of k) l) ts) (after g (t ∷ u ∷ []))

  ran_is : r ≡ ran_unless l c.refusals c.values all 0
  unfolding grow
  ran_is = called.ran_is c ∙ ap (λ (x : Grown). ran_unless l c.refusals c.values x 0)
      (after-append (lent_of (sizes_for (limit_of k) l) empty_map) ts (t ∷ u ∷ []))

  answers_length : length (grow (sizes_for (limit_of k) l) ts).answers ≡ length ts
  unfolding grow
  answers_length = after-length (lent_of (sizes_for (limit_of k) l) empty_map) ts

  -- the answers to t and u, in a column of answers
  module _ {A : Type 0} (f : Answer → A) (old : List A) (d : A) where
    at_t : get_or (over_front (map f all.answers) old) (length ts) d ≡ f (ticket g t).answer
    unfolding after
    at_t =
        ap (λ (n : ℕ). get_or (over_front (map f all.answers) old) n d) (sym answers_length ∙ sym (add-zero _))
        ∙ answer_at f (grow (sizes_for (limit_of k) l) ts).answers (after g (t ∷ u ∷ [])).answers old 0 d

    at_u : get_or (over_front (map f all.answers) old) (length ts + 1) d ≡ f (ticket (ticket g t).lent u).answer
    unfolding after
    at_u =
        ap (λ (n : ℕ). get_or (over_front (map f all.answers) old) (n + 1) d) (sym answers_length)
        ∙ answer_at f (grow (sizes_for (limit_of k) l) ts).answers (after g (t ∷ u ∷ [])).answers old 1 d

  first_is : refusal_at r (length ts) ≡ (ticket g t).answer.refusal
  first_is = ap (λ (x : Ran). refusal_at x (length ts)) ran_is ∙ at_t (λ a. a.refusal) c.refusals 0

  second_is : outcome_at r (length ts + 1) ≡ ticket (ticket g t).lent u
  unfolding after
  second_is =
      ap (λ (x : Ran). outcome_at x (length ts + 1)) ran_is
      ∙ (λ i. record {
        lent = (ticket (ticket g t).lent u).lent;
        answer = record {
          refusal = at_u (λ a. a.refusal) c.refusals 0 i;
          value = at_u (λ a. a.value) c.values (pos 0) i;
        };
      })

-- ---- a split and its heal

pub run_cancels : RunCancels
run_cancels l k ts e x y r c h =
    let s = sizes_for (limit_of k) l in
    let t = pos 8 ∷ e ∷ x ∷ y ∷ [] in
    let u = pos 10 ∷ e ∷ (grow s ts).lent.head.next_edge ∷ [] in
    let split = sym (first_is l k ts t u r c) ∙ h in
    second_is l k ts t u r c ∙ split_cancelled s (called.some_face c) ts e x y split

pub run_renews : RunRenews
run_renews l k ts e x y r c h low =
    let s = sizes_for (limit_of k) l in
    let a = (grow s ts).lent.head.next_edge in
    let t = pos 7 ∷ e ∷ x ∷ y ∷ [] in
    let u = pos 9 ∷ a ∷ (a +ℤ pos 1) ∷ [] in
    let split = sym (first_is l k ts t u r c) ∙ h in
    second_is l k ts t u r c ∙ split-renewed s (called.some_face c) ts e x y split low
