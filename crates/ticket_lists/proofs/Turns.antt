-- A list of tickets, ticket by ticket: what is left to do, and what is written so far. Assumes nothing.
use mathlib.Core.Path.{◌≡◌, refl, sym, ap, ap₂, ◌∙◌, subst}
use mathlib.Core.List.{List, [], ◌∷◌, ◌++◌, map, append-nil}
use Prim.Native.Nat.{ℕ, ◌+◌, ◌-◌, ◌≤◌, ◌<◌, min}
use native.Mathlib.Numerals.{add-one}
use native.Mathlib.Omega.{arith}
use lib.IntN.{ℤ}
use lib.ListN.{length, take, drop, set, get_or, length-set, length-drop, take-append-drop, drop_of_length-le}
use lib.Seq.{drop-cons, drop-drop, drop-set-lt, take-suc-set, length-take-le, append_snoc}
use Rattle.lists.proofs.Parts.{part_min}
use Rattle.map.specs.declared.Answer.{Answer}
use Rattle.map.specs.Rows.{Lent}
use Rattle.map.specs.Ticket.{Outcome, ticket}
use Rattle.map.specs.Grow.{Grown, answered, after}
use Rattle.ticket_lists.specs.Runs.{tickets_of, over_front}

-- ---- one column of answers: the first i are those of all, the others are as they were

pub record Column {A : Type 0} (all left : List A) (i : ℕ) (old new : List A) : Type 0 where
  pub told : take i new ++ left ≡ all
  pub kept : drop i new ≡ drop i old
  pub size : length new ≡ length old

column_none : {A : Type 0} (all l : List A) → Column all all 0 l l
column_none all l = record { told = refl; kept = refl; size = refl }

column_more : {A : Type 0} {all left : List A} {a : A} (i : ℕ) {old new : List A} → Column all (a ∷ left) i old new
    → i < length new → Column all left (i + 1) old (set new i a)
column_more {left = left} {a = a} i {old = old} {new = new} c h =
    record {
      told = rw (add-one i, take-suc-set new i a h, append_snoc (take i new) a left) c.told;
      kept =
          drop-set-lt (i + 1) new i a (omega arith)
          ∙ sym (drop-drop 1 i new)
          ∙ ap (drop 1) c.kept
          ∙ drop-drop 1 i old;
      size = length-set new i a ∙ c.size;
    }

column_all : {A : Type 0} {all : List A} (i : ℕ) {old new : List A} → Column all [] i old new → i ≤ length new → new
    ≡ over_front all old
column_all {all = all} i {old = old} {new = new} c h =
    let t = sym (append-nil (take i new)) ∙ c.told in
    let n : length all ≡ i = sym (ap length t) ∙ length-take-le i new h in
    sym (take-append-drop i new) ∙ ap₂ (λ (x y : List _). x ++ y) t c.kept
    ∙ ap (λ (k : ℕ). all ++ drop k old) (sym n)

-- ---- a list of tickets: g is what all of them give, and r what those that are left give

pub record Left (g r : Grown) (i : ℕ) (old new : List ℕ) (old' new' : List ℤ) : Type 0 where
  pub lent : r.lent ≡ g.lent
  pub refusals : Column (map (λ a. a.refusal) g.answers) (map (λ a. a.refusal) r.answers) i old new
  pub values : Column (map (λ a. a.value) g.answers) (map (λ a. a.value) r.answers) i old' new'

pub left_all : (g : Grown) (refusals : List ℕ) (values : List ℤ) → Left g g 0 refusals refusals values values
left_all g refusals values = record { lent = refl; refusals = column_none _ refusals; values = column_none _ values }

-- a ticket is answered
left_fewer : {g r : Grown} {a : Answer} (i : ℕ) {old new : List ℕ} {old' new' : List ℤ}
    → Left g (answered a r) i old new old' new' → i < length new → i < length new'
    → Left g r (i + 1) old (set new i a.refusal) old' (set new' i a.value)
left_fewer i l h h' = record {
  lent = l.lent;
  refusals = column_more i l.refusals h;
  values = column_more i l.values h';
}

after_none : (l : Lent) (numbers : List ℤ) (lengths : List ℕ) (i : ℕ) → length lengths ≤ i
    → after l (tickets_of numbers (drop i lengths)) ≡ record { lent = l; answers = [] }
unfolding after
after_none l numbers lengths i h = rw (drop_of_length-le lengths h)

-- the first of the tickets left is done: it has the shorter of its length and what is left of the numbers
module _ (l : Lent) (left : List ℤ) (lengths : List ℕ) (i m : ℕ) (o : Outcome) where
  after_first : i < length lengths → m ≡ min (get_or lengths i 0) (length left) → o ≡ ticket l (take m left)
      → after l (tickets_of left (drop i lengths))
      ≡ answered o.answer (after o.lent (tickets_of (drop m left) (drop (i + 1) lengths)))
  unfolding after
  after_first h e d =
      let p = part_min (get_or lengths i 0) left in
      rw (d, e, add-one i, drop-cons lengths i 0 h, p.0, p.1)

  pub left-next : {g : Grown} {old new : List ℕ} {old' new' : List ℤ}
      → Left g (after l (tickets_of left (drop i lengths))) i old new old' new'
      → i < length lengths → length lengths ≤ length new → length lengths ≤ length new'
      → m ≡ min (get_or lengths i 0) (length left) → o ≡ ticket l (take m left)
      → Left g (after o.lent (tickets_of (drop m left) (drop (i + 1) lengths))) (i + 1) old
      (set new i o.answer.refusal) old' (set new' i o.answer.value)
  left-next {g = g} {old = old} {new = new} {old' = old'} {new' = new'} f h r v e d =
      left_fewer i (subst (λ (r : Grown). Left g r i old new old' new') (after_first h e d) f) (omega arith)
      (omega arith)

-- no ticket is left past the last length
pub left_none : (l : Lent) (numbers : List ℤ) (lengths : List ℕ)
    (i : ℕ) {g : Grown} {old new : List ℕ} {old' new' : List ℤ}
    → Left g (after l (tickets_of numbers (drop i lengths))) i old new old' new'
    → length lengths ≤ i → i ≤ length new → i ≤ length new'
    → (l ≡ g.lent) × (new ≡ over_front (map (λ a. a.refusal) g.answers) old)
    × (new' ≡ over_front (map (λ a. a.value) g.answers) old')
left_none l numbers lengths i {g = g} {old = old} {new = new} {old' = old'} {new' = new'} f e h h' =
    let f' = subst (λ (r : Grown). Left g r i old new old' new') (after_none l numbers lengths i e) f in
    (f'.lent, column_all i f'.refusals h, column_all i f'.values h')
