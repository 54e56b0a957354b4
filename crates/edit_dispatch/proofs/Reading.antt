-- What a first number is read as, and a ticket on tables in form: reasons 1 and 2 do not hold. Assumes nothing.
use Rattle.std.specs.Prelude.{Some, None, option_map, slice_get}
use Rattle.std.specs.Prelude as std
use Rattle.std.proofs.lemmas.Option.{same_Some}
use mathlib.Core.Path.{◌≡◌, refl, sym, ap, ◌∙◌}
use mathlib.Core.Bool.{true, not}
use mathlib.Core.List.{List, [], ◌∷◌, ◌++◌, map}
use mathlib.Core.Logic.{inl, inr}
use mathlib.Core.Option.{Option, none, some}
use Prim.Native.Nat.{ℕ, zero, suc, ◌<◌}
use native.Mathlib.Omega.{arith}
use lib.Dec.{ltb}
use lib.IntN.{ℤ, pos, negsuc}
use lib.ListN.{length, get_or, drop, get_or-map, get_or-eq_default}
use mir.Syntax.{w64}
use mir.Val.{SFits, of_z, to_z}
use mir.Facts.{to_z-of_z, to_z_pos}
use borrow.Author.Tests.{ltb-true, ltb-false}
use Rattle.lists.proofs.Bools.{which, equal?}
use Rattle.map.specs.declared.Head.{Head}
use Rattle.map.specs.Rows.{map_of, whole, lent}
use Rattle.map.specs.Form.{in_form}
use Rattle.map.specs.Tickets.{Ticket, read}
use Rattle.map.specs.Reasons.{Reasons, first_reason}
use Rattle.map.specs.Ticket.{ticket, judged, refused, lent_reasons}
use Rattle.map.proofs.Reasons.{first_hit, first_miss}
use Rattle.outcomes.specs.declared.Done.{Done}
use Rattle.outcomes.specs.Outcomes.{Formed, outcome}
use Rattle.edit_dispatch.specs.declared.Kind.{Kind}
use Rattle.edit_dispatch.specs.declared.Routine.{Routine}
use Rattle.edit_dispatch.specs.Shaped.{shaped, shaped_rows, routines, routine_of, kind_for, kind_sent, read_for}

-- ---- what a first number is read as

-- x is none of the numbers 1 to n
abbrev NoneOf : ℕ → ℕ → Type 0
NoneOf zero x = Unit
NoneOf (suc n) x = NoneOf n x × (x ≡ suc n → ⊥)

none_of : (n k x : ℕ) → NoneOf n x → x ≡ suc k → k < n → ⊥
none_of zero k x h e l = omega arith
none_of (suc n) k x h e l = elim (equal? k n) [
  | inl q ↦ h.1 (omega arith)
  | inr q ↦ none_of n k x h.0 e
      (omega arith)
]

-- a kind, and no kind
module _ {z : ℤ} (s : SFits w64 z) where
  pub kind_told : (k : ℕ) → of_z w64 z ≡ suc k → k < 14
      → option_map kind_for (get_or (map Some routines) k None) ≡ kind_sent z
  kind_told k e l =
      let is : z ≡ pos (suc k) = sym (to_z-of_z {w = w64} s) ∙ ap (to_z w64) e ∙ to_z_pos w64 (omega arith) in
      ap kind_sent (sym is)

pub kind_unknown : (z : ℤ) → NoneOf 14 (of_z w64 z) → None ≡ kind_sent z
kind_unknown (pos zero) h = refl
kind_unknown (pos (suc k)) h =
    elim (which (ltb k 14)) [
      | inl e ↦ absurd (none_of 14 k (suc k) h refl (ltb-true k 14 e))
      | inr e ↦ ap (option_map kind_for) (sym (get_or-eq_default (map Some routines) None (ltb-false k 14 e)))
    ]
kind_unknown (negsuc k) h = refl

-- the kinds of tickets are those of routines
abbrev pub read_by : std.Option Routine → List ℤ → Option Ticket
read_by None = λ r. none
read_by (Some r) = read_for r

read-kind : (t : List ℤ) → read_by (routine_of (get_or t 0 (pos 0))) (drop 1 t) ≡ read t
unfolding read
read-kind [] = refl
read-kind (pos zero ∷ r) = refl
read-kind (pos (suc k) ∷ r) =
    ap (λ (g : List ℤ → Option Ticket). g r) (sym (get_or-map read_by (map Some routines) k None))
read-kind (negsuc k ∷ r) = refl

module _ (t : List ℤ) where
  abbrev asked : std.Option Routine
  asked = routine_of (get_or t 0 (pos 0))

  by_routine : {o : std.Option Routine} → asked ≡ o → read t ≡ read_by o (drop 1 t)
  by_routine e = sym (read-kind t) ∙ ap (λ (o : std.Option Routine). read_by o (drop 1 t)) e

  -- no kind, and a kind
  pub sent_none : kind_sent (get_or t 0 (pos 0)) ≡ None → read t ≡ none
  sent_none = go asked refl
    where
      go : (o : std.Option Routine) → asked ≡ o → option_map kind_for o ≡ None → read t ≡ none
      go None q e = by_routine q
      go (Some r) q e = cc

  pub sent_some : {k : Kind} → kind_sent (get_or t 0 (pos 0)) ≡ Some k
      → (k ≡ kind_for k.routine) × (read t ≡ read_for k.routine (drop 1 t))
  sent_some {k} = go asked refl
    where
      go : (o : std.Option Routine) → asked ≡ o → option_map kind_for o ≡ Some k
          → (k ≡ kind_for k.routine) × (read t ≡ read_for k.routine (drop 1 t))
      go None q e = (cc, cc)
      go (Some r) q e =
          let s = same_Some (kind_for r) k e in (
            sym s ∙ ap (λ (j : Kind). kind_for j.routine) s,
            by_routine q ∙ ap (λ (j : Kind). read_for j.routine (drop 1 t)) s,
          )

-- no number
pub read-empty : (t : List ℤ) → length t ≡ 0 → read_by (routine_of (get_or t 0 (pos 0))) (drop 1 t) ≡ none
read-empty [] n = refl
read-empty (z ∷ r) n = absurd (omega arith)

-- ---- no ticket

pub shaped_none : (nodes edges faces : List ℤ) (h : Head) {o : Option Ticket} {d : Done} → d
    ≡ record { head = h; answer = record { refusal = 3; value = pos 0 } } → o ≡ none → outcome nodes edges faces d
    ≡ shaped (lent nodes edges faces h) o
shaped_none nodes edges faces h e n = rw (n, e)

-- the same of the rows
pub rows_none : (nodes edges faces : List ℤ) (h : Head) {o : Option Ticket} {d : Done} → d
    ≡ record { head = h; answer = record { refusal = 3; value = pos 0 } } → o ≡ none → outcome nodes edges faces d
    ≡ shaped_rows (lent nodes edges faces h) o
rows_none nodes edges faces h e n = rw (n, e)

-- no number, and a first one
no_first : (t : List ℤ) → std.None ≡ slice_get t 0 → length t ≡ 0
no_first [] e = refl
no_first (z ∷ r) e = cc

pub first_none : (t : List ℤ) → std.None ≡ slice_get t 0 → read t ≡ none
first_none t e = sym (read-kind t) ∙ read-empty t (no_first t e)

pub first_some : (t : List ℤ) {z : ℤ} → Some z ≡ slice_get t 0 → (0 < length t) × (z ≡ get_or t 0 (pos 0))
first_some [] e = (cc, cc)
first_some (x ∷ r) {z} e = (omega arith, same_Some z x e)

-- ---- tables in form

module _ {nodes edges faces : List ℤ} {h : Head} (f : Formed nodes edges faces h) where
  past : (rs : Reasons) → first_reason (lent_reasons (lent nodes edges faces h) ++ rs) ≡ first_reason rs
  past rs = first_miss 1 (not (whole (lent nodes edges faces h))) ((2, not (in_form (lent nodes edges faces h))) ∷ rs)
      (ap not f.whole) ∙ first_miss 2 (not (in_form (lent nodes edges faces h))) rs (ap not f.in_form)

  judged-shaped : (o : Option Ticket) → judged (lent nodes edges faces h) (map_of (lent nodes edges faces h)) o
      ≡ shaped (lent nodes edges faces h) o
  judged-shaped none = ap (refused (lent nodes edges faces h)) (past ((3, true) ∷ []) ∙ first_hit 3 true [] refl)
  judged-shaped (some t) = rw past

  pub ticket-shaped : (t : List ℤ) → ticket (lent nodes edges faces h) t ≡ shaped (lent nodes edges faces h) (read t)
  unfolding ticket
  ticket-shaped t = judged-shaped (read t)
