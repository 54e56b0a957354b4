-- The words of a line are the parts between its blanks that are not empty. Assumes nothing.
use Rattle.std.specs.Prelude.{◌≡◌, Bool, true, false, cond, not, List, [], ◌∷◌, ℕ, suc, ◌+◌, ◌*◌, ◌≤◌, length}
use Rattle.std.proofs.Common.{refl, sym, ap, inl, inr, arith, eqb, subst}
use Rattle.std.specs.List.{slice_split, filter}
use Rattle.std.proofs.lemmas.Bool.{ne_eqb}
use Rattle.lists.specs.Tests.{bit}
use Rattle.lists.proofs.Bools.{which}
use Rattle.text.specs.Lines.{blank, join_byte, parted, words}

abbrev pub some_bytes : List ℕ → Bool
some_bytes w = not (eqb (length w) 0)

-- whether a part is empty tells whether a blank or the end stands at its front
record Begins (l : List ℕ) : Type 0 where
  first : List ℕ
  rest : List (List ℕ)
  parts : slice_split blank l ≡ first ∷ rest
  ends : some_bytes first ≡ not (parted l)
  others : filter some_bytes (slice_split blank l) ≡ words l

pub full : (b : ℕ) (w : List ℕ) → some_bytes (b ∷ w) ≡ true
full b w = rw (ne_eqb (length (b ∷ w)) 0 (λ e. omega arith))

-- a byte before the first part
joined : (b : ℕ) (first : List ℕ) (rest ws : List (List ℕ)) (p : Bool) → some_bytes first ≡ not p
    → filter some_bytes (first ∷ rest) ≡ ws
    → filter some_bytes ((b ∷ first) ∷ rest) ≡ join_byte b p ws
joined b [] rest ws true e f =
    subst (λ (c : Bool). cond c ((b ∷ []) ∷ filter some_bytes rest) (filter some_bytes rest) ≡ (b ∷ []) ∷ ws)
    (sym (full b [])) (ap (λ (t : List (List ℕ)). (b ∷ []) ∷ t) f)
joined b (x ∷ xs) rest ws true e f = let q = full x xs in cc
joined b [] rest ws false e f = cc
joined b (x ∷ xs) rest ws false e f =
    let g : (x ∷ xs) ∷ filter some_bytes rest ≡ ws = rw (full x xs) at f in
    rw (full b (x ∷ xs))
    (subst (λ (t : List (List ℕ)). (b ∷ x ∷ xs) ∷ filter some_bytes rest ≡ join_byte b false t) g refl)

begins : (l : List ℕ) → Begins l
begins [] = record { first = []; rest = []; parts = refl; ends = refl; others = refl }
begins (b ∷ r) = turn (begins r)
  where
    turn : Begins r → Begins (b ∷ r)
    turn s = elim (which (blank b)) [
      | inl e ↦
          record {
            first = [];
            rest = slice_split blank r;
            parts = rw e;
            ends = rw e;
            others = rw e s.others;
          }
      | inr e ↦
          record {
            first = b ∷ s.first;
            rest = s.rest;
            parts = rw (e, s.parts);
            ends = rw e (full b s.first);
            others = rw (e, s.parts) (joined b s.first s.rest (words r) (parted r) s.ends (rw s.parts at s.others));
          }
    ]

pub words_split : (l : List ℕ) → filter some_bytes (slice_split blank l) ≡ words l
words_split l = (begins l).others

-- n bytes have at most (n + 1) / 2 words, and n / 2 where they begin with a blank
few : (l : List ℕ) → length (words l) * 2 ≤ length l + bit (not (parted l))
few [] = omega arith
few (b ∷ r) = pick (blank b) (parted r) (words r) (few r)
  where
    pick : (p q : Bool) (ws : List (List ℕ)) → length ws * 2 ≤ length r + bit (not q)
        → length (cond p ws (join_byte b q ws)) * 2 ≤ suc (length r) + bit (not p)
    pick true true ws h = omega arith
    pick true false ws h = omega arith
    pick false true ws h = omega arith
    pick false false [] h = omega arith
    pick false false (w ∷ ws) h = omega arith

pub words_few : (l : List ℕ) → length (words l) * 2 ≤ length l + 1
words_few l = pick (parted l) (few l)
  where
    pick : (q : Bool) → length (words l) * 2 ≤ length l + bit (not q) → length (words l) * 2 ≤ length l + 1
    pick true h = omega arith
    pick false h = omega arith
