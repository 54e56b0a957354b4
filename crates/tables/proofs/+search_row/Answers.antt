-- `tables::search_row` meets its contract, by the number of rows from lo to hi: the half that the number is not in has
-- only numbers that are less, or greater. Assumes nothing.
use Prim.Native.Nat.{ℕ, ◌+◌, ◌-◌, ◌*◌, ◌/◌}
use mathlib.Core.Path.{◌≡◌, sym, ap, subst, ◌∙◌}
use mathlib.Core.Bool.{true, false}
use native.Mathlib.Omega.{arith}
use lib.IntN.{ℤ, pos}
use lib.ListN.{get_or}
use lib.Signed.{lt_z}
use mir.Syntax.{w64}
use mir.Val.{to_z, of_z}
use mir.Facts.{to_z-of_z}
use borrow.Author.Count.{below_more}
use borrow.Author.Rules.{sfits_of}
use Rattle.lists.proofs.Scans.{place_none}
use Rattle.tables.specs.Tables.{same_z}
use Rattle.tables.proofs.Order.{less_trans, below_other, greater, word_is, rise}
use Rattle.tables.proofs.Lookups.{row_met, rows_first, place-before}
use Rattle.tables.proofs.+search_row.Goals as goal

pub returns-then-hi-lo : goal.returns-then-hi-lo
returns-then-hi-lo t c =
    let s = c in
    let f : ℕ → ℤ = λ k. get_or s.args.t.now (k * s.args.w) (pos 0) in
    sym (place_none f (same_z s.args.number) s.args.hi
    (λ k h. below_other (f k) s.args.number (s.requires.1 k (omega arith))))

pub returns-then-z-number : goal.returns-then-z-number
returns-then-z-number t c =
    let s = c in
    let m = s.args.lo + (s.args.hi - s.args.lo) / 2 in
    row_met s.requires.0 m (omega arith)
    (word_is (sfits_of c.z-1.given) s.ranges.number c.if-z-number.true)

pub search_row-requires : goal.search_row-requires
search_row-requires t c =
    let s = c in
    let a = s.args in
    let m = a.lo + (a.hi - a.lo) / 2 in
    let f : ℕ → ℤ = λ k. get_or a.t.now (k * a.w) (pos 0) in
    let n = to_z w64 (of_z w64 a.number) in
    let e : to_z w64 (of_z w64 (f m)) ≡ f m = to_z-of_z {w = w64} {z = f m} (sfits_of c.z-1.given) in
    let here : lt_z (f m) n ≡ true = subst (λ (z : ℤ). lt_z z n ≡ true) e c.if-z-number-2.true in (
      omega arith,
      (
        s.requires.0,
        below_more (λ k. lt_z (f k) n ≡ true) m
            (λ k h. less_trans (f k) (f m) n (rise f a.hi s.requires.0.rising k m h (omega arith)) here) here,
      ),
    )

pub search_row-requires-2 : goal.search_row-requires-2
search_row-requires-2 t c =
    let s = c in
    let a = s.args in
    let m = a.lo + (a.hi - a.lo) / 2 in
    (omega arith, (rows_first s.requires.0 m (omega arith), rw (to_z-of_z s.ranges.number) s.requires.1))

pub returns : goal.returns
returns t c =
    let s = c in
    let a = s.args in
    let m = a.lo + (a.hi - a.lo) / 2 in
    let z = get_or a.t.now (m * a.w) (pos 0) in
    let n = to_z w64 (of_z w64 a.number) in
    let e : to_z w64 (of_z w64 z) ≡ z = to_z-of_z {w = w64} {z = z} (sfits_of c.z-1.given) in
    let not-less : lt_z z n ≡ false = subst (λ (x : ℤ). lt_z x n ≡ false) e c.if-z-number-2.false in
    let other : z ≡ n → ⊥ = λ q. c.if-z-number.false
    (ap (of_z w64) (q ∙ to_z-of_z {w = w64} s.ranges.number)) in
    rw (to_z-of_z s.ranges.number) at
    (c.search_row-2.ensures ∙ place-before s.requires.0 m (omega arith) n (greater z n not-less other))
