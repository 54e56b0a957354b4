-- `contents::write_line` meets its contract. Assumes nothing.
use borrow.Author.Rules.{sfits_of}
use mathlib.Core.Path.{◌≡◌, ap, ◌∙◌}
use mathlib.Core.Logic.{inl, inr}
use mathlib.Core.List.{List}
use Prim.Native.Nat.{ℕ, suc, ◌+◌, ◌*◌, ◌%◌, ◌<◌}
use native.Mathlib.Nat.{mod-lt}
use native.Mathlib.Omega.{arith}
use lib.IntN.{ℤ, pos}
use lib.ListN.{get_or, set, length-set}
use mir.Syntax.{w64}
use mir.Facts.{to_z-of_z}
use Rattle.lists.specs.Tests.{same, bit}
use Rattle.lists.proofs.Bools.{which, same_true, differ}
use Rattle.contents.proofs.write_line.Goals as goal

-- an odd vertex is a piece's
odd-bit : (v : ℕ) → v % 2 ≡ bit (same (v % 2) 1)
odd-bit v = elim (which (same (v % 2) 1)) [
  | inl e ↦ rw e (same_true (v % 2) 1 e)
  | inr e ↦ let h = differ (v % 2) 1 e in let l : v % 2 < 2 = mod-lt v (omega arith) in rw e (omega arith)
]

-- three numbers, one after the other
three : (l : List ℤ) (at : ℕ) (a b c a' b' c' : ℤ) → a ≡ a' → b ≡ b' → c ≡ c'
    → set (set (set l at a) (at + 1) b) (at + 2) c ≡ set (set (set l at a') (suc at) b') (suc (suc at)) c'
three l at a b c a' b' c' p q r =
    let one : at + 1 ≡ suc at = omega arith in
    let two : at + 2 ≡ suc (suc at) = omega arith in
    rw (p, q, r, one, two)

pub overflow_cast-v : goal.overflow_cast-v
overflow_cast-v c = let h = c.shared_slice_known-2-1.given (c.args.i * 2 + 1) in omega (arith, h)

pub overflow_cast-list : goal.overflow_cast-list
overflow_cast-list c = let h = c.shared_slice_known-3-1.given (c.args.i * 2) in
    record { sfits = omega (arith, h) }

pub bounds-list-at-2 : goal.bounds-list-at-2
bounds-list-at-2 c = simp length-set (omega arith)

pub bounds-list-at-3 : goal.bounds-list-at-3
bounds-list-at-3 c = simp length-set (omega arith)

pub returns : goal.returns
returns c =
    let a = c.args in
    let d = get_or a.notes.now (a.i * 2) 0 in
    let v = get_or a.notes.now (a.i * 2 + 1) 0 in
    let small : v % 2 < 2 = mod-lt v (omega arith) in
    let depth = c.shared_slice_known-3-1.given (a.i * 2) in
    three a.list.now a.at _ _ _ _ _ _ (to_z-of_z {w = w64} {z = pos d} (record { sfits = omega (arith, depth) }))
    (to_z-of_z {w = w64} {z = pos (v % 2)} (record { sfits = omega (arith, small) }) ∙ ap pos (odd-bit v))
    (to_z-of_z {w = w64} (sfits_of c.number_at.type_inv) ∙ c.number_at.ensures)
