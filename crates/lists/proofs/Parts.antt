-- The first n of a list and those behind them, where n may be past its end. Assumes nothing.
use mathlib.Core.Path.{◌≡◌, refl, sym, ◌∙◌}
use mathlib.Core.Logic.{inl, inr}
use mathlib.Core.List.{List}
use Prim.Native.Nat.{ℕ, min}
use native.Mathlib.Omega.{arith}
use lib.Dec.{ltb}
use lib.ListN.{length, take, drop, drop_of_length-le}
use lib.Seq.{take_all, take-length, drop-length}
use borrow.Author.Tests.{ltb-true, ltb-false}
use Rattle.lists.proofs.Bools.{which}

pub part_min : {A : Type 0} (n : ℕ) (l : List A) → (take (min n (length l)) l ≡ take n l)
    × (drop (min n (length l)) l ≡ drop n l)
part_min n l =
    elim (which (ltb n (length l))) [
      | inl t ↦
          let h = ltb-true n (length l) t in
          let e : min n (length l) ≡ n = omega arith in
          rw e (refl, refl)
      | inr t ↦
          let h = ltb-false n (length l) t in
          let e : min n (length l) ≡ length l = omega arith in
          rw e (take-length l ∙ sym (take_all n l h), drop-length l ∙ sym (drop_of_length-le l h))
    ]
