-- What is related from a row on: the first, and those after it. Assumes nothing.
use Rattle.std.specs.Prelude.{Some, None}
use mathlib.Core.Path.{◌≡◌, refl, sym, ap, ◌∙◌, subst}
use mathlib.Core.Logic.{inl, inr}
use mathlib.Core.Bool.{true, not}
use mathlib.Core.List.{List, [], ◌∷◌, Memᴰ}
use Prim.Native.Nat.{ℕ, zero, suc, ◌+◌, ◌-◌, ◌<◌, ◌≤◌}
use native.Mathlib.Omega.{arith}
use Rattle.lists.specs.Tests.{same}
use Rattle.lists.specs.Tables.{table}
use Rattle.lists.proofs.Bools.{which, same_false}
use Rattle.lists.proofs.Keeps.{keep_in, keep_has, keep_all}
use Rattle.lists.proofs.Scans.{table_has, table_in}
use Rattle.piece_faces.specs.Bits.{span, bit_at, bits_from, related_but, first_of}
use Rattle.piece_faces.proofs.Rows.{taken, row_hit, row_miss, row_end}

first_none : (xs : List ℕ) → first_of xs ≡ None → xs ≡ []
first_none [] e = refl
first_none (x ∷ xs) e = let z : ◌≡◌ {A = ℕ} 0 1 = cc in absurd (omega arith)

module _ (g : List ℕ) (v but : ℕ) where
  abbrev rows : ℕ → List ℕ
  rows y = related_but g v y but

  pub rows_end : (y : ℕ) → first_of (rows y) ≡ None → rows y ≡ []
  rows_end y = first_none (rows y)

  -- the first from row y on is z: those after it are from row z + 1 on
  abbrev pub First : ℕ → ℕ → Type 0
  First y z = (z < span) × (rows y ≡ z ∷ rows (z + 1))

  first_in : (k y z : ℕ) → span - y ≡ k → first_of (rows y) ≡ Some z → First y z
  first_in zero y z q e =
      let c : Some z ≡ None = sym e ∙ ap first_of (row_end g v but y (omega arith)) in
      let i : ◌≡◌ {A = ℕ} 0 1 = cc in
      absurd (omega arith)
  first_in (suc k) y z q e =
      let later = first_in k (y + 1) z (omega arith) in
      elim (which (taken g v but y)) [
        | inl t ↦
            let is = row_hit g v but y (omega arith) t in
            let c : Some z ≡ Some y = sym e ∙ ap first_of is in
            let i : z ≡ y = cc in
            (omega arith, subst (λ w. rows y ≡ w ∷ rows (w + 1)) (sym i) is)
        | inr f ↦
            let is = row_miss g v but y (omega arith) f in
            let r = later (sym (ap first_of is) ∙ e) in
            (r.0, is ∙ r.1)
      ]

  pub rows_first : (y z : ℕ) → first_of (rows y) ≡ Some z → First y z
  rows_first y z e = first_in (span - y) y z refl e

  -- a row below the span, with its bit
  row_at : (y w : ℕ) → Memᴰ w (bits_from g v y) → (w < span) × (bit_at g v w ≡ true)
  row_at y w m =
      let k = keep_in (bit_at g v) (table (λ i. i) y (span - y)) m in
      let r = table_in (λ i. i) y (span - y) k.0 in
      (omega (arith, r.1, r.2, r.3), k.1)

  -- all are among those from row 0 on
  pub row_in : (y w : ℕ) → Memᴰ w (rows y) → Memᴰ w (bits_from g v 0)
  row_in y w m =
      let r = row_at y w (keep_in (λ i. not (same i but)) (bits_from g v y) m).0 in
      keep_has (bit_at g v) (table (λ i. i) 0 (span - 0))
      (table_has (λ i. i) 0 (span - 0) w (omega arith) (omega (arith, r.0))) r.1

  -- where none is left out
  pub rows_all : span ≤ but → rows 0 ≡ bits_from g v 0
  rows_all h = keep_all (λ i. not (same i but)) (bits_from g v 0)
      (λ w m. ap not (same_false w but (λ e. omega (arith, (row_at 0 w m).0))))
