-- Counts and next numbers as words. Assumes nothing.
use mathlib.Core.Path.{◌≡◌, ap, ◌∙◌}
use mathlib.Core.Bool.{true}
use Prim.Native.Nat.{ℕ, ◌+◌, ◌≤◌}
use native.Mathlib.Nat.{lt_of_le_of_lt}
use native.Mathlib.Omega.{arith}
use lib.Dec.{lit<, lit≤}
use lib.IntN.{ℤ, pos, nat_abs, ◌+ℤ◌}
use lib.Signed.{non_neg}
use mir.Syntax.{w64}
use mir.Val.{of_z, to_z, SFits}
use mir.Facts.{to_z-of_z}
use borrow.Author.Rules.{sfits_of}
use Rattle.map.specs.declared.Head.{Head}
use Rattle.head.specs.Heads.{UpTo, Counted}

-- ---- small numbers

pub small_fits : (n : ℕ) → n ≤ 1000002 → SFits w64 (pos n)
small_fits n h = sfits_of (lt_of_le_of_lt h (lit< tt))

-- as they are read again
pub small_read : {z : ℤ} (n : ℕ) → z ≡ pos n → n ≤ 1000002 → to_z w64 (of_z w64 z) ≡ pos n
small_read n e h = ap (λ (k : ℤ). to_z w64 (of_z w64 k)) e ∙ to_z-of_z {w = w64} (small_fits n h)

-- ---- counts and next numbers

pub is_natural : (z : ℤ) → z ≡ pos (nat_abs z) → non_neg z ≡ true
is_natural z e = ap non_neg e

module _ (z : ℤ) (is : z ≡ pos (nat_abs z)) (few : nat_abs z ≤ 1000000) where
  pub count_fits_lem : SFits w64 z
  count_fits_lem = rw is (small_fits (nat_abs z) (omega arith))

  pub count_back : to_z w64 (of_z w64 z) ≡ z
  count_back = to_z-of_z {w = w64} count_fits_lem

  pub count_read : to_z w64 (of_z w64 z) ≡ pos (nat_abs z)
  count_read = count_back ∙ is

  pub count_natural : non_neg (to_z w64 (of_z w64 z)) ≡ true
  count_natural = ap non_neg count_read

  pub count_abs : nat_abs (to_z w64 (of_z w64 z)) ≡ nat_abs z
  count_abs = ap nat_abs count_read

  pub plus_fits : SFits w64 (to_z w64 (of_z w64 z) +ℤ pos 1)
  plus_fits = rw count_read (small_fits (nat_abs z + 1) (omega arith))

  pub plus_is : to_z w64 (of_z w64 (to_z w64 (of_z w64 z) +ℤ pos 1)) ≡ pos (nat_abs z + 1)
  plus_is = ap (λ (k : ℤ). to_z w64 (of_z w64 (k +ℤ pos 1))) count_read
      ∙ to_z-of_z {w = w64} (small_fits (nat_abs z + 1) (omega arith))

-- ---- the counts of a head, as they are read

module _ {n : ℕ} {z : ℤ} (few : n ≤ 1000000) (u : UpTo n z) where
  is_count : non_neg (to_z w64 (of_z w64 z)) ≡ true
  is_count = count_natural z u.natural (omega (arith, u.most))

  reads : {k : ℕ} → k ≡ nat_abs (to_z w64 (of_z w64 z)) → k ≡ nat_abs z
  reads e = e ∙ count_abs z u.natural (omega (arith, u.most))

module _ {h : Head} (c : Counted h) where
  pub counts-natural : (non_neg h.nodes ≡ true) × (non_neg h.edges ≡ true) × (non_neg h.faces ≡ true)
  counts-natural = (
    is_natural h.nodes c.nodes.natural,
    is_natural h.edges c.edges.natural,
    is_natural h.faces c.faces.natural,
  )

  pub nodes_natural : non_neg (to_z w64 (of_z w64 h.nodes)) ≡ true
  nodes_natural = is_count (lit≤ tt) c.nodes

  pub edges_natural : non_neg (to_z w64 (of_z w64 h.edges)) ≡ true
  edges_natural = is_count (lit≤ tt) c.edges

  pub faces_natural : non_neg (to_z w64 (of_z w64 h.faces)) ≡ true
  faces_natural = is_count (lit≤ tt) c.faces

  pub nodes_read : {k : ℕ} → k ≡ nat_abs (to_z w64 (of_z w64 h.nodes)) → k ≡ nat_abs h.nodes
  nodes_read = reads (lit≤ tt) c.nodes

  pub edges_read : {k : ℕ} → k ≡ nat_abs (to_z w64 (of_z w64 h.edges)) → k ≡ nat_abs h.edges
  edges_read = reads (lit≤ tt) c.edges

  pub faces_read : {k : ℕ} → k ≡ nat_abs (to_z w64 (of_z w64 h.faces)) → k ≡ nat_abs h.faces
  faces_read = reads (lit≤ tt) c.faces
