-- The marks after a ring is marked, place by place. Assumes nothing.
use mathlib.Core.Path.{◌≡◌, sym, ap, ap₂, ◌∙◌}
use mathlib.Core.List.{List, ◌++◌}
use Prim.Native.Nat.{ℕ, ◌*◌, ◌<◌, ◌≤◌}
use native.Mathlib.Nat.{zero-add}
use native.Mathlib.Omega.{arith}
use lib.IntN.{ℤ}
use lib.ListN.{length, get_or, take, drop, length-append, length-drop, get_or-append, take-append-drop}
use lib.Seq.{ext_get_or, get_or-take, length-take-le}
use Rattle.lists.specs.Tables.{table}
use Rattle.lists.proofs.Scans.{length-table, get_d_table}
use Rattle.rings.specs.Marks.{mark_after, ring_marked}

module _ (f : ℕ → ℕ) (n : ℕ) (marks : List ℕ) (room : n ≤ length marks) where
  told : (q : ℕ) → q < n → get_or (table f 0 n) q 0 ≡ f q
  told q h = get_d_table f 0 n q 0 h ∙ ap f (zero-add q)

  from_places : (l : List ℕ) → length l ≡ length marks → ((q : ℕ) → q < n → get_or l q 0 ≡ f q) → drop n l ≡ drop n marks
      → l ≡ table f 0 n ++ drop n marks
  from_places l size is rest =
      let long : length (take n l) ≡ n = length-take-le n l (omega arith) in
      sym (take-append-drop n l) ∙ ap₂ ◌++◌
      (ext_get_or 0 (take n l) (table f 0 n) (long ∙ sym (length-table f 0 n)) (λ q h. front q (omega arith))) rest
    where
      front : (q : ℕ) → q < n → get_or (take n l) q 0 ≡ get_or (table f 0 n) q 0
      front q h = get_or-take n l q 0 h ∙ is q h ∙ sym (told q h)

  to_places : (length (table f 0 n ++ drop n marks) ≡ length marks)
      × ((q : ℕ) → q < n → get_or (table f 0 n ++ drop n marks) q 0 ≡ f q)
  to_places = (
    omega (arith, length-append (table f 0 n) (drop n marks), length-table f 0 n, length-drop n marks),
    (λ q h. get_or-append (table f 0 n) (drop n marks) 0 q (omega (arith, length-table f 0 n)) ∙ told q h),
  )

module _ (edges : List ℤ) (n p v : ℕ) (marks : List ℕ) (room : n * 2 ≤ length marks) where
  pub marked_from : (l : List ℕ) → length l ≡ length marks
      → ((q : ℕ) → q < n * 2 → get_or l q 0 ≡ mark_after edges n p v marks q) → drop (n * 2) l ≡ drop (n * 2) marks → l
      ≡ ring_marked edges n p v marks
  marked_from l = from_places (mark_after edges n p v marks) (n * 2) marks room l

  -- as many marks as before, and each by itself
  pub marked_places : {l : List ℕ} → l ≡ ring_marked edges n p v marks → (length l ≡ length marks)
      × ((q : ℕ) → q < n * 2 → get_or l q 0 ≡ mark_after edges n p v marks q)
  marked_places e =
      let k = to_places (mark_after edges n p v marks) (n * 2) marks room in
      (ap length e ∙ k.0, (λ q h. ap (λ (m : List ℕ). get_or m q 0) e ∙ k.1 q h))
