-- A list written from the front: one ring's numbers more. Assumes nothing.
use mathlib.Core.Path.{◌≡◌, sym, ap, ap₂, ◌∙◌}
use mathlib.Core.List.{List, [], ◌++◌, map}
use Prim.Native.Nat.{ℕ, zero, suc, ◌+◌, ◌<◌, ◌≤◌}
use native.Mathlib.Nat.{add-zero, zero-add}
use native.Mathlib.Numerals.{add-one}
use native.Mathlib.Omega.{arith}
use lib.IntN.{ℤ, pos}
use lib.ListN.{length, get_or, set, drop, length-drop, length-append, length-map, get_or-append}
use lib.Seq.{paste, paste-zero, paste-suc, get_or-drop, drop-drop, drop_at, length-paste, take-length}
use Rattle.planar_maps.specs.Map.{Dart}
use Rattle.map.specs.Rows.{dart_cell}
use Rattle.map.specs.Ticket.{ring_numbers}

module _ (d w : List ℤ) where
  -- one number more
  pub front_more : (j : ℕ) → j < length d → j < length w → set (paste d 0 w j) j (get_or w j (pos 0))
      ≡ paste d 0 w (j + 1)
  front_more j h k = ap (λ (i : ℕ). set (paste d 0 w j) i (get_or w j (pos 0))) (sym (zero-add j))
      ∙ paste-suc d 0 w j (pos 0) (rw (zero-add j) h) k ∙ ap (paste d 0 w) (sym (add-one j))

  -- the numbers of r more, which are those of w from j on
  pub front-join : (r : List ℤ) (j n : ℕ) → j + n ≤ length d → j + n ≤ length w → n ≤ length r
      → ((i : ℕ) → i < n → get_or r i (pos 0) ≡ get_or w (j + i) (pos 0)) → paste (paste d 0 w j) j r n
      ≡ paste d 0 w (j + n)
  front-join r j zero h k m e = sym (paste-zero (paste d 0 w j) j r) ∙ ap (paste d 0 w) (sym (add-zero j))
  front-join r j (suc n) h k m e =
      let long : length (paste d 0 w j) ≡ length d = length-paste d 0 w j (omega arith) (omega arith) in
      let last : j + n + 1 ≡ j + suc n = omega arith in
      sym (paste-suc (paste d 0 w j) j r n (pos 0) (omega arith) (omega arith))
      ∙ ap₂ (λ (l : List ℤ) (v : ℤ). set l (j + n) v)
      (front-join r j n (omega arith) (omega arith) (omega arith) (λ i l. e i (omega arith))) (e n (omega arith))
      ∙ front_more (j + n) (omega arith) (omega arith)
      ∙ ap (paste d 0 w) last

-- the ring stands in what is written, from j on
module _ (d w : List ℤ) (j : ℕ) (ring : List Dart) (rest : List ℤ) (e : drop j w ≡ ring_numbers ring ++ rest)
    (room : length w ≤ length d) where
  pub size : j + (length ring + 1) ≤ length w
  size = let f = ap length e ∙ length-append (ring_numbers ring) rest in
      omega (arith, length-drop j w, f, length-map ring dart_cell)

  pub ring_first : get_or w j (pos 0) ≡ pos (length ring)
  ring_first = ap (λ (i : ℕ). get_or w i (pos 0)) (sym (add-zero j)) ∙ sym (get_or-drop j w 0 (pos 0))
      ∙ ap (λ (l : List ℤ). get_or l 0 (pos 0)) e

  -- its length, and then its directed edges
  pub ring_written : paste (set (paste d 0 w j) j (pos (length ring))) (j + 1) (map dart_cell ring) (length ring)
      ≡ paste d 0 w (j + (length ring + 1))
  ring_written =
      let h = size in
      let k = length-map ring dart_cell in
      let last : j + 1 + length ring ≡ j + (length ring + 1) = omega arith in
      ap (λ (l : List ℤ). paste l (j + 1) (map dart_cell ring) (length ring))
      (ap (set (paste d 0 w j) j) (sym ring_first) ∙ front_more d w j (omega arith) (omega arith))
      ∙ front-join d w (map dart_cell ring) (j + 1) (length ring) (omega arith) (omega arith) (omega arith)
      (λ i l. within i (omega arith))
      ∙ ap (paste d 0 w) last
    where
      within : (i : ℕ) → i < length (map dart_cell ring) → get_or (map dart_cell ring) i (pos 0)
          ≡ get_or w (j + 1 + i) (pos 0)
      within i l =
          let place : j + suc i ≡ j + 1 + i = omega arith in
          sym (get_or-append (map dart_cell ring) rest (pos 0) i l)
          ∙ sym (ap (λ (r : List ℤ). get_or r (suc i) (pos 0)) e)
          ∙ get_or-drop j w (suc i) (pos 0)
          ∙ ap (λ (k : ℕ). get_or w k (pos 0)) place

  pub rest_left : drop (j + (length ring + 1)) w ≡ rest
  rest_left =
      sym (drop-drop (length ring + 1) j w) ∙ ap (drop (length ring + 1)) e
      ∙ drop_at (ring_numbers ring) rest (length ring + 1) (let k = length-map ring dart_cell in omega arith)

  -- the same where l is what was written before, and x and m are the ring's length
  pub ring-turn : (l : List ℤ) (x : ℤ) (m : ℕ) → l ≡ paste d 0 w j → x ≡ pos (length ring) → m ≡ length ring
      → paste (set l j x) (j + 1) (map dart_cell ring) m ≡ paste d 0 w (j + (length ring + 1))
  ring-turn l x m f g h =
      ap₂ (λ (a : List ℤ) (y : ℤ). paste (set a j y) (j + 1) (map dart_cell ring) m) f g
      ∙ ap (paste (set (paste d 0 w j) j (pos (length ring))) (j + 1) (map dart_cell ring)) h
      ∙ ring_written

-- all of it is written
pub all_written : (d w : List ℤ) (j : ℕ) → j ≤ length w → drop j w ≡ [] → paste d 0 w j ≡ w ++ drop (length w) d
all_written d w j h e =
    let i : j ≡ length w = omega (arith, length-drop j w, ap length e) in
    ap (paste d 0 w) i ∙ ap₂ (λ (x y : List ℤ). x ++ y) (take-length w) (ap (λ (k : ℕ). drop k d) (zero-add (length w)))
