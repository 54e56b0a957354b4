-- Lines written one after the other from the front of a list. Assumes nothing.
use mathlib.Core.Path.{◌≡◌, refl, sym, ap, ◌∙◌}
use mathlib.Core.List.{List, [], ◌∷◌, ◌++◌, map, flat_map}
use Prim.Native.Nat.{ℕ, suc, ◌+◌, ◌*◌, ◌-◌, ◌<◌, ◌≤◌}
use native.Mathlib.Nat.{zero-add, sub-zero}
use native.Mathlib.Omega.{arith}
use lib.IntN.{ℤ}
use lib.ListN.{length, length-map, drop}
use lib.Seq.{sets, length-sets, sets-eq}
use Rattle.lists.specs.Tables.{table}
use Rattle.lists.proofs.Scans.{table_step, table-end, length-table}
use Rattle.lists.proofs.Appends.{sets_append}
use Rattle.nesting.specs.Contents.{Line, line_cells}
use Rattle.outline_rows.specs.Listing.{line_at, noted_lines}
use Rattle.contents.specs.Lines.{numbered}

-- a line has three numbers
pub cells-length : (ls : List Line) → length (flat_map line_cells ls) ≡ length ls * 3
unfolding flat_map
cells-length [] = refl
cells-length (l ∷ ls) = let e = cells-length ls in omega arith

module _ (nodes faces : List ℤ) (notes : List ℕ) (parts : ℕ) where
  -- the line that is written at turn j
  abbrev pub line_of : ℕ → Line
  line_of j = numbered nodes faces (line_at notes (parts - suc j))

  -- the numbers of the lines from turn j on
  abbrev pub cells_from : ℕ → List ℤ
  cells_from j = flat_map line_cells (map (numbered nodes faces) (table (λ i. line_at notes (parts - suc i)) j (parts - j)))

  -- what is left to write makes the list what it is to become: it is as long as it was
  pub as_long : (list before : List ℤ) (j : ℕ) → sets list (j * 3) (cells_from j) ≡ sets before 0 (cells_from 0)
      → length list ≡ length before
  as_long list before j e = sym (length-sets list (j * 3) (cells_from j)) ∙ ap length e
      ∙ length-sets before 0 (cells_from 0)

  pub cells_step : (j : ℕ) → j < parts → cells_from j ≡ line_cells (line_of j) ++ cells_from (j + 1)
  unfolding flat_map
  cells_step j h =
      ap (λ l. flat_map line_cells (map (numbered nodes faces) l))
      (table_step (λ i. line_at notes (parts - suc i)) j parts h)

  -- one line more
  pub more : (list all : List ℤ) (j : ℕ) → j < parts → sets list (j * 3) (cells_from j) ≡ all
      → sets (sets list (j * 3) (line_cells (line_of j))) ((j + 1) * 3) (cells_from (j + 1)) ≡ all
  more list all j h e =
      let at : (j + 1) * 3 ≡ j * 3 + 3 = omega arith in
      ap (λ i. sets (sets list (j * 3) (line_cells (line_of j))) i (cells_from (j + 1))) at
      ∙ sym (sets_append (line_cells (line_of j)) (cells_from (j + 1)) list (j * 3))
      ∙ ap (sets list (j * 3)) (sym (cells_step j h)) ∙ e

  pub ended : (list : List ℤ) (j : ℕ) → parts ≤ j → sets list (j * 3) (cells_from j) ≡ list
  unfolding flat_map
  ended list j h = ap (λ l. sets list (j * 3) (flat_map line_cells (map (numbered nodes faces) l)))
      (table-end (λ i. line_at notes (parts - suc i)) j parts h)

  -- ---- all of them

  abbrev pub all_cells : List ℤ
  all_cells = flat_map line_cells (map (numbered nodes faces) (noted_lines notes parts parts))

  pub cells_count : length all_cells ≡ parts * 3
  cells_count =
      let f : ℕ → Line = λ i. line_at notes (parts - suc i) in
      cells-length (map (numbered nodes faces) (table f 0 parts))
      ∙ ap (λ n. n * 3) (length-map (table f 0 parts) (numbered nodes faces) ∙ length-table f 0 parts)

  -- with the remainder
  pub from_front : (list : List ℤ) → parts * 3 ≤ length list
      → sets list 0 (cells_from 0) ≡ all_cells ++ drop (parts * 3) list
  from_front list h =
      let f : ℕ → Line = λ i. line_at notes (parts - suc i) in
      ap (λ n. sets list 0 (flat_map line_cells (map (numbered nodes faces) (table f 0 n)))) (sub-zero parts)
      ∙ sets-eq all_cells list 0 (omega (arith, cells_count))
      ∙ ap (λ n. all_cells ++ drop n list) (zero-add (length all_cells) ∙ cells_count)
