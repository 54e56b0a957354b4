-- The contents of a map in form by its rows: what the walk by rows requires, that its lines with the numbers of their
-- rows are the contents, and that these rows are there. Assumes nothing.
use mathlib.Core.Path.{◌≡◌, refl, sym, ap, ap₂, ◌∙◌, subst}
use mathlib.Core.Logic.{inl, inr}
use mathlib.Core.Bool.{Bool, true, false, true≢false}
use mathlib.Core.List.Memᴰ
use mathlib.Core.List.{List, [], map, Memᴰ}
use mathlib.Core.Option
use mathlib.Core.Option.{none, some}
use Prim.Native.Nat.{ℕ, suc, ◌+◌, ◌*◌, ◌-◌, ◌/◌, ◌%◌, ◌<◌, ◌≤◌}
use native.Mathlib.Omega.{arith}
use lib.IntN.{ℤ, pos, nat_abs}
use lib.ListN.{length, get_or, length-append, length-map}
use Rattle.lists.specs.Tests.{same}
use Rattle.lists.specs.Scans.{keep}
use Rattle.lists.specs.Tables.{table}
use Rattle.lists.proofs.Bools.{same_true, same_eq, same_false}
use Rattle.lists.proofs.Keeps.{keep_in, keep-le}
use Rattle.lists.proofs.Scans.{table_has, table_in, length-table}
use Rattle.tables.proofs.Rows.{rows_all}
use Rattle.map.specs.declared.Head.{Head}
use Rattle.map.specs.Limits.{node_width, face_width}
use Rattle.map.specs.Rows.{Map, map_of, lent}
use Rattle.map.specs.Darts.{piece_of, piece_count}
use Rattle.map.specs.Form.{face_ranges}
use Rattle.map.proofs.Laws.{formed_is}
use Rattle.map_rows.specs.Rows.{node_at, face_at}
use Rattle.map_rows.proofs.Rows.{faces_length, node_numbers_lem, node_rows_rising, face_rows_rising, node-row_of}
use Rattle.map_rows.proofs.Rows.{node_cells_lem, face_cell_lem}
use Rattle.form_ranges.proofs.Columns.{first_face}
use Rattle.outcomes.specs.Outcomes.{Formed}
use Rattle.outcomes.proofs.Formed.{counted, faces_count, node_rows_lem, face_rows_lem, formed-map}
use Rattle.nesting.specs.Contents.{piece_rows, part_count, lines, complete, listed_under, contents}
use Rattle.nesting.specs.Claims.{Part, part_of}
use Rattle.nesting.proofs.Walks.{lines_sound}
use Rattle.nesting.proofs.Exact.{pieces_are, complete_some}
use Rattle.nesting.proofs.Renamed.{contents-renamed}
use Rattle.piece_faces.specs.Bits.{related}
use Rattle.outline_rows.specs.Listing.{AllParts, Outlined, row_contents, line_at, noted_lines}
use Rattle.map_piece_faces.specs.InFaces.{number_of, is_piece, row_parts, InFaces}
use Rattle.map_piece_faces.proofs.RowScans.{kept_rows, same_rows}
use Rattle.contents.specs.Lines.{numbered, RowThere, LinesThere}

module _ {nodes edges faces : List ℤ} {h : Head} (form : Formed nodes edges faces h) {g : List ℕ}
    {pieces parts : ℕ}
    (i : InFaces (map_of (lent nodes edges faces h)) nodes (nat_abs h.nodes) faces (nat_abs h.faces) g pieces)
    (p : parts ≡ nat_abs h.faces + pieces) where
  abbrev m : Map
  m = map_of (lent nodes edges faces h)

  abbrev n : ℕ
  n = nat_abs h.nodes

  abbrev f : ℕ
  f = nat_abs h.faces

  abbrev all : List Part
  all = row_parts m nodes n f

  -- ---- rows that are there

  face_row : (x : ℕ) → Memᴰ (false, x) all → x < f
  face_row x k = elim (Memᴰ.append_cases (map (λ x. (false, x)) (table (λ i. i) 0 f)) k) [
    | inl j ↦
        let q = Memᴰ.of_map (λ (x : ℕ). (false, x)) (table (λ i. i) 0 f) j in
        let t = table_in (λ i. i) 0 f q.1 in
        omega (arith, t.2, t.3, ap (λ (z : Part). z.1) q.2)
    | inr j ↦
        let q = Memᴰ.of_map (λ (x : ℕ). (true, x)) (keep (is_piece m nodes) (table (λ i. i) 0 n)) j in
        absurd (true≢false (ap (λ (z : Part). z.0) q.2))
  ]

  piece_row : (x : ℕ) → Memᴰ (true, x) all → x < n
  piece_row x k = elim (Memᴰ.append_cases (map (λ x. (false, x)) (table (λ i. i) 0 f)) k) [
    | inl j ↦
        let q = Memᴰ.of_map (λ (x : ℕ). (false, x)) (table (λ i. i) 0 f) j in
        absurd (true≢false (sym (ap (λ (z : Part). z.0) q.2)))
    | inr j ↦
        let q = Memᴰ.of_map (λ (x : ℕ). (true, x)) (keep (is_piece m nodes) (table (λ i. i) 0 n)) j in
        let t = table_in (λ i. i) 0 n (keep_in (is_piece m nodes) (table (λ i. i) 0 n) q.1).0 in
        omega (arith, t.2, t.3, ap (λ (z : Part). z.1) q.2)
  ]

  zero_in : Memᴰ (false, 0) all
  zero_in = Memᴰ.append_left _ (Memᴰ.map (λ x. (false, x))
      (table_has (λ i. i) 0 f 0 (omega arith) (omega (arith, (faces_count form).1))))

  face_number : (x : ℕ) → x < f → get_or faces (x * face_width) (pos 0) ≡ pos (face_at faces x)
  face_number x t = face_cell_lem faces x (rows_all face_width faces face_ranges f (face_rows_lem form).ranges x t)

  node-number : (x : ℕ) → x < n → get_or nodes (x * node_width) (pos 0) ≡ pos (node_at nodes x).number
  node-number x t = (node_cells_lem nodes x (node-row_of (node_rows_lem form) x t).ranges).number

  -- numbers of rows are distinct
  apart : (b : Bool) (x y : ℕ) → Memᴰ (b, x) all → Memᴰ (b, y) all
      → number_of nodes faces b x ≡ number_of nodes faces b y → x ≡ y
  apart false x y j k e = same_true x y (same_rows (face_rows_rising (face_rows_lem form)) (face_at faces) face_number x y
      (face_row x j) (face_row y k) ∙ same_eq _ _ e)
  apart true x y j k e = same_true x y (same_rows (node_rows_rising (node_rows_lem form)) (λ i. (node_at nodes i).number)
      node-number x y
      (piece_row x j) (piece_row y k) ∙ same_eq _ _ e)

  -- ---- how many there are

  piece_count_lem : length (keep (is_piece m nodes) (table (λ i. i) 0 n)) ≡ piece_count m
  unfolding map_of piece_rows
  piece_count_lem =
      let q : ℕ → Bool = λ k. same (piece_of m k) k in
      sym (length-map (keep (is_piece m nodes) (table (λ i. i) 0 n)) (λ i. (node_at nodes i).number))
      ∙ ap length (kept_rows (λ i. (node_at nodes i).number) (is_piece m nodes) q n n (omega arith) (λ i t. refl)
      (λ i t u. absurd (omega arith)) ∙ ap (keep q) (sym (node_numbers_lem nodes n)))
      ∙ pieces_are m

  part_count_lem : length all ≡ parts
  part_count_lem = simp (length-append, length-map, length-table) (ap (λ k. f + k) (piece_count_lem ∙ sym i.counted) ∙ sym p)

  parts_are : part_count m ≡ parts
  unfolding map_of
  parts_are = ap₂ ◌+◌ (faces_length faces f) (sym i.counted) ∙ sym p

  few_pieces : pieces ≤ n
  few_pieces =
      let some = keep-le (is_piece m nodes) (table (λ i. i) 0 n) in
      omega (arith, i.counted, piece_count_lem, some, length-table (λ (i : ℕ). i) 0 n)

  -- ---- the walk by rows

  pub all_parts : AllParts g parts
  all_parts = record {
    matrix = i.matrix;
    few = omega (arith, few_pieces, (counted form).nodes.most, (counted form).faces.most);
    all = all;
    count = part_count_lem;
    zero_in = zero_in;
    closed = i.closed;
  }

  zero_first : face_at faces 0 ≡ 0
  unfolding map_of
  zero_first =
      let z = first_face faces f (faces_count form).1 in
      sym (ap nat_abs (face_number 0 (faces_count form).1)) ∙ sym z ∙ (formed_is m (formed-map form)).numbers.zero

  contents_are : contents m ≡ Option.map (map (numbered nodes faces)) (row_contents g parts)
  unfolding contents
  contents_are = ap (λ k. complete k (lines (suc k) (listed_under m) false 0 none 0 [])) parts_are
      ∙ contents-renamed (related g) (listed_under m) (number_of nodes faces) all i.closed i.under apart zero_in
      zero_first parts

  -- ---- what the walk tells

  module _ {notes : List ℕ} {r : Bool} (o : Outlined g parts notes r) where
    pub none_listed : r ≡ false → contents m ≡ none
    none_listed e = contents_are ∙ ap (Option.map (map (numbered nodes faces))) (o.none_is e)

    module _ (e : r ≡ true) where
      pub listed_as : contents m ≡ some (map (numbered nodes faces) (noted_lines notes parts parts))
      listed_as = contents_are ∙ ap (Option.map (map (numbered nodes faces))) (o.lists e)

      -- each line is of a face or a piece that is there
      inside : (z : Part) → Memᴰ z (map part_of (noted_lines notes parts parts)) → Memᴰ z all
      inside = (lines_sound (related g) all i.closed (suc parts) false 0 none 0 [] (noted_lines notes parts parts)
          zero_in (complete_some parts _ (noted_lines notes parts parts) (o.lists e)).0
          (record { once = tt; inside = λ z k. absurd (Memᴰ.not-nil k) })).inside

      line_in : (k : ℕ) → k < parts → Memᴰ (part_of (line_at notes k)) all
      line_in k t =
          let place : ℕ → ℕ = λ j. parts - suc j in
          let back : place (place k) ≡ k = omega arith in
          subst (λ j. Memᴰ (part_of (line_at notes j)) all) back (inside (part_of (line_at notes (place (place k))))
          (Memᴰ.map part_of (table_has (λ j. line_at notes (place j)) 0 parts (place k) (omega arith) (omega arith))))

      -- by its vertex: twice the row, and one more for a piece
      row_there : (v : ℕ) → Memᴰ (same (v % 2) 1, v / 2) all → RowThere nodes faces v
      row_there v k = record {
        node = λ o. node-row_of (node_rows_lem form) (v / 2) (piece_row (v / 2) (of true (same_eq (v % 2) 1 o)));
        face_fits = λ o. omega (arith, face_row (v / 2) (of false (same_false (v % 2) 1 o)), (face_rows_lem form).fits);
        face_ranges = λ o. rows_all face_width faces face_ranges f (face_rows_lem form).ranges (v / 2)
            (face_row (v / 2) (of false (same_false (v % 2) 1 o)));
      }
        where
          of : (b : Bool) → same (v % 2) 1 ≡ b → Memᴰ (b, v / 2) all
          of b o = subst (λ c. Memᴰ (c, v / 2) all) o k

      pub there : parts * 2 ≤ length notes → LinesThere nodes faces notes parts
      there long = record { noted = long; there = λ k t. row_there (get_or notes (k * 2 + 1) 0) (line_in k t) }
