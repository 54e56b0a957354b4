-- Nodes as rows of four numbers, and back. Assumes nothing.
use mathlib.Core.Path.{◌≡◌, refl, sym, ap, ◌∙◌}
use mathlib.Core.List.{List, [], ◌∷◌, ◌++◌, flat_map, append-nil}
use Prim.Native.Nat.{ℕ, zero, suc, ◌+◌, ◌*◌, ◌^◌, ◌<◌, ◌≤◌}
use native.Mathlib.Nat.{zero-add}
use native.Mathlib.Omega.{arith}
use native.Mathlib.Numerals.{add-one}
use lib.IntN.{ℤ, pos}
use lib.ListN.{length, get_or, set, take, drop, drop_of_length-le}
use lib.Seq.{paste, paste-suc, take-paste, drop-paste, take-add, take_all, drop-cons, drop-drop}
use Rattle.lists.specs.Tables.{table}
use Rattle.lists.proofs.Scans.{length-table, get_d_table}
use Rattle.records.specs.declared.Node.{Node}
use Rattle.records.specs.Records.{record_cells, node_table, row_node}

-- what is read past the last record
abbrev pub no_node : Node
no_node = record { number = pos 0; x = pos 0; y = pos 0; face = pos 0 }

-- the first byte of record i of l records that there is room for
pub place-fits : {i l : ℕ} → l * 32 < 2 ^ 63 → i < l → i * 32 < 2 ^ 64
place-fits room within = omega arith

pub length-cells : (ys : List Node) → length (node_table ys) ≡ length ys * 4
unfolding flat_map
length-cells [] = omega arith
length-cells (y ∷ ys) = let e = length-cells ys in omega arith

-- row i of the table
row_cells_lem : (ys : List Node) (i : ℕ) → i < length ys → take 4 (drop (i * 4) (node_table ys))
    ≡ record_cells (get_or ys i no_node)
unfolding flat_map
row_cells_lem [] i h = absurd (omega arith)
row_cells_lem (y ∷ ys) zero h = let e : zero * 4 ≡ 0 = omega arith in rw e
row_cells_lem (y ∷ ys) (suc i) h = let e : suc i * 4 ≡ suc (suc (suc (suc (i * 4)))) = omega arith in
    rw e (row_cells_lem ys i (omega arith))

-- ---- packing: row i goes after the rows before it

pub pack-turn : (d : List ℤ) (ys : List Node) (i : ℕ) → i < length ys → length ys * 4 ≤ length d
    → paste (paste d 0 (node_table ys) (i * 4)) (i * 4) (record_cells (get_or ys i no_node)) 4
    ≡ paste d 0 (node_table ys) ((i + 1) * 4)
pack-turn d ys i h k =
    let s = node_table ys in
    let c = record_cells (get_or ys i no_node) in
    let n = i * 4 in
    let e = length-cells ys in
    let fits : n ≤ length s = omega arith in
    let front : take n (paste d 0 s n) ≡ take n s = ap (λ (m : ℕ). take m (paste d 0 s n)) (sym (zero-add n))
    ∙ take-paste d 0 s n (omega arith) fits in
    let back : drop n (paste d 0 s n) ≡ drop n d = ap (λ (m : ℕ). drop m (paste d 0 s n)) (sym (zero-add n))
    ∙ drop-paste d 0 s n (omega arith) fits ∙ ap (λ (m : ℕ). drop m d) (zero-add n) in
    let later : drop (n + 4) (paste d 0 s n) ≡ drop (n + 4) d = sym (drop-drop 4 n (paste d 0 s n)) ∙ ap (drop 4) back
    ∙ drop-drop 4 n d in
    let row : take (n + 4) s ≡ take n s ++ c = take-add n 4 s ∙ ap (λ (r : List ℤ). take n s ++ r) (row_cells_lem ys i h) in
    let next : (i + 1) * 4 ≡ n + 4 = omega arith in
    ap (λ (r : List ℤ). r ++ c ++ drop (n + 4) (paste d 0 s n)) front
    ∙ ap (λ (r : List ℤ). take n s ++ c ++ r) later
    ∙ ap (λ (r : List ℤ). r ++ drop (n + 4) d) (sym row)
    ∙ ap (λ (m : ℕ). take (n + 4) s ++ drop m d) (sym (zero-add (n + 4)))
    ∙ ap (λ (m : ℕ). paste d 0 s m) (sym next)

-- ---- unpacking

pub unpack-turn : (l : List ℤ) (ys : List Node) (i : ℕ) → i < length ys
    → set (paste ys 0 (table (row_node l) 0 (length ys)) i) i (row_node l i)
    ≡ paste ys 0 (table (row_node l) 0 (length ys)) (i + 1)
unpack-turn l ys i h =
    let s = table (row_node l) 0 (length ys) in
    let long : length s ≡ length ys = length-table (row_node l) 0 (length ys) in
    let here : get_or s i no_node ≡ row_node l i = get_d_table (row_node l) 0 (length ys) i no_node h
    ∙ ap (row_node l) (zero-add i) in
    ap (λ (m : ℕ). set (paste ys 0 s i) m (row_node l i)) (sym (zero-add i))
    ∙ ap (set (paste ys 0 s i) (0 + i)) (sym here)
    ∙ paste-suc ys 0 s i no_node (omega arith) (omega arith)
    ∙ ap (paste ys 0 s) (sym (add-one i))

pub unpack-end : (l : List ℤ) (ys : List Node) (i : ℕ) → length ys ≤ i → paste ys 0 (table (row_node l) 0 (length ys)) i
    ≡ table (row_node l) 0 (length ys)
unpack-end l ys i h =
    let s = table (row_node l) 0 (length ys) in
    let long : length s ≡ length ys = length-table (row_node l) 0 (length ys) in
    ap (λ (r : List Node). take i s ++ r) (drop_of_length-le ys {i = 0 + i} (omega arith))
    ∙ append-nil (take i s)
    ∙ take_all i s (omega arith)

-- ---- there and back

pub packed : (d : List ℤ) (ys : List Node) → length ys * 4 ≤ length d
    → take (length ys * 4) (paste d 0 (node_table ys) (length ys * 4)) ≡ node_table ys
packed d ys k =
    let s = node_table ys in
    let n = length ys * 4 in
    let e = length-cells ys in
    ap (λ (m : ℕ). take m (paste d 0 s n)) (sym (zero-add n)) ∙ take-paste d 0 s n (omega arith) (omega arith)
    ∙ take_all n s (omega arith)

-- four numbers from place m on
four : (l : List ℤ) (m : ℕ) → m + 4 ≤ length l → take 4 (drop m l) ≡ get_or l m (pos 0) ∷ get_or l (m + 1) (pos 0)
    ∷ get_or l (m + 2) (pos 0) ∷ get_or l (m + 3) (pos 0) ∷ []
four l m h =
    let a : m + 1 ≡ suc m = omega arith in
    let b : m + 2 ≡ suc (suc m) = omega arith in
    let c : m + 3 ≡ suc (suc (suc m)) = omega arith in
    rw (
      a,
      b,
      c,
      drop-cons l m (pos 0) (omega arith),
      drop-cons l (suc m) (pos 0) (omega arith),
      drop-cons l (suc (suc m)) (pos 0) (omega arith),
      drop-cons l (suc (suc (suc m))) (pos 0) (omega arith),
    )

rows-from : (l : List ℤ) (a n : ℕ) → (a + n) * 4 ≤ length l → node_table (table (row_node l) a n)
    ≡ take (n * 4) (drop (a * 4) l)
unfolding flat_map
rows-from l a zero h = refl
rows-from l a (suc n) h =
    let m = a * 4 in
    let next : (a + 1) * 4 ≡ m + 4 = omega arith in
    let more : suc n * 4 ≡ 4 + n * 4 = omega arith in
    let later : drop ((a + 1) * 4) l ≡ drop 4 (drop m l) = ap (λ (k : ℕ). drop k l) next ∙ sym (drop-drop 4 m l) in
    ap (λ (r : List ℤ). record_cells (row_node l a) ++ r) (rows-from l (a + 1) n (omega arith) ∙ ap (take (n * 4)) later)
    ∙ ap (λ (r : List ℤ). r ++ take (n * 4) (drop 4 (drop m l))) (sym (four l m (omega arith)))
    ∙ sym (take-add 4 (n * 4) (drop m l))
    ∙ ap (λ (k : ℕ). take k (drop m l)) (sym more)

pub unpacked : (l : List ℤ) (n : ℕ) → n * 4 ≤ length l → node_table (table (row_node l) 0 n) ≡ take (n * 4) l
unpacked l n h = let e : 0 * 4 ≡ 0 = omega arith in rows-from l 0 n (omega arith)
    ∙ ap (λ (k : ℕ). take (n * 4) (drop k l)) e
