-- Kind 2 with nodes as records: carried out it leaves one row other than it was, the one at which the node's number is
-- found; so it changes one record. Assumes nothing.
use Rattle.std.specs.Prelude.{Option, Some, Result, Ok, Err}
use mathlib.Core.Path.{◌≡◌, refl, sym, ap, ◌∙◌}
use mathlib.Core.Bool.{not}
use mathlib.Core.Logic.{inl, inr}
use mathlib.Core.List.{List, [], ◌∷◌, ◌++◌, map, flat_map}
use Prim.Native.Nat.{ℕ, zero, suc, ◌+◌, ◌*◌, ◌<◌, ◌≤◌, min}
use native.Mathlib.Omega.{arith}
use native.Mathlib.Numerals.{add-one}
use lib.Dec.{ltb, lit<}
use lib.IntN.{ℤ, pos, nat_abs}
use lib.ListN.{length, get_or, set, take, drop, length-take, get_or-append}
use lib.Seq.{paste, length-paste, length_paste_head, length-take-le, get_or-take, get_or-append-add, drop-cons}
use lib.Signed.{lt_z}
use borrow.Author.Tests.{ltb-true, ltb-false, not-false}
use Rattle.lists.specs.Scans.{linked}
use Rattle.lists.specs.Tables.{place, table}
use Rattle.lists.proofs.Bools.{which, equal?}
use Rattle.lists.proofs.Scans.{table_same}
use Rattle.curves.specs.Curves.{point}
use Rattle.map.specs.declared.Head.{Head}
use Rattle.map.specs.declared.Answer.{Answer}
use Rattle.map.specs.Limits.{node_width}
use Rattle.map.specs.Rows.{Map, Lent, map_of, sizes_of, whole, lent}
use Rattle.map.specs.Form.{in_form}
use Rattle.map.specs.Faces.{face_of_point}
use Rattle.map.specs.Tickets.{MoveIsoNode, read}
use Rattle.map.specs.Reasons.{first_reason, reasons}
use Rattle.map.specs.Ticket.{Outcome, carried, lent_reasons, unless, done, ticket}
use Rattle.map.proofs.Reasons.{first_zero}
use Rattle.map.proofs.Facts.{refused_kept}
use Rattle.tables.specs.Tables.{same_z, column, Rising}
use Rattle.tables.proofs.Cells.{paste-after}
use Rattle.tables.proofs.Lookups.{which_place, First, place_first}
use Rattle.tables.proofs.Order.{same_is}
use Rattle.map_rows.proofs.Rows.{node_rows_rising}
use Rattle.outcomes.specs.declared.Done.{Done}
use Rattle.outcomes.specs.Outcomes.{Formed, outcome, lookup_refusal}
use Rattle.outcomes.proofs.Formed.{node_rows_lem}
use Rattle.outcomes.proofs.FoundRows.{node_in, node-number}
use Rattle.edit_nodes.proofs.Rows.{move_missing, move_reasons_lem, move_point}
use Rattle.edit_nodes.proofs.Nodes.{move_carried}
use Rattle.records.specs.declared.Node.{Node}
use Rattle.records.specs.declared.Moved.{Moved}
use Rattle.records.specs.Records.{record_cells, node_table, row_node, node_row, changed_at, moved_nodes}
use Rattle.records.specs.Records.{moved_answer, unless_refused}
use Rattle.records.proofs.Packing.{no_node, length-cells}

-- ---- kind 2 on tables of numbers

module _ (nodes edges faces : List ℤ) (h : Head) (z x y : ℤ) where
  abbrev l : Lent
  l = lent nodes edges faces h

  abbrev pub numbers : List ℤ
  numbers = pos 2 ∷ z ∷ x ∷ y ∷ []

  abbrev pub column_in : List ℤ
  column_in = column node_width nodes (nat_abs h.nodes)

  -- carried out: row i is number, x, y and a face
  abbrev pub leaves : ℕ → ℤ → Outcome
  leaves i a = record {
    lent = lent (paste nodes (i * node_width) (z ∷ x ∷ y ∷ a ∷ []) node_width) edges faces h;
    answer = record { refusal = 0; value = pos 0 };
  }

  pub record Carried : Type 0 where
    pub formed : Formed nodes edges faces h
    pub i : ℕ
    pub face : ℤ
    pub at : place (same_z z) 0 column_in ≡ Some i
    pub left : ticket l numbers ≡ leaves i face

  abbrev reason : ℕ
  reason = first_reason (lent_reasons l ++ reasons (sizes_of l) (map_of l) (MoveIsoNode z x y))

  is_unless : ticket l numbers ≡ unless l reason (carried (map_of l) (MoveIsoNode z x y))
  unfolding ticket read
  is_unless = refl

  unless-zero : (r : ℕ) (c : Map × ℤ) → (unless l r c).answer.refusal ≡ 0 → r ≡ 0
  unless-zero zero c e = refl
  unless-zero (suc r) c e = e

  at_row : Formed nodes edges faces h → (i : ℕ) → place (same_z z) 0 column_in ≡ Some i → reason ≡ 0
      → first_reason (reasons (sizes_of l) (map_of l) (MoveIsoNode z x y)) ≡ 0 → Carried
  at_row f i p none late =
      let b = node_in f z i p in
      let number = node-number f z i p in
      let free = ap (λ (w : ℤ). first_reason (reasons (sizes_of l) (map_of l) (MoveIsoNode w x y))) (sym number) ∙ late in
      let a = pos (face_of_point (map_of l) (point x y)) in
      let after = move_carried f i b x y {a = a}
      (move_point nodes edges h i x y (sym (move_reasons_lem f i b x y) ∙ free)) refl refl in
      record {
        formed = f;
        i = i;
        face = a;
        at = p;
        left = is_unless ∙ ap (λ (r : ℕ). unless l r (carried (map_of l) (MoveIsoNode z x y))) none
            ∙ ap (λ (w : ℤ). done l (carried (map_of l) (MoveIsoNode w x y))) number
            ∙ (λ j. record { lent = after.0 j; answer = record { refusal = 0; value = after.1 j } })
            ∙ ap (λ (w : ℤ). record {
              lent = lent (paste nodes (i * node_width) (w ∷ x ∷ y ∷ a ∷ []) node_width) edges faces h;
              answer = record { refusal = 0; value = pos 0 };
            }) (sym number);
      }

  pub carries : (ticket l numbers).answer.refusal ≡ 0 → Carried
  carries e =
      let none : reason ≡ 0 = unless-zero reason (carried (map_of l) (MoveIsoNode z x y))
      (ap (λ (o : Outcome). o.answer.refusal) (sym is_unless) ∙ e) in
      let one = first_zero 1 (not (whole l)) ((2, not (in_form l)) ∷ reasons (sizes_of l) (map_of l) (MoveIsoNode z x y))
      (lit< tt) none in
      let two = first_zero 2 (not (in_form l)) (reasons (sizes_of l) (map_of l) (MoveIsoNode z x y)) (lit< tt) one.1 in
      let f : Formed nodes edges faces h = record {
        whole = not-false (whole l) one.0;
        in_form = not-false (in_form l) two.0;
      } in
      elim (which_place (place (same_z z) 0 column_in)) [
        | inl p ↦ at_row f p.0 p.1 none two.1
        | inr p ↦ (let q : ◌≡◌ {A = ℕ} 4 0 = sym (move_missing f z p x y) ∙ two.1 in absurd (omega arith))
      ]

-- ---- what is read of the table after it

module _ (d s : List ℤ) (at n : ℕ) (hd : at + n ≤ length d) (hs : n ≤ length s) where
  head : length (take at d ++ take n s) ≡ at + n
  head = length_paste_head d at s n (omega arith) hs

  paste_in : (m : ℕ) → m < n → get_or (paste d at s n) (at + m) (pos 0) ≡ get_or s m (pos 0)
  paste_in m h =
      let e : length (take at d) + m ≡ at + m = omega (arith, length-take-le at d (omega arith)) in
      get_or-append (take at d ++ take n s) (drop (at + n) d) (pos 0) (at + m) (omega (arith, head))
      ∙ ap (λ (k : ℕ). get_or (take at d ++ take n s) k (pos 0)) (sym e)
      ∙ get_or-append-add (take at d) (take n s) m (pos 0)
      ∙ get_or-take n s m (pos 0) h

  paste-before : (k : ℕ) → k < at → get_or (paste d at s n) k (pos 0) ≡ get_or d k (pos 0)
  paste-before k h =
      get_or-append (take at d ++ take n s) (drop (at + n) d) (pos 0) k (omega (arith, head))
      ∙ get_or-append (take at d) (take n s) (pos 0) k (omega (arith, length-take-le at d (omega arith)))
      ∙ get_or-take at d k (pos 0) h

-- the first k numbers of l are a table d with row i written anew, its number as it was
module _ (l d : List ℤ) (k n i : ℕ) (z x y a : ℤ) (long : length d ≡ k) (fits : n * 4 ≤ k) (below : i < n)
    (here : z ≡ get_or d (i * 4) (pos 0)) (e : take k l ≡ paste d (i * 4) (z ∷ x ∷ y ∷ a ∷ []) 4) where
  cell : (m : ℕ) → m < k → get_or l m (pos 0) ≡ get_or (paste d (i * 4) (z ∷ x ∷ y ∷ a ∷ []) 4) m (pos 0)
  cell m h = sym (get_or-take k l m (pos 0) h) ∙ ap (λ (r : List ℤ). get_or r m (pos 0)) e

  pub row_cell : (m : ℕ) → m < 4 → get_or l (i * 4 + m) (pos 0) ≡ get_or (z ∷ x ∷ y ∷ a ∷ []) m (pos 0)
  row_cell m h = cell (i * 4 + m) (omega (arith, below, fits))
      ∙ paste_in d (z ∷ x ∷ y ∷ a ∷ []) (i * 4) 4 (omega (arith, below, fits, long)) (lit≤ 4) m h
    where
      lit≤ : (w : ℕ) → w ≤ w
      lit≤ w = omega arith

  same-cell : (j : ℕ) → j < n → get_or l (j * 4) (pos 0) ≡ get_or d (j * 4) (pos 0)
  same-cell j h =
      elim (which (ltb j i)) [
        | inl q ↦
            (let b = ltb-true j i q in
            cell (j * 4) (omega (arith, fits, h))
            ∙ paste-before d (z ∷ x ∷ y ∷ a ∷ []) (i * 4) 4 (omega (arith, below, fits, long)) (omega arith) (j * 4)
            (omega (arith, b)))
        | inr q ↦
            (let b = ltb-false j i q in
            elim (equal? j i) [
              | inl s ↦
                  (let f : i * 4 + 0 ≡ j * 4 = omega (arith, s) in
                  let g : i * 4 ≡ j * 4 = omega (arith, s) in
                  ap (λ (m : ℕ). get_or l m (pos 0)) (sym f) ∙ row_cell 0 (lit< tt) ∙ here
                  ∙ ap (λ (m : ℕ). get_or d m (pos 0)) g)
              | inr s ↦
                  cell (j * 4) (omega (arith, fits, h))
                  ∙ paste-after d (i * 4) (z ∷ x ∷ y ∷ a ∷ []) 4 (pos 0) (omega (arith, below, fits, long)) (omega
                  arith)
                  (j * 4) (omega (arith, b, s))
            ])
      ]

  pub column_kept : column 4 l n ≡ column 4 d n
  column_kept = table_same (λ (j : ℕ). get_or l (j * 4) (pos 0)) (λ (j : ℕ). get_or d (j * 4) (pos 0)) 0 n
      (λ j s t. same-cell j (omega arith))

-- ---- and of the records

number-cell : (ys : List Node) (i : ℕ) → i < length ys → get_or (node_table ys) (i * 4) (pos 0)
    ≡ (get_or ys i no_node).number
unfolding flat_map
number-cell [] i h = absurd (omega arith)
number-cell (y ∷ ys) zero h = let e : zero * 4 ≡ 0 = omega arith in rw e
number-cell (y ∷ ys) (suc i) h = let e : suc i * 4 ≡ suc (suc (suc (suc (i * 4)))) = omega arith in
    rw e (number-cell ys i (omega arith))

numbers_from_lem : (ys : List Node) (a n : ℕ) → a + n ≤ length ys
    → table (λ j. get_or (node_table ys) (j * 4) (pos 0)) a n ≡ map (λ r. r.number) (take n (drop a ys))
numbers_from_lem ys a zero h = refl
numbers_from_lem ys a (suc n) h =
    let rest = numbers_from_lem ys (a + 1) n (omega arith) in
    rw (drop-cons ys a no_node (omega arith), number-cell ys a (omega arith))
    (ap (λ (r : List ℤ). (get_or ys a no_node).number ∷ r)
    (rest ∙ ap (λ (m : ℕ). map (λ (r : Node). r.number) (take n (drop m ys))) (add-one a)))

-- a number's row among the records is its place in the column
pub row_place : (ys : List Node) (n : ℕ) (v : ℤ) → n ≤ length ys → place (same_z v) 0 (column 4 (node_table ys) n)
    ≡ node_row ys n v
row_place ys n v h = ap (place (same_z v) 0) (numbers_from_lem ys 0 n (omega arith))

-- a record changed is a row written anew
pub row_paste : (ys : List Node) (i : ℕ) (r : Node) → i < length ys → node_table (set ys i r)
    ≡ paste (node_table ys) (i * 4) (record_cells r) 4
unfolding flat_map
row_paste [] i r h = absurd (omega arith)
row_paste (y ∷ ys) zero r h = refl
row_paste (y ∷ ys) (suc i) r h =
    let e : suc i * 4 ≡ suc (suc (suc (suc (i * 4)))) = omega arith in
    let f : suc (suc (suc (suc (i * 4)))) + 4 ≡ suc (suc (suc (suc (i * 4 + 4)))) = omega arith in
    rw (e, f) (ap (λ (l : List ℤ). y.number ∷ y.x ∷ y.y ∷ y.face ∷ l) (row_paste ys i r (omega arith)))

-- ---- by whether a call was turned down

pub by_refusal : {A : Type 0} (k : ℕ) (a b : A) → (k ≡ 0 → ⊥) → unless_refused k a b ≡ b
by_refusal zero a b t = absurd (t refl)
by_refusal (suc k) a b t = refl

pub by_zero : {A : Type 0} (k : ℕ) (a b : A) → k ≡ 0 → unless_refused k a b ≡ a
by_zero zero a b t = refl
by_zero (suc k) a b t = absurd (omega arith)

-- ---- what `move_front` leaves, of a ticket that it had worked out on the first k numbers

module _ (k : ℕ) (flat zs edges es faces ss : List ℤ) (h : Head) (z x y : ℤ) (r : Done) (fits : k ≤ length flat)
    (said : outcome (take k zs) es ss r ≡ ticket (lent (take k flat) edges faces h) (pos 2 ∷ z ∷ x ∷ y ∷ [])) where
  abbrev N : List ℤ
  N = take k flat

  abbrev Moves : List Node → Result Moved Answer → Type 0
  Moves ns m = ◌≡◌ {A = Outcome} (record {
    lent = lent (node_table (moved_nodes ns m)) es ss h;
    answer = moved_answer ns
        m;
  })
      (ticket (lent (node_table ns) edges faces h) (pos 2 ∷ z ∷ x ∷ y ∷ []))

  -- from the nodes, the head and the answer that are left
  moves : (ns : List Node) (m : Result Moved Answer) → node_table ns ≡ N → node_table (moved_nodes ns m) ≡ take k zs → h ≡ r.head
      → moved_answer ns m ≡ r.answer → Moves ns m
  moves ns m e nodes head answer =
      (λ j. record { lent = lent (nodes j) es ss (head j); answer = answer j }) ∙ said
      ∙ ap (λ (l : List ℤ). ticket (lent l edges faces h) (pos 2 ∷ z ∷ x ∷ y ∷ [])) (sym e)

  refusal_is : (ticket (lent N edges faces h) (pos 2 ∷ z ∷ x ∷ y ∷ [])).answer.refusal ≡ r.answer.refusal
  refusal_is = ap (λ (o : Outcome). o.answer.refusal) (sym said)

  pub moves_refused : (r.answer.refusal ≡ 0 → ⊥) → (ns : List Node) → node_table ns ≡ N → Moves ns (Err r.answer)
  moves_refused down ns e =
      let kept = ap (λ (o : Outcome). o.lent) said
      ∙ (refused_kept (lent N edges faces h) (pos 2 ∷ z ∷ x ∷ y ∷ []) (λ q. down (sym refusal_is ∙ q))).lent in
      moves ns (Err r.answer) e (e ∙ sym (ap (λ (l : Lent). l.nodes) kept)) (sym (ap (λ (l : Lent). l.head) kept)) refl

  module _ (out : r.answer.refusal ≡ 0) where
    pub done_at : Carried N edges faces h z x y
    done_at = carries N edges faces h z x y (refusal_is ∙ out)

    abbrev n : ℕ
    n = nat_abs h.nodes

    abbrev i : ℕ
    i = done_at.i

    abbrev face : ℤ
    face = done_at.face

    all : outcome (take k zs) es ss r ≡ leaves N edges faces h z x y i face
    all = said ∙ done_at.left

    pasted : take k zs ≡ paste N (i * 4) (z ∷ x ∷ y ∷ face ∷ []) 4
    pasted = ap (λ (o : Outcome). o.lent.nodes) all

    long : length N ≡ k
    long = length-take-le k flat fits

    rows : Rising 4 N n
    rows = node_rows_rising (node_rows_lem done_at.formed)

    row : First (same_z z) (λ (j : ℕ). get_or N (j * 4) (pos 0)) n i
    row = place_first (same_z z) (λ (j : ℕ). get_or N (j * 4) (pos 0)) n i done_at.at

    n_fits : n * 4 ≤ k
    n_fits = let f = rows.fits in omega (arith, long)

    here : z ≡ get_or N (i * 4) (pos 0)
    here = same_is z (get_or N (i * 4) (pos 0)) row.taken

    kept : column 4 zs n ≡ column 4 N n
    kept = column_kept zs N k n i z x y face long n_fits row.below here pasted

    k_in : k ≤ length zs
    k_in =
        let e : length (take k zs) ≡ min k (length zs) = length-take k zs in
        let f : length (take k zs) ≡ k = ap length pasted
        ∙ length-paste N (i * 4) (z ∷ x ∷ y ∷ face ∷ []) 4 (omega (arith, row.below, n_fits, long)) (omega arith)
        ∙ long in
        omega (arith, e, f)

    pub rises : Rising 4 zs n
    rises = record {
      fits = omega (arith, n_fits, k_in);
      some = rows.some;
      rising = ap (linked lt_z) kept ∙ rows.rising;
    }

    -- the row that is found
    pub found_at : place (same_z z) 0 (column 4 zs n) ≡ Some i
    found_at = ap (place (same_z z) 0) kept ∙ done_at.at

    pub row_in : (j : ℕ) → place (same_z z) 0 (column 4 zs n) ≡ Some j → j * 4 + 4 ≤ length zs
    row_in j e = let q : Some j ≡ Some i = sym e ∙ found_at in let s : j ≡ i = cc in
        omega (arith, s, row.below, n_fits, k_in)

    abbrev node : Node
    node = record { number = z; x = x; y = y; face = face }

    read_back : row_node zs i ≡ node
    read_back =
        let c = row_cell zs N k n i z x y face long n_fits row.below here pasted in
        let first : i * 4 ≡ i * 4 + 0 = omega arith in
        (λ j. record {
          number = (ap (λ (m : ℕ). get_or zs m (pos 0)) first ∙ c 0 (lit< tt)) j;
          x = c 1 (lit< tt) j;
          y = c 2 (lit< tt) j;
          face = c 3 (lit< tt) j;
        })

    pub moves_carried : (j : ℕ) → place (same_z z) 0 (column 4 zs n) ≡ Some j → (m : Moved)
        → m ≡ record { count = n; node = row_node zs j } → (ns : List Node) → node_table ns ≡ N → Moves ns (Ok m)
    moves_carried j p m same ns e =
        let q : Some j ≡ Some i = sym p ∙ found_at in
        let s : j ≡ i = cc in
        let is : m ≡ record { count = n; node = node } = same
        ∙ (λ t. record { count = n; node = (ap (row_node zs) s ∙ read_back) t }) in
        let size = length-cells ns in
        let tall : length (node_table ns) ≡ k = ap length e ∙ long in
        let at : node_row ns n z ≡ Some i = sym (row_place ns n z (omega (arith, size, tall, n_fits)))
        ∙ ap (λ (l : List ℤ). place (same_z z) 0 (column 4 l n)) e ∙ done_at.at in
        moves ns (Ok m) e
        (ap (λ (u : Moved). node_table (moved_nodes ns (Ok u))) is
        ∙ ap (λ (f : Option ℕ). node_table (changed_at ns node f)) at
        ∙ row_paste ns i node (omega (arith, size, tall, n_fits, row.below))
        ∙ ap (λ (l : List ℤ). paste l (i * 4) (z ∷ x ∷ y ∷ face ∷ []) 4) e ∙ sym pasted)
        (sym (ap (λ (o : Outcome). o.lent.head) all))
        (ap (λ (u : Moved). moved_answer ns (Ok u)) is
        ∙ ap (λ (f : Option ℕ). record { refusal = lookup_refusal f; value = pos 0 }) at
        ∙ sym (ap (λ (o : Outcome). o.answer) all))
