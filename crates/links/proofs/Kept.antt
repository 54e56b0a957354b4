-- Links changed in a table, and nothing else: the rows keep their numbers, nodes, faces and curves, and what is
-- required of rows is kept where the new links name edges. Assumes nothing.
use mathlib.Core.Path.{◌≡◌, refl, sym, ap, ap₂, ◌∙◌, subst}
use mathlib.Core.Logic.{◌⊎◌, inl, inr, ⊎_elim}
use mathlib.Core.Bool.{Bool, true, false, cond, ◌&&◌}
use mathlib.Core.List.{List}
use Prim.Native.Nat.{ℕ, zero, suc, ◌+◌, ◌*◌, ◌-◌, ◌/◌, ◌%◌, ◌<◌, ◌≤◌}
use native.Mathlib.Omega.{arith}
use lib.IntN.{ℤ, pos}
use lib.ListN.{length, get_or, set, drop, length-set, length-drop}
use lib.Seq.{get_or-set_same, get_or-set_other, set_comm, get_or-drop, ext_get_or, length-take-le}
use Rattle.lists.specs.Tests.{same}
use Rattle.lists.specs.Scans.{all_of, find, is_some}
use Rattle.lists.specs.Tables.{table, sweep}
use Rattle.lists.proofs.Bools.{which, same_true, differ}
use Rattle.lists.proofs.Scans.{table_same}
use Rattle.map.specs.Limits.{edge_width, last_number}
use Rattle.map.specs.Rows.{Edge, edge_of, dart_of, has_edge}
use Rattle.tables.specs.Tables.{same_z, replace_at, row_at, cell, numbered}
use Rattle.map.specs.Form.{edge_ranges}
use Rattle.map.specs.Links.{with_links}
use Rattle.map_rows.specs.Rows.{edge_at, edge_map, EdgeRows}
use Rattle.tables.proofs.Order.{replace_length}
use Rattle.tables.proofs.Rows.{row_cell, rows-table}
use Rattle.map_rows.proofs.Rows.{edges_table, edge_numbers_lem}
use Rattle.darts.specs.Positions.{side_place, side_cell}
use Rattle.links.specs.Linking.{redirected}

-- ---- a number replaced

abbrev pub new_for : ℤ → ℤ → ℤ → ℤ
new_for old new z = cond (same_z z old) new z

module _ (old new : ℤ) (l : List ℤ) (j : ℕ) where
  replace_here : j < length l → get_or (replace_at old new l j) j (pos 0) ≡ new_for old new (get_or l j (pos 0))
  replace_here h = elim (which (same_z (get_or l j (pos 0)) old)) [
    | inl e ↦ rw e
        (get_or-set_same l j new (pos 0) h)
    | inr e ↦ rw e refl
  ]

  replace_there : (i : ℕ) → (i ≡ j → ⊥) → get_or (replace_at old new l j) i (pos 0) ≡ get_or l i (pos 0)
  replace_there i h = elim (which (same_z (get_or l j (pos 0)) old)) [
    | inl e ↦ rw e
        (get_or-set_other l j i new (pos 0) h)
    | inr e ↦ rw e refl
  ]

-- two numbers at different places, in either order
pub replace_swap : (old new : ℤ) (l : List ℤ) (i j : ℕ) → (i ≡ j → ⊥) → replace_at old new (replace_at old new l i) j
    ≡ replace_at old new (replace_at old new l j) i
replace_swap old new l i j d =
    ap (λ (z : ℤ). cond (same_z z old) (set (replace_at old new l i) j new) (replace_at old new l i))
    (replace_there old new l i j (λ e. d (sym e)))
    ∙ go (same_z (get_or l i (pos 0)) old) (same_z (get_or l j (pos 0)) old)
    ∙ ap (λ (z : ℤ). cond (same_z z old) (set (replace_at old new l j) i new) (replace_at old new l j))
    (sym (replace_there old new l j i d))
  where
    go : (p q : Bool) → cond q (set (cond p (set l i new) l) j new) (cond p (set l i new) l)
        ≡ cond p (set (cond q (set l j new) l) i new) (cond q (set l j new) l)
    go true true = set_comm l i j new new d
    go true false = refl
    go false true = refl
    go false false = refl

-- ---- a column swept

module _ (old new : ℤ) (k : ℕ) (few : k < 32) where
  abbrev turn : List ℤ → ℕ → List ℤ
  turn t i = replace_at old new t (i * edge_width + k)

  pub swept_length : (n a : ℕ) (l : List ℤ) → length (sweep turn l a n) ≡ length l
  swept_length zero a l = refl
  swept_length (suc n) a l = swept_length n (a + 1) (turn l a) ∙ replace_length old new l (a * edge_width + k)

  -- a number that is not in the column
  pub swept_other : (n a : ℕ) (l : List ℤ) (j : ℕ) → ((i : ℕ) → i < a + n → j ≡ i * edge_width + k → ⊥)
      → get_or (sweep turn l a n) j (pos 0) ≡ get_or l j (pos 0)
  swept_other zero a l j h = refl
  swept_other (suc n) a l j h = swept_other n (a + 1) (turn l a) j (λ i t. h i (omega arith))
      ∙ replace_there old new l (a * edge_width + k) j (h a (omega arith))

  -- a number that has been passed
  swept_before : (n a : ℕ) (l : List ℤ) (j : ℕ) → j < a → get_or (sweep turn l a n) (j * edge_width + k) (pos 0)
      ≡ get_or l (j * edge_width + k) (pos 0)
  swept_before zero a l j h = refl
  swept_before (suc n) a l j h = swept_before n (a + 1) (turn l a) j (omega arith)
      ∙ replace_there old new l (a * edge_width + k) (j * edge_width + k) (λ e. omega arith)

  swept_from : (n a : ℕ) (l : List ℤ) (j : ℕ) → a ≤ j → j < a + n → (a + n) * edge_width ≤ length l
      → get_or (sweep turn l a n) (j * edge_width + k) (pos 0) ≡ new_for old new (get_or l (j * edge_width + k) (pos 0))
  swept_from zero a l j s t fits = absurd (omega arith)
  swept_from (suc n) a l j s t fits =
      go (swept_from n (a + 1) (turn l a) j) (at_or a j s)
    where
      at_or : (a j : ℕ) → a ≤ j → (a ≡ j) ⊎ (a + 1 ≤ j)
      at_or a j h = elim (which (same a j)) [
        | inl e ↦ inl (same_true a j e)
        | inr e ↦ inr
            (let d = differ a j e in omega arith)
      ]

      go : (a + 1 ≤ j → j < a + 1 + n → (a + 1 + n) * edge_width ≤ length (turn l a)
          → get_or (sweep turn (turn l a) (a + 1) n) (j * edge_width + k) (pos 0)
          ≡ new_for old new (get_or (turn l a) (j * edge_width + k) (pos 0)))
          → (a ≡ j) ⊎ (a + 1 ≤ j) → get_or (sweep turn (turn l a) (a + 1) n) (j * edge_width + k) (pos 0)
          ≡ new_for old new (get_or l (j * edge_width + k) (pos 0))
      go later (inl e) =
          swept_before n (a + 1) (turn l a) j (omega arith)
          ∙ subst (λ (i : ℕ). get_or (turn l a) (i * edge_width + k) (pos 0)
          ≡ new_for old new (get_or l (i * edge_width + k) (pos 0))) e
          (replace_here old new l (a * edge_width + k) (omega arith))
      go later (inr h) =
          let b : (a + 1 + n) * edge_width ≤ length (turn l a) = let e = replace_length old new l (a * edge_width + k) in
          omega arith in
          later h (omega arith) b ∙ ap (new_for old new)
          (replace_there old new l (a * edge_width + k) (j * edge_width + k) (λ e. omega arith))

  pub swept_at : (n : ℕ) (l : List ℤ) (j : ℕ) → j < n → n * edge_width ≤ length l
      → get_or (sweep turn l 0 n) (j * edge_width + k) (pos 0) ≡ new_for old new (get_or l (j * edge_width + k) (pos 0))
  swept_at n l j h fits = swept_from n 0 l j (omega arith) (omega arith) (omega arith)

-- ---- nothing but links differs

-- l' has the numbers of l but for the links of the first n rows
pub record Relinked (l l' : List ℤ) (n : ℕ) : Type 0 where
  pub long : length l' ≡ length l
  pub row : (i k : ℕ) → i < n → k < 32 → (k ≡ 3 → ⊥) → (k ≡ 4 → ⊥) → get_or l' (i * edge_width + k) (pos 0)
      ≡ get_or l (i * edge_width + k) (pos 0)
  pub past : (j : ℕ) → n * edge_width ≤ j → get_or l' j (pos 0) ≡ get_or l j (pos 0)

pub relinked_then : {a b c : List ℤ} {n : ℕ} → Relinked a b n → Relinked b c n → Relinked a c n
relinked_then r s =
    record {
      long = s.long ∙ r.long;
      row = λ i k h f x y. s.row i k h f x y ∙ r.row i k h f x y;
      past = λ j h. s.past j h ∙ r.past j h;
    }

-- what follows the rows is untouched
pub rest_kept : {l l' : List ℤ} {n : ℕ} → Relinked l l' n → drop (n * edge_width) l' ≡ drop (n * edge_width) l
rest_kept {l} {l'} {n} r =
    ext_get_or (pos 0) (drop (n * edge_width) l') (drop (n * edge_width) l)
    (length-drop (n * edge_width) l' ∙ ap (λ (k : ℕ). k - n * edge_width) r.long ∙ sym (length-drop (n * edge_width) l))
    (λ j h. get_or-drop (n * edge_width) l' j (pos 0) ∙ r.past (n * edge_width + j) (omega arith)
    ∙ sym (get_or-drop (n * edge_width) l j (pos 0)))

column_relinked : (old new : ℤ) (k : ℕ) → (k ≡ 3) ⊎ (k ≡ 4) → (l : List ℤ) (n : ℕ)
    → Relinked l (sweep (λ t i. replace_at old new t (i * edge_width + k)) l 0 n) n
column_relinked old new k w l n =
    let few : k < 32 = ⊎_elim (λ e. omega arith) (λ e. omega arith) w in
    record {
      long = swept_length old new k few n 0 l;
      row = λ i j h f x y. swept_other old new k few n 0 l (i * edge_width + j)
          (λ m t e. ⊎_elim (λ q. x (omega arith)) (λ q. y (omega arith)) w);
      past = λ j h. swept_other old new k few n 0 l j (λ m t e. omega arith);
    }

module _ (old new : ℤ) (l : List ℤ) (n : ℕ) where
  pub redirected_relinked : Relinked l (redirected old new l n) n
  redirected_relinked = relinked_then (column_relinked old new 3 (inl refl) l n)
      (column_relinked old new 4 (inr refl) (sweep (λ t i. replace_at old new t (i * edge_width + 3)) l 0 n) n)

  -- each link to `old` is one to `new`
  pub redirected-link : n * edge_width ≤ length l → (p : ℕ) → p < n * 2 → side_cell (redirected old new l n) p 3
      ≡ new_for old new (side_cell l p 3)
  redirected-link fits p h = ⊎_elim
      (λ e.
      let s : side_place p 3 ≡ p / 2 * edge_width + 3 = omega arith in
      rw s (swept_other old new 4 (omega arith) n 0 first (p / 2 * edge_width + 3) (λ m t q. omega arith)
      ∙ swept_at old new 3 (omega arith) n l (p / 2) (omega arith) fits))
      (λ e.
      let s : side_place p 3 ≡ p / 2 * edge_width + 4 = omega arith in
      rw s (swept_at old new 4 (omega arith) n first (p / 2) (omega arith)
      (let q = swept_length old new 3 (omega arith) n 0 l in omega arith)
      ∙ ap (new_for old new) (swept_other old new 3 (omega arith) n 0 l (p / 2 * edge_width + 4) (λ m t q. omega arith))))
      (half p)
    where
      first : List ℤ
      first = sweep (λ t i. replace_at old new t (i * edge_width + 3)) l 0 n

      half : (p : ℕ) → (p % 2 ≡ 0) ⊎ (p % 2 ≡ 1)
      half p = elim (which (same (p % 2) 0)) [
        | inl e ↦ inl (same_true (p % 2) 0 e)
        | inr e ↦ inr
            (let d = differ (p % 2) 0 e in omega arith)
      ]

-- ---- a link stored

side_place_lem : (p k : ℕ) → (side_place p k ≡ p / 2 * edge_width + k) ⊎ (side_place p k ≡ p / 2 * edge_width + (k + 1))
side_place_lem p k = elim (which (same (p % 2) 0)) [
  | inl e ↦ inl
      (let d = same_true (p % 2) 0 e in omega arith)
  | inr e ↦ inr (let d = differ (p % 2) 0 e in omega arith)
]

module _ (l : List ℤ) (n q : ℕ) (v : ℤ) (h : q < n * 2) where
  pub stored_relinked : Relinked l (set l (side_place q 3) v) n
  stored_relinked =
      record {
        long = length-set l (side_place q 3) v;
        row = λ i k t f x y. get_or-set_other l (side_place q 3) (i * edge_width + k) v (pos 0)
            (λ e. ⊎_elim (λ s. x (omega arith)) (λ s. y (omega arith)) (side_place_lem q 3));
        past = λ j t. get_or-set_other l (side_place q 3) j v (pos 0)
            (λ e. ⊎_elim (λ s. omega arith) (λ s. omega arith) (side_place_lem q 3));
      }

  pub stored_here : n * edge_width ≤ length l → side_cell (set l (side_place q 3) v) q 3 ≡ v
  stored_here fits = get_or-set_same l (side_place q 3) v (pos 0)
      (⊎_elim (λ s. omega arith) (λ s. omega arith) (side_place_lem q 3))

  pub stored_there : (p : ℕ) → (p ≡ q → ⊥) → side_cell (set l (side_place q 3) v) p 3 ≡ side_cell l p 3
  stored_there p d = get_or-set_other l (side_place q 3) (side_place p 3) v (pos 0) (λ e. d (omega arith))

-- ---- the rows

-- two tables that two tests take alike
all_alike : {A B : Type 0} (p : A → Bool) (q : B → Bool) (f : ℕ → A) (g : ℕ → B) (a n : ℕ)
    → ((i : ℕ) → i < a + n → p (f i) ≡ q (g i)) → all_of p (table f a n) ≡ all_of q (table g a n)
all_alike p q f g a zero h = refl
all_alike p q f g a (suc n) h = ap₂ ◌&&◌ (h a (omega arith)) (all_alike p q f g (a + 1) n (λ i t. h i (omega arith)))

find_alike : {A : Type 0} (p : A → Bool) (f g : ℕ → A) (a n : ℕ) → ((i : ℕ) → i < a + n → p (f i) ≡ p (g i))
    → is_some (find p (table f a n)) ≡ is_some (find p (table g a n))
find_alike p f g a zero h = refl
find_alike p f g a (suc n) h = go (p (g a)) (h a (omega arith)) refl
    (find_alike p f g (a + 1) n (λ i t. h i (omega arith)))
  where
    go : (b : Bool) → p (f a) ≡ p (g a) → p (g a) ≡ b → is_some (find p (table f (a + 1) n))
        ≡ is_some (find p (table g (a + 1) n)) → is_some (find p (table f a (suc n)))
        ≡ is_some (find p (table g a (suc n)))
    go true e q ih = rw (e, q)
    go false e q ih = rw (e, q) ih

all_true : {A : Type 0} (f : ℕ → A) (a n : ℕ) → all_of (λ x. true) (table f a n) ≡ true
all_true f a zero = refl
all_true f a (suc n) = all_true f (a + 1) n

module _ {l l' : List ℤ} {n : ℕ} (r : Relinked l l' n) (fits : n * edge_width ≤ length l) where
  module _ (i : ℕ) (h : i < n) where
    same-cell : (k : ℕ) → k < 32 → (k ≡ 3 → ⊥) → (k ≡ 4 → ⊥) → cell (row_at edge_width l' i) k
        ≡ cell (row_at edge_width l i) k
    same-cell k t x y = row_cell edge_width l' i k t ∙ r.row i k h t x y ∙ sym (row_cell edge_width l i k t)

    row_long : (t : List ℤ) → n * edge_width ≤ length t → length (row_at edge_width t i) ≡ 32
    row_long t f = length-take-le 32 (drop (i * edge_width) t) (rw (length-drop (i * edge_width) t) (omega arith))

    same_points_lem : drop 8 (row_at edge_width l' i) ≡ drop 8 (row_at edge_width l i)
    same_points_lem =
        let a = row_long l fits in
        let b = row_long l' (let e = r.long in omega arith) in
        ext_get_or (pos 0) (drop 8 (row_at edge_width l' i)) (drop 8 (row_at edge_width l i))
        (rw (length-drop 8 (row_at edge_width l' i), length-drop 8 (row_at edge_width l i)) (omega arith))
        (λ j t.
        let s : j < 24 = omega (arith, length-drop 8 (row_at edge_width l' i)) in
        get_or-drop 8 (row_at edge_width l' i) j (pos 0)
        ∙ same-cell (8 + j) (omega arith) (λ e. omega arith) (λ e. omega arith)
        ∙ sym (get_or-drop 8 (row_at edge_width l i) j (pos 0)))

    -- a row but for its links
    pub edge_relinked : edge_at l' i ≡ with_links (dart_of (get_or l' (i * edge_width + 3) (pos 0)))
        (dart_of (get_or l' (i * edge_width + 4) (pos 0))) (edge_at l i)
    unfolding edge_of
    edge_relinked =
        rw (
          same-cell 0 (omega arith) (λ e. omega arith) (λ e. omega arith),
          same-cell 1 (omega arith) (λ e. omega arith) (λ e. omega arith),
          same-cell 2 (omega arith) (λ e. omega arith) (λ e. omega arith),
          row_cell edge_width l' i 3 (omega arith),
          row_cell edge_width l' i 4 (omega arith),
          same-cell 5 (omega arith) (λ e. omega arith) (λ e. omega arith),
          same-cell 6 (omega arith) (λ e. omega arith) (λ e. omega arith),
          same-cell 7 (omega arith) (λ e. omega arith) (λ e. omega arith),
          same_points_lem,
        )

    ranges_kept : edge_ranges (row_at edge_width l' i) ≡ edge_ranges (row_at edge_width l i)
    ranges_kept =
        rw (
          same-cell 0 (omega arith) (λ e. omega arith) (λ e. omega arith),
          same-cell 1 (omega arith) (λ e. omega arith) (λ e. omega arith),
          same-cell 2 (omega arith) (λ e. omega arith) (λ e. omega arith),
          same-cell 5 (omega arith) (λ e. omega arith) (λ e. omega arith),
          same-cell 6 (omega arith) (λ e. omega arith) (λ e. omega arith),
          same-cell 7 (omega arith) (λ e. omega arith) (λ e. omega arith),
          same_points_lem,
        )

    pub number_kept : (edge_at l' i).number ≡ (edge_at l i).number
    number_kept = ap (λ (e : Edge). e.number) edge_relinked

  -- an edge exists as before
  pub has_kept : (e : ℕ) → has_edge (edge_map l' n) e ≡ has_edge (edge_map l n) e
  has_kept e =
      ap (λ (es : List Edge). is_some (find (λ r. same r.number e) es)) (edges_table l' n)
      ∙ find_alike (λ r. same r.number e) (edge_at l') (edge_at l) 0 n
      (λ i t. ap (λ (k : ℕ). same k e) (number_kept i (omega arith)))
      ∙ ap (λ (es : List Edge). is_some (find (λ r. same r.number e) es)) (sym (edges_table l n))

-- what is required of rows is kept where all links name edges
pub rows_kept : {l l' : List ℤ} {n : ℕ} → EdgeRows l n → Relinked l l' n
    → ((p : ℕ) → p < n * 2 → has_edge (edge_map l n) (dart_of (side_cell l' p 3)).edge ≡ true) → EdgeRows l' n
rows_kept {l} {l'} {n} t r named =
    record {
      fits = let e = r.long in let f = t.fits in omega arith;
      ranges =
          ap (all_of edge_ranges) (rows-table edge_width l' n)
          ∙ all_alike edge_ranges edge_ranges (row_at edge_width l') (row_at edge_width l) 0 n
          (λ i h. ranges_kept r t.fits i (omega arith))
          ∙ ap (all_of edge_ranges) (sym (rows-table edge_width l n)) ∙ t.ranges;
      rising =
          ap (numbered 1 (suc last_number))
          (edge_numbers_lem l' n ∙ table_same (λ i. (edge_at l' i).number) (λ i. (edge_at l i).number) 0 n
          (λ i a b. number_kept r t.fits i (omega arith)) ∙ sym (edge_numbers_lem l n)) ∙ t.rising;
      named =
          let test : Edge → Bool = λ e. has_edge (edge_map l' n) e.next_left.edge
          && has_edge (edge_map l' n) e.next_right.edge in
          ap (all_of test) (edges_table l' n)
          ∙ all_alike test (λ e. true) (edge_at l') (edge_at l') 0 n (λ i h. both i (omega arith))
          ∙ all_true (edge_at l') 0 n;
    }
  where
    link : (i p k : ℕ) → i < n → side_place p 3 ≡ i * edge_width + k → p < n * 2
        → has_edge (edge_map l' n) (dart_of (get_or l' (i * edge_width + k) (pos 0))).edge ≡ true
    link i p k h e b = has_kept r t.fits (dart_of (get_or l' (i * edge_width + k) (pos 0))).edge
        ∙ ap (λ (j : ℕ). has_edge (edge_map l n) (dart_of (get_or l' j (pos 0))).edge) (sym e) ∙ named p b

    both : (i : ℕ) → i < n → has_edge (edge_map l' n) (edge_at l' i).next_left.edge
        && has_edge (edge_map l' n) (edge_at l' i).next_right.edge ≡ true
    both i h =
        let e = edge_relinked r t.fits i h in
        let left = ap (λ (e : Edge). has_edge (edge_map l' n) e.next_left.edge) e
        ∙ link i (i * 2) 3 h (omega arith) (omega arith) in
        let right = ap (λ (e : Edge). has_edge (edge_map l' n) e.next_right.edge) e
        ∙ link i (i * 2 + 1) 4 h (omega arith) (omega arith) in
        rw (left, right)
