-- The conditions on departures as tests of positions and the node rows where they start. Assumes nothing.
use mathlib.Core.Path.{◌≡◌, refl, sym, ap, ap₂, ◌∙◌}
use mathlib.Core.Bool.{Bool, true, false, not, ◌&&◌, beq, false≢true}
use mathlib.Core.Logic.{inl, inr}
use mathlib.Core.List.{List, [], ◌∷◌, map}
use Prim.Native.Nat.{ℕ, zero, suc, ◌+◌, ◌*◌, ◌<◌, ◌≤◌}
use native.Mathlib.Nat.{eq-or-lt_of_le}
use native.Mathlib.Omega.{arith}
use lib.Dec.{lit<}
use lib.IntN.{ℤ, pos, negsuc}
use lib.ListN.{length, get_or}
use lib.Signed.{le_z, non_neg}
use borrow.Author.Tests.{leb-true}
use Rattle.integers.specs.Order.{Sign, negative, null, positive, sgn}
use Rattle.lists.specs.Tests.{same}
use Rattle.lists.specs.Scans.{any_of, all_of, keep, is_some}
use Rattle.lists.specs.Tables.{table}
use Rattle.lists.proofs.Bools.{eq2, which, same_true, same_eq, same_false, same_refl, not-true, or_right, &&-false}
use Rattle.lists.proofs.Scans.{all_of-table}
use Rattle.plane.specs.Areas.{is_null}
use Rattle.plane.specs.Directions.{Way, classes, sign_place, signs, class, cross, same_way}
use Rattle.curves.specs.Curves.{coordinate}
use Rattle.curves.proofs.Runs.{and_left, and_right}
use Rattle.planar_maps.specs.Map.{Dart}
use Rattle.map.specs.Limits.{node_width}
use Rattle.map.specs.Rows.{Node, edge, face_of}
use Rattle.tables.specs.Tables.{same_z, row_at, cell}
use Rattle.map.specs.Darts.{directed, leaves, departures, course, way}
use Rattle.map.specs.Form.{node_ranges, ways_differ, departures_differ, bare_marked}
use Rattle.map_rows.specs.Rows.{node_at, nodes_of, NodeRows, EdgeRows, edge_map}
use Rattle.tables.proofs.Order.{same-pos}
use Rattle.tables.proofs.Rows.{all_table, rows_all, row_cell}
use Rattle.map_rows.proofs.Rows.{nodes_table, node_cells_lem, node_rows_rising}
use Rattle.darts.specs.Positions.{dart_at, way_at, RowsNamed}
use Rattle.darts.proofs.Positions.{directed-table, cell-leaves, way_is}
use Rattle.form_links.specs.Chains.{starts_in, slot, repeats}
use Rattle.form_links.specs.Drawn.{drawn_map}
use Rattle.form_links.proofs.Named.{row_is}
use Rattle.form_links.proofs.Links.{all_alike}
use Rattle.form_links.proofs.Chains.{below_some, below_none}

-- ---- scans of what is kept of a table

module _ {A : Type 0} (w : A → Way) (p : A → Bool) (f : ℕ → A) where
  abbrev ways : ℕ → ℕ → List Way
  ways a n = map w (keep p (table f a n))

  any_met : (q : Way → Bool) (a n j : ℕ) → a ≤ j → j < a + n → p (f j) ≡ true → q (w (f j)) ≡ true → any_of q (ways a n)
      ≡ true
  any_met q a zero j s t d e = absurd (omega arith)
  any_met q a (suc n) j s t d e =
      let later = any_met q (a + 1) n j in
      elim (eq-or-lt_of_le s) [
        | inl i ↦
            let d' : p (f a) ≡ true = ap (λ (k : ℕ). p (f k)) i ∙ d in
            let e' : q (w (f a)) ≡ true = ap (λ (k : ℕ). q (w (f k))) i ∙ e in
            rw (d', e')
        | inr h ↦ let r = later (omega arith) (omega arith) d e in
            elim (which (p (f a))) [ inl g ↦ rw (g, r) (or_right (q (w (f a))) true refl) | inr g ↦ rw g r ]
      ]

  any_missed : (q : Way → Bool) (a n : ℕ) → ((j : ℕ) → a ≤ j → j < a + n → p (f j) ≡ true → q (w (f j)) ≡ false)
      → any_of q (ways a n) ≡ false
  any_missed q a zero h = refl
  any_missed q a (suc n) h =
      let r = any_missed q (a + 1) n (λ j s t. h j (omega arith) (omega arith)) in
      elim (which (p (f a))) [ inl g ↦ rw (g, h a (omega arith) (omega arith) g) r | inr g ↦ rw g r ]

  -- two that are kept have one direction
  ways_met : (a n i j : ℕ) → a ≤ i → i < j → j < a + n → p (f i) ≡ true → p (f j) ≡ true → same_way (w (f i)) (w (f j))
      ≡ true → ways_differ (ways a n) ≡ false
  ways_met a zero i j s t u d e g = absurd (omega arith)
  ways_met a (suc n) i j s t u d e g =
      let later = ways_met (a + 1) n i j in
      elim (eq-or-lt_of_le s) [
        | inl k ↦
            let d' : p (f a) ≡ true = ap (λ (x : ℕ). p (f x)) k ∙ d in
            let r = any_met (same_way (w (f a))) (a + 1) n j (omega arith) (omega arith) e
            (ap (λ (x : ℕ). same_way (w (f x)) (w (f j))) k ∙ g) in
            rw (d', r)
        | inr h ↦
            let r = later (omega arith) t (omega arith) d e g in
            elim (which (p (f a))) [
              | inl k ↦ rw (k, r)
                  (&&-false (not (any_of (same_way (w (f a))) (ways (a + 1) n))))
              | inr k ↦ rw k r
            ]
      ]

  -- no two have
  ways_apart : (a n : ℕ) → ((i j : ℕ) → a ≤ i → i < j → j < a + n → p (f i) ≡ true → p (f j) ≡ true
      → same_way (w (f i)) (w (f j)) ≡ false) → ways_differ (ways a n) ≡ true
  ways_apart a zero h = refl
  ways_apart a (suc n) h =
      let r = ways_apart (a + 1) n (λ i j s t u. h i j (omega arith) t (omega arith)) in
      elim (which (p (f a))) [
        | inl g ↦ rw (
          g,
          any_missed (same_way (w (f a))) (a + 1) n
              (λ j s t e. h a j (omega arith) (omega arith) (omega arith) g e),
        ) r
        | inr g ↦ rw g r
      ]

module _ {A : Type 0} (p : A → Bool) (f : ℕ → A) where
  none_kept : (a n : ℕ) → ((j : ℕ) → a ≤ j → j < a + n → p (f j) ≡ false) → length (keep p (table f a n)) ≡ 0
  none_kept a zero h = refl
  none_kept a (suc n) h = rw (h a (omega arith) (omega arith))
      (none_kept (a + 1) n (λ j s t. h j (omega arith) (omega arith)))

  some_kept : (a n : ℕ) → length (keep p (table f a n)) ≡ 0 → (j : ℕ) → a ≤ j → j < a + n → p (f j) ≡ false
  some_kept a zero h j s t = absurd (omega arith)
  some_kept a (suc n) h j s t =
      let later = some_kept (a + 1) n in
      elim (which (p (f a))) [
        | inl g ↦ let z : suc (length (keep p (table f (a + 1) n))) ≡ 0 = rw g at h in absurd (omega arith)
        | inr g ↦ elim (eq-or-lt_of_le s) [
          | inl i ↦ ap (λ (k : ℕ). p (f k)) (sym i)
              ∙ g
          | inr i ↦ later (rw g at h) j (omega arith) (omega arith)
        ]
      ]

-- ---- the map of nodes and edges

-- the signs of a class
signs_of_lem : ℕ → ℕ
signs_of_lem k = get_or (7 ∷ 8 ∷ 5 ∷ 2 ∷ 1 ∷ 0 ∷ 3 ∷ 6 ∷ []) k 4

signs-back : (a b : Sign) → signs_of_lem (classes a b) ≡ sign_place a * 3 + sign_place b
unfolding signs_of_lem
signs-back negative negative = refl
signs-back negative null = refl
signs-back negative positive = refl
signs-back null negative = refl
signs-back null null = refl
signs-back null positive = refl
signs-back positive negative = refl
signs-back positive null = refl
signs-back positive positive = refl

-- departures in one direction have one pair of signs
one-signs : (v w : Way) → same_way v w ≡ true → signs v ≡ signs w
unfolding class same_way
one-signs v w e =
    sym (signs-back (sgn v.dx) (sgn v.dy))
    ∙ ap signs_of_lem (same_true (class v) (class w) (and_left (same (class v) (class w)) (is_null (sgn (cross v w))) e))
    ∙ signs-back (sgn w.dx) (sgn w.dy)

-- a node has a face exactly where its number is not -1
face_is : (z : ℤ) → le_z (negsuc 0) z ≡ true → is_some (face_of z) ≡ not (same_z z (negsuc 0))
face_is (pos f) h = refl
face_is (negsuc zero) h = refl
face_is (negsuc (suc n)) h = let k = leb-true (suc n) 0 h in absurd (omega arith)

module _ {nodes : List ℤ} {r : ℕ} {l : List ℤ} {n : ℕ} (starts : List ℕ) (s : NodeRows nodes r) (t : EdgeRows l n)
    (named : RowsNamed node_width nodes r l 1 starts (n * 2)) where
  leaves-drawn : (d : Dart) → leaves (drawn_map nodes r l n) d ≡ leaves (edge_map l n) d
  unfolding leaves edge
  leaves-drawn d = refl

  way-drawn : (d : Dart) → way (drawn_map nodes r l n) d ≡ way (edge_map l n) d
  unfolding way course edge
  way-drawn d = refl

  way_at_lem : (p : ℕ) → p < n * 2 → way (drawn_map nodes r l n) (dart_at l p) ≡ way_at l p
  way_at_lem p h = way-drawn (dart_at l p) ∙ way_is t p h

  -- the test of a node's departures
  from_is : (i : ℕ) → i < r → (p : ℕ) → p < n * 2
      → same (leaves (drawn_map nodes r l n) (dart_at l p)) (node_at nodes i).number ≡ same (get_or starts p 0) i
  from_is i k p h =
      let d = dart_at l p in
      let number = (node_cells_lem nodes i (rows_all node_width nodes node_ranges r s.ranges i k)).number in
      sym (row_is (node_rows_rising s) l 1 starts named p i h k
      ∙ ap₂ same_z (cell-leaves t p h ∙ ap pos (sym (leaves-drawn d))) number
      ∙ same-pos (leaves (drawn_map nodes r l n) d) (node_at nodes i).number)

  -- ---- directions

  pub differ_true : ((p : ℕ) → p < n * 2 → repeats l (slot l starts) p ≡ false)
      → departures_differ (drawn_map nodes r l n) ≡ true
  unfolding departures_differ departures
  differ_true apart =
      let m = drawn_map nodes r l n in
      ap (all_of (λ x. ways_differ (map (way m) (keep (λ d. same (leaves m d) x.number) (directed m)))))
      (nodes_table nodes r)
      ∙ all_of-table (λ x. ways_differ (map (way m) (keep (λ d. same (leaves m d) x.number) (directed m))))
      (node_at nodes) 0 r
      (λ i u v. ap (λ (ds : List Dart). ways_differ
      (map (way m) (keep (λ d. same (leaves m d) (node_at nodes i).number) ds))) (directed-table l n)
      ∙ ways_apart (way m) (λ d. same (leaves m d) (node_at nodes i).number) (dart_at l) 0 (n * 2)
      (λ p q a b c. one i (omega arith) p q b (omega arith)))
    where
      one : (i : ℕ) → i < r → (p q : ℕ) → p < q → q < n * 2
          → same (leaves (drawn_map nodes r l n) (dart_at l p)) (node_at nodes i).number ≡ true
          → same (leaves (drawn_map nodes r l n) (dart_at l q)) (node_at nodes i).number ≡ true
          → same_way (way (drawn_map nodes r l n) (dart_at l p)) (way (drawn_map nodes r l n) (dart_at l q)) ≡ false
      one i j p q h k d e =
          let row : get_or starts p 0 ≡ get_or starts q 0 =
          same_true (get_or starts p 0) i (sym (from_is i j p (omega arith)) ∙ d)
          ∙ sym (same_true (get_or starts q 0) i (sym (from_is i j q k) ∙ e)) in
          let f = slot l starts in
          let none = below_none (λ p. same (f p) (f q) && same_way (way_at l p) (way_at l q)) q (apart q k) p h in
          ap₂ same_way (way_at_lem p (omega arith)) (way_at_lem q k)
          ∙ not-true (same_way (way_at l p) (way_at l q)) (λ w.
          let both : same (f p) (f q) && same_way (way_at l p) (way_at l q) ≡ true =
          rw (same_eq (f p) (f q) (ap₂ (λ (x y : ℕ). x * 9 + y) row (one-signs (way_at l p) (way_at l q) w)), w) in
          false≢true (sym none ∙ both))

  pub differ_false : (p : ℕ) → p < n * 2 → repeats l (slot l starts) p ≡ true → departures_differ (drawn_map nodes r l n)
      ≡ false
  unfolding departures_differ departures
  differ_false p h e =
      let m = drawn_map nodes r l n in
      let f = slot l starts in
      let i = get_or starts p 0 in
      let x = (node_at nodes i).number in
      let below = (named p h).0 in
      let q = below_some (λ q. same (f q) (f p) && same_way (way_at l q) (way_at l p)) p e in
      let g = q.1 in
      let ways = and_right (same (f q.0) (f p)) (same_way (way_at l q.0) (way_at l p)) q.2 in
      let one = one-signs (way_at l q.0) (way_at l p) ways in
      let slots = same_true (f q.0) (f p)
      (and_left (same (f q.0) (f p)) (same_way (way_at l q.0) (way_at l p)) q.2) in
      let row : get_or starts q.0 0 ≡ i = omega arith in
      let met : ways_differ (map (way m) (keep (λ d. same (leaves m d) x) (directed m))) ≡ false =
      ap (λ (ds : List Dart). ways_differ (map (way m) (keep (λ d. same (leaves m d) x) ds))) (directed-table l n)
      ∙ ways_met (way m) (λ d. same (leaves m d) x) (dart_at l) 0 (n * 2) q.0 p (omega arith) g (omega arith)
      (from_is i below q.0 (omega arith) ∙ same_eq (get_or starts q.0 0) i row) (from_is i below p h ∙ same_refl i)
      (ap₂ same_way (way_at_lem q.0 (omega arith)) (way_at_lem p h) ∙ ways) in
      let test : Node → Bool = λ y. ways_differ (map (way m) (keep (λ d. same (leaves m d) y.number) (directed m))) in
      not-true (all_of test (nodes_of nodes r))
      (λ a. false≢true (sym met ∙ all_table test (node_at nodes) r
      (ap (all_of test) (sym (nodes_table nodes r)) ∙ a) i below))

  -- ---- nodes without a face

  -- no edge ends at row i exactly where no position starts there
  ends_none : (i : ℕ) → i < r → same (length (departures (drawn_map nodes r l n) (node_at nodes i).number)) 0
      ≡ not (starts_in starts (n * 2) i)
  unfolding departures
  ends_none i h =
      let m = drawn_map nodes r l n in
      let leave : Dart → Bool = λ d. same (leaves m d) (node_at nodes i).number in
      let kept : length (keep leave (directed m)) ≡ length (keep leave (table (dart_at l) 0 (n * 2))) =
      ap (λ (ds : List Dart). length (keep leave ds)) (directed-table l n) in
      elim (which (starts_in starts (n * 2) i)) [
        | inl e ↦
            let q = below_some (λ p. same (get_or starts p 0) i) (n * 2) e in
            let g = q.1 in
            same_false (length (keep leave (directed m))) 0
            (λ z. false≢true (sym (some_kept leave (dart_at l) 0 (n * 2) (sym kept ∙ z) q.0 (omega arith)
            (omega arith)) ∙ from_is i h q.0 g ∙ q.2))
            ∙ rw e
        | inr e ↦
            same_eq (length (keep leave (directed m))) 0
            (kept ∙ none_kept leave (dart_at l) 0 (n * 2)
            (λ j u v. from_is i h j (omega arith)
            ∙ below_none (λ p. same (get_or starts p 0) i) (n * 2) e j (omega arith)))
            ∙ rw e
      ]

  -- the test of each row, by marks of the rows where a position starts
  pub bare_is : (marks : List ℕ) → ((i : ℕ) → i < r → same (get_or marks i 0) 1 ≡ starts_in starts (n * 2) i)
      → all_of (λ i. beq (same_z (get_or nodes (i * node_width + 3) (pos 0)) (negsuc 0)) (same (get_or marks i 0) 1))
      (table (λ i. i) 0 r) ≡ bare_marked (drawn_map nodes r l n)
  unfolding bare_marked
  bare_is marks marked =
      let m = drawn_map nodes r l n in
      let test : Node → Bool = λ x. beq (is_some x.face) (same (length (departures m x.number)) 0) in
      all_alike (λ i. beq (same_z (get_or nodes (i * node_width + 3) (pos 0)) (negsuc 0))
      (same (get_or marks i 0) 1)) test (λ i. i) (node_at nodes) 0 r (λ i u v. one i (omega arith))
      ∙ ap (all_of test) (sym (nodes_table nodes r))
    where
      one : (i : ℕ) → i < r → beq (same_z (get_or nodes (i * node_width + 3) (pos 0)) (negsuc 0))
          (same (get_or marks i 0) 1) ≡ beq (is_some (node_at nodes i).face)
          (same (length (departures (drawn_map nodes r l n) (node_at nodes i).number)) 0)
      one i h =
          let ranges = rows_all node_width nodes node_ranges r s.ranges i h in
          let z = get_or nodes (i * node_width + 3) (pos 0) in
          let row = row_at node_width nodes i in
          let least : le_z (negsuc 0) z ≡ true = ap (le_z (negsuc 0)) (sym (row_cell node_width nodes i 3 (lit< tt)))
          ∙ and_right (non_neg (cell row 0) && coordinate (cell row 1) && coordinate (cell row 2))
          (le_z (negsuc 0) (cell row 3)) ranges in
          ap (beq (same_z z (negsuc 0))) (marked i h)
          ∙ sym (ap₂ beq (ap is_some (sym (node_cells_lem nodes i ranges).face) ∙ face_is z least) (ends_none i h)
          ∙ eq2 (λ a b. beq (not a) (not b)) beq tt (same_z z (negsuc 0)) (starts_in starts (n * 2) i))
