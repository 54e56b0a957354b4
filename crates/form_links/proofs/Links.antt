-- Links by position: each directed edge is named once exactly where no two positions have one next, and the marks tell
-- which are named. Assumes nothing.
use mathlib.Core.Path.{◌≡◌, refl, sym, ap, ap₂, ◌∙◌, subst}
use mathlib.Core.Bool.{Bool, true, false, not, ◌&&◌, ◌||◌, false≢true}
use mathlib.Core.Logic.{inl, inr}
use mathlib.Core.List.Memᴰ
use mathlib.Core.List.{List, map, Memᴰ, Permᴰ}
use Prim.Native.Nat.{ℕ, zero, suc, ◌+◌, ◌*◌, ◌<◌, ◌≤◌}
use native.Mathlib.Nat.{eq-or-lt_of_le}
use native.Mathlib.Omega.{arith}
use lib.Dec.{eqb}
use lib.IntN.{ℤ, pos}
use lib.ListN.{length, get_or, set, replicate, length-set, length-replicate}
use lib.Seq.{get_or-set_same, get_or-set_other}
use borrow.Author.Count.{below_more}
use borrow.Author.Tests.{eqb-true, eqb-false}
use Rattle.lists.specs.Tests.{same, bit}
use Rattle.lists.specs.Scans.{all_of, count_of}
use Rattle.lists.specs.Members.{Distinct}
use Rattle.lists.specs.Tables.{table}
use Rattle.lists.proofs.Bools.{which, same_true, same_eq, not-true, or-true, or-false, equal?}
use Rattle.lists.proofs.Counts.{count_perm}
use Rattle.lists.proofs.Perms.{perm_of_injective}
use Rattle.lists.proofs.Scans.{all_of-table, table_has, table_in}
use Rattle.curves.proofs.Runs.{and_left, and_right}
use Rattle.planar_maps.specs.Map.{Dart}
use Rattle.planar_maps.specs.Rings.{same_dart}
use Rattle.planar_maps.proofs.Rings.{same_dart_refl, dart_once}
use Rattle.map.specs.Limits.{node_width, face_width}
use Rattle.map.specs.Rows.{Map}
use Rattle.map.specs.Darts.{directed, leaves, arrives, next, bears}
use Rattle.map.specs.Form.{links_once, links_meet, rings_bear_one}
use Rattle.tables.specs.Tables.{same_z}
use Rattle.map_rows.specs.Rows.{edge_map, NodeRows, EdgeRows, FaceRows}
use Rattle.tables.proofs.Order.{lt_or_ge, same-pos}
use Rattle.tables.proofs.Rows.{map-table, all_table}
use Rattle.map_rows.proofs.Rows.{node_rows_rising, face_rows_rising}
use Rattle.darts.specs.Positions.{reverse_of, dart_at, side_cell, RowsNamed, NextsNamed}
use Rattle.darts.proofs.Positions.{directed-table, dart_injective, position_in, next_there, link_is, reverse_below}
use Rattle.darts.proofs.Positions.{cell-leaves, cell-arrives, cell-bears}
use Rattle.form_links.proofs.Words.{flipped}
use Rattle.form_links.proofs.Named.{rows_same}

-- ---- tables of elements

module _ {A : Type 0} where
  pub distinct_table : (f : ℕ → A) (a n : ℕ) → ((i j : ℕ) → a ≤ i → i < j → j < a + n → f i ≡ f j → ⊥)
      → Distinct (table f a n)
  distinct_table f a zero h = tt
  distinct_table f a (suc n) h = (
    λ m. let r = table_in f (a + 1) n m in let s : a + 1 ≤ r.0 = r.1 in let t : r.0 < a + 1 + n = r.2 in
        h a r.0 (omega arith) (omega arith) (omega arith) (sym r.3),
    distinct_table f (a + 1) n (λ i j s t u. h i j (omega arith) t (omega arith)),
  )

  pub all_alike : {B : Type 0} (p : A → Bool) (q : B → Bool) (f : ℕ → A) (g : ℕ → B) (a n : ℕ)
      → ((i : ℕ) → a ≤ i → i < a + n → p (f i) ≡ q (g i)) → all_of p (table f a n) ≡ all_of q (table g a n)
  all_alike p q f g a zero h = refl
  all_alike p q f g a (suc n) h = rw (
    h a (omega arith) (omega arith),
    all_alike p q f g (a + 1) n (λ i s t. h i (omega arith) (omega arith)),
  )

  module _ (p : A → Bool) where
    taken_once : (f : ℕ → A) (a n i : ℕ) → a ≤ i → i < a + n → p (f i) ≡ true → 1 ≤ count_of p (table f a n)
    taken_once f a zero i s t e = absurd (omega arith)
    taken_once f a (suc n) i s t e =
        let later = taken_once f (a + 1) n i in
        elim (eq-or-lt_of_le s) [
          | inl q ↦ let b : bit (p (f a)) ≡ 1 = ap bit (ap (λ (k : ℕ). p (f k)) q ∙ e) in omega arith
          | inr h ↦ let r = later (omega arith) (omega arith) e in omega arith
        ]

    taken_twice : (f : ℕ → A) (a n i j : ℕ) → a ≤ i → i < j → j < a + n → p (f i) ≡ true → p (f j) ≡ true
        → 2 ≤ count_of p (table f a n)
    taken_twice f a zero i j s t u d e = absurd (omega arith)
    taken_twice f a (suc n) i j s t u d e =
        let later = taken_twice f (a + 1) n i j in
        elim (eq-or-lt_of_le s) [
          | inl q ↦ let b : bit (p (f a)) ≡ 1 = ap bit (ap (λ (k : ℕ). p (f k)) q ∙ d) in let r =
              taken_once f (a + 1) n j (omega arith) (omega arith) e in omega arith
          | inr h ↦ let r = later (omega arith) t (omega arith) d e in omega arith
        ]

-- ---- the links

-- the next of p leaves the node where p arrives, and bears its face
abbrev pub meets : List ℤ → ℕ → ℕ → Bool
meets l n p = same (leaves (edge_map l n) (next (edge_map l n) (dart_at l p))) (arrives (edge_map l n) (dart_at l p))

abbrev pub keeps : List ℤ → ℕ → ℕ → Bool
keeps l n p = same (bears (edge_map l n) (next (edge_map l n) (dart_at l p))) (bears (edge_map l n) (dart_at l p))

-- the three conditions on links
abbrev pub linked : List ℤ → ℕ → Bool
linked l n = links_once (edge_map l n) && links_meet (edge_map l n) && rings_bear_one (edge_map l n)

-- the next q of p fits by the rows
abbrev pub fits : List ℕ → List ℕ → ℕ → ℕ → Bool
fits starts bears p q = same (get_or starts q 0) (get_or starts (reverse_of p) 0) && same (get_or bears q 0) (get_or bears p 0)

-- the marks after p positions: each is the next of one of them
pub record Marked (starts nexts bears : List ℕ) (p : ℕ) (marks : List ℕ) : Type 0 where
  pub room : length marks ≡ 4000
  pub fit : (k : ℕ) → k < p → fits starts bears k (get_or nexts k 0) ≡ true
  pub apart : (j k : ℕ) → j < k → k < p → get_or nexts j 0 ≡ get_or nexts k 0 → ⊥
  pub set_at : (k : ℕ) → k < p → get_or marks (get_or nexts k 0) 0 ≡ 1
  pub set_by : (q : ℕ) → get_or marks q 0 ≡ 1 → (k : ℕ) × (k < p) × (get_or nexts k 0 ≡ q)

false_left : (a b c : Bool) → a ≡ false → a && b && c ≡ false
false_left a b c e = rw e

false_middle : (a b c : Bool) → b ≡ false → a && b && c ≡ false
false_middle true b c e = rw e
false_middle false b c e = refl

false_right : (a b c : Bool) → c ≡ false → a && b && c ≡ false
false_right true true c e = e
false_right true false c e = refl
false_right false b c e = refl

module _ {l : List ℤ} {n : ℕ} (t : EdgeRows l n) where
  -- the test by the columns
  columns_fit : (p q : ℕ) → p < n * 2 → q < n * 2 → dart_at l q ≡ next (edge_map l n) (dart_at l p)
      → (same_z (side_cell l q 1) (side_cell l (reverse_of p) 1) && same_z (side_cell l q 5) (side_cell l p 5))
      ≡ (meets l n p && keeps l n p)
  columns_fit p q h k e =
      let m = edge_map l n in
      let a : same_z (side_cell l q 1) (side_cell l (reverse_of p) 1) ≡ meets l n p =
      ap₂ same_z (cell-leaves t q k ∙ ap (λ (d : Dart). pos (leaves m d)) e) (cell-arrives t p h)
      ∙ same-pos (leaves m (next m (dart_at l p))) (arrives m (dart_at l p)) in
      let b : same_z (side_cell l q 5) (side_cell l p 5) ≡ keeps l n p =
      ap₂ same_z (cell-bears t q k ∙ ap (λ (d : Dart). pos (bears m d)) e) (cell-bears t p h)
      ∙ same-pos (bears m (next m (dart_at l p))) (bears m (dart_at l p)) in
      ap₂ ◌&&◌ a b

  directed_distinct : Distinct (directed (edge_map l n))
  directed_distinct =
      subst (λ (r : List Dart). Distinct r) (sym (directed-table l n))
      (distinct_table (dart_at l) 0 (n * 2)
      (λ i j s u v e. let q = dart_injective t i j (omega arith) (omega arith) e in omega arith))

  pub has_position : (p : ℕ) → p < n * 2 → Memᴰ (dart_at l p) (directed (edge_map l n))
  has_position p h = subst (λ (r : List Dart). Memᴰ (dart_at l p) r) (sym (directed-table l n))
      (table_has (dart_at l) 0 (n * 2) p (omega arith) (omega arith))

  -- no two have one next: each is named once
  named_once : ((j k : ℕ) → j < k → k < n * 2 → next (edge_map l n) (dart_at l j) ≡ next (edge_map l n) (dart_at l k) → ⊥)
      → links_once (edge_map l n) ≡ true
  unfolding links_once
  named_once apart =
      subst (λ (r : List Dart). all_of (λ d. same (count_of (same_dart d) links) 1) r ≡ true) (sym (directed-table l n))
      (all_of-table (λ d. same (count_of (same_dart d) links) 1) (dart_at l) 0 (n * 2)
      (λ p s h. same_eq (count_of (same_dart (dart_at l p)) links) 1 (count_perm (same_dart (dart_at l p)) perm
      ∙ dart_once (directed m) directed_distinct (has_position p (omega arith)))))
    where
      m : Map
      m = edge_map l n

      links : List Dart
      links = map (next m) (directed m)

      into : (d : Dart) → Memᴰ d (directed m) → Memᴰ (next m d) (directed m)
      into d k =
          let r = position_in t d k in
          let q = next_there t r.0 r.1 in
          Memᴰ.cast (ap (next m) (sym r.2) ∙ sym q.2) (has_position q.0 q.1)

      injective : (c d : Dart) → Memᴰ c (directed m) → Memᴰ d (directed m) → next m c ≡ next m d → c ≡ d
      injective c d j k e =
          let p = position_in t c j in
          let q = position_in t d k in
          let f : next m (dart_at l p.0) ≡ next m (dart_at l q.0) = ap (next m) p.2 ∙ e
          ∙ ap (next m) (sym q.2) in
          elim (lt_or_ge p.0 q.0) [
            | inl g ↦ absurd (apart p.0 q.0 g q.1 f)
            | inr g ↦ elim (eq-or-lt_of_le g) [
              | inl i ↦ sym p.2 ∙ ap (dart_at l) (sym i) ∙ q.2
              | inr g ↦ absurd (apart q.0 p.0 g p.1 (sym f))
            ]
          ]

      perm : Permᴰ links (directed m)
      perm = perm_of_injective (next m) (directed m) directed_distinct into injective

  -- two have one next: it is named twice
  named_twice : (j k : ℕ) → j < k → k < n * 2 → next (edge_map l n) (dart_at l j) ≡ next (edge_map l n) (dart_at l k)
      → links_once (edge_map l n) ≡ false
  unfolding links_once
  named_twice j k s h e = not-true (all_of once (directed m)) never
    where
      m : Map
      m = edge_map l n

      links : List Dart
      links = map (next m) (directed m)

      once : Dart → Bool
      once d = same (count_of (same_dart d) links) 1

      by_position : links ≡ table (λ i. next m (dart_at l i)) 0 (n * 2)
      by_position = ap (map (next m)) (directed-table l n) ∙ map-table (next m) (dart_at l) 0 (n * 2)

      never : all_of once (directed m) ≡ true → ⊥
      never a =
          let q = next_there t k h in
          let one = same_true (count_of (same_dart (dart_at l q.0)) links) 1
          (all_table once (dart_at l) (n * 2) (ap (all_of once) (sym (directed-table l n)) ∙ a) q.0 q.1) in
          let f : ℕ → Dart = λ i. next m (dart_at l i) in
          let is : (i : ℕ) → f i ≡ dart_at l q.0 → same_dart (dart_at l q.0) (f i) ≡ true =
          λ i g. ap (same_dart (dart_at l q.0)) g ∙ same_dart_refl (dart_at l q.0) in
          let two = taken_twice (same_dart (dart_at l q.0)) f 0 (n * 2) j k (omega arith) s (omega arith)
          (is j (e ∙ sym q.2)) (is k (sym q.2)) in
          let c : count_of (same_dart (dart_at l q.0)) links
          ≡ count_of (same_dart (dart_at l q.0)) (table f 0 (n * 2)) =
          ap (count_of (same_dart (dart_at l q.0))) by_position in
          omega arith

-- ---- the pass

module _ {nodes : List ℤ} {r : ℕ} {l : List ℤ} {n : ℕ} {faces : List ℤ} {g : ℕ} (starts nexts bearing : List ℕ)
    (s : NodeRows nodes r) (t : EdgeRows l n) (u : FaceRows faces g)
    (named : RowsNamed node_width nodes r l 1 starts (n * 2)) (follow : NextsNamed l n nexts (n * 2))
    (borne : RowsNamed face_width faces g l 5 bearing (n * 2)) where
  next_is : (p : ℕ) → p < n * 2 → dart_at l (get_or nexts p 0) ≡ next (edge_map l n) (dart_at l p)
  next_is p h = (follow p h).1 ∙ link_is t p h

  fits_is : (p : ℕ) → p < n * 2 → fits starts bearing p (get_or nexts p 0) ≡ (meets l n p && keeps l n p)
  fits_is p h =
      let q = get_or nexts p 0 in
      let k = (follow p h).0 in
      ap₂ ◌&&◌ (rows_same (node_rows_rising s) l 1 starts named q (reverse_of p) k (reverse_below n p h))
      (rows_same (face_rows_rising u) l 5 bearing borne q p k h)
      ∙ columns_fit t p q h k (next_is p h)

  -- every position is passed
  pub all_linked : {marks : List ℕ} → Marked starts nexts bearing (n * 2) marks → linked l n ≡ true
  unfolding links_meet rings_bear_one
  all_linked w =
      let m = edge_map l n in
      let by_position : (test : Dart → Bool) → ((p : ℕ) → p < n * 2 → test (dart_at l p) ≡ true)
      → all_of test (directed m) ≡ true = λ test h.
      ap (all_of test) (directed-table l n) ∙ all_of-table test (dart_at l) 0 (n * 2) (λ p s g. h p (omega arith)) in
      let fit : (p : ℕ) → p < n * 2 → meets l n p && keeps l n p ≡ true = λ p h. sym (fits_is p h) ∙ w.fit p h in
      rw (
        named_once t (λ j k d h e. w.apart j k d h
            (dart_injective t (get_or nexts j 0) (get_or nexts k 0) (follow j (omega arith)).0 (follow k h).0
            (next_is j (omega arith) ∙ e ∙ sym (next_is k h)))),
        by_position (λ d. same (leaves m (next m d)) (arrives m d))
            (λ p h. and_left (meets l n p) (keeps l n p) (fit p h)),
        by_position (λ d. same (bears m (next m d)) (bears m d))
            (λ p h. and_right (meets l n p) (keeps l n p) (fit p h)),
      )

  -- one that does not fit
  unfit : (p : ℕ) → p < n * 2 → fits starts bearing p (get_or nexts p 0) ≡ false → linked l n ≡ false
  unfolding links_meet rings_bear_one
  unfit p h d =
      let m = edge_map l n in
      let e = sym (fits_is p h) ∙ d in
      let at : (test : Dart → Bool) → test (dart_at l p) ≡ false → all_of test (directed m) ≡ false = λ test f.
      not-true (all_of test (directed m))
      (λ a. false≢true (sym f ∙ all_table test (dart_at l) (n * 2)
      (ap (all_of test) (sym (directed-table l n)) ∙ a) p h)) in
      elim (which (meets l n p)) [
        | inl f ↦ false_right (links_once m) (links_meet m) (rings_bear_one m)
            (at (λ d. same (bears m (next m d)) (bears m d)) (rw f at e))
        | inr f ↦ false_middle (links_once m) (links_meet m) (rings_bear_one m)
            (at (λ d. same (leaves m (next m d)) (arrives m d)) f)
      ]

  -- its next is named already
  named-before : {p : ℕ} {marks : List ℕ} → Marked starts nexts bearing p marks → p < n * 2
      → get_or marks (get_or nexts p 0) 0 ≡ 1 → linked l n ≡ false
  named-before {p} w h e =
      let m = edge_map l n in
      let k = w.set_by (get_or nexts p 0) e in
      let below = k.1 in
      false_left (links_once m) (links_meet m) (rings_bear_one m)
      (named_twice t k.0 p below h (sym (next_is k.0 (omega arith)) ∙ ap (dart_at l) k.2 ∙ next_is p h))

-- its next is named now
named_now : {starts nexts bearing : List ℕ} {p : ℕ} {marks : List ℕ} → Marked starts nexts bearing p marks
    → get_or nexts p 0 < 4000 → (get_or marks (get_or nexts p 0) 0 ≡ 1 → ⊥) → fits starts bearing p (get_or nexts p 0) ≡ true
    → Marked starts nexts bearing (p + 1) (set marks (get_or nexts p 0) 1)
named_now {starts} {nexts} {bearing} {p} {marks} w small new fit =
    let q = get_or nexts p 0 in
    record {
      room = length-set marks q 1 ∙ w.room;
      fit = below_more (λ k. fits starts bearing k (get_or nexts k 0) ≡ true) p w.fit fit;
      apart = λ i j s g e. elim (equal? j p) [
        | inl f ↦ new (ap (λ (x : ℕ). get_or marks x 0) (ap (λ (x : ℕ). get_or nexts x 0) (sym f) ∙ sym e)
            ∙ w.set_at i (omega arith))
        | inr f ↦ w.apart i j s (omega arith) e
      ];
      set_at = λ k h. elim (equal? (get_or nexts k 0) q) [
        | inl f ↦ ap (λ (x : ℕ). get_or (set marks q 1) x 0) f ∙ get_or-set_same marks q 1 0 (omega (arith, w.room))
        | inr f ↦ get_or-set_other marks q (get_or nexts k 0) 1 0 f ∙ w.set_at k (elim (equal? k p) [
          | inl a ↦ absurd (f (ap (λ (x : ℕ). get_or nexts x 0) a))
          | inr a ↦ omega arith
        ])
      ];
      set_by = λ j e. elim (equal? j q) [
        | inl f ↦ (p, omega arith, sym f)
        | inr f ↦ let k = w.set_by j (sym (get_or-set_other marks q j 1 0 f) ∙ e) in let s = k.1 in
            (k.0, omega arith, k.2)
      ];
    }

-- a step: p, whose reverse is r, is refused where its next is named already or does not fit; else its next is named now
module _ {starts nexts bearing : List ℕ} {p : ℕ} {marks : List ℕ} (w : Marked starts nexts bearing p marks) {r : ℕ}
    (back : reverse_of p ≡ r) {fit : Bool}
    (is : fit ≡ (same (get_or starts (get_or nexts p 0) 0) (get_or starts r 0)
    && same (get_or bearing (get_or nexts p 0) 0) (get_or bearing p 0))) where
  fit_is : fit ≡ fits starts bearing p (get_or nexts p 0)
  fit_is = rw back is

  pub step_passed : get_or nexts p 0 < 4000 → eqb (get_or marks (get_or nexts p 0) 0) 1 || not fit ≡ false
      → Marked starts nexts bearing (p + 1) (set marks (get_or nexts p 0) 1)
  step_passed small e =
      let m = get_or marks (get_or nexts p 0) 0 in
      let b = or-false (eqb m 1) (not fit) e in
      named_now w small (eqb-false m 1 b.0) (sym fit_is ∙ flipped fit false b.1)

  pub step_refused : {nodes : List ℤ} {c : ℕ} {l : List ℤ} {n : ℕ} {faces : List ℤ} {g : ℕ} → NodeRows nodes c
      → EdgeRows l n → FaceRows faces g → RowsNamed node_width nodes c l 1 starts (n * 2) → NextsNamed l n nexts (n * 2)
      → RowsNamed face_width faces g l 5 bearing (n * 2) → p < n * 2 → eqb (get_or marks (get_or nexts p 0) 0) 1 || not fit
      ≡ true → linked l n ≡ false
  step_refused s t u named follow borne h e =
      let m = get_or marks (get_or nexts p 0) 0 in
      elim (or-true (eqb m 1) (not fit) e) [
        | inl d ↦ named-before starts nexts bearing s t u named follow borne w h (eqb-true m 1 d)
        | inr d ↦ unfit starts nexts bearing s t u named follow borne p h (sym fit_is ∙ flipped fit true d)
      ]

-- nothing is marked at first
pub zeros : (n i : ℕ) → get_or {A = ℕ} (replicate n 0) i 0 ≡ 0
zeros zero i = refl
zeros (suc n) zero = refl
zeros (suc n) (suc i) = zeros n i

pub none_marked : (starts nexts bearing : List ℕ) → Marked starts nexts bearing 0 (replicate 4000 0)
none_marked starts nexts bearing =
    record {
      room = length-replicate {A = ℕ} 4000 0;
      fit = λ k h. absurd (omega arith);
      apart = λ j k s h e. omega arith;
      set_at = λ k h. absurd (omega arith);
      set_by = λ q e. let z = zeros 4000 q in absurd (omega arith);
    }
