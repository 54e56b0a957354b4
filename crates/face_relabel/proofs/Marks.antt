-- The rings of the old face marked in the order of positions: the first unmarked one of a ring is its lowest, so its
-- row's start node tells the side. Assumes nothing.
use mathlib.Core.Path.{◌≡◌, refl, sym, ap, ap₂, ◌∙◌, subst}
use mathlib.Core.Logic.{◌⊎◌, inl, inr}
use mathlib.Core.Bool.{Bool, true, false, cond, true≢false}
use mathlib.Core.List.{List, map, Memᴰ}
use Prim.Native.Nat.{ℕ, suc, ◌+◌, ◌*◌, ◌/◌, ◌≤◌, ◌<◌}
use native.Mathlib.Omega.{arith}
use lib.IntN.{ℤ, pos}
use lib.ListN.{length, get_or}
use borrow.Author.Tests.{ltb-true}
use lib.Signed.{lt_z}
use Rattle.lists.specs.Tests.{same}
use Rattle.lists.specs.Members.{Distinct}
use Rattle.lists.proofs.Bools.{which, equal?, same_true, same_eq}
use Rattle.lists.proofs.Scans.{table_has}
use Rattle.lists.proofs.Rising.{rising, rising_distinct}
use Rattle.planar_maps.specs.Map.{Dart}
use Rattle.tables.proofs.Order.{rise, lt_or_ge}
use Rattle.map.specs.Limits.{edge_width, last_number}
use Rattle.map.specs.Rows.{Edge, edge}
use Rattle.map.specs.Darts.{directed, ring, among, lowest_edge}
use Rattle.map_laws.proofs.Rings.{among_has}
use Rattle.map_rows.specs.Rows.{EdgeRows, edges_of, edge_map, edge_at}
use Rattle.map_rows.proofs.Rows.{edge_rows_rising}
use Rattle.darts.specs.Positions.{dart_at, side_cell}
use Rattle.darts.proofs.Positions.{directed-table, cells_of_lem, edge_of, position_in, cell-bears}
use Rattle.face_relabel.specs.Sharing.{Ringed, Whole, ring_encloses, mark_of, start_of, ring_mark}
use Rattle.face_relabel.proofs.Faces.{first_mark}
use Rattle.face_relabel.proofs.Rings.{lowest_here, ring_self, ring_in, ring_bears_lem, ring-both, ring_lowest}

-- a mark is not 0
some_mark : (b : Bool) → ◌≡◌ {A = ℕ} (cond b 1 2) 0 → ⊥
some_mark true e = omega arith
some_mark false e = omega arith

-- position q lies on the ring of p
abbrev on : List ℤ → ℕ → ℕ → ℕ → Bool
on l e p q = among (ring (edge_map l e) (dart_at l p)) (dart_at l q)

-- the marks with positions below p visited, of which those of marks₀ were set before
module _ (l : List ℤ) (e : ℕ) (nodes : List ℤ) (n ref : ℕ) (old : ℤ) where
  abbrev target : List ℕ → ℕ → ℕ
  target marks₀ q = cond (same (get_or marks₀ q 0) 0) (ring_mark nodes n l e ref q) (get_or marks₀ q 0)

  pub record Marking (marks₀ marks : List ℕ) (p : ℕ) : Type 0 where
    pub size : length marks ≡ length marks₀
    pub each : (q : ℕ) → q < e * 2 → ((get_or marks q 0 ≡ 0) × (get_or marks₀ q 0 ≡ 0)) ⊎ (get_or marks q 0 ≡ target marks₀ q)
    pub done : (q : ℕ) → q < e * 2 → q < p → side_cell l q 5 ≡ old → get_or marks q 0 ≡ target marks₀ q
    pub whole : Whole l e marks

module _ {l : List ℤ} {e : ℕ} (t : EdgeRows l e) where
  numbers_once : Distinct (map (λ r. r.number) (edges_of l e))
  numbers_once = let ns = map (λ r. r.number) (edges_of l e) in
      rising_distinct ns (rising 1 (suc last_number) ns t.rising).rises

  dart_in : (p : ℕ) → p < e * 2 → Memᴰ (dart_at l p) (directed (edge_map l e))
  dart_in p h = subst (λ (r : List Dart). Memᴰ (dart_at l p) r) (sym (directed-table l e))
      (table_has (dart_at l) 0 (e * 2) p (omega arith) (omega arith))

  number_rise : (i j : ℕ) → i < j → j < e → (edge_at l i).number < (edge_at l j).number
  number_rise i j h k =
      let r = rise (λ i. get_or l (i * edge_width) (pos 0)) e (edge_rows_rising t).rising i j h k in
      ltb-true (edge_at l i).number (edge_at l j).number
      (ap₂ lt_z (sym (cells_of_lem t i (omega arith)).number) (sym (cells_of_lem t j k).number) ∙ r)

module _ {l : List ℤ} {e : ℕ} (t : EdgeRows l e) (g : Ringed l e) where
  module _ (p q : ℕ) (hp : p < e * 2) (on-it : on l e p q ≡ true) where
    pub face_on : q < e * 2 → side_cell l q 5 ≡ side_cell l p 5
    face_on hq =
        cell-bears t q hq
        ∙ ap pos (ring_bears_lem (edge_map l e) (numbers_once t) g.once g.«one_face» (dart_at l p) (dart_at l q)
        (dart_in t p hp) on-it)
        ∙ sym (cell-bears t p hp)

    pub both_on : (r : ℕ) → r < e * 2 → on l e r q ≡ on l e r p
    both_on r hr = ring-both (edge_map l e) (numbers_once t) g.once g.«one_face» (dart_at l p) (dart_at l q)
        (dart_in t p hp) on-it (dart_at l r) (dart_in t r hr)

    lowest_on : lowest_edge (dart_at l q).edge (ring (edge_map l e) (dart_at l q))
        ≡ lowest_edge (dart_at l p).edge (ring (edge_map l e) (dart_at l p))
    lowest_on = ring_lowest (edge_map l e) (numbers_once t) g.once g.«one_face» (dart_at l p) (dart_at l q)
        (dart_in t p hp) on-it

  on_self : (p : ℕ) → p < e * 2 → on l e p p ≡ true
  on_self p hp = ring_self (edge_map l e) (numbers_once t) g.once g.«one_face» (dart_at l p) (dart_in t p hp)

  -- the two sides of the new edge are marked whole
  pub whole_first : (ref across : ℕ) → ref < e * 2 → across < e * 2 → (marks : List ℕ) → e * 2 ≤ length marks
      → ((q : ℕ) → q < e * 2 → get_or marks q 0 ≡ first_mark l e ref across q) → Whole l e marks
  whole_first ref across hr ha marks room first =
      record {
        room = room;
        alike = λ q r hq hk o z. first r hk
            ∙ (λ i. cond (both_on q r hq o ref hr i) 1 (cond (both_on q r hq o across ha i) 2 0)) ∙ sym (first q hq)
            ∙ z;
      }

  -- the first position of a ring has its lowest edge
  lowest_at : (p : ℕ) → p < e * 2 → ((q : ℕ) → q < e * 2 → on l e p q ≡ true → p ≤ q)
      → lowest_edge (dart_at l p).edge (ring (edge_map l e) (dart_at l p)) ≡ (edge_at l (p / 2)).number
  lowest_at p hp first = lowest_here (dart_at l p).edge (ring (edge_map l e) (dart_at l p)) least
    where
      least : (x : Dart) → Memᴰ x (ring (edge_map l e) (dart_at l p)) → (edge_at l (p / 2)).number ≤ x.edge
      least x k =
          let have = among_has (ring (edge_map l e) (dart_at l p)) k in
          let q = position_in t x (ring_in (edge_map l e) (numbers_once t) g.once g.«one_face» (dart_at l p) x
          (dart_in t p hp) have) in
          let hq = q.1 in
          let le = first q.0 hq (ap (among (ring (edge_map l e) (dart_at l p))) q.2 ∙ have) in
          let same-edge : (edge_at l (q.0 / 2)).number ≡ x.edge = ap (λ (d : Dart). d.edge) q.2 in
          elim (lt_or_ge (p / 2) (q.0 / 2)) [
            | inl lt ↦ omega (arith, number_rise t (p / 2) (q.0 / 2) lt (omega arith))
            | inr ge ↦ let f : p / 2 ≡ q.0 / 2 = omega arith in let f' = ap (λ (i : ℕ). (edge_at l i).number) f in
                omega arith
          ]

  module _ (nodes : List ℤ) (n : ℕ) (ref : ℕ) (old : ℤ) where
    target_some : (marks₀ : List ℕ) (q : ℕ) → target l e nodes n ref old marks₀ q ≡ 0 → ⊥
    target_some marks₀ q = go (same (get_or marks₀ q 0) 0) refl
      where
        go : (b : Bool) → same (get_or marks₀ q 0) 0 ≡ b → cond b (ring_mark nodes n l e ref q) (get_or marks₀ q 0) ≡ 0 → ⊥
        go true f z = some_mark (ring_encloses l e ref
            (start_of nodes n (edge (edge_map l e) (lowest_edge (dart_at l q).edge (ring (edge_map l e) (dart_at l q)))))) z
        go false f z = true≢false (sym (same_eq (get_or marks₀ q 0) 0 z) ∙ f)

    pub marking_start : (marks₀ : List ℕ) → Whole l e marks₀ → Marking l e nodes n ref old marks₀ marks₀ 0
    marking_start marks₀ w = record { size = refl; each = λ q h. go q; done = λ q h k. absurd (omega arith); whole = w }
      where
        go : (q : ℕ) → ((get_or marks₀ q 0 ≡ 0) × (get_or marks₀ q 0 ≡ 0))
            ⊎ (get_or marks₀ q 0 ≡ target l e nodes n ref old marks₀ q)
        go q = elim (which (same (get_or marks₀ q 0) 0)) [
          | inl f ↦ let z = same_true (get_or marks₀ q 0) 0 f in
              inl (z, z)
          | inr f ↦ inr (rw f refl)
        ]

    module _ (marks₀ marks : List ℕ) (p : ℕ) (h : Marking l e nodes n ref old marks₀ marks p) (hp : p < e * 2) where
      -- p bears another face, or is marked
      pub marking_other : (side_cell l p 5 ≡ old → ⊥) → Marking l e nodes n ref old marks₀ marks (p + 1)
      marking_other ne = record { size = h.size; each = h.each; done = go; whole = h.whole }
        where
          go : (q : ℕ) → q < e * 2 → q < p + 1 → side_cell l q 5 ≡ old → get_or marks q 0
              ≡ target l e nodes n ref old marks₀ q
          go q hq k is = elim (equal? q p) [
            | inl f ↦ absurd
                (ne (ap (λ (j : ℕ). side_cell l j 5) (sym f) ∙ is))
            | inr f ↦ h.done q hq (omega arith) is
          ]

      pub marking_marked : (get_or marks p 0 ≡ 0 → ⊥) → Marking l e nodes n ref old marks₀ marks (p + 1)
      marking_marked ne = record { size = h.size; each = h.each; done = go; whole = h.whole }
        where
          here : get_or marks p 0 ≡ target l e nodes n ref old marks₀ p
          here = elim (h.each p hp) [ inl z ↦ absurd (ne z.0) | inr k ↦ k ]

          go : (q : ℕ) → q < e * 2 → q < p + 1 → side_cell l q 5 ≡ old → get_or marks q 0
              ≡ target l e nodes n ref old marks₀ q
          go q hq k is = elim (equal? q p) [
            | inl f ↦ subst
                (λ (j : ℕ). get_or marks j 0 ≡ target l e nodes n ref old marks₀ j) (sym f) here
            | inr f ↦ h.done q hq (omega arith) is
          ]

      -- the ring of p is marked
      module _ (is : side_cell l p 5 ≡ old) (none : get_or marks p 0 ≡ 0) (v : ℕ)
          (ev : v ≡ mark_of l e ref (start_of nodes n (edge_at l (p / 2)))) (marks' : List ℕ)
          (size : length marks' ≡ length marks)
          (put : (q : ℕ) → q < e * 2 → get_or marks' q 0 ≡ cond (on l e p q) v (get_or marks q 0)) where
        free : (q : ℕ) → q < e * 2 → on l e p q ≡ true → get_or marks q 0 ≡ 0
        free q hq o = h.whole.alike p q hp hq o none

        first : (q : ℕ) → q < e * 2 → on l e p q ≡ true → p ≤ q
        first q hq o =
            elim (lt_or_ge q p) [
              | inl lt ↦ absurd (target_some marks₀ q (sym (h.done q hq lt (face_on p q hp o hq ∙ is)) ∙ free q hq o))
              | inr ge ↦ ge
            ]

        v_is : v ≡ ring_mark nodes n l e ref p
        v_is =
            ev ∙ ap (λ (r : Edge). mark_of l e ref (start_of nodes n r))
            (sym (edge_of t (p / 2) (omega arith)) ∙ ap (edge (edge_map l e)) (sym (lowest_at p hp first)))

        hit : (q : ℕ) → q < e * 2 → on l e p q ≡ true → get_or marks' q 0 ≡ target l e nodes n ref old marks₀ q
        hit q hq o =
            let same-mark : ring_mark nodes n l e ref q ≡ ring_mark nodes n l e ref p =
            ap (λ (k : ℕ). mark_of l e ref (start_of nodes n (edge (edge_map l e) k))) (lowest_on p q hp o) in
            elim (h.each q hq) [
              | inl z ↦ put q hq ∙ ap (λ (b : Bool). cond b v (get_or marks q 0)) o ∙ v_is ∙ sym same-mark
                  ∙ sym (ap (λ (b : Bool). cond b (ring_mark nodes n l e ref q) (get_or marks₀ q 0))
                  (same_eq (get_or marks₀ q 0) 0 z.1))
              | inr k ↦ absurd (target_some marks₀ q (sym k ∙ free q hq o))
            ]

        miss : (q : ℕ) → q < e * 2 → on l e p q ≡ false → get_or marks' q 0 ≡ get_or marks q 0
        miss q hq o = put q hq ∙ ap (λ (b : Bool). cond b v (get_or marks q 0)) o

        each' : (q : ℕ) → q < e * 2 → ((get_or marks' q 0 ≡ 0) × (get_or marks₀ q 0 ≡ 0))
            ⊎ (get_or marks' q 0 ≡ target l e nodes n ref old marks₀ q)
        each' q hq =
            elim (which (on l e p q)) [
              | inl o ↦ inr (hit q hq o)
              | inr o ↦ elim (h.each q hq) [ inl z ↦ inl (miss q hq o ∙ z.0, z.1) | inr k ↦ inr (miss q hq o ∙ k) ]
            ]

        done' : (q : ℕ) → q < e * 2 → q < p + 1 → side_cell l q 5 ≡ old → get_or marks' q 0
            ≡ target l e nodes n ref old marks₀ q
        done' q hq k old-face =
            elim (which (on l e p q)) [
              | inl o ↦ hit q hq o
              | inr o ↦
                  elim (equal? q p) [
                    | inl f ↦ hit q hq (ap (on l e p) f ∙ on_self p hp)
                    | inr f ↦ miss q hq o ∙ h.done q hq (omega arith) old-face
                  ]
            ]

        alike' : (q r : ℕ) → q < e * 2 → r < e * 2 → on l e q r ≡ true → get_or marks' q 0 ≡ 0 → get_or marks' r 0 ≡ 0
        alike' q r hq hr o z =
            elim (which (on l e p q)) [
              | inl c ↦ absurd (target_some marks₀ q (sym (hit q hq c) ∙ z))
              | inr c ↦ miss r hr (both_on q r hq o p hp ∙ c) ∙ h.whole.alike q r hq hr o (sym (miss q hq c) ∙ z)
            ]

        pub marking_ring : Marking l e nodes n ref old marks₀ marks' (p + 1)
        marking_ring = record {
          size = size ∙ h.size;
          each = each';
          done = done';
          whole = record { room = let w = h.whole.room in omega arith; alike = alike' };
        }
