-- The sides of nodes and directed edges, in the terms of the tables. Assumes nothing.
use Rattle.std.specs.Prelude.{Some, None}
use mathlib.Core.Path.{◌≡◌, refl, sym, ap, ◌∙◌}
use mathlib.Core.Bool.{Bool, true, false, cond, ◌&&◌, true≢false, false≢true}
use mathlib.Core.Logic.{inl, inr}
use mathlib.Core.List.{List}
use mathlib.Core.Option
use mathlib.Core.Option.{Option, none}
use Prim.Native.Nat.{ℕ, zero, suc, ◌+◌, ◌*◌, ◌≤◌, ◌<◌}
use native.Mathlib.Omega.{arith}
use lib.Dec.{T, lit<}
use lib.IntN.{ℤ, pos, negsuc, nat_abs}
use lib.ListN.{length, get_or, set, length-set}
use lib.Seq.{get_or-set_other, set-get_or}
use lib.Signed.{non_neg, le_z, pos-nat_abs}
use Rattle.lists.specs.Tests.{same}
use Rattle.lists.specs.Scans.{all_of, is_some}
use Rattle.lists.specs.Tables.{sweep, place}
use Rattle.lists.proofs.Bools.{which, same_eq, same_false}
use Rattle.plane.specs.declared.Point.{Point}
use Rattle.plane.specs.Points.{origin}
use Rattle.curves.specs.Curves.{point, coordinate}
use Rattle.curves.proofs.Runs.{and_left}
use Rattle.planar_maps.specs.Map.{Dart}
use Rattle.map.specs.Limits.{node_width, edge_width}
use Rattle.map.specs.Rows.{Node, Edge, node_of, node, edge, has_node}
use Rattle.tables.specs.Tables.{same_z, column, row_at, cell}
use Rattle.map.specs.Darts.{next, bears, course, ring, among, lowest_edge}
use Rattle.map.specs.Faces as faces
use Rattle.map.specs.Edits.{side_of_point, side_of_ring, side_of_dart}
use Rattle.map_laws.proofs.Rings.{ring-same}
use Rattle.map_rows.specs.Rows.{NodeRow, node_at, node_map, edge_at, edge_map}
use Rattle.tables.proofs.Order.{is_same, not_same, same_is}
use Rattle.tables.proofs.Rows.{row_cell, all_table}
use Rattle.map_rows.proofs.Rows.{edges_table}
use Rattle.map_rows.proofs.Lookups.{node_found, node_missing}
use Rattle.darts.specs.Positions.{dart_at, side_place, side_cell}
use Rattle.darts.proofs.Positions.{cells_of_lem, cell-bears}
use Rattle.face_relabel.specs.declared.Sides.{Sides}
use Rattle.form_links.specs.Drawn.{drawn_map}
use Rattle.face_relabel.specs.Sharing.{ShareableFace, ring_encloses, start_of, ring_mark, shares_of, node_shared}
use Rattle.face_relabel.specs.Sharing.{side_shared, edge_shared}

-- ---- a node row that is as it was

module _ (l t : List ℤ) (i : ℕ) (kept : (j : ℕ) → i * node_width ≤ j → get_or t j (pos 0) ≡ get_or l j (pos 0)) where
  cell_kept : (k : ℕ) → k < node_width → cell (row_at node_width t i) k ≡ cell (row_at node_width l i) k
  cell_kept k h = row_cell node_width t i k h ∙ kept (i * node_width + k) (omega arith) ∙ sym (row_cell node_width l i k h)

  pub row_kept : length t ≡ length l → NodeRow l i → NodeRow t i
  row_kept size r =
      let a = cell_kept 0 (lit< tt) in
      let b = cell_kept 1 (lit< tt) in
      let c = cell_kept 2 (lit< tt) in
      let d = cell_kept 3 (lit< tt) in
      record {
        fits = let f = r.fits in omega arith;
        ranges = (λ j. non_neg (a j) && coordinate (b j) && coordinate (c j) && le_z (negsuc 0) (d j)) ∙ r.ranges;
      }

  point_kept : (node_at t i).at ≡ (node_at l i).at
  unfolding node_of
  point_kept = λ j. point (cell_kept 1 (lit< tt) j) (cell_kept 2 (lit< tt) j)

-- ---- sides

-- the start node of edge row i, looked up
module _ (ns : List ℤ) (n : ℕ) (l : List ℤ) (e : ℕ) (s : Sides) (h : ShareableFace ns n l e s) (i : ℕ)
    (hi : i < e) where
  start_cell : get_or l (i * edge_width + 1) (pos 0) ≡ pos (edge_at l i).start
  start_cell = (cells_of_lem h.edges i hi).start

  pub start_found : (k : ℕ) → place (same_z (get_or l (i * edge_width + 1) (pos 0))) 0 (column node_width ns n) ≡ Some k
      → (k < n) × (start_of ns n (edge_at l i) ≡ (node_at ns k).at)
  unfolding node
  start_found k f =
      let r = node_found ns n h.nodes.ranges (pos (edge_at l i).start) k
      (ap (λ (z : ℤ). place (same_z z) 0 (column node_width ns n)) (sym start_cell) ∙ f) in (
        r.0,
        ap (λ (o : Option Node). (Option.get_or o (record { number = 0; at = origin; face = none })).at) r.2,
      )

  pub start_there : place (same_z (get_or l (i * edge_width + 1) (pos 0))) 0 (column node_width ns n) ≡ None → ⊥
  start_there f =
      let none = node_missing ns n h.nodes.ranges (edge_at l i).start
      (ap (λ (z : ℤ). place (same_z z) 0 (column node_width ns n)) (sym start_cell) ∙ f) in
      let test : Edge → Bool = λ r. has_node (node_map ns n) r.start && has_node (node_map ns n) r.end in
      let both = all_table test (edge_at l) e (ap (all_of test) (sym (edges_table l e)) ∙ h.ends) i hi in
      false≢true (sym (ap is_some none) ∙ and_left (has_node (node_map ns n) (edge_at l i).start)
      (has_node (node_map ns n) (edge_at l i).end) both)

-- ---- numbers that are not negative

sides : (b : Bool) (i o : ℤ) → T (non_neg i) → T (non_neg o) → cond b i o ≡ pos (cond b (nat_abs i) (nat_abs o))
sides true i o h k = sym (pos-nat_abs i h)
sides false i o h k = sym (pos-nat_abs o k)

-- marks 1 and 2 before, and 0 where the mark is w's
marked : (r o w : Bool) (i j : ℕ) → cond
    (same (cond (same (cond r 1 (cond o 2 0)) 0) (cond w 1 2) (cond r 1 (cond o 2 0))) 1) i j
    ≡ cond r i (cond o j (cond w i j))
unfolding same
marked true o w i j = refl
marked false true w i j = refl
marked false false true i j = refl
marked false false false i j = refl

-- the mark of position p by the two sides of the new edge
abbrev pub first_mark : List ℤ → ℕ → ℕ → ℕ → ℕ → ℕ
first_mark l e ref across p = cond (among (ring (edge_map l e) (dart_at l ref)) (dart_at l p)) 1
    (cond (among (ring (edge_map l e) (dart_at l across)) (dart_at l p)) 2 0)

-- ---- the map of nodes and edges has the edges' rings

module _ (ns : List ℤ) (n : ℕ) (l : List ℤ) (e : ℕ) where
  ring-drawn : (d : Dart) → ring (drawn_map ns n l e) d ≡ ring (edge_map l e) d
  unfolding next edge
  ring-drawn = ring-same (drawn_map ns n l e) (edge_map l e) (λ d. refl) refl

  module _ (s : Sides) (h : ShareableFace ns n l e s) where
    -- the number of a point's side
    pub point_side : (across : ℕ) (q : Point) → cond (ring_encloses l e s.ring q) s.inside s.other
        ≡ pos (side_of_point (drawn_map ns n l e) (shares_of ns n l e s across) q)
    unfolding side_of_point faces.encloses course edge
    point_side across q =
        sides (ring_encloses l e s.ring q) s.inside s.other h.inside h.other
        ∙ ap (λ (r : List Dart). pos (cond (faces.encloses (edge_map l e) r q) (nat_abs s.inside)
        (nat_abs s.other))) (sym (ring-drawn (dart_at l s.ring)))

    module _ (across p : ℕ) (hp : p < e * 2) where
      abbrev start : Point
      start = start_of ns n (edge (edge_map l e) (lowest_edge (dart_at l p).edge (ring (edge_map l e) (dart_at l p))))

      abbrev of_old : ℕ
      of_old =
          cond (among (ring (edge_map l e) (dart_at l s.ring)) (dart_at l p)) (nat_abs s.inside)
          (cond (among (ring (edge_map l e) (dart_at l across)) (dart_at l p)) (nat_abs s.other)
          (cond (ring_encloses l e s.ring start) (nat_abs s.inside) (nat_abs s.other)))

      -- the face that it comes to bear
      dart_side : side_of_dart (drawn_map ns n l e) (shares_of ns n l e s across) (dart_at l p)
          ≡ cond (same (bears (edge_map l e) (dart_at l p)) (nat_abs s.old)) of_old (bears (edge_map l e) (dart_at l p))
      unfolding side_of_dart side_of_ring side_of_point faces.encloses course bears edge node
      dart_side =
          let side : List Dart → List Dart → List Dart → ℕ = λ r o w.
          cond (same (bears (edge_map l e) (dart_at l p)) (nat_abs s.old))
          (cond (among r (dart_at l p)) (nat_abs s.inside)
          (cond (among o (dart_at l p)) (nat_abs s.other)
          (cond (faces.encloses (edge_map l e) r (start_of ns n (edge (edge_map l e) (lowest_edge (dart_at l p).edge w))))
          (nat_abs s.inside) (nat_abs s.other))))
          (bears (edge_map l e) (dart_at l p)) in
          λ i. side (ring-drawn (dart_at l s.ring) i) (ring-drawn (dart_at l across) i) (ring-drawn (dart_at l p) i)

      old_is : s.old ≡ pos (nat_abs s.old)
      old_is = sym (pos-nat_abs s.old h.old)

      -- it keeps another face
      pub keeps_face : (side_cell l p 5 ≡ s.old → ⊥) → side_cell l p 5
          ≡ pos (side_of_dart (drawn_map ns n l e) (shares_of ns n l e s across) (dart_at l p))
      keeps_face ne =
          let c = cell-bears h.edges p hp in
          let b = bears (edge_map l e) (dart_at l p) in
          let apart = same_false b (nat_abs s.old) (λ q. ne (c ∙ ap pos q ∙ sym old_is)) in
          c ∙ sym (ap pos (dart_side ∙ ap (λ (x : Bool). cond x of_old b) apart))

      pub takes_side : (v : ℕ) → side_cell l p 5 ≡ s.old → v
          ≡ cond (same (first_mark l e s.ring across p) 0) (ring_mark ns n l e s.ring p)
          (first_mark l e s.ring across p)
          → cond (same v 1) s.inside s.other
          ≡ pos (side_of_dart (drawn_map ns n l e) (shares_of ns n l e s across) (dart_at l p))
      takes_side v is ev =
          let c = cell-bears h.edges p hp in
          let b = bears (edge_map l e) (dart_at l p) in
          let old = same_eq b (nat_abs s.old) (ap nat_abs (sym c ∙ is)) in
          sides (same v 1) s.inside s.other h.inside h.other
          ∙ ap pos (ap (λ (k : ℕ). cond (same k 1) (nat_abs s.inside) (nat_abs s.other)) ev
          ∙ marked (among (ring (edge_map l e) (dart_at l s.ring)) (dart_at l p))
          (among (ring (edge_map l e) (dart_at l across)) (dart_at l p)) (ring_encloses l e s.ring start)
          (nat_abs s.inside) (nat_abs s.other) ∙ sym (dart_side ∙ ap (λ (x : Bool). cond x of_old b) old))

-- ---- a turn over node row i, whose numbers are those of ns still

module _ (ns : List ℤ) (n : ℕ) (l : List ℤ) (e : ℕ) (s : Sides) (h : ShareableFace ns n l e s) (t : List ℤ)
    (i : ℕ) where
  pub node_hit : get_or t (i * node_width + 3) (pos 0) ≡ s.old
      → ((j : ℕ) → i * node_width ≤ j → get_or t j (pos 0) ≡ get_or ns j (pos 0)) → (q : Point) → q ≡ (node_at t i).at
      → (v : ℤ)
      → v ≡ cond (ring_encloses l e s.ring q) s.inside s.other
      → set t (i * node_width + 3) v ≡ node_shared ns n l e s t i
  node_hit is kept q eq v ev =
      let at : q ≡ (node_at ns i).at = eq ∙ point_kept ns t i kept in
      let side : Point → ℕ = side_of_point (drawn_map ns n l e) (shares_of ns n l e s s.ring) in
      ap (set t (i * node_width + 3)) (ev ∙ point_side ns n l e s h s.ring q ∙ ap (λ (p : Point). pos (side p)) at)
      ∙ sym (ap (λ (b : Bool). cond b (set t (i * node_width + 3) (pos (side (node_at ns i).at))) t)
      (is_same (get_or t (i * node_width + 3) (pos 0)) s.old is))

  pub node_miss : (get_or t (i * node_width + 3) (pos 0) ≡ s.old → ⊥) → t ≡ node_shared ns n l e s t i
  node_miss ne = rw (not_same (get_or t (i * node_width + 3) (pos 0)) s.old ne)

  node_either : (b : Bool) (v : ℤ) → length (cond b (set t (i * node_width + 3) v) t) ≡ length t
  node_either true v = length-set t (i * node_width + 3) v
  node_either false v = refl

  node-later : (b : Bool) (v : ℤ) (j : ℕ) → (i + 1) * node_width ≤ j
      → get_or (cond b (set t (i * node_width + 3) v) t) j (pos 0) ≡ get_or t j (pos 0)
  node-later true v j k = get_or-set_other t (i * node_width + 3) j v (pos 0) (λ q. omega arith)
  node-later false v j k = refl

  pub node-length : length (node_shared ns n l e s t i) ≡ length t
  node-length = node_either (same_z (get_or t (i * node_width + 3) (pos 0)) s.old)
      (pos (side_of_point (drawn_map ns n l e) (shares_of ns n l e s s.ring) (node_at ns i).at))

  -- the rows after it are kept
  pub node_kept : (j : ℕ) → (i + 1) * node_width ≤ j → get_or (node_shared ns n l e s t i) j (pos 0) ≡ get_or t j (pos 0)
  node_kept = node-later (same_z (get_or t (i * node_width + 3) (pos 0)) s.old)
      (pos (side_of_point (drawn_map ns n l e) (shares_of ns n l e s s.ring) (node_at ns i).at))

-- ---- a turn over position p

module _ (s : Sides) (marks : List ℕ) (t : List ℤ) (p : ℕ) where
  pub side_hit : side_cell t p 5 ≡ s.old → (v : ℤ) → v ≡ cond (same (get_or marks p 0) 1) s.inside s.other
      → set t (side_place p 5) v ≡ side_shared s marks t p
  side_hit is v ev = rw (is_same (side_cell t p 5) s.old is) (ap (set t (side_place p 5)) ev)

  pub side_miss : (side_cell t p 5 ≡ s.old → ⊥) → t ≡ side_shared s marks t p
  side_miss ne = rw (not_same (side_cell t p 5) s.old ne)

  pub side_length : length (side_shared s marks t p) ≡ length t
  side_length =
      elim (which (same_z (side_cell t p 5) s.old)) [
        | inl e ↦ rw e
            (length-set t (side_place p 5) (cond (same (get_or marks p 0) 1) s.inside s.other))
        | inr e ↦ rw e refl
      ]

-- ---- two sweeps that do the same

sweep-same : {S : Type 0} (P : S → ℕ → Type 0) (f g : S → ℕ → S) (n : ℕ)
    → ((t : S) (i : ℕ) → i < n → P t i → (f t i ≡ g t i) × P (f t i) (i + 1)) → (k i : ℕ) → i + k ≡ n → (t : S) → P t i
    → sweep f t i k ≡ sweep g t i k
sweep-same P f g n h zero i q t p = refl
sweep-same {S} P f g n h (suc k) i q t p =
    let r = h t i (omega arith) p in
    sweep-same P f g n h k (i + 1) (omega arith) (f t i) r.1 ∙ ap (λ (u : S). sweep g u (i + 1) k) r.0

-- the cells of the positions from i on are those of l
record Rest (l t : List ℤ) (i : ℕ) : Type 0 where
  size : length t ≡ length l
  cells : (q : ℕ) → i ≤ q → side_cell t q 5 ≡ side_cell l q 5

places_differ_lem : (p q : ℕ) → p < q → side_place q 5 ≡ side_place p 5 → ⊥
places_differ_lem p q h e = omega arith

rest_on : (l t : List ℤ) (i : ℕ) (b : Bool) (v : ℤ) → Rest l t i → Rest l (cond b (set t (side_place i 5) v) t) (i + 1)
rest_on l t i true v r =
    record {
      size = length-set t (side_place i 5) v ∙ r.size;
      cells = λ q h. get_or-set_other t (side_place i 5) (side_place q 5) v (pos 0) (places_differ_lem i q (omega arith))
          ∙ r.cells q (omega arith);
    }
rest_on l t i false v r = record { size = r.size; cells = λ q h. r.cells q (omega arith) }

module _ (ns : List ℤ) (n : ℕ) (l : List ℤ) (e : ℕ) (s : Sides) (h : ShareableFace ns n l e s) (across : ℕ)
    (marks : List ℕ)
    (told : (p : ℕ) → p < e * 2 → side_cell l p 5 ≡ s.old → get_or marks p 0
    ≡ cond (same (first_mark l e s.ring across p) 0) (ring_mark ns n l e s.ring p)
    (first_mark l e s.ring across p)) where
  turn : (t : List ℤ) (p : ℕ) → p < e * 2 → Rest l t p → side_shared s marks t p ≡ edge_shared ns n l e s across t p
  turn t p hp r =
      elim (which (same_z (side_cell t p 5) s.old)) [
        | inl q ↦
            let is = sym (r.cells p (omega arith)) ∙ same_is (side_cell t p 5) s.old q in
            ap (λ (b : Bool). cond b (set t (side_place p 5) (cond (same (get_or marks p 0) 1) s.inside s.other)) t)
            q
            ∙ ap (set t (side_place p 5)) (takes_side ns n l e s h across p hp (get_or marks p 0) is (told p hp is))
        | inr q ↦
            let ne : side_cell l p 5 ≡ s.old → ⊥ =
            λ is. true≢false (sym (is_same (side_cell t p 5) s.old (r.cells p (omega arith) ∙ is)) ∙ q) in
            ap (λ (b : Bool). cond b (set t (side_place p 5) (cond (same (get_or marks p 0) 1) s.inside s.other)) t)
            q
            ∙ sym (set-get_or t (side_place p 5) (pos 0))
            ∙ ap (set t (side_place p 5)) (r.cells p (omega arith) ∙ keeps_face ns n l e s h across p hp ne)
      ]

  pub sides_shared : sweep (side_shared s marks) l 0 (e * 2) ≡ sweep (edge_shared ns n l e s across) l 0 (e * 2)
  sides_shared =
      sweep-same (Rest l) (side_shared s marks) (edge_shared ns n l e s across) (e * 2)
      (λ t i hi r. (
        turn t i hi r,
        rest_on l t i (same_z (side_cell t i 5) s.old)
            (cond (same (get_or marks i 0) 1) s.inside s.other) r,
      ))
      (e * 2) 0 (omega arith) l (record { size = refl; cells = λ q k. refl })
