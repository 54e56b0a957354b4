-- The turn from a departure, by position and in the map, also where an edge has another curve. Assumes nothing.
use mathlib.Core.Path.{◌≡◌, refl, sym, ap, ap₂, ◌∙◌}
use mathlib.Core.Bool.{Bool, true, false, cond, not, ◌&&◌, ◌||◌}
use mathlib.Core.List.{List, [], ◌∷◌, map, Memᴰ}
use mathlib.Core.Option.{some}
use Prim.Native.Nat.{ℕ, ◌*◌, ◌/◌, ◌<◌}
use native.Mathlib.Omega.{arith}
use lib.IntN.{ℤ, pos}
use Rattle.lists.specs.Tests.{same}
use Rattle.lists.specs.Scans.{any_of, keep, find}
use Rattle.lists.proofs.Keeps.{keep_in, keep_has, keep-map}
use Rattle.plane.specs.Directions.{Way}
use Rattle.curves.specs.Curves.{Curve, curve_of, start_way}
use Rattle.curves.specs.Edits as edits
use Rattle.planar_maps.specs.Map.{Arc, darts}
use Rattle.planar_maps.specs.Rings.{same_dart}
use Rattle.rotation.specs.Law.{lawful_next}
use Rattle.rotation.proofs.Node.{lawful_in}
use Rattle.rotation.proofs.Rename.{lawful-map}
use Rattle.map.specs.Rows.{Edge, Map, edge, at_edge}
use Rattle.map.specs.Darts.{directed, leaves, departures, course, way}
use Rattle.map.specs.Links.{clockwise}
use Rattle.map.specs.Edits.{with_curve, change_edge_geom}
use Rattle.map.specs.Reasons.{turn_changes, order_changes}
use Rattle.map.proofs.Laws.{edge_is}
use Rattle.map.proofs.Linked.{arc_of}
use Rattle.map_rows.specs.Rows.{edges_of, edge_at, edge_map, EdgeRows}
use Rattle.tables.proofs.Order.{same_self}
use Rattle.darts.specs.Positions.{odd, dart_at, side_cell, way_with}
use Rattle.darts.proofs.Positions.{edge_of, cell-leaves, way_is}
use Rattle.links.specs.Linking.{positions, leaves_node}
use Rattle.links.proofs.FirstMet.{position_below, position_has, with_none}
use Rattle.links.proofs.Darts.{row_found_lem}
use Rattle.links.proofs.Departures.{directed-map, leaves_is, departures-map}
use Rattle.links.proofs.LinkedEdges.{other_dart}
use Rattle.reason_departures.specs.Turning.{turns_at}
use Rattle.reason_departures.proofs.Ends.{same_row}
use Rattle.reason_departures.proofs.Taken.{departures_any}

-- ---- the turn in any map that has these departures

module _ {l : List ℤ} {n : ℕ} (t : EdgeRows l n) where
  -- the departures from the node that p leaves
  abbrev beside : ℕ → List ℕ
  beside p = keep (leaves_node l (side_cell l p 1)) (positions n)

  beside_below : (p q : ℕ) → Memᴰ q (beside p) → q < n * 2
  beside_below p q m = position_below n q (keep_in (leaves_node l (side_cell l p 1)) (positions n) m).0

  beside_own : (p : ℕ) → p < n * 2 → Memᴰ p (beside p)
  beside_own p h = keep_has (leaves_node l (side_cell l p 1)) (positions n) (position_has n p h)
      (same_self (side_cell l p 1))

  turn_below : (w : ℕ → Way) (p : ℕ) → p < n * 2 → lawful_next w same p (beside p) < n * 2
  turn_below w p h = beside_below p (lawful_next w same p (beside p)) (lawful_in w same (beside p) p (beside_own p h))

  turn_is : (m : Map) (w : ℕ → Way) (p : ℕ) → p < n * 2 → ((q : ℕ) → q < n * 2 → way m (dart_at l q) ≡ w q)
      → departures m (leaves m (dart_at l p)) ≡ map (dart_at l) (beside p) → clockwise m (dart_at l p)
      ≡ dart_at l (lawful_next w same p (beside p))
  unfolding clockwise
  turn_is m w p h ways deps =
      ap (lawful_next (way m) same_dart (dart_at l p)) deps
      ∙ lawful-map (dart_at l) w (way m) same same_dart (beside p)
      (record {
        ways = λ q k. ways q (beside_below p q k);
        tests = λ q c k j. other_dart t c q (beside_below p c j) (beside_below p q k);
      }) p (beside_own p h)

  own_turn : (c : List ℤ) (p : ℕ) → p < n * 2 → clockwise (edge_map l n) (dart_at l p) ≡ dart_at l (turns_at l n n c p)
  own_turn c p h =
      turn_is (edge_map l n) (way_with l n c) p h (λ q k. way_is t q k ∙ sym (with_none l n c q (omega arith)))
      (departures-map t (leaves (edge_map l n) (dart_at l p))
      ∙ ap (λ (z : ℤ). map (dart_at l) (keep (leaves_node l z) (positions n))) (sym (cell-leaves t p h)))

-- ---- a row with another curve

-- rows changed that keep their numbers are found as before
found_changed : (g : Edge → Edge) → ((r : Edge) → (g r).number ≡ r.number) → (es : List Edge) (x : ℕ) (r : Edge)
    → find (λ r. same r.number x) es ≡ some r → find (λ r. same r.number x) (map g es) ≡ some (g r)
found_changed g keeps [] x r e = let z : ◌≡◌ {A = ℕ} 0 1 = cc in absurd (omega arith)
found_changed g keeps (d ∷ es) x r e = ap
    (λ (k : ℕ). cond (same k x) (some (g d)) (find (λ r. same r.number x) (map g es))) (keeps d)
    ∙ (go (same d.number x) refl (found_changed g keeps es x r))
  where
    go : (b : Bool) → same d.number x ≡ b
        → (find (λ r. same r.number x) es ≡ some r → find (λ r. same r.number x) (map g es) ≡ some (g r))
        → cond (same d.number x) (some (g d)) (find (λ r. same r.number x) (map g es)) ≡ some (g r)
    go true q ih =
        let k : some d ≡ some r = rw q at e in
        let j : d ≡ r = cc in
        rw (q, j)
    go false q ih = rw q (ih (rw q at e))

module _ (e : ℕ) (c : Curve) where
  abbrev drawn : Edge → Edge
  drawn r = cond (same r.number e) (with_curve c r) r

  drawn-number : (r : Edge) → (drawn r).number ≡ r.number
  drawn-number r = go (same r.number e)
    where
      go : (b : Bool) → (cond b (with_curve c r) r).number ≡ r.number
      go true = refl
      go false = refl

  drawn_start : (r : Edge) → (drawn r).start ≡ r.start
  drawn_start r = go (same r.number e)
    where
      go : (b : Bool) → (cond b (with_curve c r) r).start ≡ r.start
      go true = refl
      go false = refl

  drawn-end : (r : Edge) → (drawn r).end ≡ r.end
  drawn-end r = go (same r.number e)
    where
      go : (b : Bool) → (cond b (with_curve c r) r).end ≡ r.end
      go true = refl
      go false = refl

  drawn-curve : (r : Edge) → (drawn r).curve ≡ cond (same r.number e) c r.curve
  drawn-curve r = go (same r.number e)
    where
      go : (b : Bool) → (cond b (with_curve c r) r).curve ≡ cond b c r.curve
      go true = refl
      go false = refl

  arc_is : {a b f g x y : ℕ} → a ≡ b → f ≡ g → x ≡ y
      → ◌≡◌ {A = Arc} (record { num = a; from = f; to = x }) (record { num = b; from = g; to = y })
  arc_is p q r = cc

  drawn-arcs : (es : List Edge) → map arc_of (map drawn es) ≡ map arc_of es
  drawn-arcs [] = refl
  drawn-arcs (r ∷ es) = ap₂ ◌∷◌ (arc_is (drawn-number r) (drawn_start r) (drawn-end r)) (drawn-arcs es)

module _ {l : List ℤ} {n : ℕ} (t : EdgeRows l n) (own : ℕ) (o : own < n) (c : List ℤ) where
  -- the map where the edge of row `own` has the curve
  changed : Map
  changed = change_edge_geom (edge_at l own).number (curve_of c) (edge_map l n)

  row_changed : (i : ℕ) → i < n → edge changed (edge_at l i).number
      ≡ drawn (edge_at l own).number (curve_of c) (edge_at l i)
  unfolding changed change_edge_geom at_edge
  row_changed i h =
      edge_is changed (edge_at l i).number (drawn (edge_at l own).number (curve_of c) (edge_at l i))
      (found_changed (drawn (edge_at l own).number (curve_of c)) (drawn-number (edge_at l own).number (curve_of c))
      (edges_of l n) (edge_at l i).number (edge_at l i) (row_found_lem t i h))

  leaves_kept : (q : ℕ) → q < n * 2 → leaves changed (dart_at l q) ≡ leaves (edge_map l n) (dart_at l q)
  unfolding leaves
  leaves_kept q h =
      let e = (edge_at l own).number in
      let r = edge_at l (q / 2) in
      let b : q / 2 < n = omega arith in
      ap₂ (λ (x y : ℕ). cond (odd q) x y)
      (ap (λ (r : Edge). r.end) (row_changed (q / 2) b) ∙ drawn-end e (curve_of c) r
      ∙ ap (λ (r : Edge). r.end) (sym (edge_of t (q / 2) b)))
      (ap (λ (r : Edge). r.start) (row_changed (q / 2) b) ∙ drawn_start e (curve_of c) r
      ∙ ap (λ (r : Edge). r.start) (sym (edge_of t (q / 2) b)))

  directed_kept : directed changed ≡ directed (edge_map l n)
  unfolding changed change_edge_geom at_edge
  directed_kept = ap darts (drawn-arcs (edge_at l own).number (curve_of c) (edges_of l n))

  departures_kept : (p : ℕ) → p < n * 2 → departures changed (leaves changed (dart_at l p)) ≡ map (dart_at l) (beside t p)
  unfolding departures
  departures_kept p h =
      let k = leaves changed (dart_at l p) in
      ap (keep (λ d. same (leaves changed d) k)) (directed_kept ∙ directed-map t)
      ∙ keep-map (dart_at l) (leaves_node l (pos k)) (λ d. same (leaves changed d) k) (positions n)
      (λ q m. ap (λ (x : ℕ). same x k) (leaves_kept q (position_below n q m)) ∙ leaves_is t k q (position_below n q m))
      ∙ ap (λ (z : ℤ). map (dart_at l) (keep (leaves_node l z) (positions n)))
      (ap pos (leaves_kept p h) ∙ sym (cell-leaves t p h))

  way-changed : (q : ℕ) → q < n * 2 → way changed (dart_at l q) ≡ way_with l own c q
  unfolding way course
  way-changed q h =
      let e = (edge_at l own).number in
      let r = edge_at l (q / 2) in
      let b : q / 2 < n = omega arith in
      ap (λ (x : Curve). start_way (edits.course (odd q) x))
      (ap (λ (r : Edge). r.curve) (row_changed (q / 2) b) ∙ drawn-curve e (curve_of c) r
      ∙ ap (λ (x : Bool). cond x (curve_of c) r.curve) (sym (same_row t (q / 2) own b o)))

  changed-turn : (p : ℕ) → p < n * 2 → clockwise changed (dart_at l p) ≡ dart_at l (turns_at l n own c p)
  changed-turn p h = turn_is t changed (way_with l own c) p h way-changed (departures_kept p h)

  -- a turn that changes at a node
  pub changes_is : (a : ℕ) → turn_changes (edge_map l n)
      (change_edge_geom (edge_at l own).number (curve_of c) (edge_map l n)) a
      ≡ any_of (λ p. leaves_node l (pos a) p && not (same (turns_at l n n c p) (turns_at l n own c p))) (positions n)
  unfolding changed
  changes_is a =
      departures_any t a (λ d. not (same_dart (clockwise (edge_map l n) d) (clockwise changed d)))
      (λ p. not (same (turns_at l n n c p) (turns_at l n own c p)))
      (λ p h. ap not (ap₂ same_dart (own_turn t c p h) (changed-turn p h)
      ∙ other_dart t (turns_at l n own c p) (turns_at l n n c p) (turn_below t (way_with l own c) p h)
      (turn_below t (way_with l n c) p h)))

  pub order_is : (x y : Bool) → x ≡ any_of
      (λ p. leaves_node l (pos (edge (edge_map l n) (edge_at l own).number).start) p
      && not (same (turns_at l n n c p) (turns_at l n own c p))) (positions n)
      → y ≡ any_of (λ p. leaves_node l (pos (edge (edge_map l n) (edge_at l own).number).end) p
      && not (same (turns_at l n n c p) (turns_at l n own c p))) (positions n)
      → x || y ≡ order_changes (edge_map l n) (edge_at l own).number (curve_of c)
  unfolding order_changes
  order_is x y e f = ap₂ ◌||◌ (e ∙ sym (changes_is (edge (edge_map l n) (edge_at l own).number).start))
      (f ∙ sym (changes_is (edge (edge_map l n) (edge_at l own).number).end))
