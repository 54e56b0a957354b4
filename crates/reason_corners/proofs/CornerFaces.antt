-- The corner face as the numbers of the tables show it is that of the map which they hold. Assumes nothing.
use Rattle.std.specs.Prelude.{Some}
use mathlib.Core.Path.{◌≡◌, refl, sym, ap, ap₂, ◌∙◌}
use mathlib.Core.Bool.{Bool, true, false, not, ◌&&◌, beq}
use mathlib.Core.List.{List, [], ◌∷◌, map, Memᴰ}
use mathlib.Core.Option
use mathlib.Core.Option.{Option}
use Prim.Native.Nat.{ℕ, ◌+◌, ◌*◌, ◌<◌}
use native.Mathlib.Omega.{arith}
use lib.IntN.{ℤ, pos}
use lib.ListN.{length, get_or}
use Rattle.lists.specs.Tests.{same}
use Rattle.lists.specs.Scans.{all_of, is_some, keep}
use Rattle.lists.specs.Tables.{place}
use Rattle.lists.proofs.Bools.{same_eq, same_false, beq_true, eq1}
use Rattle.lists.proofs.Keeps.{keep_in, keep_cong}
use Rattle.plane.specs.Directions.{Way}
use Rattle.curves.specs.Curves.{Run, curve_of, start_way, end_way}
use Rattle.curves.specs.Edits.{course}
use Rattle.planar_maps.specs.Map.{Dart}
use Rattle.curves.proofs.Reverses.{end_way_lem}
use Rattle.rotation.specs.Law.{first_clockwise}
use Rattle.map.specs.Limits.{node_width}
use Rattle.map.specs.Rows.{Node, Edge, Map, node, edge}
use Rattle.map.specs.Form.{node_ranges, bare_marked}
use Rattle.map.specs.Darts.{leaves, bears, course as courseOf, way, departures, edge_ends}
use Rattle.map.specs.Links.{corner_of, corner_face}
use Rattle.map.specs.Reasons.{corners_differ}
use Rattle.map.proofs.RoundTrip.{face_pos}
use Rattle.tables.specs.Tables.{same_z, column}
use Rattle.map_rows.specs.Rows.{nodes_of, edges_of, node_at, edge_map, NodeRows, EdgeRows, edges_alone}
use Rattle.tables.proofs.Rows.{rows_all, all_table}
use Rattle.map_rows.proofs.Rows.{NodeCells, node_cells_lem, nodes_table, node_rows_rising}
use Rattle.tables.proofs.Lookups.{row_place}
use Rattle.map_rows.proofs.Lookups.{node_found}
use Rattle.tables.proofs.Order.{same-pos}
use Rattle.darts.specs.Positions.{dart_at, way_at, way_with}
use Rattle.darts.proofs.Positions.{half_below, cell-bears}
use Rattle.links.specs.Linking.{positions, leaves_node, departures_but, first_met}
use Rattle.links.proofs.FirstMet.{met-same, met_in, leaving_below, position_below, with_none}
use Rattle.links.proofs.Departures.{departures-map, met_found}
use Rattle.reason_corners.specs.CornerFaces.{corner_by, corner_cell}

-- ---- the first departure met

module _ (l : List ℤ) (n : ℕ) (z : ℤ) (a b : ℕ) (v : Way) where
  -- no row has another curve
  pub met_alike : first_met (way_with l n []) v (departures_but l n z a b) ≡ first_met (way_at l) v (departures_but l n z a b)
  met_alike = met-same (way_at l) (way_with l n []) v (departures_but l n z a b)
      (λ p m. with_none l n [] p (half_below n p (leaving_below l n z a b p m)))

  pub met_below : (q : ℕ) → first_met (way_at l) v (departures_but l n z a b) ≡ Some q → q < n * 2
  met_below q e = leaving_below l n z a b q (met_in (way_at l) v (departures_but l n z a b) q e)

-- all departures, where both exceptions are past the positions
leaving_all : (l : List ℤ) (n : ℕ) (z : ℤ) → departures_but l n z (n * 2) (n * 2) ≡ keep (leaves_node l z) (positions n)
leaving_all l n z =
    keep_cong (λ p. leaves_node l z p && not (same p (n * 2)) && not (same p (n * 2))) (leaves_node l z) (positions n)
    (λ p m.
    let h = position_below n p m in
    let e = same_false p (n * 2) (λ q. omega arith) in
    rw e (eq1 (λ x. x && true && true) (λ x. x) tt (leaves_node l z p)))

-- ---- a map with these edges

module _ (l : List ℤ) (n : ℕ) (m : Map) (E : m.edges ≡ edges_of l n) (k : ℕ) where
  departures_alone : departures m k ≡ departures (edge_map l n) k
  unfolding departures leaves edge
  departures_alone = ap (λ (es : List Edge). departures (edges_alone es) k) E

  corner_alone : (v : Way) (d : Dart) (ds : List Dart) → corner_of m k v (d ∷ ds)
      ≡ bears (edge_map l n) (first_clockwise (way (edge_map l n)) v d (d ∷ ds))
  unfolding bears way courseOf edge
  corner_alone v d ds = ap (λ (es : List Edge). bears (edges_alone es)
      (first_clockwise (way (edges_alone es)) v d (d ∷ ds))) E

-- ---- the corner face

module _ {nodes : List ℤ} {r : ℕ} {l : List ℤ} {n : ℕ} (s : NodeRows nodes r) (t : EdgeRows l n) (m : Map)
    (N : m.nodes ≡ nodes_of nodes r) (E : m.edges ≡ edges_of l n) where
  module _ (i : ℕ) (h : i < r) where
    abbrev number : ℕ
    number = (node_at nodes i).number

    abbrev there : List ℕ
    there = keep (leaves_node l (pos number)) (positions n)

    cells : NodeCells nodes i
    cells = node_cells_lem nodes i (rows_all node_width nodes node_ranges r s.ranges i h)

    node_is : node m number ≡ node_at nodes i
    unfolding node
    node_is =
        let at : place (same_z (pos number)) 0 (column node_width nodes r) ≡ Some i =
        ap (λ (z : ℤ). place (same_z z) 0 (column node_width nodes r)) (sym cells.number)
        ∙ row_place node_width nodes r (node_rows_rising s) i h in
        rw (N, (node_found nodes r s.ranges (pos number) i at).2)

    departures_are : departures m number ≡ map (dart_at l) there
    departures_are = departures_alone l n m E number ∙ departures-map t number

    corner_by_lem : (v : Way) (ds : List ℕ) → ((p : ℕ) → Memᴰ p ds → p < n * 2)
        → (ds ≡ [] → is_some (node_at nodes i).face ≡ true) → corner_by nodes i l (first_met (way_at l) v ds)
        ≡ pos (corner_of m number v (map (dart_at l) ds))
    corner_by_lem v [] below face =
        let e = cells.face in
        face_pos (get_or nodes (i * node_width + 3) (pos 0)) (ap is_some e ∙ face refl)
        ∙ ap (λ (f : Option ℕ). pos (Option.get_or f 0)) (e ∙ ap (λ (x : Node). x.face) (sym node_is))
    corner_by_lem v (p ∷ ps) below face =
        let q = first_clockwise (way_at l) v p (p ∷ ps) in
        cell-bears t q (below q (met_in (way_at l) v (p ∷ ps) q refl))
        ∙ ap pos (sym (corner_alone l n m E number v (dart_at l p) (map (dart_at l) ps)
        ∙ ap (bears (edge_map l n)) (met_found t (p ∷ ps) below v q refl (dart_at l p))))

    -- at a node that has a containing face where nothing leaves it
    pub corner_cell_lem : (edge_ends m number ≡ 0 → is_some (node_at nodes i).face ≡ true) → (v : Way)
        → corner_cell nodes i l n v ≡ pos (corner_face m number v)
    unfolding corner_face
    corner_cell_lem face v =
        ap (λ (ds : List ℕ). corner_by nodes i l (first_met (way_at l) v ds))
        (ap (λ (z : ℤ). departures_but l n z (n * 2) (n * 2)) cells.number ∙ leaving_all l n (pos number))
        ∙ corner_by_lem v there (λ p k. position_below n p (keep_in (leaves_node l (pos number)) (positions n) k).0)
        (λ e. face (ap length (departures_are ∙ ap (map (dart_at l)) e)))
        ∙ ap (λ (ds : List Dart). pos (corner_of m number v ds)) (sym departures_are)

    -- so it is in form
    pub face_there : bare_marked m ≡ true → edge_ends m number ≡ 0 → is_some (node_at nodes i).face ≡ true
    unfolding bare_marked
    face_there bare e =
        let test : Node → Bool = λ x. beq (is_some x.face) (same (edge_ends m x.number) 0) in
        beq_true (is_some (node_at nodes i).face) (same (edge_ends m number) 0)
        (all_table test (node_at nodes) r (ap (all_of test) (sym (N ∙ nodes_table nodes r)) ∙ bare) i h)
        ∙ same_eq (edge_ends m number) 0 e

    pub corner-in_form : bare_marked m ≡ true → (v : Way) → corner_cell nodes i l n v ≡ pos (corner_face m number v)
    corner-in_form bare = corner_cell_lem (face_there bare)

  -- those of the two ends of a curve
  pub corners_differ_lem : bare_marked m ≡ true → (u v : ℕ) → u < r → v < r → {c : List ℤ} → Run c
      → not (same_z (corner_cell nodes u l n (start_way (course false (curve_of c))))
      (corner_cell nodes v l n (start_way (course true (curve_of c)))))
      ≡ corners_differ m (node_at nodes u).number (node_at nodes v).number (curve_of c)
  unfolding corners_differ
  corners_differ_lem bare u v h k {c} run =
      ap not
      (ap₂ same_z (corner-in_form u h bare (start_way (curve_of c)))
      (ap (corner_cell nodes v l n) (end_way_lem run) ∙ corner-in_form v k bare (end_way (curve_of c)))
      ∙ same-pos (corner_face m (node_at nodes u).number (start_way (curve_of c)))
      (corner_face m (node_at nodes v).number (end_way (curve_of c))))
