-- On tables in form, what a curve for edge row i changes on the two sides of the edge, by the nodes alone and the edges
-- alone. Assumes nothing.
use mathlib.Core.Path.{◌≡◌, refl, sym, ap, ap₂, ◌∙◌}
use mathlib.Core.Bool.{Bool, true, false, not, ◌&&◌, ◌||◌}
use mathlib.Core.List.{List, Memᴰ}
use Prim.Native.Nat.{ℕ, ◌+◌, ◌*◌, ◌<◌}
use lib.IntN.{ℤ, nat_abs, ◌-ℤ◌}
use Rattle.lists.specs.Tests.{same}
use Rattle.lists.specs.Scans.{any_of}
use Rattle.lists.specs.Members.{Distinct}
use Rattle.lists.proofs.Bools.{and_left, not-true, differ}
use Rattle.lists.proofs.Appends.{any_append}
use Rattle.tables.proofs.Rising.{all_weaker}
use Rattle.curves.specs.Curves.{Curve, curve_of}
use Rattle.curves.specs.Measures.{curve_area}
use Rattle.planar_maps.specs.Map.{Dart, fwd, bwd}
use Rattle.planar_maps.specs.Pieces.{nums}
use Rattle.map.specs.declared.Head.{Head}
use Rattle.map.specs.Rows.{Edge, Map, map_of, lent, edge, has_node, has_edge, has_face}
use Rattle.map.specs.Darts.{arcs, directed, next, course, ring, among, lower, is_lowest, piece_of}
use Rattle.map.specs.Faces.{ring_area}
use Rattle.map.specs.Form.{edge_names}
use Rattle.map.specs.Reasons.{isolated_points, other_piece_points, sides_change}
use Rattle.map.proofs.Linked.{linked, edges_once, rings_bear_one_lem}
use Rattle.map_laws.proofs.Readings.{row_has, has_dart, bears-left, bears_right}
use Rattle.map_laws.proofs.Rings.{ring-same, ring_leads, among_in}
use Rattle.map_rows.specs.Rows.{node_map, edge_at, edges_of, edge_map}
use Rattle.map_rows.proofs.Rows.{edge_member}
use Rattle.darts.specs.Positions.{dart_at}
use Rattle.darts.proofs.Positions.{dart_even, dart_odd}
use Rattle.outcomes.specs.Outcomes.{Formed}
use Rattle.outcomes.proofs.Formed.{formed-map, counted, node_rows_lem, edge_rows_lem, edges_named_lem}
use Rattle.piece_labels.specs.Labels.{Ended}
use Rattle.reason_sides.specs.Passing.{sign_changes, passes_over, ring_passed}
use Rattle.reason_sides.proofs.Redrawn.{one-ring, two_rings}
use Rattle.reason_sides.proofs.Others.{others-passed}

module _ {nodes edges faces : List ℤ} {h : Head} (f : Formed nodes edges faces h) where
  -- the map, its nodes alone and its edges alone
  abbrev m : Map
  m = map_of (lent nodes edges faces h)

  abbrev ns : Map
  ns = node_map nodes (nat_abs h.nodes)

  abbrev es : Map
  es = edge_map edges (nat_abs h.edges)

  -- its edges end at nodes
  ends_named_lem : (r : Edge) → edge_names m r ≡ true → has_node ns r.start && has_node ns r.end ≡ true
  unfolding map_of
  ends_named_lem r k =
      and_left (has_node m r.start && has_node m r.end) (has_edge m r.next_left.edge)
      (and_left _ (has_edge m r.next_right.edge)
      (and_left _ (has_face m r.left) (and_left _ (has_face m r.right) k)))

  pub ended : Ended nodes (nat_abs h.nodes) edges (nat_abs h.edges)
  ended = record {
    nodes = node_rows_lem f;
    edges = edge_rows_lem f;
    few_nodes = (counted f).nodes.most;
    few_edges = (counted f).edges.most;
    ends = all_weaker (edge_names m) (λ r. has_node ns r.start && has_node ns r.end) ends_named_lem
        (edges_of edges (nat_abs h.edges)) (edges_named_lem f);
  }

  -- rings, their areas and the pieces are read from the edges
  ring_is : (d : Dart) → ring m d ≡ ring es d
  unfolding map_of next edge
  ring_is = ring-same m es (λ d. refl) refl

  areas_are : (r : List Dart) → ring_area m r ≡ ring_area es r
  unfolding map_of ring_area course edge
  areas_are r = refl

  area_is : (d : Dart) → ring_area m (ring m d) ≡ ring_area es (ring es d)
  area_is d = areas_are (ring m d) ∙ ap (ring_area es) (ring_is d)

  lowest_is : (d : Dart) → is_lowest m d ≡ is_lowest es d
  lowest_is d = ap (λ (r : List Dart). not (any_of (λ c. lower c d) r)) (ring_is d)

  -- isolated nodes from the nodes
  isolated_are : isolated_points m ≡ isolated_points ns
  unfolding map_of isolated_points
  isolated_are = refl

  module _ (i : ℕ) (b : i < nat_abs h.edges) where
    abbrev o : Edge
    o = edge_at edges i

    here : Memᴰ o m.edges
    unfolding map_of
    here = edge_member edges (nat_abs h.edges) i b

    -- the rings on the two sides
    left_is : ring m (fwd o.number) ≡ ring es (dart_at edges (i * 2))
    left_is = ring_is (fwd o.number) ∙ ap (ring es) (sym (dart_even edges i))

    on_is : among (ring m (fwd o.number)) (bwd o.number)
        ≡ among (ring es (dart_at edges (i * 2))) (dart_at edges (i * 2 + 1))
    on_is = ap₂ among left_is (sym (dart_odd edges i))

    -- a ring bears one face
    pub two_faces : same o.left o.right ≡ false
        → among (ring es (dart_at edges (i * 2))) (dart_at edges (i * 2 + 1)) ≡ false
    two_faces e = not-true _ (λ t. differ o.left o.right e (sym (bears-left m dis here)
        ∙ sym (rings_bear_one_lem m (formed-map f) (fwd o.number) (bwd o.number) first
        (ring_leads m (linked m (formed-map f)) dis (fwd o.number) first
        (among_in (ring m (fwd o.number)) (bwd o.number) (on_is ∙ t))))
        ∙ bears_right m dis here))
      where
        dis : Distinct (nums (arcs m))
        dis = edges_once m (formed-map f)

        first : Memᴰ (fwd o.number) (directed m)
        first = has_dart m (fwd o.number) (row_has m here)

    module _ (sent : List ℤ) where
      abbrev c : Curve
      c = curve_of sent

      pub one_side : among (ring es (dart_at edges (i * 2))) (dart_at edges (i * 2 + 1)) ≡ true
          → sides_change m o.number c ≡ false
      one_side e = one-ring m (linked m (formed-map f)) (edges_once m (formed-map f)) o here c (on_is ∙ e)

      -- what the areas lose, and the two passes over points
      abbrev pub areas_change : Bool
      areas_change =
          sign_changes (ring_area es (ring es (dart_at edges (i * 2)))) (curve_area o.curve -ℤ curve_area c)
          || sign_changes (ring_area es (ring es (dart_at edges (i * 2 + 1)))) (curve_area c -ℤ curve_area o.curve)

      abbrev pub node_passed : Bool
      node_passed = any_of (passes_over o.curve c) (isolated_points ns)

      abbrev pub other_passed : Bool
      other_passed = any_of (ring_passed es o c) (edges_of edges (nat_abs h.edges))

      passed_is : (r : Edge) → ring_passed m o c r ≡ ring_passed es o c r
      unfolding map_of
      passed_is r =
          ap₂ (λ (x y : Bool). passes_over o.curve c r.curve.first
          && not (same (piece_of es r.start) (piece_of es o.start)) && (x || y))
          (lowest_is (fwd r.number)) (lowest_is (bwd r.number))

      others_are : any_of (ring_passed m o c) m.edges ≡ other_passed
      unfolding map_of
      others_are = λ j. any_of (λ r. passed_is r j) (edges_of edges (nat_abs h.edges))

      pub two_sides : among (ring es (dart_at edges (i * 2))) (dart_at edges (i * 2 + 1)) ≡ false
          → sides_change m o.number c ≡ areas_change || (node_passed || other_passed)
      two_sides e =
          two_rings m (linked m (formed-map f)) (edges_once m (formed-map f)) o here c (on_is ∙ e)
          ∙ ap₂ ◌||◌
          (ap₂ (λ (x y : ℤ). sign_changes x (curve_area o.curve -ℤ curve_area c)
          || sign_changes y (curve_area c -ℤ curve_area o.curve))
          (area_is (fwd o.number) ∙ ap (λ (d : Dart). ring_area es (ring es d)) (sym (dart_even edges i)))
          (area_is (bwd o.number) ∙ ap (λ (d : Dart). ring_area es (ring es d)) (sym (dart_odd edges i))))
          (any_append (passes_over o.curve c) (isolated_points m) (other_piece_points m o.start)
          ∙ ap₂ ◌||◌ (ap (any_of (passes_over o.curve c)) isolated_are)
          (others-passed m o c (formed-map f) ∙ others_are))
