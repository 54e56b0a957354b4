-- What the parts of condition 2 tell of the rows: what functions on tables require. Assumes nothing.
use mathlib.Core.Path.{◌≡◌, refl}
use mathlib.Core.Bool.{Bool, true, false, ◌&&◌}
use mathlib.Core.List.{List, [], ◌∷◌, map}
use Prim.Native.Nat.{ℕ, suc, ◌*◌, ◌/◌, ◌≤◌}
use native.Mathlib.Nat.{le_trans, mul-le-mul_right, div-mul-le_self}
use lib.IntN.{ℤ, pos, nat_abs}
use lib.ListN.{length}
use lib.Signed.{non_neg}
use Rattle.lists.specs.Tests.{same}
use Rattle.lists.specs.Scans.{all_of, first_or}
use Rattle.tables.specs.Tables.{rows, within, rest_zero, numbered}
use Rattle.tables.proofs.Tests.{within-least, within-pos}
use Rattle.tables.proofs.Rising.{all_same, all_weaker, numbered_wider}
use Rattle.curves.proofs.Runs.{and_left, and_right}
use Rattle.map.specs.declared.Head.{Head}
use Rattle.map.specs.Limits.{node_width, edge_width, face_width, last_number, most_points, is_record, limit_of}
use Rattle.map.specs.Rows.{Edge, map_of, node, has_node, has_edge, has_face, lent}
use Rattle.map.specs.Form.{counts_fit, nexts_fit, node_ranges, edge_ranges_to, edge_ranges, face_ranges, ranged, numbers}
use Rattle.map.specs.Form.{named, edge_names, in_face, curve_fits}
use Rattle.map.specs.declared.Counts.{Counts}
use Rattle.map.proofs.RoundTrip.{rows_wider}
use Rattle.map_rows.specs.Rows.{nodes_of, edges_of, faces_of, node_map, NodeRows, EdgeRows, FaceRows}
use Rattle.head.specs.Heads.{counts_of, UpTo}
use Rattle.head.proofs.Words.{is_natural}
use Rattle.form_ranges.specs.Ranges.{map_in, ranged_rows, EdgesInOrder, InRanges, InOrder, HeadFits, Named}

module _ (a b c d e f : Bool) (h : a && b && c && d && e && f ≡ true) where
  pub and₆ : (a ≡ true) × (b ≡ true) × (c ≡ true) × (d ≡ true) × (e ≡ true) × (f ≡ true)
  and₆ =
      let h₅ = and_left (a && b && c && d && e) f h in
      let h₄ = and_left (a && b && c && d) e h₅ in
      let h₃ = and_left (a && b && c) d h₄ in
      let h₂ = and_left (a && b) c h₃ in (
        and_left a b h₂,
        and_right a b h₂,
        and_right (a && b) c h₃,
        and_right (a && b && c) d h₄,
        and_right (a && b && c && d) e h₅,
        and_right (a && b && c && d && e) f h,
      )

  links : c && d ≡ true
  links = rw (and₆.2, and₆.3)

-- ---- next numbers

next_of : (z : ℤ) → within 1 (suc last_number) z ≡ true → UpTo (suc last_number) z
next_of z h = let r = within-pos 1 (suc last_number) z h in record { natural = r.0; most = r.2 }

pub nexts_in : (h : Head) → nexts_fit h ≡ true → UpTo (suc last_number) h.next_node
    × UpTo (suc last_number) h.next_edge × UpTo (suc last_number) h.next_face
nexts_in h e =
    let w : ℤ → Bool = within 1 (suc last_number) in
    let f = and_right (w h.next_node) (all_of w (h.next_edge ∷ h.next_face ∷ [])) e in
    let g = and_right (w h.next_edge) (all_of w (h.next_face ∷ [])) f in (
      next_of h.next_node (and_left (w h.next_node) (all_of w (h.next_edge ∷ h.next_face ∷ [])) e),
      next_of h.next_edge (and_left (w h.next_edge) (all_of w (h.next_face ∷ [])) f),
      next_of h.next_face (and_left (w h.next_face) true g),
    )

-- ---- counts

div_room : (a n w : ℕ) → a ≤ n / suc w → a * suc w ≤ n
div_room a n w h = le_trans (mul-le-mul_right (suc w) h) (div-mul-le_self n (suc w))

-- counts, next numbers and a record that fit, as the other parts require them
pub counted : (nodes edges faces : List ℤ) (h : Head) → counts_fit (lent nodes edges faces h) ≡ true → nexts_fit h ≡ true
    → is_record h.points ≡ true → HeadFits nodes edges faces (counts_of h) h
counted nodes edges faces h e f r =
    let p = within 0 (length nodes / node_width) h.nodes in
    let q = within 0 (length edges / edge_width) h.edges in
    let s = within 1 (length faces / face_width) h.faces in
    let g = and_left (p && q) s e in
    let k = and_right (p && q) s e in
    record {
      nodes_fit = div_room (nat_abs h.nodes) (length nodes) 3
          (within-pos 0 (length nodes / node_width) h.nodes (and_left p q g)).2;
      edges_fit = div_room (nat_abs h.edges) (length edges) 31
          (within-pos 0 (length edges / edge_width) h.edges (and_right p q g)).2;
      faces_fit = div_room (nat_abs h.faces) (length faces) 4
          (within-pos 1 (length faces / face_width) h.faces k).2;
      a_face = within-least 1 (length faces / face_width) h.faces k;
      nexts = f;
      recorded = r;
    }

-- the counts are not negative
pub counts-natural : (nodes edges faces : List ℤ) (h : Head) → counts_fit (lent nodes edges faces h) ≡ true
    → (non_neg h.nodes ≡ true) × (non_neg h.edges ≡ true) × (non_neg h.faces ≡ true)
counts-natural nodes edges faces h e =
    let p = within 0 (length nodes / node_width) h.nodes in
    let q = within 0 (length edges / edge_width) h.edges in
    let s = within 1 (length faces / face_width) h.faces in
    let g = and_left (p && q) s e in (
      is_natural h.nodes (within-pos 0 (length nodes / node_width) h.nodes (and_left p q g)).0,
      is_natural h.edges (within-pos 0 (length edges / edge_width) h.edges (and_right p q g)).0,
      is_natural h.faces (within-pos 1 (length faces / face_width) h.faces (and_right (p && q) s e)).0,
    )

-- ---- the definitions of condition 2, by these parts

module _ (nodes edges faces : List ℤ) (h : Head) where
  pub ranged_is : ranged (lent nodes edges faces h) ≡ counts_fit (lent nodes edges faces h) && nexts_fit h
      && is_record h.points && ranged_rows nodes edges faces (counts_of h) (limit_of h.points)
  unfolding ranged
  ranged_is =
      regroup (counts_fit (lent nodes edges faces h) && nexts_fit h && is_record h.points)
      (rest_zero node_width h.nodes nodes)
      (rest_zero edge_width h.edges edges) (rest_zero face_width h.faces faces)
      (all_of node_ranges (rows node_width (nat_abs h.nodes) nodes))
      (all_of (edge_ranges_to (most_points (limit_of h.points))) (rows edge_width (nat_abs h.edges) edges))
      (all_of face_ranges (rows face_width (nat_abs h.faces) faces))
    where
      regroup : (x a b c d e f : Bool) → x && a && b && c && d && e && f ≡ x && (a && b && c && d && e && f)
      regroup true a b c d e f = refl
      regroup false a b c d e f = refl

  pub map_is : map_of (lent nodes edges faces h) ≡ map_in nodes edges faces (counts_of h) h
  unfolding map_of
  map_is = refl

-- points are looked up among the nodes
pub curves_are : (nodes edges faces : List ℤ) (c : Counts) (h : Head) (l : List Edge)
    → all_of (curve_fits (node_map nodes c.nodes)) l ≡ all_of (curve_fits (map_in nodes edges faces c h)) l
unfolding node
curves_are nodes edges faces c h l = all_same (curve_fits (node_map nodes c.nodes))
    (curve_fits (map_in nodes edges faces c h)) (λ e. refl) l

module _ {nodes edges faces : List ℤ} {c : Counts} {h : Head} where
  -- ---- rows in range

  module _ (r : InRanges nodes edges faces c h) where
    -- a row holds either record
    pub ranged_rows_lem : (all_of node_ranges (rows node_width c.nodes nodes) ≡ true)
        × (all_of edge_ranges (rows edge_width c.edges edges) ≡ true)
        × (all_of face_ranges (rows face_width c.faces faces) ≡ true)
    ranged_rows_lem =
        let e = and₆ (rest_zero node_width (pos c.nodes) nodes) (rest_zero edge_width (pos c.edges) edges)
        (rest_zero face_width (pos c.faces) faces)
        (all_of node_ranges (rows node_width c.nodes nodes))
        (all_of (edge_ranges_to (most_points (limit_of h.points))) (rows edge_width c.edges edges))
        (all_of face_ranges (rows face_width c.faces faces)) r.ranged in
        (e.3, rows_wider (limit_of h.points) (rows edge_width c.edges edges) e.4, e.5)

  -- ---- rows in order

  module _ (r : InOrder nodes edges faces c h) where
    in_order : (numbered 1 (nat_abs h.next_node) (map (λ n. n.number) (nodes_of nodes c.nodes)) ≡ true)
        × (numbered 1 (nat_abs h.next_edge) (map (λ n. n.number) (edges_of edges c.edges)) ≡ true)
        × (numbered 0 (nat_abs h.next_face) (faces_of faces c.faces) ≡ true)
    unfolding numbers
    in_order =
        let p = numbered 1 (nat_abs h.next_node) (map (λ n. n.number) (nodes_of nodes c.nodes)) in
        let q = numbered 1 (nat_abs h.next_edge) (map (λ n. n.number) (edges_of edges c.edges)) in
        let f = numbered 0 (nat_abs h.next_face) (faces_of faces c.faces) in
        let e = and_left (p && q && f) (same (first_or 1 (faces_of faces c.faces)) 0) r.numbers in
        let g = and_left (p && q) f e in
        (and_left p q g, and_right p q g, and_right (p && q) f e)

    pub node_rows_lem : NodeRows nodes c.nodes
    node_rows_lem =
        record {
          fits = r.in_ranges.counted.nodes_fit;
          ranges = (ranged_rows_lem r.in_ranges).0;
          rising = numbered_wider 1 (nat_abs h.next_node) (suc last_number)
              (map (λ n. n.number) (nodes_of nodes c.nodes)) (nexts_in h r.in_ranges.counted.nexts).0.most
              in_order.0;
        }

    pub edges_in_order : EdgesInOrder edges c.edges
    edges_in_order =
        record {
          fits = r.in_ranges.counted.edges_fit;
          ranges = (ranged_rows_lem r.in_ranges).1;
          rising = numbered_wider 1 (nat_abs h.next_edge) (suc last_number)
              (map (λ n. n.number) (edges_of edges c.edges)) (nexts_in h r.in_ranges.counted.nexts).1.most
              in_order.1;
        }

    pub face_rows_lem : FaceRows faces c.faces
    face_rows_lem =
        record {
          fits = r.in_ranges.counted.faces_fit;
          ranges = (ranged_rows_lem r.in_ranges).2;
          rising = numbered_wider 0 (nat_abs h.next_face) (suc last_number) (faces_of faces c.faces)
              (nexts_in h r.in_ranges.counted.nexts).2.most in_order.2;
        }

  -- ---- named rows

  pub edge_rows_lem : Named nodes edges faces c h → EdgeRows edges c.edges
  unfolding named
  edge_rows_lem r =
      let m = map_in nodes edges faces c h in
      let o = edges_in_order r.in_order in
      record {
        fits = o.fits;
        ranges = o.ranges;
        rising = o.rising;
        named = all_weaker (edge_names m) (λ e. has_edge m e.next_left.edge && has_edge m e.next_right.edge)
            (λ e q. links (has_node m e.start) (has_node m e.end) (has_edge m e.next_left.edge)
            (has_edge m e.next_right.edge) (has_face m e.left) (has_face m e.right) q) (edges_of edges c.edges)
            (and_right (all_of (λ n. in_face m n.face) (nodes_of nodes c.nodes))
            (all_of (edge_names m) (edges_of edges c.edges)) r.named);
      }
