-- A face shared out, in the numbers of the tables: which side a node or a directed edge goes to is the map's
-- definition.
use Rattle.std.specs.Prelude.{◌≡◌, Bool, true, cond, ◌&&◌, List, ℕ, ◌+◌, ◌*◌, ◌≤◌, ◌<◌, T, ℤ, pos, nat_abs, get_or, set, length}
use Rattle.std.specs.Int.Signed.{non_neg}
use Rattle.lists.specs.Tests.{same}
use Rattle.lists.specs.Scans.{all_of}
use Rattle.plane.specs.declared.Point.{Point}
use Rattle.map.specs.Limits.{node_width, max_edges}
use Rattle.map.specs.Rows.{Edge, has_node, node, edge}
use Rattle.map.specs.Darts.{ring, among, lowest_edge}
use Rattle.map.specs.Faces as faces
use Rattle.map.specs.Form.{links_once, rings_bear_one}
use Rattle.map.specs.Edits.{Shares, side_of_point, side_of_dart}
use Rattle.tables.specs.Tables.{same_z}
use Rattle.map_rows.specs.Rows.{NodeRows, EdgeRows, node_at, node_map, edge_map, edges_of}
use Rattle.darts.specs.Positions.{dart_at, side_place, side_cell}
use Rattle.form_links.specs.Drawn.{drawn_map}
use Rattle.face_relabel.specs.declared.Sides.{Sides}

-- what sharing out requires: rows in form, an existing ring, numbers that are faces
pub record ShareableFace (ns : List ℤ) (n : ℕ) (es : List ℤ) (e : ℕ) (s : Sides) : Type 0 where
  pub nodes : NodeRows ns n
  pub edges : EdgeRows es e
  pub few : e ≤ max_edges
  pub ring : s.ring < e * 2
  pub old : T (non_neg s.old)
  pub inside : T (non_neg s.inside)
  pub other : T (non_neg s.other)
  pub ends : all_of (λ r. has_node (node_map ns n) r.start && has_node (node_map ns n) r.end) (edges_of es e) ≡ true

-- links name each directed edge once, and rings bear one face
pub record Ringed (edges : List ℤ) (e : ℕ) : Type 0 where
  pub once : links_once (edge_map edges e) ≡ true
  pub one_face : rings_bear_one (edge_map edges e) ≡ true

-- the shares in the map's terms
abbrev pub shares_of : List ℤ → ℕ → List ℤ → ℕ → Sides → ℕ → Shares
shares_of nodes n edges e s across =
    record {
      old = nat_abs s.old;
      ref_ring = ring (drawn_map nodes n edges e) (dart_at edges s.ring);
      other_ring = ring (drawn_map nodes n edges e) (dart_at edges across);
      ref = nat_abs s.inside;
      other = nat_abs s.other;
    }

-- node row i of the old face goes to the side of its point
abbrev pub node_shared : List ℤ → ℕ → List ℤ → ℕ → Sides → List ℤ → ℕ → List ℤ
node_shared nodes n edges e s t i =
    let side = pos (side_of_point (drawn_map nodes n edges e) (shares_of nodes n edges e s s.ring)
    (node_at nodes i).at) in
    cond (same_z (get_or t (i * node_width + 3) (pos 0)) s.old) (set t (i * node_width + 3) side) t

-- the directed edge at p bears the face of its side
abbrev pub edge_shared : List ℤ → ℕ → List ℤ → ℕ → Sides → ℕ → List ℤ → ℕ → List ℤ
edge_shared nodes n edges e s across t p =
    set t (side_place p 5) (pos (side_of_dart (drawn_map nodes n edges e) (shares_of nodes n edges e s across)
    (dart_at edges p)))

-- ---- the functions below

-- the ring of position p encloses a point
abbrev pub ring_encloses : List ℤ → ℕ → ℕ → Point → Bool
ring_encloses edges e p q = faces.encloses (edge_map edges e) (ring (edge_map edges e) (dart_at edges p)) q

-- the mark of a point's side: 1 for the reference side, that of the ring of p
abbrev pub mark_of : List ℤ → ℕ → ℕ → Point → ℕ
mark_of edges e p q = cond (ring_encloses edges e p q) 1 2

-- the point where an edge starts
abbrev pub start_of : List ℤ → ℕ → Edge → Point
start_of nodes n r = (node (node_map nodes n) r.start).at

-- the mark of the side of the ring of q: by the start of its lowest edge
abbrev pub ring_mark : List ℤ → ℕ → List ℤ → ℕ → ℕ → ℕ → ℕ
ring_mark nodes n edges e p q =
    mark_of edges e p (start_of nodes n (edge (edge_map edges e)
    (lowest_edge (dart_at edges q).edge (ring (edge_map edges e) (dart_at edges q)))))

-- a ring is marked whole or not at all
pub record Whole (edges : List ℤ) (e : ℕ) (marks : List ℕ) : Type 0 where
  pub room : e * 2 ≤ length marks
  pub alike : (q r : ℕ) → q < e * 2 → r < e * 2 → among (ring (edge_map edges e) (dart_at edges q)) (dart_at edges r)
      ≡ true → get_or marks q 0 ≡ 0 → get_or marks r 0 ≡ 0

-- the directed edge at p, if it bears the old face, bears the number of its mark
abbrev pub side_shared : Sides → List ℕ → List ℤ → ℕ → List ℤ
side_shared s marks t p = cond (same_z (side_cell t p 5) s.old)
    (set t (side_place p 5) (cond (same (get_or marks p 0) 1) s.inside s.other)) t
