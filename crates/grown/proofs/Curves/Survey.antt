-- Surveyed as it depends on the lines and places of a map alone, that is, on no links and no faces. Assumes nothing.
use mathlib.Core.Path.{◌≡◌, sym, ap, subst}
use mathlib.Core.Bool.{true}
use mathlib.Core.List.Memᴰ
use mathlib.Core.List.{List, map, map-map, Memᴰ}
use Prim.Native.Nat.{ℕ}
use native.Mathlib.Omega.{arith}
use Rattle.lists.specs.Members.{Distinct}
use Rattle.plane.specs.declared.Point.{Point}
use Rattle.plane.specs.Points.{InRange}
use Rattle.curves.specs.Curves.{Curve, last_point}
use Rattle.geometry.specs.Drawing.{Drawn}
use Rattle.map.specs.Rows.{Node, Edge, Map, node, has_node}
use Rattle.map.proofs.Laws.{node_there_lem}
use Rattle.map_laws.proofs.Readings.{arc_of, has_number, nums-rows}
use Rattle.map_laws.proofs.RowChanges.{node_number, node_at_lem}
use Rattle.grown.specs.Good.{Kept, Surveyed, Good}
use Rattle.grown.proofs.Numbers.Ranked.{numbered_ranked}

-- an edge and a node without links and faces
pub record Line : Type 0 where
  pub number : ℕ
  pub start : ℕ
  pub end : ℕ
  pub curve : Curve

pub record Place : Type 0 where
  pub number : ℕ
  pub at : Point

abbrev pub line_of : Edge → Line
line_of e = record { number = e.number; start = e.start; end = e.end; curve = e.curve }

abbrev pub place_of : Node → Place
place_of n = record { number = n.number; at = n.at }

abbrev pub lines : Map → List Line
lines m = map line_of m.edges

abbrev pub places : Map → List Place
places m = map place_of m.nodes

abbrev pub curve_in : Line → Curve
curve_in l = l.curve

abbrev pub at_in : Place → Point
at_in p = p.at

abbrev pub place_number : Place → ℕ
place_number p = p.number

abbrev pub line_number : Line → ℕ
line_number l = l.number

-- where the line starts and ends
abbrev pub start_of : Line → Place
start_of l = record { number = l.start; at = l.curve.first }

abbrev pub end_of : Line → Place
end_of l = record { number = l.end; at = last_point l.curve }

-- places in range, no two with one point or one number
pub record Plotted (ps : List Place) : Type 0 where
  pub in_range : (p : Place) → Memᴰ p ps → InRange p.at
  pub apart : Distinct (map at_in ps)
  pub numbered : Distinct (map place_number ps)

-- a line between two of the places
pub record Sited (ps : List Place) (l : Line) : Type 0 where
  pub kept : Kept l.curve
  pub start : Memᴰ (start_of l) ps
  pub end : Memᴰ (end_of l) ps

pub record Survey (ls : List Line) (ps : List Place) : Type 0 where
  pub drawn : Drawn (map curve_in ls)
  pub sited : (l : Line) → Memᴰ l ls → Sited ps l
  pub plotted : Plotted ps

-- ---- a map and its lines and places

module _ (m : Map) (G : Good m) where
  -- numbers stand once, and the next is none of them
  pub lines_once : Distinct (map line_number (lines m))
  lines_once = rw (map-map line_number line_of m.edges) (subst Distinct (nums-rows m) G.woven.planar.edges_once)

  places_once : Distinct (map place_number (places m))
  places_once = rw (map-map place_number place_of m.nodes) G.woven.planar.nodes_once

  pub place-fresh : Memᴰ m.next.nodes (map place_number (places m)) → ⊥
  place-fresh k =
      let b = (numbered_ranked m G.woven.planar.edges_once G.numbered).nodes.bounds m.next.nodes
      (subst (Memᴰ m.next.nodes) (map-map place_number place_of m.nodes) k) in
      omega (arith, b.1)

  -- the nodes that an edge names are there
  pub named_nodes : (e : Edge) → Memᴰ e m.edges → (has_node m e.start ≡ true) × (has_node m e.end ≡ true)
  named_nodes e k = (
    has_number node_number m.nodes e.start (G.woven.planar.within.starts (arc_of e) (Memᴰ.map arc_of k)),
    has_number node_number m.nodes e.end (G.woven.planar.within.ends (arc_of e) (Memᴰ.map arc_of k)),
  )

module _ (m : Map) where
  -- the point of a node that is there
  pub place_in : (n : ℕ) → has_node m n ≡ true → Memᴰ (record { number = n; at = (node m n).at }) (places m)
  place_in n h = Memᴰ.cast (λ i. record { number = sym (node_there_lem m n h).1 i; at = (node m n).at })
      (Memᴰ.map place_of (node_there_lem m n h).0)

  -- and what its place says
  at_place : (p : Place) → Distinct (map place_number (places m)) → Memᴰ p (places m) → p.at
      ≡ (node m p.number).at
  at_place p d k = go (Memᴰ.of_map place_of m.nodes k)
    where
      go : (r : Node) × Memᴰ r m.nodes × (place_of r ≡ p) → p.at ≡ (node m p.number).at
      go w = subst (λ (q : Place). q.at ≡ (node m q.number).at) w.2
          (sym (ap (λ (r : Node). r.at)
          (node_at_lem m (subst Distinct (map-map place_number place_of m.nodes) d) w.1)))

-- what is surveyed
pub survey : (m : Map) → Good m → Survey (lines m) (places m)
survey m G =
    record {
      drawn = rw (map-map curve_in line_of m.edges) G.surveyed.drawn;
      sited = λ l k. let w = Memᴰ.of_map line_of m.edges k in
          subst (Sited (places m)) w.2 (edge_sited w.0 w.1);
      plotted = record {
        in_range = λ p k. let w = Memᴰ.of_map place_of m.nodes k in
            subst (λ (q : Place). InRange q.at) w.2 (G.surveyed.nodes_in_range w.0 w.1);
        apart = rw (map-map at_in place_of m.nodes) G.surveyed.places;
        numbered = places_once m G;
      };
    }
  where
    edge_sited : (e : Edge) → Memᴰ e m.edges → Sited (places m) (line_of e)
    edge_sited e k =
        record {
          kept = G.surveyed.kept e k;
          start = Memᴰ.cast (λ i. record { number = e.start; at = (G.surveyed.anchored e k).start i })
              (place_in m e.start (named_nodes m G e k).0);
          end = Memᴰ.cast (λ i. record { number = e.end; at = (G.surveyed.anchored e k).end i })
              (place_in m e.end (named_nodes m G e k).1);
        }

-- it holds of a map with such lines and places
surveyed : (m : Map) → Survey (lines m) (places m) → Surveyed m
surveyed m S =
    record {
      drawn = subst Drawn (map-map curve_in line_of m.edges) S.drawn;
      kept = λ e k. (at e k).kept;
      anchored = λ e k. record {
        start = at_place m (start_of (line_of e)) S.plotted.numbered (at e k).start;
        end = at_place m (end_of (line_of e)) S.plotted.numbered (at e k).end;
      };
      nodes_in_range = λ n k. S.plotted.in_range (place_of n) (Memᴰ.map place_of k);
      places = subst Distinct (map-map at_in place_of m.nodes) S.plotted.apart;
    }
  where
    at : (e : Edge) → Memᴰ e m.edges → Sited (places m) (line_of e)
    at e k = S.sited (line_of e) (Memᴰ.map line_of k)

-- the general law: other links and faces change nothing
pub surveyed_by : (m : Map) {ls : List Line} {ps : List Place} → lines m ≡ ls → places m ≡ ps → Survey ls ps
    → Surveyed m
surveyed_by m e f S = surveyed m (subst (λ (ls : List Line). Survey ls (places m)) (sym e) (subst (Survey _) (sym f) S))
