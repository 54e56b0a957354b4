-- The link law as a test and as a fact, and what a map in form whose links obey it has. Nothing is said of the plane:
-- curves may cross. Assumes nothing.
use mathlib.Core.Path.{◌≡◌, refl, sym, ap, ◌∙◌}
use mathlib.Core.Bool.{true, beq}
use mathlib.Core.List.{map, Memᴰ}
use Prim.Native.Nat.{ℕ, ◌≤◌, ◌<◌}
use lib.ListN.{length}
use Rattle.lists.specs.Tests.{same}
use Rattle.lists.specs.Scans.{is_some}
use Rattle.lists.specs.Members.{Distinct}
use Rattle.lists.proofs.Bools.{same_true, beq_true, and-true}
use Rattle.lists.proofs.Members.{all_each, each_all, no_member}
use Rattle.planar_maps.specs.Map.{Dart, rev, Linked}
use Rattle.planar_maps.specs.Pieces.{Within, nums}
use Rattle.planar_maps.specs.Rings.{same_dart}
use Rattle.planar_maps.proofs.Rings.{rev_in, same_dart-true}
use Rattle.planar_maps.proofs.Turns.{rev-rev}
use Rattle.plane.specs.Points.{same_point}
use Rattle.plane.proofs.Laws.{same_point-true}
use Rattle.curves.specs.Curves.{points, last_point}
use Rattle.curves.specs.Tests.{neighbours_differ}
use Rattle.geometry.specs.Meaning.{Some}
use Rattle.rotation.specs.Law.{lawful_next, from, Apart, Law}
use Rattle.rotation.proofs.Tells.{is_yes}
use Rattle.rotation.proofs.Ties.{tells}
use Rattle.map.specs.Rows.{Edge, Map, node, has_node}
use Rattle.map.specs.Darts.{arcs, directed, leaves, next, bears, way, departures, edge_ends}
use Rattle.map.specs.Links.{clockwise, obeys_law}
use Rattle.map.specs.Form.{curve_fits, bare_marked, formed}
use Rattle.map.specs.Reasons.{isolated}
use Rattle.map.proofs.Laws.{formed_is, node_there_lem}
use Rattle.map_laws.proofs.Readings.{number_of, departing}
use Rattle.map_laws.proofs.RowChanges.{node_number}
use Rattle.map_laws.proofs.Departures.{from_in, from_has}
use Rattle.map_laws.proofs.Form.{formed-apart}
use Rattle.map_laws.proofs.Drawn.{some_rest}
use Rattle.grown.specs.Good.{Anchored, Good}
use Rattle.grown.proofs.Curves.Apart.{curve_long}
use Rattle.grown.proofs.Forms.{good_formed}
use Rattle.map.proofs.Linked as formedLinks

-- all links obey the law
abbrev pub Obeys : Map → Type 0
Obeys m = Law same_dart rev (leaves m) (way m) (directed m) (next m)

-- ---- the test and the fact

module _ (m : Map) where
  law_says : obeys_law m ≡ true → Obeys m
  unfolding obeys_law clockwise departures
  law_says h n d k = same_dart-true (next m (rev d)) (clockwise m (rev (rev d)))
      (all_each (λ c. same_dart (next m c) (clockwise m (rev c))) (directed m) h (rev d) (rev_in (arcs m) x.0))
      ∙ ap (clockwise m) (rev-rev d) ∙ ap (λ (i : ℕ). lawful_next (way m) same_dart d (from (leaves m) (directed m) i))
      x.1
    where
      x : Memᴰ d (directed m) × (leaves m d ≡ n)
      x = from_in (leaves m) (directed m) n k

  pub law_is : Obeys m → obeys_law m ≡ true
  unfolding obeys_law clockwise departures
  law_is l = each_all (λ d. same_dart (next m d) (clockwise m (rev d))) (directed m)
      (λ d k. is_yes tells (next m d) (clockwise m (rev d))
      (ap (next m) (sym (rev-rev d)) ∙ l (leaves m (rev d)) (rev d)
      (from_has (leaves m) (directed m) (leaves m (rev d)) (rev_in (arcs m) k) refl)))

-- ---- a map in form

-- what the theorems of this crate use of a map in form that obeys the law
pub record Lawful (m : Map) : Type 0 where
  pub once : Distinct (nums (arcs m))
  pub linked : Linked (arcs m) (leaves m) (next m) (bears m)
  pub within : Within (map node_number m.nodes) (arcs m)
  pub apart : Apart (leaves m) (way m) (directed m)
  pub law : Obeys m
  -- numbers in use are below the next
  pub nodes_below : (n : ℕ) → Memᴰ n (map node_number m.nodes) → n < m.next.nodes
  pub edges_below : (e : ℕ) → Memᴰ e (map number_of m.edges) → e < m.next.edges
  -- nothing departs from an isolated node
  pub bare : (n : ℕ) → has_node m n ≡ true → isolated m n ≡ true → (d : Dart) → Memᴰ d (directed m) → leaves m d
      ≡ n → ⊥
  pub anchored : (r : Edge) → Memᴰ r m.edges → Anchored m r
  pub some : (r : Edge) → Memᴰ r m.edges → Some r.curve.rest

module _ (m : Map) (h : formed m ≡ true) where
  formed_bare : (n : ℕ) → has_node m n ≡ true → isolated m n ≡ true → (d : Dart) → Memᴰ d (directed m) → leaves m d
      ≡ n → ⊥
  unfolding bare_marked
  formed_bare n has iso d k e = no_member (departures m n) (same_true (edge_ends m n) 0 none) (departing m n k e)
    where
      none : same (edge_ends m n) 0 ≡ true
      none = ap (λ (x : ℕ). same (edge_ends m x) 0) (sym (node_there_lem m n has).1)
          ∙ sym (beq_true (is_some (node m n).face) (same (edge_ends m (node m n).number) 0)
          (all_each (λ r. beq (is_some r.face) (same (edge_ends m r.number) 0)) m.nodes
          (formed_is m h).bare (node m n) (node_there_lem m n has).0))
          ∙ iso

  pub formed_anchored : (r : Edge) → Memᴰ r m.edges → Anchored m r
  formed_anchored r k =
      let fits = all_each (curve_fits m) m.edges (formed_is m h).curves r k in
      let ends = and-true (same_point r.curve.first (node m r.start).at)
      (same_point (last_point r.curve) (node m r.end).at) (and-true _ (neighbours_differ r.curve) fits).0 in
      record { start = same_point-true _ _ ends.0; end = same_point-true _ _ ends.1 }

  pub formed-lawful : ((r : Edge) → Memᴰ r m.edges → 2 ≤ length (points r.curve)) → obeys_law m ≡ true
      → Lawful m
  formed-lawful least law = record {
    once = formedLinks.edges_once m h;
    linked = formedLinks.linked m h;
    within = formedLinks.within_nodes m h;
    apart = formed-apart m h;
    law = law_says m law;
    nodes_below = (formed_is m h).numbers.nodes.below;
    edges_below = (formed_is m h).numbers.edges.below;
    bare = formed_bare;
    anchored = formed_anchored;
    some = λ r k. some_rest r.curve.first r.curve.rest (least r k);
  }

-- a good map is such a map, so what is said here of a kind holds of it
pub good_lawful : (m : Map) → Good m → Lawful m
good_lawful m g = formed-lawful m (good_formed m g) (curve_long m g.surveyed) (law_is m g.woven.law)
