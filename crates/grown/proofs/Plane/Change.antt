-- Kinds 1, 2, 3 and 6: isolated nodes added, moved and removed, and an edge redrawn, keep a map in the plane. Assumes
-- nothing.
use mathlib.Core.Path.{◌≡◌, sym, ◌∙◌, subst}
use mathlib.Core.Logic.{inl, inr}
use mathlib.Core.Bool.{true, cond}
use mathlib.Core.List.Permᴰ
use mathlib.Core.List.{List, ◌∷◌, map, Permᴰ}
use Prim.Native.Nat.{ℕ}
use native.Mathlib.Omega.{arith}
use lib.ListN.{length}
use Rattle.lists.specs.Tests.{same}
use Rattle.lists.specs.Members.{Distinct}
use Rattle.lists.proofs.Bools.{same_true, which}
use Rattle.lists.proofs.Counts.{count_perm}
use Rattle.lists.proofs.Perms.{perm_in, perm_length, perm_distinct, map_last}
use Rattle.lists.proofs.Lookups.{without_perm}
use Rattle.lists.proofs.Maps.{map_twice}
use Rattle.plane.specs.declared.Point.{Point}
use Rattle.curves.specs.Curves.{Curve}
use Rattle.planar_maps.specs.Map.{Arc, Dart, fwd, bwd}
use Rattle.planar_maps.specs.Pieces.{pieces, label, Euler}
use Rattle.planar_maps.specs.Planar.{Planar}
use Rattle.planar_maps.proofs.Cycles.{fwd_in, bwd_in}
use Rattle.planar_maps.proofs.Moves.{planar_node, planar_node_off}
use Rattle.planar_maps.proofs.Agree.{planar_agree}
use Rattle.map.specs.Rows.{Node, Map, node, edge, has_node, at_nodes, at_edge, without_node}
use Rattle.map.specs.Darts.{arcs, leaves, next, bears}
use Rattle.map.specs.Edits.{lone, add_iso_node, move_iso_node, remove_iso_node, change_edge_geom}
use Rattle.map.specs.Reasons.{isolated}
use Rattle.map.proofs.Laws.{node_there_lem}
use Rattle.map_laws.proofs.RowChanges.{node_number, no_node}
use Rattle.grown.specs.Good.{InPlane}
use Rattle.map_laws.proofs.Redrawn.{same-arcs, same-leaves, same_next, same-bears}
use Rattle.grown.proofs.Law.Lawful.{Lawful}

-- ---- the nodes in another order

pieces-order : {nodes nodes' : List ℕ} (es : List Arc) → Permᴰ nodes nodes' → pieces nodes es ≡ pieces nodes' es
unfolding pieces
pieces-order es p = count_perm (λ n. same (label es n) n) p

pub planar_nodes : {nodes nodes' : List ℕ} {es : List Arc} {tail : Dart → ℕ} {next : Dart → Dart} {face : Dart → ℕ}
    {faces : ℕ} → Permᴰ nodes nodes' → Planar nodes es tail next face faces → Planar nodes' es tail next face faces
planar_nodes {nodes} {nodes'} {es} {faces = faces} p o = record {
  nodes_once = perm_distinct p o.nodes_once;
  edges_once = o.edges_once;
  within = record { starts = λ a m. perm_in p (o.within.starts a m); ends = λ a m. perm_in p (o.within.ends a m) };
  linked = o.linked;
  one-turn = o.one-turn;
  colouring = o.colouring;
  euler = euler;
}
  where
    euler : Euler nodes' es faces
    euler = omega (arith, o.euler, perm_length p, pieces-order es p)

-- ---- kinds 1 to 3

pub planar_1 : (m : Map) (p : Point) → Lawful m → InPlane m → InPlane (add_iso_node p m)
unfolding add_iso_node leaves next bears edge
planar_1 m p L o = planar_nodes (map_last node_number m.nodes (lone m m.next.nodes p))
    (planar_node o m.next.nodes (λ k. omega (arith, L.nodes_below m.next.nodes k)))

pub planar_2 : (m : Map) (n : ℕ) (p : Point) → InPlane m → InPlane (move_iso_node n p m)
unfolding move_iso_node at_nodes leaves next bears edge
planar_2 m n p o = subst (λ (ns : List ℕ). Planar ns (arcs m) (leaves m) (next m) (bears m) (length m.faces))
    (sym same_numbers) o
  where
    moved : Node → Node
    moved r = cond (same r.number n) (lone m n p) r

    number : (r : Node) → (moved r).number ≡ r.number
    number r = elim (which (same r.number n)) [ inl e ↦ rw e (sym (same_true r.number n e)) | inr e ↦ rw e ]

    same_numbers : map node_number (map moved m.nodes) ≡ map node_number m.nodes
    same_numbers = map_twice node_number moved node_number m.nodes (λ r k. number r)

-- the node n before the others
pub node_first : (m : Map) (n : ℕ) → has_node m n ≡ true → Distinct (map node_number m.nodes)
    → Permᴰ (map node_number m.nodes) (n ∷ map node_number (without_node n m.nodes))
unfolding node
node_first m n has once =
    subst (λ (x : ℕ). Permᴰ (map node_number m.nodes) (x ∷ map node_number (without_node n m.nodes)))
    (node_there_lem m n has).1 (Permᴰ.map node_number (without_perm node_number no_node m.nodes n once has))

pub planar_3 : (m : Map) (n : ℕ) → Lawful m → InPlane m → has_node m n ≡ true → isolated m n ≡ true
    → InPlane (remove_iso_node n m)
unfolding remove_iso_node leaves next bears edge
planar_3 m n L o has iso = planar_node_off (planar_nodes (node_first m n has o.nodes_once) o) (record {
  starts = λ a k e. L.bare n has iso (fwd a.num) (fwd_in k) (o.linked.starts a k ∙ e);
  ends = λ a k e. L.bare n has iso (bwd a.num) (bwd_in k) (o.linked.ends a k ∙ e);
})

-- ---- kind 6

pub planar_6 : (m : Map) (e : ℕ) (c : Curve) → InPlane m → InPlane (change_edge_geom e c m)
unfolding change_edge_geom at_edge
planar_6 m e c o = planar_agree (λ d k. same-leaves m e c d) (λ d k. same_next m e c d) (λ d k. same-bears m e c d)
    (subst (λ (es : List Arc). Planar (map node_number m.nodes) es (leaves m) (next m) (bears m) (length m.faces))
    (sym (same-arcs m e c)) o)
