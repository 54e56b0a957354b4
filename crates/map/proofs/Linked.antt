-- A map in form is linked, in the sense of the theory of linked maps: so two of the four statements of soundness hold
-- in every map in form. Assumes nothing.
use mathlib.Core.Path.{◌≡◌, refl, sym, ap, subst, ◌∙◌}
use mathlib.Core.Bool.{true, ◌&&◌}
use mathlib.Core.List.Memᴰ
use mathlib.Core.List.Permᴰ
use mathlib.Core.List.{List, map, map-map, Memᴰ, Permᴰ}
use Prim.Native.Nat.{ℕ, zero, suc}
use native.Mathlib.Omega.{arith}
use lib.ListN.{length-map}
use Rattle.lists.specs.Tests.{same, iterate}
use Rattle.lists.specs.Scans.{count_of}
use Rattle.lists.specs.Members.{Distinct}
use Rattle.lists.proofs.Bools.{same_true, and-true}
use Rattle.lists.proofs.Perms.{perm_of_distinct}
use Rattle.lists.proofs.Counts.{count_in}
use Rattle.lists.proofs.Members.{all_each}
use Rattle.planar_maps.specs.Map.{Arc, Dart, fwd, bwd, Linked}
use Rattle.planar_maps.specs.Rings.{same_dart, Leads}
use Rattle.planar_maps.specs.Pieces.{Within, nums}
use Rattle.planar_maps.proofs.Hooks.{distinct_darts}
use Rattle.planar_maps.proofs.Rings.{same_dart-true, next_in_lem}
use Rattle.map.specs.Rows.{Node, Edge, Map, edge, has_node, has_edge, has_face}
use Rattle.map.specs.Darts.{arcs, directed, leaves, arrives, next, bears}
use Rattle.map.specs.Form.{links_once, links_meet, rings_bear_one, formed}
use Rattle.map.proofs.Laws.{Formed, formed_is, edge_row_lem, node_there_lem, names}

-- the arc of a row
abbrev pub arc_of : Edge → Arc
arc_of e = record { num = e.number; from = e.start; to = e.end }

module _ (m : Map) where
  -- the numbers of the arcs are those of the rows
  pub nums-rows : nums (arcs m) ≡ map (λ e. e.number) m.edges
  nums-rows = map-map (λ (a : Arc). a.num) arc_of m.edges

  -- where a directed edge leaves, by its arc
  module _ (once : Distinct (nums (arcs m))) where
    pub starts : (a : Arc) → Memᴰ a (arcs m) → leaves m (fwd a.num) ≡ a.from
    unfolding leaves
    starts a k =
        let r = Memᴰ.of_map arc_of m.edges k in
        subst (λ (a : Arc). (edge m a.num).start ≡ a.from) r.2
        (ap (λ (e : Edge). e.start) (edge_row_lem m (subst Distinct nums-rows once) r.0 r.1))

    pub ends : (a : Arc) → Memᴰ a (arcs m) → leaves m (bwd a.num) ≡ a.to
    unfolding leaves
    ends a k =
        let r = Memᴰ.of_map arc_of m.edges k in
        subst (λ (a : Arc). (edge m a.num).end ≡ a.to) r.2
        (ap (λ (e : Edge). e.end) (edge_row_lem m (subst Distinct nums-rows once) r.0 r.1))

  -- links that name every directed edge exactly once
  pub links_perm : Distinct (nums (arcs m)) → links_once m ≡ true → Permᴰ (map (next m) (directed m)) (directed m)
  unfolding links_once
  links_perm dis h = Permᴰ.symm (perm_of_distinct (directed m) links (distinct_darts (arcs m) dis) named
      (omega (arith, length-map (directed m) (next m))))
    where
      links : List Dart
      links = map (next m) (directed m)

      named : (d : Dart) → Memᴰ d (directed m) → Memᴰ d links
      named d k =
          let one = same_true (count_of (same_dart d) links) 1
          (all_each (λ d. same (count_of (same_dart d) links) 1) (directed m) h d k) in
          let r = count_in (same_dart d) links (omega arith) in
          Memᴰ.cast (same_dart-true d r.0 r.2) r.1

  -- links that keep the face
  pub links_keep : rings_bear_one m ≡ true → (d : Dart) → Memᴰ d (directed m) → bears m (next m d) ≡ bears m d
  unfolding rings_bear_one
  links_keep h d k = same_true _ _ (all_each (λ d. same (bears m (next m d)) (bears m d)) (directed m) h d k)

module _ (m : Map) (h : formed m ≡ true) where
  form : Formed m
  form = formed_is m h

  pub edges_once : Distinct (nums (arcs m))
  edges_once = rw (nums-rows m) form.numbers.edges.distinct

  pub links_once_lem : Permᴰ (map (next m) (directed m)) (directed m)
  links_once_lem = links_perm m edges_once form.once

  pub meets : (d : Dart) → Memᴰ d (directed m) → leaves m (next m d) ≡ arrives m d
  unfolding links_meet
  meets d k = same_true _ _ (all_each (λ d. same (leaves m (next m d)) (arrives m d)) (directed m) form.meet d k)

  pub keeps : (d : Dart) → Memᴰ d (directed m) → bears m (next m d) ≡ bears m d
  keeps = links_keep m form.rings

  pub linked : Linked (arcs m) (leaves m) (next m) (bears m)
  linked = record {
    starts = starts m edges_once;
    ends = ends m edges_once;
    perm = links_once_lem;
    meets = meets;
    keeps = keeps;
  }

  -- all directed edges of a ring bear one face
  pub rings_bear_one_lem : (d d' : Dart) → Memᴰ d (directed m) → Leads (next m) d d' → bears m d' ≡ bears m d
  rings_bear_one_lem d d' k l = subst (λ (c : Dart). bears m c ≡ bears m d) l.1 (go l.0).1
    where
      go : (n : ℕ) → Memᴰ (iterate n (next m) d) (directed m) × (bears m (iterate n (next m) d) ≡ bears m d)
      go zero = (k, refl)
      go (suc n) = let r = go n in (next_in_lem linked r.0, keeps (iterate n (next m) d) r.0 ∙ r.1)

  -- edges start and end at nodes
  pub within_nodes : Within (map (λ n. n.number) m.nodes) (arcs m)
  within_nodes = record {
    starts = λ a k. at_start_lem (Memᴰ.of_map arc_of m.edges k);
    ends = λ a k. at_end_lem (Memᴰ.of_map arc_of m.edges k);
  }
    where
      there : (n : ℕ) → has_node m n ≡ true → Memᴰ n (map (λ n. n.number) m.nodes)
      there n e = let r = node_there_lem m n e in Memᴰ.cast (sym r.1) (Memᴰ.map (λ (n : Node). n.number) r.0)

      both : (e : Edge) → Memᴰ e m.edges → (has_node m e.start ≡ true) × (has_node m e.end ≡ true)
      both e k =
          let h₁ = and-true _ (has_face m e.right) (names m h e k) in
          let h₂ = and-true _ (has_face m e.left) h₁.0 in
          let h₃ = and-true _ (has_edge m e.next_right.edge) h₂.0 in
          let h₄ = and-true (has_node m e.start && has_node m e.end) (has_edge m e.next_left.edge) h₃.0 in
          and-true (has_node m e.start) (has_node m e.end) h₄.0

      at_start_lem : {a : Arc} → (e : Edge) × Memᴰ e m.edges × (arc_of e ≡ a)
          → Memᴰ a.from (map (λ n. n.number) m.nodes)
      at_start_lem r = Memᴰ.cast (sym (ap (λ (a : Arc). a.from) r.2)) (there r.0.start (both r.0 r.1).0)

      at_end_lem : {a : Arc} → (e : Edge) × Memᴰ e m.edges × (arc_of e ≡ a)
          → Memᴰ a.to (map (λ n. n.number) m.nodes)
      at_end_lem r = Memᴰ.cast (sym (ap (λ (a : Arc). a.to) r.2)) (there r.0.end (both r.0 r.1).1)
