-- An edge that nothing turns down, drawn into a map in form: links name each directed edge once, rings bear one face,
-- and edges end at nodes. Assumes nothing.
use mathlib.Core.Path.{◌≡◌, refl, sym, ap, ◌∙◌, subst}
use mathlib.Core.Logic.{inl, inr}
use mathlib.Core.Bool.{true}
use mathlib.Core.List.Memᴰ
use mathlib.Core.List.{List, map, Memᴰ}
use mathlib.Core.Option.{none}
use Prim.Native.Nat.{ℕ}
use lib.IntN.{ℤ}
use Rattle.lists.specs.Members.{Distinct}
use Rattle.curves.specs.Curves.{Curve, start_way}
use Rattle.planar_maps.specs.Map.{Linked}
use Rattle.planar_maps.specs.Pieces.{Within, nums}
use Rattle.map.specs.declared.Variant.{Variant}
use Rattle.map.specs.Rows.{Edge, Map, Sizes, edge}
use Rattle.map.specs.Darts.{arcs, leaves, next, bears}
use Rattle.map.specs.Links.{corner_face}
use Rattle.map.specs.Form.{links_once, rings_bear_one, formed}
use Rattle.map.specs.Edits.{with_face, is_either, drawn_in}
use Rattle.map.proofs.Laws.{formed_is}
use Rattle.map.proofs.Linked as formedLinks
use Rattle.map_rows.specs.Rows.{edges_of, edges_alone}
use Rattle.face_relabel.specs.Sharing.{Ringed}
use Rattle.map_laws.proofs.Readings.{number_has, arc_at, Outline, outline_of, outlines}
use Rattle.map_laws.proofs.RowChanges.{node_number, no_node, numbers_kept}
use Rattle.map_laws.proofs.Reasons.{AddEdge}
use Rattle.map_laws.proofs.Outlines.{drawn-shape}
use Rattle.map_laws.proofs.Form.{linked_once, linked_bear, formed-apart, edge_new}
use Rattle.map_laws.proofs.DrawnLinked.{Draws, draws_edge_lem, D-linked, D-once}

-- ---- a linked map by the tests of form

module _ (m : Map) (l : Linked (arcs m) (leaves m) (next m) (bears m)) (dis : Distinct (nums (arcs m))) where
  -- so are its rows in a table
  pub linked_ringed : (es : List ℤ) (n : ℕ) → m.edges ≡ edges_of es n → Ringed es n
  unfolding links_once rings_bear_one next bears edge
  linked_ringed es n E = record {
    once = sym (ap (λ (l : List Edge). links_once (edges_alone l)) E)
        ∙ linked_once m l dis;
    one_face = sym (ap (λ (l : List Edge). rings_bear_one (edges_alone l)) E) ∙ linked_bear m l;
  }

-- ---- a map in form

-- an edge starts and ends at nodes of these numbers
abbrev EndsAmong : List ℕ → Outline → Type 0
EndsAmong ns o = Memᴰ o.arc.from ns × Memᴰ o.arc.to ns

module _ (m : Map) (h : formed m ≡ true) where
  module _ {how : Variant} {s : Sizes} {u v : ℕ} {c : Curve} (t : AddEdge how s m u v c) where
    draws : Draws m u v c (corner_face m u (start_way c))
    draws = draws_edge_lem t (formedLinks.linked m h) (formedLinks.edges_once m h) (formed-apart m h)
        (edge_new m (formed_is m h).numbers.edges.below)

    pub drawn_ringed : (es : List ℤ) (n : ℕ) → (drawn_in u v c m).edges ≡ edges_of es n → Ringed es n
    drawn_ringed = linked_ringed (drawn_in u v c m) (D-linked m u v c _ draws) (D-once m u v c _ draws)

    -- ---- edges end at nodes

    abbrev D : Map
    D = drawn_in u v c m

    numbers : map node_number D.nodes ≡ map node_number m.nodes
    numbers = ap (map node_number) (drawn-shape u v c (corner_face m u (start_way c)) m).nodes
        ∙ numbers_kept (is_either u v) (with_face none) m.nodes (λ n. refl)

    ends : (o : Outline) → Memᴰ o (outlines D) → EndsAmong (map node_number m.nodes) o
    ends o k = elim (Memᴰ.append_cases (outlines m)
        (subst (Memᴰ o) (drawn-shape u v c (corner_face m u (start_way c)) m).outlines k)) [
          | inl i ↦ let r = Memᴰ.of_map outline_of m.edges i in
              subst (EndsAmong (map node_number m.nodes)) r.2
              (within.starts _ (arc_at m r.1), within.ends _ (arc_at m r.1))
          | inr i ↦ subst (EndsAmong (map node_number m.nodes)) (sym (Memᴰ.eq_of_singleton i)) (
            number_has node_number no_node m.nodes u t.has_start,
            number_has node_number no_node m.nodes v t.has_end,
          )
        ]
      where
        within : Within (map node_number m.nodes) (arcs m)
        within = formedLinks.within_nodes m h

    pub drawn_ends : (r : Edge) → Memᴰ r (drawn_in u v c m).edges
        → Memᴰ r.start (map node_number (drawn_in u v c m).nodes)
        × Memᴰ r.end (map node_number (drawn_in u v c m).nodes)
    drawn_ends r k = rw numbers (ends (outline_of r) (Memᴰ.map outline_of k))
