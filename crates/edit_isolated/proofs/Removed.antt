-- What kind 5 answers: the reasons against it, and the tables it leaves. Assumes nothing.
use Rattle.std.specs.Prelude.{None}
use mathlib.Core.Path.{◌≡◌, refl, sym, ap, ◌∙◌}
use mathlib.Core.Bool.{Bool, true, false, not}
use mathlib.Core.List.{List, [], flat_map}
use Prim.Native.Nat.{ℕ, ◌*◌, ◌/◌, ◌<◌}
use lib.IntN.{ℤ, pos, nat_abs}
use lib.ListN.{length}
use Rattle.lists.specs.Tables.{place}
use Rattle.map.specs.declared.Head.{Head}
use Rattle.map.specs.Limits.{edge_width, face_width}
use Rattle.map.specs.Rows.{Edge, Map, Sizes, map_of, lent_with, rectangle, sizes_of, node_cells, edge_cells, at_nodes, lent}
use Rattle.tables.specs.Tables.{same_z, column, filled}
use Rattle.map.specs.Links.{unlink_edge, redirect}
use Rattle.map.specs.Edits.{undrawn, remove_iso_edge}
use Rattle.map.specs.Tickets.{RemoveIsoEdge}
use Rattle.map.specs.Reasons.{first_reason, reasons, no_edge, edge_isolated}
use Rattle.map.specs.Ticket.{carried}
use Rattle.map.proofs.Reasons.{first_hit, first_miss, first_none}
use Rattle.map_rows.specs.Rows.{edge_at, edge_map, faces_in}
use Rattle.reason_departures.proofs.Alone.{isolated_alone}
use Rattle.outcomes.specs.Outcomes.{Formed}
use Rattle.outcomes.proofs.Formed.{nodes_size, edges_size, faces_filled, lent_is, edge_none, head_back}
use Rattle.edge_rows.specs.Holds.{Undrawn}
use Rattle.edge_rows.proofs.Undrawn.{undrawn_head}
use Rattle.outcomes.proofs.FoundRows.{edge_there_lem, edge_is}

module _ {nodes edges faces : List ℤ} {h : Head} (f : Formed nodes edges faces h) where
  abbrev m : Map
  m = map_of (lent nodes edges faces h)

  abbrev s : Sizes
  s = sizes_of (lent nodes edges faces h)

  -- a row that is missing is reason 4
  pub remove_missing : (z : ℤ) → place (same_z z) 0 (column edge_width edges (nat_abs h.edges)) ≡ None
      → first_reason (reasons s m (RemoveIsoEdge z)) ≡ 4
  unfolding reasons
  remove_missing z e = first_hit 4 (no_edge m z) _ (edge_none f z e)

  module _ (i : ℕ) (b : i < nat_abs h.edges) where
    abbrev number : ℕ
    number = (edge_at edges i).number

    module _ {r : Bool} (q : r ≡ edge_isolated (edge_map edges (nat_abs h.edges)) (edge_at edges i).number) where
      isolated_is : edge_isolated m number ≡ r
      unfolding map_of
      isolated_is = isolated_alone m number ∙ sym q

      pub remove_joined : r ≡ false → first_reason (reasons s m (RemoveIsoEdge (pos number))) ≡ 9
      unfolding reasons
      remove_joined e = first_miss 4 (no_edge m (pos number)) _ (edge_there_lem f i b)
          ∙ first_hit 9 (not (edge_isolated m number)) [] (ap not (isolated_is ∙ e))

      pub remove_free : r ≡ true → first_reason (reasons s m (RemoveIsoEdge (pos number))) ≡ 0
      unfolding reasons
      remove_free e = first_miss 4 (no_edge m (pos number)) _ (edge_there_lem f i b)
          ∙ first_miss 9 (not (edge_isolated m number)) [] (ap not (isolated_is ∙ e)) ∙ first_none

    same_faces : (g : ℕ) → faces_in (length faces / face_width * face_width) (rectangle m.edges)
        (undrawn number g m).faces ≡ faces
    unfolding undrawn at_nodes unlink_edge redirect map_of
    same_faces g = faces_filled f

    pub remove_lent : {face : ℤ} {nodes' edges' : List ℤ} {h' : Head} → face ≡ pos (edge_at edges i).left
        → Undrawn nodes edges h i face nodes' edges' h'
        → lent_with (rectangle m.edges) s (carried m (RemoveIsoEdge (pos number))).0 ≡ lent nodes' edges' faces h'
    unfolding carried remove_iso_edge
    remove_lent {face} ef u =
        let m' = undrawn number (nat_abs face) m in
        ap (λ (g : ℕ). lent_with (rectangle m.edges) s (undrawn number g m))
        (ap (λ (r : Edge). r.left) (edge_is f i b) ∙ sym (ap nat_abs ef))
        ∙ lent_is (rectangle m.edges) s m'
        (ap (λ (k : ℕ). filled k (flat_map node_cells m'.nodes)) (nodes_size f).0 ∙ u.node_cells_lem faces)
        (ap (λ (k : ℕ). filled k (flat_map edge_cells m'.edges)) (edges_size f).0 ∙ u.edge_cells_lem faces)
        (same_faces (nat_abs face))
        (undrawn_head s.limit number (nat_abs face) m (head_back f) (u.edges_left faces) ∙ sym u.head)

pub remove_value : (m : Map) (z : ℤ) → (carried m (RemoveIsoEdge z)).1 ≡ pos 0
unfolding carried
remove_value m z = refl
