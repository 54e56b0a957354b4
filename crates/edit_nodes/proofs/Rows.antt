-- The first reason of kinds 2 and 3, by rows of the tables. Assumes nothing.
use Rattle.std.specs.Prelude.{None}
use mathlib.Core.Path.{◌≡◌, sym, ap, ap₂, ◌∙◌}
use mathlib.Core.Bool.{Bool, true, false, not, ◌&&◌, ◌||◌}
use mathlib.Core.List.{List, [], ◌∷◌}
use Prim.Native.Nat.{ℕ, ◌<◌}
use lib.Dec.{lit<}
use lib.IntN.{ℤ, pos, nat_abs}
use borrow.Author.Tests.{not-false}
use Rattle.lists.specs.Scans.{is_some}
use Rattle.lists.specs.Tables.{place}
use Rattle.curves.specs.Curves.{point, coordinate}
use Rattle.map.specs.declared.Head.{Head}
use Rattle.map.specs.Limits.{node_width}
use Rattle.map.specs.Rows.{Node, Map, Sizes, map_of, sizes_of, without_node, lent}
use Rattle.map.specs.Tickets.{MoveIsoNode, RemoveIsoNode}
use Rattle.map.specs.Reasons.{first_reason, isolated, outside, edge_through, any_node_at, reasons}
use Rattle.tables.specs.Tables.{same_z, column}
use Rattle.map_rows.specs.Rows.{node_at, edge_map}
use Rattle.outcomes.specs.Outcomes.{Formed}
use Rattle.outcomes.proofs.Formed.{node_rows_lem, node_none}
use Rattle.outcomes.proofs.FoundRows.{node_there_lem, node_is}
use Rattle.map.proofs.Reasons.{first_hit, first_miss, first_zero, first_none}
use Rattle.reason_curves.proofs.Others.{node_at_but}
use Rattle.edit_nodes.specs.Parts.{point_taken, move_reasons}

module _ {nodes edges faces : List ℤ} {h : Head} (f : Formed nodes edges faces h) where
  abbrev m : Map
  m = map_of (lent nodes edges faces h)

  abbrev s : Sizes
  s = sizes_of (lent nodes edges faces h)

  -- a row that is missing is reason 4
  module _ (z : ℤ) (e : place (same_z z) 0 (column node_width nodes (nat_abs h.nodes)) ≡ None) where
    pub move_missing : (x y : ℤ) → first_reason (reasons s m (MoveIsoNode z x y)) ≡ 4
    unfolding reasons
    move_missing x y = first_hit 4 _ _ (node_none f z e)

    pub remove_missing : first_reason (reasons s m (RemoveIsoNode z)) ≡ 4
    unfolding reasons
    remove_missing = first_hit 4 _ _ (node_none f z e)

  module _ (i : ℕ) (b : i < nat_abs h.nodes) where
    abbrev number : ℕ
    number = (node_at nodes i).number

    isolated_row : isolated m number ≡ is_some (node_at nodes i).face
    isolated_row = ap (λ (r : Node). is_some r.face) (node_is f i b)

    -- kind 3
    module _ {r : Bool} (e : r ≡ is_some (node_at nodes i).face) where
      pub remove_joined : not r ≡ true → first_reason (reasons s m (RemoveIsoNode (pos number))) ≡ 9
      unfolding reasons
      remove_joined t = first_miss 4 _ _ (node_there_lem f i b)
          ∙ first_hit 9 _ _ (ap not (isolated_row ∙ sym e) ∙ t)

      pub remove_free : not r ≡ false → first_reason (reasons s m (RemoveIsoNode (pos number))) ≡ 0
      unfolding reasons
      remove_free t = first_miss 4 _ _ (node_there_lem f i b)
          ∙ first_miss 9 _ _ (ap not (isolated_row ∙ sym e) ∙ t) ∙ first_none

    -- kind 2
    taken_row : (x y : ℤ) → any_node_at (without_node number m.nodes) (point x y) || edge_through m (point x y)
        ≡ point_taken nodes (nat_abs h.nodes) edges (nat_abs h.edges) i (point x y)
    unfolding map_of edge_through
    taken_row x y =
        ap (λ (t : Bool). t || edge_through (edge_map edges (nat_abs h.edges)) (point x y))
        (sym (node_at_but nodes (nat_abs h.nodes) i (point x y) (node_rows_lem f) b))

    pub move_reasons_lem : (x y : ℤ) → first_reason (reasons s m (MoveIsoNode (pos number) x y))
        ≡ first_reason (move_reasons nodes edges h i x y)
    unfolding reasons
    move_reasons_lem x y = first_miss 4 _ _ (node_there_lem f i b)
        ∙ ap₂ (λ (a c : Bool). first_reason ((5, outside x y) ∷ (9, not a) ∷ (10, c) ∷ [])) isolated_row (taken_row x y)

-- a point that was not turned down is in range
pub move_point : (nodes edges : List ℤ) (h : Head) (i : ℕ) (x y : ℤ) → first_reason (move_reasons nodes edges h i x y)
    ≡ 0 → coordinate x && coordinate y ≡ true
move_point nodes edges h i x y e = not-false (coordinate x && coordinate y) (first_zero 5 _ _ (lit< tt) e).0
