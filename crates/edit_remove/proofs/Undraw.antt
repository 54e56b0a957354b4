-- What is left in tables that hold a map once an edge row is undrawn: after a heal, or where both its sides are one
-- face. Assumes nothing.
use mathlib.Core.Path.{◌≡◌, refl, sym, ap, ap₂, subst, ◌∙◌}
use mathlib.Core.Bool.{Bool, true, false, ◌||◌}
use mathlib.Core.Logic.{◌⊎◌, inl, inr}
use mathlib.Core.List.{List, map-id, flat_map}
use mathlib.Core.Option.{Option, none, some}
use Prim.Native.Nat.{ℕ, ◌+◌, ◌<◌, min}
use native.Mathlib.Nat.{add-zero, min-eq_left}
use native.Mathlib.Omega.{arith}
use lib.IntN.{ℤ, pos, nat_abs}
use lib.ListN.{length}
use Rattle.lists.specs.Tests.{same}
use Rattle.lists.proofs.Bools.{which, same_true, same_eq, or-true}
use Rattle.lists.proofs.Keeps.{keep_all}
use Rattle.lists.proofs.Members.{map_cong}
use Rattle.tables.specs.Tables.{filled}
use Rattle.bounding_boxes.specs.declared.Extent.{Extent}
use Rattle.map.specs.declared.Head.{Head}
use Rattle.map.specs.Limits.{limit_of}
use Rattle.map.specs.Rows.{Node, Edge, Map, map_of, node_cells, edge_cells, counts, lent}
use Rattle.map.specs.Edits.{with_face, undrawn, with_sides, renamed, renamed_node, renamed_faces}
use Rattle.map_laws.proofs.Outlines.{undrawn_face_list}
use Rattle.map_rows.specs.Rows.{edge_at, faces_in}
use Rattle.outcomes.specs.Outcomes.{Formed}
use Rattle.face_rows.specs.Holds.{TablesOf, face_kept, merged_sides}
use Rattle.face_rows.proofs.Formed.{boxes, formed_held, holds_before}
use Rattle.face_rows.proofs.Healed.{healed_map_lem, healed_nodes_long, healed_edges_long, healed_number}
use Rattle.edge_rows.specs.Holds.{Undrawn}
use Rattle.edge_rows.proofs.Undrawn.{undrawn_head}
use Rattle.edit_remove.specs.RemovedEdges.{removed_edge}

-- ---- the edge undrawn

module _ {box : ℕ → Extent} {nodes edges faces nodes₁ edges₁ faces₁ : List ℤ} {m : Map} {h h₁ : Head}
    (before : TablesOf box nodes edges faces h m nodes₁ edges₁ faces₁ h₁)
    (is : map_of (lent nodes₁ edges₁ faces₁ h₁) ≡ m)
    (nodes-same : length nodes₁ ≡ length nodes) (edges-same : length edges₁ ≡ length edges) where
  holds_undrawn : (i k : ℕ) {face : ℤ} {g : ℕ} {nodes' edges' : List ℤ} {h' : Head} → (edge_at edges₁ i).number ≡ k
      → face ≡ pos g → Undrawn nodes₁ edges₁ h₁ i face nodes' edges' h'
      → TablesOf box nodes edges faces h (undrawn k g m) nodes' edges' faces₁ h'
  holds_undrawn i k {face} {g} ek ef u =
      let same : undrawn k g m
      ≡ undrawn (edge_at edges₁ i).number (nat_abs face) (map_of (lent nodes₁ edges₁ faces₁ h₁)) =
      λ j. undrawn (sym ek j) (nat_abs (sym ef j)) (sym is j) in
      record {
        node_cells_lem = ap₂ (λ (n : ℕ) (x : Map). filled n (flat_map node_cells x.nodes)) (sym nodes-same) same
            ∙ u.node_cells_lem faces₁;
        edge_cells_lem = ap₂ (λ (n : ℕ) (x : Map). filled n (flat_map edge_cells x.edges)) (sym edges-same) same
            ∙ u.edge_cells_lem faces₁;
        face_cells = ap (faces_in (length faces) box) (undrawn_face_list k g m) ∙ before.face_cells;
        head = undrawn_head (limit_of h.points) k g m before.head
            (ap (λ (x : Map). length x.edges + 1) same ∙ u.edges_left faces₁) ∙ sym u.head;
      }

-- ---- one face on both sides: nothing is healed

module _ (row : Edge) (one : row.left ≡ row.right) where
  abbrev f : ℕ
  f = min row.left row.right

  pub lower_is : f ≡ row.left
  lower_is = min-eq_left (omega (arith, one))

  kept : (g : ℕ) → renamed row f g ≡ g
  kept g = elim (which (same g row.left || same g row.right)) [
    | inl e ↦ rw e (lower_is ∙ sym (either (or-true (same g row.left) (same g row.right) e)))
    | inr e ↦ rw e
  ]
    where
      either : (same g row.left ≡ true) ⊎ (same g row.right ≡ true) → g ≡ row.left
      either (inl q) = same_true g row.left q
      either (inr q) = same_true g row.right q ∙ sym one

  node_kept : (x : Node) (q : Option ℕ) → x.face ≡ q → renamed_node row f x q ≡ x
  node_kept x none e = refl
  node_kept x (some g) e = ap (λ (o : Option ℕ). with_face o x) (ap some (kept g) ∙ sym e)

  unhealed : (m : Map) → merged_sides false row m ≡ m
  unfolding renamed_faces
  unhealed m =
      λ j.
      record {
        nodes = (map_cong (λ x. renamed_node row f x x.face) (λ x. x) m.nodes (λ x k. node_kept x x.face refl)
            ∙ map-id m.nodes) j;
        edges = (map_cong (λ r. with_sides (renamed row f r.left) (renamed row f r.right) r) (λ r. r) m.edges
            (λ r k. ap₂ (λ (a b : ℕ). with_sides a b r) (kept r.left) (kept r.right)) ∙ map-id m.edges) j;
        faces = keep_all (λ g. same g (renamed row f g)) m.faces
            (λ g k. same_eq g (renamed row f g) (sym (kept g))) j;
        next = counts (add-zero m.next.nodes j) (add-zero m.next.edges j) (add-zero m.next.faces j);
      }

-- ---- tables in form

module _ {nodes edges faces : List ℤ} {h : Head} (f : Formed nodes edges faces h) (i : ℕ) (makes : Bool) where
  abbrev whole : Map
  whole = map_of (lent nodes edges faces h)

  abbrev row : Edge
  row = edge_at edges i

  pub removed_one : row.left ≡ row.right → makes ≡ false → {face : ℤ} {nodes' edges' : List ℤ} {h' : Head} → face
      ≡ pos row.left → Undrawn nodes edges h i face nodes' edges' h'
      → TablesOf (boxes f) nodes edges faces h (removed_edge makes row whole) nodes' edges' faces h'
  removed_one one kept {face} {nodes'} {edges'} {h'} ef u =
      let same : undrawn row.number row.left whole ≡ removed_edge false row whole =
      ap₂ (undrawn row.number) (sym (lower_is row one)) (sym (unhealed row one whole)) in
      subst (λ (x : Map). TablesOf (boxes f) nodes edges faces h x nodes' edges' faces h')
      (same ∙ ap (λ (b : Bool). removed_edge b row whole) (sym kept))
      (holds_undrawn (holds_before f) refl refl refl i row.number refl ef u)

  pub removed_two : i < nat_abs h.edges → {nodes₁ edges₁ faces₁ : List ℤ} {h₁ : Head}
      → TablesOf (boxes f) nodes edges faces h (merged_sides makes row whole) nodes₁ edges₁ faces₁ h₁
      → {face : ℤ} {nodes' edges' : List ℤ} {h' : Head} → face ≡ pos (face_kept makes row whole)
      → Undrawn nodes₁ edges₁ h₁ i face nodes' edges' h'
      → TablesOf (boxes f) nodes edges faces h (removed_edge makes row whole) nodes' edges' faces₁ h'
  removed_two t {nodes₁} {edges₁} {faces₁} {h₁} after ef u =
      holds_undrawn after (healed_map_lem (formed_held f) row makes after)
      (healed_nodes_long (formed_held f) row makes after)
      (healed_edges_long (formed_held f) row makes after) i row.number
      (healed_number (formed_held f) row makes after i t) ef u
