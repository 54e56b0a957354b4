-- What kinds 13 and 14 answer, of an edge row that is found. Assumes nothing.
use Rattle.std.specs.Prelude.{Some}
use mathlib.Core.Path.{◌≡◌, refl, sym, ap, ap₂, ◌∙◌}
use mathlib.Core.Bool.{Bool, true, false, cond, not, ◌&&◌}
use mathlib.Core.List.{List}
use Prim.Native.Nat.{ℕ, suc, ◌+◌, ◌≤◌, min}
use native.Mathlib.Omega.{arith}
use lib.IntN.{ℤ, pos, negsuc, nat_abs}
use Rattle.lists.specs.Tests.{same, bit}
use Rattle.lists.specs.Tables.{place}
use Rattle.lists.proofs.Bools.{same_eq, &&-false}
use Rattle.map.specs.declared.Head.{Head}
use Rattle.map.specs.declared.Variant.{Variant}
use Rattle.map.specs.declared.Variant.TheVariants.{New, Mod}
use Rattle.map.specs.Limits.{edge_width, last_number}
use Rattle.map.specs.Rows.{Edge, Map, map_of, lent_with, sizes_of, edge, lent}
use Rattle.tables.specs.Tables.{same_z, column}
use Rattle.map.specs.Edits.{is_new, undrawn, heals_faces, makes_face, remove_edge}
use Rattle.map.specs.Reasons.{first_reason, reasons}
use Rattle.map.specs.Ticket.{carried}
use Rattle.map_laws.proofs.Reasons.{remove_new}
use Rattle.map_rows.specs.Rows.{edge_at}
use Rattle.map_rows.proofs.Rows.{edge-row_of}
use Rattle.outcomes.specs.declared.Carried.{Carried}
use Rattle.outcomes.specs.Outcomes.{Formed}
use Rattle.outcomes.proofs.Formed.{counted, edge_rows_lem}
use Rattle.outcomes.specs.Variants.{remove_ticket}
use Rattle.outcomes.proofs.FoundRows.{edge_in, edge-number, edge_is}
use Rattle.face_rows.specs.Holds.{face_kept, merged_sides}
use Rattle.face_rows.proofs.Formed.{boxes, holds_lent}
use Rattle.face_rows.proofs.Healed.{removed_is}
use Rattle.edit_remove.specs.RemovedEdges.{RemovableEdge, EdgeRemoved, removed_edge, value_left}

module _ {nodes edges faces : List ℤ} {h : Head} (f : Formed nodes edges faces h) (how : Variant) (makes : Bool)
    (z : ℤ) (i : ℕ) (at : place (same_z z) 0 (column edge_width edges (nat_abs h.edges)) ≡ Some i)
    (made : makes ≡ makes_face how (nat_abs z) (map_of (lent nodes edges faces h))) where
  abbrev m : Map
  m = map_of (lent nodes edges faces h)

  abbrev row : Edge
  row = edge_at edges i

  row_is : edge m (nat_abs z) ≡ row
  row_is = ap (λ (k : ℤ). edge m (nat_abs k)) (edge-number f z i at) ∙ edge_is f i (edge_in f z i at)

  none_made : row.left ≡ row.right → makes ≡ false
  unfolding makes_face heals_faces
  none_made e =
      let lower = not (same (min row.left row.right) 0) in
      made
      ∙ ap (λ (r : Edge). is_new how && not (same r.left r.right) && not (same (min r.left r.right) 0))
      row_is
      ∙ ap (λ (b : Bool). is_new how && not b && lower) (same_eq row.left row.right e)
      ∙ ap (λ (b : Bool). b && lower) (&&-false (is_new how))

  -- a new face has a number left
  number-left : (v : Variant) → first_reason (reasons (sizes_of (lent nodes edges faces h)) m (remove_ticket v z)) ≡ 0
      → nat_abs h.next_face + bit (makes_face v (nat_abs z) m) ≤ suc last_number
  unfolding map_of makes_face
  number-left New e = (remove_new (sizes_of (lent nodes edges faces h)) m z e).supply.faces
  number-left Mod e = omega (arith, (counted f).next_face.most)

  pub removable : first_reason (reasons (sizes_of (lent nodes edges faces h)) m (remove_ticket how z)) ≡ 0
      → RemovableEdge nodes edges faces h i makes
  removable e =
      let t = edge_in f z i at in
      record {
        formed = f;
        row = t;
        cells = edge-row_of (edge_rows_lem f) i t;
        kept = none_made;
        number = rw made (number-left how e);
      }

  removed_map : remove_edge how (nat_abs z) m ≡ removed_edge makes row m
  removed_map =
      removed_is how (nat_abs z) m
      ∙ ap₂ (λ (b : Bool) (r : Edge). undrawn (nat_abs z) (face_kept b r m) (merged_sides b r m)) (sym made) row_is
      ∙ ap (λ (k : ℕ). undrawn k (face_kept makes row m) (merged_sides makes row m)) (ap nat_abs (edge-number f z i at))

  carried-map : (v : Variant) → (carried m (remove_ticket v z)).0 ≡ remove_edge v (nat_abs z) m
  unfolding carried
  carried-map New = refl
  carried-map Mod = refl

  pub removed_lent : {nodes' edges' faces' : List ℤ} {r : Carried}
      → EdgeRemoved nodes edges faces h i makes nodes' edges' faces' r
      → lent_with (boxes f) (sizes_of (lent nodes edges faces h)) (carried m (remove_ticket how z)).0
      ≡ lent nodes' edges' faces' r.head
  removed_lent c = ap (lent_with (boxes f) (sizes_of (lent nodes edges faces h))) (carried-map how ∙ removed_map)
      ∙ holds_lent f refl refl refl c.holds

  turned : (b : Bool) (x y : ℤ) → cond (not b) x y ≡ cond b y x
  turned true x y = refl
  turned false x y = refl

  carried-value : (v : Variant) → (carried m (remove_ticket v z)).1
      ≡ cond (is_new v) (value_left (makes_face v (nat_abs z) m) (edge m (nat_abs z)) m) (pos 0)
  unfolding carried heals_faces
  carried-value New = turned (same (edge m (nat_abs z)).left (edge m (nat_abs z)).right)
      (pos (face_kept (makes_face New (nat_abs z) m) (edge m (nat_abs z)) m)) (negsuc 0)
  carried-value Mod = refl

  pub removed_value : (carried m (remove_ticket how z)).1 ≡ cond (is_new how) (value_left makes row m) (pos 0)
  removed_value = carried-value how ∙ ap₂ (λ (b : Bool) (r : Edge). cond (is_new how) (value_left b r m) (pos 0))
      (sym made) row_is
