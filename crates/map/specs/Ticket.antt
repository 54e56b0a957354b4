-- One ticket on any tables and any run of numbers: tables and head after it, refusal and value. The empty map, and the
-- edges of a face.
use Rattle.std.specs.Prelude.{true, cond, not, ℕ, zero, suc, ltb, ℤ, pos, negsuc, nat_abs, length, drop}
use mathlib.Core.List.{List, [], ◌∷◌, ◌++◌, map, flat_map}
use Rattle.std.proofs.Math.Option.{Option, none, some}
use Rattle.lists.specs.Tests.{same}
use Rattle.lists.specs.Scans.{keep}
use Rattle.curves.specs.Curves.{point}
use Rattle.planar_maps.specs.Map.{Dart}
use Rattle.map.specs.declared.Answer.{Answer}
use Rattle.map.specs.declared.Variant.TheVariants.{New, Mod}
use Rattle.map.specs.Limits.{is_record, limit_of}
use Rattle.map.specs.Rows.{Map, Lent, Sizes, empty_map, map_of, lent_of, sizes_of, sizes_for, whole, dart_cell}
use Rattle.map.specs.Darts.{bears, ring, firsts}
use Rattle.map.specs.Form.{in_form}
use Rattle.map.specs.Tickets.{Ticket, AddIsoNode, MoveIsoNode, RemoveIsoNode, AddIsoEdge, RemoveIsoEdge}
use Rattle.map.specs.Tickets.{ChangeEdgeGeom, NewEdgesSplit, ModEdgeSplit, NewEdgeHeal, ModEdgeHeal}
use Rattle.map.specs.Tickets.{AddEdgeNewFaces, AddEdgeModFace, RemEdgeNewFace, RemEdgeModFace, read}
use Rattle.map.specs.Edits.{add_iso_node, move_iso_node, remove_iso_node, add_iso_edge, remove_iso_edge, change_edge_geom}
use Rattle.map.specs.Edits.{split, heal, add_edge, remove_edge, heals_faces, face_left}
use Rattle.map.specs.Reasons.{Reasons, first_reason, reasons, no_face, curve_in}

-- a ticket carried out: the map after it and the value
unfoldable pub carried : Map → Ticket → Map × ℤ
carried m (AddIsoNode f x y) = (add_iso_node (point x y) m, pos m.next.nodes)
carried m (MoveIsoNode n x y) = (move_iso_node (nat_abs n) (point x y) m, pos 0)
carried m (RemoveIsoNode n) = (remove_iso_node (nat_abs n) m, pos 0)
carried m (AddIsoEdge u v sent) = (add_iso_edge (nat_abs u) (nat_abs v) (curve_in sent) m, pos m.next.edges)
carried m (RemoveIsoEdge e) = (remove_iso_edge (nat_abs e) m, pos 0)
carried m (ChangeEdgeGeom e sent) = (change_edge_geom (nat_abs e) (curve_in sent) m, pos 0)
carried m (NewEdgesSplit e x y) = (split New (nat_abs e) (point x y) m, pos m.next.nodes)
carried m (ModEdgeSplit e x y) = (split Mod (nat_abs e) (point x y) m, pos m.next.nodes)
carried m (NewEdgeHeal e f) = (heal New (nat_abs e) (nat_abs f) m, pos m.next.edges)
carried m (ModEdgeHeal e f) = (heal Mod (nat_abs e) (nat_abs f) m, pos 0)
carried m (AddEdgeNewFaces u v sent) = (add_edge New (nat_abs u) (nat_abs v) (curve_in sent) m, pos m.next.edges)
carried m (AddEdgeModFace u v sent) = (add_edge Mod (nat_abs u) (nat_abs v) (curve_in sent) m, pos m.next.edges)
carried m (RemEdgeNewFace e) = (
  remove_edge New (nat_abs e) m,
  cond (heals_faces (nat_abs e) m) (pos (face_left New (nat_abs e) m)) (negsuc 0),
)
carried m (RemEdgeModFace e) = (remove_edge Mod (nat_abs e) m, pos 0)

-- what is lent, after the call, and the answer
pub record Outcome : Type 0 where
  pub lent : Lent
  pub answer : Answer

-- turned down: the answer is that number with value 0, and nothing lent differs
abbrev pub refused : Lent → ℕ → Outcome
refused l r = record { lent = l; answer = record { refusal = r; value = pos 0 } }

-- carried out: the map in the same tables, and a value
abbrev pub done : Lent → Map × ℤ → Outcome
done l c = record { lent = lent_of (sizes_of l) c.0; answer = record { refusal = 0; value = c.1 } }

-- the lending program's reasons: 1 the tables are not whole, 2 not in form
abbrev pub lent_reasons : Lent → Reasons
lent_reasons l = (1, not (whole l)) ∷ (2, not (in_form l)) ∷ []

-- carried out unless there is a reason against it
abbrev pub unless : Lent → ℕ → Map × ℤ → Outcome
unless l zero c = done l c
unless l (suc r) c = refused l (suc r)

-- 3 unknown kind or wrong count of numbers
abbrev pub judged : Lent → Map → Option Ticket → Outcome
judged l m none = refused l (first_reason (lent_reasons l ++ (3, true) ∷ []))
judged l m (some t) = unless l (first_reason (lent_reasons l ++ reasons (sizes_of l) m t)) (carried m t)

-- one ticket
unfoldable pub ticket : Lent → List ℤ → Outcome
ticket l numbers = judged l (map_of l) (read numbers)

-- ---- the empty map, whatever the tables and the head held

-- 1 the tables are not whole, 2 the record is neither 6 nor 12
abbrev pub create_reasons : Lent → ℤ → Reasons
create_reasons l k = (1, not (whole l)) ∷ (2, not (is_record k)) ∷ []

-- created in tables of these sizes, unless there is a reason against it
abbrev pub created_unless : Lent → Sizes → ℕ → Outcome
created_unless l s zero = record { lent = lent_of s empty_map; answer = record { refusal = 0; value = pos 0 } }
created_unless l s (suc r) = refused l (suc r)

-- for curves of at most k points, which the head records
unfoldable pub emptied : Lent → ℤ → Outcome
emptied l k = created_unless l (sizes_for (limit_of k) l) (first_reason (create_reasons l k))

-- ---- edges of a face: each ring as its length and then its directed edges, rings by first member

-- a ring as its length and then its directed edges
abbrev pub ring_numbers : List Dart → List ℤ
ring_numbers r = pos (length r) ∷ map dart_cell r

-- the rings that bear the face
unfoldable pub face_edges : Map → ℕ → List ℤ
face_edges m f = flat_map (λ d. ring_numbers (ring m d)) (keep (λ d. same (bears m d) f) (firsts m))

-- the list after the call, and the answer
pub record Listed : Type 0 where
  pub list : List ℤ
  pub answer : Answer

-- written from the front, unless there is a reason against it
abbrev pub list_unless : List ℤ → List ℤ → ℕ → Listed
list_unless list written zero =
    record {
      list = written ++ drop (length written) list;
      answer = record { refusal = 0; value = pos (length written) };
    }
list_unless list written (suc r) = record { list = list; answer = record { refusal = suc r; value = pos 0 } }

-- the value is the count of numbers written; the list's remainder is untouched
unfoldable pub edges_of_face : Lent → ℤ → List ℤ → Listed
edges_of_face l f list =
    let written = face_edges (map_of l) (nat_abs f) in
    list_unless list written (first_reason
    (lent_reasons l ++ (4, no_face (map_of l) f) ∷ (20, ltb (length list) (length written)) ∷ []))
