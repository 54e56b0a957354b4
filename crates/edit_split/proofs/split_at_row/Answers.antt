-- `edit_split::split_at_row` meets its contract: turned down by the first reason, or a row cut and a node more. Assumes
-- nothing.
use mathlib.Core.Path.{◌≡◌, refl, ◌∙◌}
use mathlib.Core.Bool.{true, ◌&&◌}
use mathlib.Core.List.{List, [], ◌∷◌, ◌++◌}
use Prim.Native.Nat.{ℕ, ◌*◌}
use native.Mathlib.Omega.{arith}
use lib.IntN.{ℤ, pos, negsuc, nat_abs}
use lib.Seq.{paste}
use mir.Syntax.{w64}
use mir.Val.{of_z, to_z, SFits}
use mir.Facts.{to_z-of_z}
use Rattle.curves.specs.Curves.{point, coordinate}
use Rattle.map.specs.declared.Head.{Head}
use Rattle.map.specs.declared.Variant.{Variant}
use Rattle.map.specs.Limits.{node_width}
use Rattle.map.specs.Rows.{counts}
use Rattle.map.specs.Reasons.{Reasons, first_reason}
use Rattle.map_rows.specs.Rows.{edge_at}
use Rattle.map_rows.proofs.Rows.{edge-row_of}
use Rattle.head.specs.Heads.{Left, sizes_in, room_at}
use Rattle.head.proofs.Heads.{room_left}
use Rattle.outcomes.proofs.Formed.{edge_rows_lem, nodes_size, edges_size, counted, edited-carried, done}
use Rattle.outcomes.proofs.Results.{edited-handed}
use Rattle.head.proofs.Words.{nodes_natural, nodes_read}
use Rattle.outcomes.proofs.Words.{next_node_back}
use Rattle.outcomes.specs.Variants.{split_ticket, own_or_next}
use Rattle.edit_split.specs.Cuts.{cut_row, point_reasons, end_number, split_numbers}
use Rattle.edit_split.proofs.Told.{split_told, point_in, late_none, split_reasons_lem}
use Rattle.edit_split.proofs.Lent.{split-lent}
use Rattle.edit_split.proofs.split_at_row.Goals as goal

-- the reasons of the room
abbrev late : (nodes edges faces : List ℤ) → Head → Variant → Reasons
late nodes edges faces h how = room_at (sizes_in nodes edges faces) h (counts 1 1 0) (split_numbers how)

-- what is left where no reason holds, with the numbers as they were passed
module _ (nodes edges faces : List ℤ) (h : Head) (how : Variant) (i : ℕ) {x y : ℤ} (fx : SFits w64 x) (fy : SFits w64 y)
    (e : 0 ≡ first_reason (point_reasons nodes (nat_abs h.nodes) edges i (to_z w64 (of_z w64 x)) (to_z w64 (of_z w64 y))
    ++ late nodes edges faces h how)) where
  none : first_reason (point_reasons nodes (nat_abs h.nodes) edges i x y ++ late nodes edges faces h how) ≡ 0
  none = split_told nodes edges (nat_abs h.nodes) i (late nodes edges faces h how) fx fy e

  -- rows and numbers
  left : Left (sizes_in nodes edges faces) h (counts 1 1 0) (split_numbers how)
  left = room_left _ _ _ _ (late_none x y _ _ _ none)

  in_plane : coordinate x && coordinate y ≡ true
  in_plane = point_in x y _ _ _ none

pub returns-in_err-check_split : goal.returns-in_err-check_split
returns-in_err-check_split c =
    let a = c.args in
    edited-handed a.nodes.now a.edges.now a.faces.now a.h _ _ c.from_residual.ensures.1
    (split_ticket a.how (pos (edge_at a.edges.now a.i).number) a.x a.y)
    (split_reasons_lem c.requires.0 a.how a.i c.requires.1 a.x a.y
    ∙ split_told a.nodes.now a.edges.now (nat_abs a.h.nodes) a.i (late a.nodes.now a.edges.now a.faces.now a.h a.how)
    c.ranges.x c.ranges.y c.in_err-check_split.ensures)

pub cut_edge-requires : goal.cut_edge-requires
cut_edge-requires c =
    let a = c.args in
    let f = c.requires.0 in
    let e = c.in_ok-check_split.ensures in
    record {
      counted = counted f;
      row = edge-row_of (edge_rows_lem f) a.i c.requires.1;
      below = c.requires.1;
      room = omega (
        arith,
        (left a.nodes.now a.edges.now a.faces.now a.h a.how a.i c.ranges.x c.ranges.y e).edges,
        (edges_size f).0,
      );
      point = rw (to_z-of_z {w = w64} c.ranges.x, to_z-of_z {w = w64} c.ranges.y)
          (in_plane a.nodes.now a.edges.now a.faces.now a.h a.how a.i c.ranges.x c.ranges.y e);
    }

pub returns : goal.returns
returns c =
    let a = c.args in
    let f = c.requires.0 in
    let e = c.in_ok-check_split.ensures in
    let k = left a.nodes.now a.edges.now a.faces.now a.h a.how a.i c.ranges.x c.ranges.y e in
    let n = nodes_read (counted f) c.to_usize.ensures in
    let z = next_node_back (counted f) in
    let x = to_z-of_z {w = w64} c.ranges.x in
    let y = to_z-of_z {w = w64} c.ranges.y in
    let after = split-lent f a.how a.i c.requires.1 a.x a.y
    (in_plane a.nodes.now a.edges.now a.faces.now a.h a.how a.i c.ranges.x c.ranges.y e) k.nodes k.edges
    (c.write_node.ensures
    ∙ (λ j. paste a.nodes.now (n j * node_width) (z j ∷ x j ∷ y j ∷ negsuc 0 ∷ []) node_width))
    (c.cut_edge.ensures
    ∙ (λ j. cut_row a.edges.now (nat_abs a.h.edges) a.i a.h.next_node (point (x j) (y j)) a.how
    (pos (own_or_next a.h a.how (edge_at a.edges.now a.i).number)) (pos (end_number a.h a.how)))) in
    edited-carried _ _ _ _ _ _ _ _ _ a.h.next_node (done c.after_split.ensures z refl)
    (split_reasons_lem f a.how a.i c.requires.1 a.x a.y
    ∙ none a.nodes.now a.edges.now a.faces.now a.h a.how a.i c.ranges.x c.ranges.y e) after.0 after.1

pub write_node-requires : goal.write_node-requires
write_node-requires c =
    let a = c.args in
    let f = c.requires.0 in
    let k = left a.nodes.now a.edges.now a.faces.now a.h a.how a.i c.ranges.x c.ranges.y c.in_ok-check_split.ensures in
    rw (nodes_read (counted f) c.to_usize.ensures) (omega (arith, k.nodes, (nodes_size f).0))

pub to_usize-requires : goal.to_usize-requires
to_usize-requires c = nodes_natural (counted c.requires.0)

pub after_split-requires : goal.after_split-requires
after_split-requires c = counted c.requires.0
