-- `edit_nodes::move_at_row` meets its contract: turned down by the first reason, or the row written anew. Assumes
-- nothing.
use borrow.Author.Rules.{rules}
use mathlib.Core.Path.{refl, ◌∙◌}
use mathlib.Core.List.{[], ◌∷◌}
use Prim.Native.Nat.{◌*◌}
use lib.IntN.{pos}
use lib.Seq.{paste}
use mir.Syntax.{w64}
use mir.Facts.{to_z-of_z}
use Rattle.integers.specs.Signs.{sent}
use Rattle.map.specs.Limits.{node_width}
use Rattle.map.specs.Tickets.{MoveIsoNode}
use Rattle.map_rows.specs.Rows.{node_at}
use Rattle.map_rows.proofs.Rows.{node-row_of, node_cells_lem}
use Rattle.outcomes.proofs.Formed.{node_rows_lem, edge_rows_lem, counted, decided-carried}
use Rattle.outcomes.proofs.Results.{decided-handed}
use Rattle.head.proofs.Words.{edges_natural, edges_read}
use Rattle.edit_nodes.proofs.Told.{move_told, around_told}
use Rattle.edit_nodes.proofs.Rows.{move_reasons_lem, move_point}
use Rattle.edit_nodes.proofs.Nodes.{move_carried}
use Rattle.edit_nodes.proofs.move_at_row.Goals as goal

pub returns-in_err-check_move : goal.returns-in_err-check_move
returns-in_err-check_move c =
    let a = c.args in
    decided-handed a.nodes.now a.edges.now a.faces.now a.h _ _ c.from_residual.ensures.1
    (MoveIsoNode (pos (node_at a.nodes.now a.i).number) a.x a.y)
    (move_reasons_lem c.requires.0 a.i c.requires.1 a.x a.y
    ∙ move_told a.nodes.now a.edges.now a.h a.i c.ranges.x c.ranges.y c.in_err-check_move.ensures)

pub point_of-requires : goal.point_of-requires
point_of-requires c =
    let a = c.args in
    rw (to_z-of_z {w = w64} c.ranges.x, to_z-of_z {w = w64} c.ranges.y)
    (move_point a.nodes.now a.edges.now a.h a.i a.x a.y
    (move_told a.nodes.now a.edges.now a.h a.i c.ranges.x c.ranges.y c.in_ok-check_move.ensures))

pub returns : goal.returns
returns c =
    let a = c.args in
    let f = c.requires.0 in
    let none = move_told a.nodes.now a.edges.now a.h a.i c.ranges.x c.ranges.y c.in_ok-check_move.ensures in
    let x = to_z-of_z {w = w64} c.ranges.x in
    let y = to_z-of_z {w = w64} c.ranges.y in
    let number = sent c.number-1.given
    ∙ (node_cells_lem a.nodes.now a.i (node-row_of (node_rows_lem f) a.i c.requires.1).ranges).number in
    let around = around_told f _ _ c.ranges.x c.ranges.y c.face_of_point-around.type_inv c.face_of_point-around.ensures
    (edges_read (counted f) c.to_usize.ensures) c.point_of.ensures.0 in
    let after = move_carried f a.i c.requires.1 a.x a.y (move_point a.nodes.now a.edges.now a.h a.i a.x a.y none) refl
    (c.write_node.ensures
    ∙ (λ j. paste a.nodes.now (a.i * node_width) (number j ∷ x j ∷ y j ∷ around j ∷ []) node_width)) in
    decided-carried _ _ _ _ _ _ _ _ _ (pos 0) refl (move_reasons_lem f a.i c.requires.1 a.x a.y ∙ none) after.0 after.1

pub overflow_mul-number : goal.overflow_mul-number
overflow_mul-number c = let s = c in let r = node-row_of (node_rows_lem s.requires.0) s.args.i s.requires.1 in
    search rules

pub offset_bounds-nodes-i : goal.offset_bounds-nodes-i
offset_bounds-nodes-i c = let s = c in let r = node-row_of (node_rows_lem s.requires.0) s.args.i s.requires.1 in
    search rules

pub slice_copy_out-number : goal.slice_copy_out-number
slice_copy_out-number c = let s = c in let r = node-row_of (node_rows_lem s.requires.0) s.args.i s.requires.1 in
    search rules

pub to_usize-requires : goal.to_usize-requires
to_usize-requires c = edges_natural (counted c.requires.0)

pub write_node-requires : goal.write_node-requires
write_node-requires c = let s = c in
    (node-row_of (node_rows_lem s.requires.0) s.args.i s.requires.1).fits

pub invariant_of-drawn : goal.invariant_of-drawn
invariant_of-drawn c =
    record { ranged = rw (edges_read (counted c.requires.0) c.to_usize.ensures) (edge_rows_lem c.requires.0) }
