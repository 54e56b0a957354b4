-- `edit_split::check_split` meets its contract: the reasons of the point, and those of the room. Assumes nothing.
use borrow.Author.Rules.{rules}
use mathlib.Core.Path.{refl, sym, ◌∙◌}
use Rattle.map.specs.Rows.{counts}
use Rattle.map.specs.Reasons.{first_reason}
use Rattle.map.proofs.Reasons.{first_append, first_after}
use Rattle.map_rows.proofs.Rows.{edge-row_of}
use Rattle.head.specs.Heads.{room_at}
use Rattle.outcomes.proofs.Formed.{node_rows_lem, edge_rows_lem, counted}
use Rattle.outcomes.proofs.Results.{number_some, handed_number}
use Rattle.head.proofs.Words.{nodes_natural, nodes_read}
use Rattle.edit_split.proofs.Told.{few_numbers, point_told}
use Rattle.edit_split.proofs.check_split.Goals as goal

pub check_point-requires : goal.check_point-requires
check_point-requires c = edge-row_of (edge_rows_lem c.requires.0) c.args.i c.requires.1

pub check_room-requires : goal.check_room-requires
check_room-requires c =
    let k = counted c.requires.0 in
    let n = few_numbers c.args.how c.split_numbers.ensures in
    search rules

pub returns-in_err-check_point : goal.returns-in_err-check_point
returns-in_err-check_point c =
    let a = c.args in
    handed_number _ _ c.from_residual.ensures.1
    ∙ sym (first_append _ _ _ (number_some c.in_err-check_point.field-0.0)
    (point_told a.nodes.now a.edges.now a.i (nodes_read (counted c.requires.0) c.to_usize.ensures) c.ranges.x
    c.ranges.y c.in_err-check_point.ensures))

pub returns : goal.returns
returns c =
    let a = c.args in
    c.check_room.ensures
    ∙ (λ j. first_reason (room_at (c.sizes_of.ensures j) a.h (counts 1 1 0) (c.split_numbers.ensures j)))
    ∙ sym (first_after _ _ refl (point_told a.nodes.now a.edges.now a.i
    (nodes_read (counted c.requires.0) c.to_usize.ensures) c.ranges.x c.ranges.y c.in_ok-check_point.ensures))

pub to_usize-requires : goal.to_usize-requires
to_usize-requires c = nodes_natural (counted c.requires.0)

pub invariant_of-placed : goal.invariant_of-placed
invariant_of-placed c =
    record { ranged = rw (nodes_read (counted c.requires.0) c.to_usize.ensures) (node_rows_lem c.requires.0) }
