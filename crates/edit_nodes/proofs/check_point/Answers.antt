-- `edit_nodes::check_point` meets its contract: each test answers its reason, in order. Assumes nothing.
use mathlib.Core.Path.{sym, ◌∙◌}
use native.Mathlib.Omega.{arith}
use Rattle.curves.specs.Curves.{point}
use Rattle.map.proofs.Reasons.{first_hit, first_miss, first_none}
use Rattle.outcomes.proofs.Formed.{node_rows_lem, edge_rows_lem, counted}
use Rattle.head.proofs.Words.{nodes_natural, nodes_read, edges_natural, edges_read}
use Rattle.edit_nodes.proofs.Told.{range_told, point_passed, taken_told}
use Rattle.edit_nodes.proofs.check_point.Goals as goal

pub returns-then-not-in_range : goal.returns-then-not-in_range
returns-then-not-in_range c =
    sym (first_hit 5 _ _ (range_told c.ranges.x c.ranges.y c.in_range.ensures c.if-not-in_range.true))

pub returns-then-point_is_taken : goal.returns-then-point_is_taken
returns-then-point_is_taken c =
    let f = c.requires in
    sym (first_miss 5 _ _ (range_told c.ranges.x c.ranges.y c.in_range.ensures c.if-not-in_range.false)
    ∙ first_hit 10 _ _ (taken_told f _ _ _ _ (point c.args.x c.args.y) (nodes_read (counted f) c.to_usize-n.ensures)
    (edges_read (counted f) c.to_usize.ensures) (omega arith)
    (point_passed c.ranges.x c.ranges.y c.point_of.ensures.0) c.point_is_taken.ensures c.if-point_is_taken.true))

pub returns : goal.returns
returns c =
    let f = c.requires in
    sym (first_miss 5 _ _ (range_told c.ranges.x c.ranges.y c.in_range.ensures c.if-not-in_range.false)
    ∙ first_miss 10 _ _ (taken_told f _ _ _ _ (point c.args.x c.args.y) (nodes_read (counted f) c.to_usize-n.ensures)
    (edges_read (counted f) c.to_usize.ensures) (omega arith)
    (point_passed c.ranges.x c.ranges.y c.point_of.ensures.0) c.point_is_taken.ensures c.if-point_is_taken.false)
    ∙ first_none)

pub to_usize-n-requires : goal.to_usize-n-requires
to_usize-n-requires c = nodes_natural (counted c.requires)

pub to_usize-requires : goal.to_usize-requires
to_usize-requires c = edges_natural (counted c.requires)

pub invariant_of-placed : goal.invariant_of-placed
invariant_of-placed c =
    record { ranged = rw (nodes_read (counted c.requires) c.to_usize-n.ensures) (node_rows_lem c.requires) }

pub invariant_of-drawn : goal.invariant_of-drawn
invariant_of-drawn c =
    record { ranged = rw (edges_read (counted c.requires) c.to_usize.ensures) (edge_rows_lem c.requires) }
