-- `edit_isolated::check_meeting_or_room` meets its contract: each test answers its reason, in order. Assumes nothing.
use mathlib.Core.Path.{sym, ◌∙◌}
use Rattle.map.specs.Rows.{counts}
use Rattle.outcomes.proofs.Results.{number_some, handed_number}
use Rattle.head.proofs.Heads.{room_told}
use Rattle.head.proofs.Words.{nodes_read, edges_read}
use Rattle.edit_isolated.proofs.IsolatedReasons.{meeting_told, late_meeting, late_room}
use Rattle.edit_isolated.proofs.check_meeting_or_room.Goals as goal

-- the nodes in use, and the edges
pub invariant_of-placed : goal.invariant_of-placed
invariant_of-placed c = let p = c.requires.0 in
    record { ranged = rw (nodes_read p.counted c.to_usize.ensures) p.node_table_lem.rows }

pub invariant_of-drawn : goal.invariant_of-drawn
invariant_of-drawn c = let p = c.requires.0 in
    record { ranged = rw (edges_read p.counted c.to_usize-2.ensures) p.edge-table.rows }

pub returns-in_err-check_meeting : goal.returns-in_err-check_meeting
returns-in_err-check_meeting c =
    let a = c.args in
    let k = c.requires.0.counted in
    handed_number _ _ c.from_residual.ensures.1
    ∙ late_meeting a.nodes.now a.edges.now a.faces.now a.h a.c.now (number_some c.in_err-check_meeting.field-0.0)
    (meeting_told a.nodes.now a.edges.now a.faces.now a.h a.c.now c.in_err-check_meeting.ensures
    (nodes_read k c.to_usize.ensures) (edges_read k c.to_usize-2.ensures))

pub returns : goal.returns
returns c =
    let a = c.args in
    let k = c.requires.0.counted in
    late_room a.nodes.now a.edges.now a.faces.now a.h a.c.now
    (sym (meeting_told a.nodes.now a.edges.now a.faces.now a.h a.c.now c.in_ok-check_meeting.ensures
    (nodes_read k c.to_usize.ensures) (edges_read k c.to_usize-2.ensures)))
    (sym (room_told a.h (counts 0 1 0) (counts 0 1 0) c.sizes_of.ensures c.check_room.ensures))
