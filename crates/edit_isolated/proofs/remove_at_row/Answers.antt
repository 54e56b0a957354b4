-- `edit_isolated::remove_at_row` meets its contract: an edge that is not isolated is turned down, and else it is
-- undrawn. Assumes nothing.
use mathlib.Core.Path.{refl, ap, ◌∙◌}
use Prim.Native.Nat.{ℕ}
use lib.Dec.{lit<}
use lib.IntN.{pos}
use lib.Signed.{non_neg}
use Rattle.integers.specs.Signs.{sent}
use Rattle.map.specs.Tickets.{RemoveIsoEdge}
use Rattle.map.specs.Reasons.{edge_isolated}
use Rattle.map_rows.specs.Rows.{edge_at, edge_map}
use Rattle.map_rows.proofs.Rows.{edge-row_of}
use Rattle.outcomes.proofs.Formed.{counted, edge_rows_lem, edited-refused, edited-carried}
use Rattle.edge_rows.proofs.Formed.{held}
use Rattle.head.proofs.Words.{edges_natural, edges_read}
use Rattle.edit_isolated.proofs.Removed.{remove_joined, remove_free, remove_lent, remove_value}
use Rattle.edit_isolated.proofs.remove_at_row.Goals as goal

pub edge_isolated-requires : goal.edge_isolated-requires
edge_isolated-requires c = rw (edges_read (counted c.requires.0) c.to_usize.ensures) c.requires.1

-- the edges in use
pub invariant_of-drawn : goal.invariant_of-drawn
invariant_of-drawn c = let f = c.requires.0 in
    record { ranged = rw (edges_read (counted f) c.to_usize.ensures) (edge_rows_lem f) }

pub returns-then-not-edge_isolated : goal.returns-then-not-edge_isolated
returns-then-not-edge_isolated c =
    let a = c.args in
    edited-refused a.nodes.now a.edges.now a.faces.now a.h
    (RemoveIsoEdge (pos (edge_at a.edges.now a.i).number)) 9 (lit< tt) refl
    (remove_joined c.requires.0 a.i c.requires.1
    (c.edge_isolated.ensures
    ∙ ap (λ (k : ℕ). edge_isolated (edge_map a.edges.now k) (edge_at a.edges.now a.i).number)
    (edges_read (counted c.requires.0) c.to_usize.ensures)) c.if-not-edge_isolated.true)

pub undraw-head-requires : goal.undraw-head-requires
undraw-head-requires c =
    let l = c.left_face-face in
    record { held = held c.requires.0; row = c.requires.1; natural = ap non_neg (sent l.type_inv ∙ l.ensures) }

pub returns : goal.returns
returns c =
    let u = c.undraw-head in
    let l = c.left_face-face in
    let a = c.args in
    edited-carried a.nodes.now a.edges.now a.faces.now a.h
    (RemoveIsoEdge (pos (edge_at a.edges.now a.i).number)) u.new.nodes u.new.edges a.faces.now
    u.result (pos 0) refl
    (remove_free c.requires.0 a.i c.requires.1
    (c.edge_isolated.ensures
    ∙ ap (λ (k : ℕ). edge_isolated (edge_map a.edges.now k) (edge_at a.edges.now a.i).number)
    (edges_read (counted c.requires.0) c.to_usize.ensures)) c.if-not-edge_isolated.false)
    (remove_lent c.requires.0 a.i c.requires.1 (sent l.type_inv ∙ l.ensures) u.ensures)
    (remove_value _ _)

pub to_usize-requires : goal.to_usize-requires
to_usize-requires c = edges_natural (counted c.requires.0)

pub left_face-face-requires : goal.left_face-face-requires
left_face-face-requires c = edge-row_of (edge_rows_lem c.requires.0) c.args.i c.requires.1
