-- `edit_nodes::remove_at_row` meets its contract: a node where an edge ends is turned down, and else its row goes.
-- Assumes nothing.
use borrow.Author.Rules.{rules}
use mathlib.Core.Path.{refl, ap, ◌∙◌}
use Prim.Native.Nat.{ℕ}
use lib.Dec.{lit<}
use lib.IntN.{pos}
use Rattle.map.specs.Limits.{node_width}
use Rattle.tables.specs.Tables.{closed}
use Rattle.map_rows.proofs.Rows.{node-row_of}
use Rattle.outcomes.proofs.Formed.{nodes_fit, node_rows_lem, counted, done, decided-refused, decided-carried}
use Rattle.head.proofs.Words.{nodes_natural, nodes_read}
use Rattle.edit_nodes.proofs.Rows.{remove_joined, remove_free}
use Rattle.edit_nodes.proofs.Nodes.{remove_carried}
use Rattle.edit_nodes.proofs.remove_at_row.Goals as goal

pub returns-then-not-is_isolated : goal.returns-then-not-is_isolated
returns-then-not-is_isolated c =
    let s = c in
    decided-refused _ _ _ _ _ 9 (lit< tt) refl
    (remove_joined s.requires.0 s.args.i s.requires.1 c.is_isolated.ensures
    c.if-not-is_isolated.true-raw)

pub changed-requires : goal.changed-requires
changed-requires c =
    let s = c in
    let k = counted s.requires.0 in
    let t = s.requires.1 in
    search rules

pub returns : goal.returns
returns c =
    let r = c in
    let g = r in
    let s = g in
    let a = s.args in
    let n = nodes_read (counted s.requires.0) r.to_usize.ensures in
    let after = remove_carried s.requires.0 a.i s.requires.1 (r.remove_row.ensures
    ∙ ap (λ (k : ℕ). closed node_width a.nodes.now k a.i) n) in
    decided-carried _ _ _ _ _ _ _ _ _ (pos 0) (done c.changed.ensures refl refl)
    (remove_free s.requires.0 a.i s.requires.1 g.is_isolated.ensures
    r.if-not-is_isolated.false-raw) after.0 after.1

pub is_isolated-requires : goal.is_isolated-requires
is_isolated-requires c = let s = c in node-row_of (node_rows_lem s.requires.0) s.args.i s.requires.1

pub to_usize-requires : goal.to_usize-requires
to_usize-requires c = nodes_natural (counted c.requires.0)

pub remove_row-requires : goal.remove_row-requires
remove_row-requires c = let s = c in
    rw (nodes_read (counted s.requires.0) c.to_usize.ensures) (s.requires.1, nodes_fit s.requires.0)
