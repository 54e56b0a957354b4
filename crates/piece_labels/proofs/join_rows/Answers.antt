-- `piece_labels::join_rows` meets its contract: the last edges are joined. Assumes nothing.
use native.Mathlib.Omega.{arith}
use Rattle.piece_labels.proofs.Joins.{no_edges, all_edges}
use Rattle.piece_labels.proofs.join_rows.Goals as goal

pub returns : goal.returns
returns c =
    let a = c.args in
    let l = c.loop-k in
    rw (all_edges a.edges.now a.count l.k c.loop-k-test.false) at l.invariant.1

pub loop-k-init : goal.loop-k-init
loop-k-init c = let s = c in
    (omega arith, rw (no_edges s.args.edges.now s.args.count) s.requires.2)
