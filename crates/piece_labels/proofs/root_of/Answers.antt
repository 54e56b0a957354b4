-- `piece_labels::root_of` meets its contract: where labels lead from row r is where they lead from row j. Assumes
-- nothing.
use mathlib.Core.Path.{sym, ◌∙◌}
use native.Mathlib.Omega.{arith}
use Rattle.piece_labels.proofs.Roots.{root_end, root_turn}
use Rattle.piece_labels.proofs.root_of.Goals as goal

pub loop-r-preserved : goal.loop-r-preserved
loop-r-preserved c =
    let l = c in
    let h = c.loop-r-test.true in
    (omega arith, root_turn l.args.labels.now l.loop-r.r h ∙ l.loop-r.invariant.1)

pub returns : goal.returns
returns c =
    let l = c in
    sym (root_end l.args.labels.now l.loop-r.r l.loop-r.r c.loop-r-test.false) ∙ l.loop-r.invariant.1
