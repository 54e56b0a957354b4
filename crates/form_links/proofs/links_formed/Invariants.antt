-- `form_links::links_formed` meets its contract: the marks are those of the positions that are passed, two in each row.
-- Assumes nothing.
use Prim.Native.Nat.{◌*◌, ◌-◌, ◌≤◌}
use Rattle.form_links.proofs.Links.{Marked}
use Rattle.form_links.proofs.links_formed.Given as goal

abbrev pub invariant-loop-i : goal.invariant-loop-i
invariant-loop-i l = (l.i ≤ l.count) × Marked l.starts l.nexts l.bears (l.i * 2) l.marks

abbrev pub decreases-loop-i : goal.decreases-loop-i
decreases-loop-i l = l.count - l.i
