-- What is found is the answer of the search from row i on.
use Rattle.std.proofs.Common.{◌≡◌, ◌≤◌, length}
use Rattle.records.proofs.Finding.{searched}
use Rattle.records.proofs.find_node.Given as goal

abbrev pub invariant-loop-i : goal.invariant-loop-i
invariant-loop-i l = record {
  within : l.i ≤ length l.nodes;
  past : l.found ≡ searched l.nodes l.count l.number l.i;
}
