-- The rows before i are the nodes'.
use Rattle.std.proofs.Common.{◌≡◌, ◌≤◌, ◌*◌, ◌-◌, length}
use Rattle.std.proofs.Math.Seq.{paste}
use Rattle.records.specs.Records.{node_table}
use Rattle.records.proofs.pack.Given as goal

abbrev pub invariant-loop-i : goal.invariant-loop-i
invariant-loop-i l = l.flat ≡ paste l.fn.flat 0 (node_table l.fn.nodes) (l.i * 4)
