-- The nodes before row i are the table's.
use Rattle.std.proofs.Common.{◌≡◌, ◌-◌, length}
use Rattle.std.proofs.Math.Seq.{paste}
use Rattle.lists.specs.Tables.{table}
use Rattle.records.specs.Records.{row_node}
use Rattle.records.proofs.unpack.Given as goal

abbrev pub invariant-loop-i : goal.invariant-loop-i
invariant-loop-i l = l.nodes
    ≡ paste l.initial.nodes 0 (table (row_node l.flat) 0 (length l.initial.nodes)) l.i
