-- The digest stays below the prime.
use Rattle.std.proofs.Common.{◌<◌}
use Rattle.test_geometry.proofs.put_line.Given as goal

abbrev pub invariant-loop-z : goal.invariant-loop-z
invariant-loop-z g l = l.h < 1000003
