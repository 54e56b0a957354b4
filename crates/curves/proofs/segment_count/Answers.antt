-- `curves::segment_count` meets its contract. Assumes nothing.
use native.Mathlib.Omega.{arith}
use Rattle.curves.proofs.Runs.{two-points, few_points}
use Rattle.curves.proofs.segment_count.Goals as goal

pub overflow_sub-result : goal.overflow_sub-result
overflow_sub-result c = omega (arith, two-points c.requires)

pub returns : goal.returns
returns c =
    let h = two-points c.requires in
    let k = few_points c.requires in
    (omega arith, omega arith, omega arith)
