-- `head::to_usize` meets its contract: a number that is not negative keeps its value. Assumes nothing.
use mathlib.Core.Path.{ap}
use lib.IntN.{nat_abs}
use mir.Syntax.{w64}
use mir.Facts.{to_z-of_z}
use Rattle.integers.specs.Signs.{natural_cast}
use Rattle.head.proofs.to_usize.Goals as goal

pub overflow_cast-result : goal.overflow_cast-result
overflow_cast-result c = rw (to_z-of_z {w = w64} {z = c.args.z} c.ranges.z) (natural_cast c.args.z c.requires c.ranges.z)

pub returns : goal.returns
returns c = ap nat_abs (to_z-of_z {w = w64} {z = c.args.z} c.ranges.z)
