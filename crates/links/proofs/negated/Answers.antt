-- `links::negated` meets its contract: a number that is not negative has a negative. Assumes nothing.
use mathlib.Core.Path.{ap, ◌∙◌}
use lib.IntN.{neg_ℤ, nat_abs}
use mir.Syntax.{w64}
use mir.Val.{to_z, of_z}
use mir.Facts.{to_z-of_z}
use Rattle.tables.proofs.Tests.{pos_abs}
use Rattle.darts.proofs.Steps.{negative_is, minus_fits}
use Rattle.links.proofs.negated.Goals as goal

pub overflow_sub-result : goal.overflow_sub-result
overflow_sub-result c = rw (to_z-of_z {w = w64} {z = c.args.z} c.ranges.z)
    (minus_fits c.args.z (nat_abs c.args.z) (pos_abs c.args.z c.requires) c.ranges.z)

pub returns : goal.returns
returns c = to_z-of_z {w = w64} (overflow_sub-result c) ∙ negative_is (to_z w64 (of_z w64 c.args.z))
    ∙ ap neg_ℤ (to_z-of_z {w = w64} {z = c.args.z} c.ranges.z)
