-- `plane::area2` meets its contract: the difference of the two parts fits, and is the doubled area. Assumes nothing.
use mathlib.Core.Path.{◌∙◌}
use lib.Dec.{lit<}
use mir.Syntax.{w64}
use Rattle.integers.specs.Machine.{sub_is}
use Rattle.plane.proofs.Laws.{area_is}
use Rattle.plane.proofs.area2.Goals as goal

pub returns : goal.returns
returns c =
    sub_is w64 3298528591875 (lit< tt) c.plus_part.ensures.1 c.plus_part-2.ensures.1
    ∙ area_is _ _ _ _ _ c.plus_part.ensures.0 c.plus_part-2.ensures.0
