-- `plane::collinear` meets its contract: a turn straight on is a doubled area of 0. Assumes nothing.
use Rattle.plane.proofs.Laws.{null_is}
use Rattle.plane.proofs.collinear.Goals as goal

pub returns : goal.returns
returns c = null_is _ _ _ c.orient.ensures c.eq.ensures
