-- `plane::ranges_overlap_more` meets its contract. Assumes nothing.
use Rattle.plane.specs.Segments.{overlap_more}
use Rattle.plane.proofs.ranges_overlap_more.Goals as goal

pub returns : goal.returns
unfolding overlap_more
returns c = cc
