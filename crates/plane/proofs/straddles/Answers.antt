-- `plane::straddles` meets its contract. Assumes nothing.
use Rattle.plane.specs.Segments.{straddle}
use Rattle.plane.proofs.straddles.Goals as goal

pub returns : goal.returns
unfolding straddle
returns c = cc
