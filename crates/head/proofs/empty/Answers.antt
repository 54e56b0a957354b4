-- `head::empty` meets its contract: the record stands as it was handed in. Assumes nothing.
use mir.Syntax.{w64}
use mir.Facts.{to_z-of_z}
use Rattle.map.proofs.PointLimits.{record_back}
use Rattle.head.proofs.empty.Goals as goal

pub returns : goal.returns
returns c = rw (record_back c.args.points c.requires, to_z-of_z {w = w64} c.ranges.points)
