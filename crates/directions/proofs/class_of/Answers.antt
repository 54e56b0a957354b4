-- `directions::class_of` meets its contract. Assumes nothing.
use Rattle.directions.proofs.Laws.{class_is}
use Rattle.directions.proofs.class_of.Goals as goal

pub returns : goal.returns
returns c = class_is _ _ _ c.sign_of-i.ensures.0 c.sign_of-j.ensures.0
