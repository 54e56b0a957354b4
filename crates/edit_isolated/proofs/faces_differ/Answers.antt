-- `edit_isolated::faces_differ` meets its contract. Assumes nothing.
use borrow.Author.Rules.{sfits_of}
use mathlib.Core.Path.{ap}
use mathlib.Core.Bool.{not}
use Rattle.outcomes.proofs.Words.{number_test}
use Rattle.edit_isolated.proofs.faces_differ.Goals as goal

pub returns : goal.returns
returns c = ap not (number_test _ _ _ _ (sfits_of c.face_of.type_inv) (sfits_of c.face_of-2.type_inv) c.face_of.ensures
    c.face_of-2.ensures)
