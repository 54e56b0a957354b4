-- `face_relabel::side_of` meets its contract. Assumes nothing.
use mathlib.Core.Path.{ap, ◌∙◌}
use mathlib.Core.Bool.{Bool, cond}
use Rattle.integers.specs.Signs.{sent}
use Rattle.face_relabel.proofs.side_of.Goals as goal

pub returns : goal.returns
returns c =
    let s = c.args.s in
    sent c.number.type_inv ∙ c.number.ensures ∙ ap (λ (b : Bool). cond b s.inside s.other) c.encloses.ensures
