-- `face_rows::face_goes` meets its contract. Assumes nothing.
use mathlib.Core.Path.{refl, ◌∙◌}
use lib.Dec.{lit≤}
use lib.IntN.{pos, nat_abs}
use Rattle.outcomes.proofs.Words.{number_test, small_fits}
use Rattle.face_rows.proofs.Words.{new_told}
use Rattle.face_rows.proofs.face_goes.Goals as goal

pub returns : goal.returns
returns c =
    let s = c in
    let a = s.args in
    rw (
      c.eq.ensures ∙ new_told a.how,
      number_test a.old (pos 0) (nat_abs a.old) 0 s.ranges.old (small_fits 0 (lit≤ tt)) s.requires refl,
    )
