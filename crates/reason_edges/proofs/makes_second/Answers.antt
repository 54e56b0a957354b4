-- `reason_edges::makes_second` meets its contract. Assumes nothing.
use mathlib.Core.Path.{refl, ◌∙◌}
use lib.IntN.{pos, nat_abs}
use lib.Dec.{lit≤}
use Rattle.tables.proofs.Tests.{pos_abs}
use Rattle.outcomes.proofs.Words.{number_test, small_fits}
use Rattle.reason_edges.proofs.Words.{new_told}
use Rattle.reason_edges.proofs.makes_second.Goals as goal

pub returns : goal.returns
returns c =
    let s = c in
    let a = s.args in
    rw (
      c.eq.ensures ∙ new_told a.how,
      number_test a.face (pos 0) (nat_abs a.face) 0 s.ranges.face (small_fits 0 (lit≤ tt))
          (pos_abs a.face s.requires) refl,
    )
