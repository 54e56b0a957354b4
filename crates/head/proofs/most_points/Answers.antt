-- `head::most_points` meets its contract: a record is not negative. Assumes nothing.
use borrow.Author.Rules.{rules}
use mathlib.Core.Path.{◌≡◌, sym, ap, ◌∙◌}
use lib.IntN.{nat_abs}
use lib.Signed.{non_neg}
use mir.Syntax.{w64}
use mir.Val.{to_z, of_z}
use Rattle.map.proofs.PointLimits.{record_back, record_most}
use Rattle.head.proofs.most_points.Goals as goal

pub to_usize-requires : goal.to_usize-requires
to_usize-requires c =
    let h = c.args.h in
    let e : to_z w64 (of_z w64 h.points) ≡ h.points = search rules in
    rw e (sym (ap non_neg (record_back h.points c.requires)))

pub returns : goal.returns
returns c =
    let h = c.args.h in
    let e : to_z w64 (of_z w64 h.points) ≡ h.points = search rules in
    c.to_usize.ensures ∙ ap nat_abs e ∙ sym (record_most h.points c.requires)
