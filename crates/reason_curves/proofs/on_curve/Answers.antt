-- `reason_curves::on_curve` meets its contract: a point lies on a curve exactly where it has a place there. Assumes
-- nothing.
use Rattle.std.specs.Prelude.{is_some}
use mathlib.Core.Path.{sym, ap, ◌∙◌}
use Rattle.curves.specs.Curves.{curve_of}
use Rattle.reason_curves.proofs.Points.{on_place}
use Rattle.reason_curves.proofs.on_curve.Goals as goal

pub returns : goal.returns
returns c = c.is_some.ensures ∙ ap is_some c.first_place.ensures ∙ sym (on_place (curve_of c.args.c.now) c.args.p)
