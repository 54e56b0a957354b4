-- `reason_curves::row_meeting` meets its contract: curves whose extents lie apart do not meet. Assumes nothing.
use mathlib.Core.Path.{sym, ap, ◌∙◌}
use Rattle.curves.specs.Curves.{curve_of}
use Rattle.curves.specs.Tests.{graver, meeting}
use Rattle.curves.proofs.Meetings.{graver_none, max_is}
use Rattle.bounding_boxes.specs.Extents.{boxes_apart}
use Rattle.bounding_boxes.proofs.Extents.{apart-meeting}
use Rattle.reason_curves.proofs.row_meeting.Goals as goal

pub returns-then-lies_apart : goal.returns-then-lies_apart
returns-then-lies_apart c =
    let s = c in
    let a = s.args in
    let away = (λ i. boxes_apart (sym s.requires.2 i) (sym c.extent_of.ensures i))
    ∙ sym c.lies_apart.ensures ∙ c.if-lies_apart.true in
    sym (ap (graver a.found) (ap (meeting (curve_of a.c.now)) (sym s.curve_of-d.ensures.1)
    ∙ apart-meeting _ _ away) ∙ graver_none a.found)

pub returns : goal.returns
returns c =
    let s = c in
    let a = s.args in
    c.max.ensures ∙ max_is a.found c.curves_meeting.result ∙ ap (graver a.found) (c.curves_meeting.ensures
    ∙ ap (meeting (curve_of a.c.now)) s.curve_of-d.ensures.1)

pub curve_of-d-requires : goal.curve_of-d-requires
curve_of-d-requires c = c.requires.0

pub extent_of-requires : goal.extent_of-requires
extent_of-requires c = c.curve_of-d.ensures.0

pub curves_meeting-requires : goal.curves_meeting-requires
curves_meeting-requires c = (c.requires.1, c.curve_of-d.ensures.0)
