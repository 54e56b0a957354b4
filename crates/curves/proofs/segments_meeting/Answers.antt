-- `curves::segments_meeting` meets its contract. Assumes nothing.
use mathlib.Core.Path.{sym, ◌∙◌}
use Rattle.curves.specs.Tests.{seg_meeting}
use Rattle.curves.proofs.Meetings.{graver_none, max_is}
use Rattle.curves.proofs.segments_meeting.Goals as goal

pub returns-then-segments_wrong : goal.returns-then-segments_wrong
unfolding seg_meeting
returns-then-segments_wrong c = rw (
  ← c.segments_wrong.ensures,
  c.if-segments_wrong.true,
  ← c.contact_of.ensures,
) (c.max.ensures ∙ max_is c.args.found c.contact_of.result)

pub returns-else-segments_wrong : goal.returns-else-segments_wrong
unfolding seg_meeting
returns-else-segments_wrong c = rw (← c.segments_wrong.ensures, c.if-segments_wrong.false) (sym (graver_none _))
