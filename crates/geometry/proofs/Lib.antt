-- `Theorems` is what to read first; `Edits`: what each kind of edit keeps on the list of all curves; `Examples`: small
-- cases.
-- `Segments`: spots of a segment, its ends, its parts, directions. `Sound`, `Complete`: the sign test of two segments.
-- `Meeting`: the tests of points.
-- `Stretch`, `Double`, `Contact`: the four contacts. `Chains`: curves made of two. `Truth`, `Exact`: the tests of
-- curves say neither too little nor too much.
-- `Nth`: simple, by the numbers of segments. `Alike`: lists of points that draw one curve. `Cutting`, `Joining`,
-- `Turning`, `Undo`: the edits of curves.
-- `Meetings`: what a stretch, a crossing and a touch of two curves mean.
-- `InnerCuts`: the cut at the first place inside the ends.
-- `Bent`: no inner point straight between its neighbours. `Thinning`: surplus points dropped.
-- `Ways`: departures differ. `Drawing`: one curve more or less in a list of curves.
pub mod Theorems
pub mod Edits
pub mod Examples
pub mod Segments
pub mod Sound
pub mod Complete
pub mod Meeting
pub mod Stretch
pub mod Double
pub mod Contact
pub mod Chains
pub mod Truth
pub mod Exact
pub mod Nth
pub mod Meetings
pub mod Alike
pub mod Cutting
pub mod Joining
pub mod Turning
pub mod Undo
pub mod InnerCuts
pub mod Bent
pub mod Thinning
pub mod Ways
pub mod Drawing
