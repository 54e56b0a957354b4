-- Laws of the map that hold whatever tickets made it.

-- rows: what a map reads in them, and after each way of changing them; directed edges
pub mod Readings
pub mod RowChanges
pub mod RowDarts
-- what holds of a ticket that nothing turns down; what 23, 15 and 24 say over rational points; what is left of a curve
-- that is sent, and that tickets which did not get 6 before have the same outcome
pub mod Reasons
pub mod MeetingsTold
pub mod Surplus
-- a map keeps the record of points that it is created with, and 5 and 18 are all that it decides
pub mod Recorded
-- nodes, outlines of edges, faces and next numbers after an edit; faces that are named exist
pub mod Outlines
pub mod Faces
-- rings, departures, the link law as it depends on them, and condition 2 as facts
pub mod Rings
pub mod Departures
pub mod LawOrder
pub mod Form
-- an edge with another curve: what the map then reads
pub mod Redrawn
-- an edge drawn: its row linked in, what the map then reads, and that a linked map stays linked
pub mod LinkedIn
pub mod Drawn
pub mod Weaving
pub mod DrawnLinked
