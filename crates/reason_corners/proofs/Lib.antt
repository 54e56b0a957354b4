-- `CornerFaces`: the corner face of the tables is that of the map.
-- `Choosing`: the first departure met clockwise with one more besides. `Ends`: where the new edge is linked in.
-- `Places`: the new edge's positions after those of the rows. `Drawn`: what the map reads with the new edge linked in.
-- `Walked`: its ring, turn by turn. `Alike`: its number makes no difference.
pub mod CornerFaces
pub mod Choosing
pub mod Ends
pub mod Places
pub mod Drawn
pub mod Walked
pub mod Alike
