-- `Formed`: what tables in form give. `Words`: numbers picked. `FaceRows`: a face removed and pushed. `Sweeps`: the
-- rows of a table swept. `Renames`: faces renamed. `Shares`: a face shared out. `Heals`: two faces healed. `Healed`:
-- the edge undrawn after it, and the tables. `Splits`: a face split.
pub mod Words
pub mod FaceRows
pub mod Sweeps
pub mod Renames
pub mod Shares
pub mod Heals
pub mod Healed
pub mod Splits
pub mod Formed
