-- Every grown map is good, hence sound and in form, and its links obey the law: `Grows`. Good is Numbered, Surveyed and
-- Woven (specs/Good.antt): a map in the plane whose links obey the law. Laws that need no good map are in `map_laws`.

-- rows with other faces, an edge under another name, whole and in halves, and where a heal joins
pub mod Sides
pub mod Renumber
pub mod Halved
pub mod SplitsRows
pub mod HealsRows
pub mod Joint
-- the parts of the invariant, each kept by all fourteen kinds
pub mod Numbers
pub mod Curves
pub mod Law
pub mod Plane
-- no curve has more points than the map was created for
pub mod Short
-- a good map is in form, read back from its tables, and sound
pub mod Forms
pub mod Ranges
pub mod Sounds
-- every ticket leaves a good map good; the theorems
pub mod Growth
pub mod Grows
-- the law and pieces by their names in the claims; numbers are never given twice, on all tables
pub mod Claimed
pub mod Given
pub mod NeverBack
-- a redrawn edge keeps the sides of all rings
pub mod RedrawnSides
-- a split that is healed at once
pub mod Rejoined
pub mod HealsBack
pub mod Rectangles
pub mod SplitHeal
pub mod SplitHealCases
