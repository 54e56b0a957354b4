-- `Extents`: a curve lies in its extent, and curves whose extents lie apart share no point. `Unions`: the points of a
-- curve widen a box to the union with the curve's extent.
pub mod Extents
pub mod Unions
