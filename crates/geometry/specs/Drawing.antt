-- Curves, how two of them meet, and lists of curves that share no points but common ends. Definitions only.
use Rattle.std.specs.Prelude.{List, ◌≢◌}
use Rattle.lists.specs.Members.{All, Pairs}
use Rattle.plane.specs.declared.Point.{Point}
use Rattle.plane.specs.declared.Contact.{Contact}
use Rattle.curves.specs.Curves.{Curve, last_point}
use Rattle.geometry.specs.Spots.{Spot}
use Rattle.geometry.specs.Meaning.{On, Some, Differ, Simple, End, Clear, Meet}

abbrev pub OnCurve : Spot → Curve → Type 0
OnCurve P c = On P c.first c.rest

-- at least two points, neighbours differ, simple
pub record GoodCurve (c : Curve) : Type 0 where
  pub some : Some c.rest
  pub differ : Differ c.first c.rest
  pub simple : Simple c.first c.rest

abbrev pub ClearCurves : Curve → Curve → Type 0
ClearCurves c d = Clear c.first c.rest d.first d.rest

abbrev pub MeetCurves : Contact → Curve → Curve → Type 0
MeetCurves k c d = Meet k c.first c.rest d.first d.rest

-- a spot of both that is not an end of both
pub record CommonSpot (c d : Curve) : Type 0 where
  pub spot : Spot
  pub on_one : OnCurve spot c
  pub on_other : OnCurve spot d
  pub no_end : End spot c.first c.rest × End spot d.first d.rest → ⊥

-- no end of the curve is the point
pub record NoEnd (m : Point) (c : Curve) : Type 0 where
  pub first : m ≢ c.first
  pub last : m ≢ last_point c

pub record Drawn (l : List Curve) : Type 0 where
  pub good : All GoodCurve l
  pub clear : Pairs ClearCurves l
