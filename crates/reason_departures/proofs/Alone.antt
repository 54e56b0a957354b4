-- The reasons that look at departures depend on a map's edges alone. Assumes nothing.
use mathlib.Core.Path.{◌≡◌, refl}
use Prim.Native.Nat.{ℕ}
use Rattle.curves.specs.Curves.{Curve}
use Rattle.map.specs.Rows.{Map, edge, at_edge}
use Rattle.map.specs.Darts.{leaves, departures, course, way}
use Rattle.map.specs.Links.{clockwise}
use Rattle.map.specs.Edits.{change_edge_geom}
use Rattle.map.specs.Reasons.{edge_isolated, direction_taken, order_changes}
use Rattle.links.proofs.LinkedEdges.{alone}

module _ (m : Map) where
  pub isolated_alone : (e : ℕ) → edge_isolated m e ≡ edge_isolated (alone m) e
  unfolding edge_isolated departures leaves edge
  isolated_alone e = refl

  pub taken_alone : (own u v : ℕ) (c : Curve) → direction_taken m own u v c ≡ direction_taken (alone m) own u v c
  unfolding direction_taken departures leaves edge way course
  taken_alone own u v c = refl

  pub order_alone : (e : ℕ) (c : Curve) → order_changes m e c ≡ order_changes (alone m) e c
  unfolding order_changes change_edge_geom at_edge clockwise departures leaves edge way course
  order_alone e c = refl
