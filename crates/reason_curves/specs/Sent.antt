-- What is left of the points sent; the reasons against a curve, by the points of its nodes; and the edges but one.
use Rattle.std.specs.Prelude.{◌≡◌, true, false, not, ◌&&◌, List, [], ◌∷◌, map, ℕ, ℤ}
use Rattle.lists.specs.Tests.{same}
use Rattle.lists.specs.Scans.{keep}
use Rattle.lists.specs.Tables.{table}
use Rattle.plane.specs.declared.Point.{Point}
use Rattle.plane.specs.Points.{same_point}
use Rattle.curves.specs.Curves.{Curve, Run, last_point, curve_of}
use Rattle.curves.specs.Tests.{neighbours_differ, straight_inside, is_simple}
use Rattle.map.specs.Rows.{Edge}
use Rattle.map.specs.Reasons.{Reasons}
use Rattle.map_rows.specs.Rows.{edge_at}

-- what is left of points sent that 5 and 6 let pass
pub record PointsLeft (l : List ℤ) : Type 0 where
  pub run : Run l
  pub differ : neighbours_differ (curve_of l) ≡ true
  pub bent : straight_inside (curve_of l) ≡ false

-- 7 and 8, for a curve from the point p to the point q: `curve_reasons` of the map, whose nodes u and v have these
-- points
abbrev pub curve_reasons_at : Curve → Point → Point → Reasons
curve_reasons_at c p q =
    (7, not (is_simple c))
    ∷ (8, not (same_point c.first p && same_point (last_point c) q))
    ∷ []

-- the edges but that of row `own`
abbrev pub edges_but : List ℤ → ℕ → ℕ → List Edge
edges_but l n own = map (edge_at l) (keep (λ i. not (same i own)) (table (λ i. i) 0 n))
