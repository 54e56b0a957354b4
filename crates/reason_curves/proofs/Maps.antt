-- Tests of points and curves, which look at the nodes alone or at the edges alone, and reasons against a curve, in the
-- map's terms. Assumes nothing.
use mathlib.Core.Path.{◌≡◌}
use mathlib.Core.Option.{some}
use mathlib.Core.List.{List}
use Prim.Native.Nat.{ℕ}
use Rattle.plane.specs.declared.Point.{Point}
use Rattle.curves.specs.Curves.{Curve}
use Rattle.map.specs.Rows.{Node, Edge, Map, find_node, node}
use Rattle.map.specs.Reasons.{node_inside, meeting_reasons, curve_reasons}
use Rattle.reason_curves.specs.Sent.{curve_reasons_at}

-- a row that is found is the row
pub node_is : (m : Map) (k : ℕ) (r : Node) → find_node m k ≡ some r → node m k ≡ r
unfolding node
node_is m k r e = rw e

-- maps with the same edges, or the same nodes
module _ (m m' : Map) where
  pub inside_alike : (c : Curve) → m.nodes ≡ m'.nodes → node_inside m c ≡ node_inside m' c
  unfolding node_inside
  inside_alike c e = rw e

  pub meeting_alike : {es es' : List Edge} (c : Curve) → m.nodes ≡ m'.nodes → es ≡ es' → meeting_reasons m es c
      ≡ meeting_reasons m' es' c
  meeting_alike c e f = rw (inside_alike c e, f)

-- a curve between two nodes
pub curve_reasons_at_lem : (m : Map) (c : Curve) (u v : ℕ) {p q : Point} → (node m u).at ≡ p → (node m v).at ≡ q
    → curve_reasons_at c p q ≡ curve_reasons m c u v
curve_reasons_at_lem m c u v e f = rw (e, f)
