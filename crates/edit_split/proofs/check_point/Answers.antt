-- `edit_split::check_point` meets its contract: each test answers its reason, in order. Assumes nothing.
use mathlib.Core.Path.{◌≡◌, sym, ap, ap₂, ◌∙◌}
use mathlib.Core.Bool.{Bool, not, ◌&&◌}
use mathlib.Core.List.{List}
use Prim.Native.Nat.{ℕ}
use native.Mathlib.Omega.{arith}
use lib.IntN.{ℤ}
use mir.Syntax.{w64}
use mir.Val.{of_z, to_z, SFits}
use mir.Facts.{to_z-of_z}
use Rattle.lists.specs.Tests.{same}
use Rattle.lists.specs.Scans.{any_of}
use Rattle.lists.specs.Tables.{table}
use Rattle.plane.specs.declared.Point.{Point}
use Rattle.plane.specs.Points.{same_point}
use Rattle.curves.specs.Curves.{Curve, point, coordinate}
use Rattle.curves.specs.Tests.{on_curve}
use Rattle.map.specs.Reasons.{outside, any_node_at}
use Rattle.map.proofs.Reasons.{first_hit, first_miss, first_none}
use Rattle.map_rows.specs.Rows.{node_at, edge_at, nodes_of}
use Rattle.reason_curves.proofs.Others.{node_at_all}
use Rattle.edit_split.proofs.check_point.Goals as goal

-- the tests of the point, with the numbers as they were passed
module _ {x y : ℤ} (fx : SFits w64 x) (fy : SFits w64 y) where
  range : {r t : Bool} → r ≡ coordinate (to_z w64 (of_z w64 x)) && coordinate (to_z w64 (of_z w64 y)) → r ≡ t
      → outside x y ≡ not t
  range er et = ap not (sym (er ∙ ap₂ (λ (x y : ℤ). coordinate x && coordinate y) (to_z-of_z {w = w64} fx)
      (to_z-of_z {w = w64} fy)) ∙ et)

  module _ {p : Point} (ep : p ≡ point (to_z w64 (of_z w64 x)) (to_z w64 (of_z w64 y))) where
    point-is : p ≡ point x y
    point-is = ep ∙ ap₂ point (to_z-of_z {w = w64} fx) (to_z-of_z {w = w64} fy)

    taken : (nodes : List ℤ) (n : ℕ) {r v : Bool}
        → r ≡ any_of (λ i. not (same i n) && same_point (node_at nodes i).at p) (table (λ i. i) 0 n) → r ≡ v
        → any_node_at (nodes_of nodes n) (point x y) ≡ v
    taken nodes n er ev = ap (any_node_at (nodes_of nodes n)) (sym point-is)
        ∙ sym (node_at_all nodes n n p (omega arith)) ∙ sym er ∙ ev

    lies : (c : Curve) {r v : Bool} → r ≡ on_curve c p → r ≡ v → not (on_curve c (point x y)) ≡ not v
    lies c er ev = ap not (sym (er ∙ ap (on_curve c) point-is) ∙ ev)

pub returns-then-not-in_range : goal.returns-then-not-in_range
returns-then-not-in_range c =
    sym (first_hit 5 _ _ (range c.ranges.x c.ranges.y c.in_range.ensures c.if-not-in_range.true))

pub returns-then-node_at : goal.returns-then-node_at
returns-then-node_at c =
    let a = c.args in
    sym (first_miss 5 _ _ (range c.ranges.x c.ranges.y c.in_range.ensures c.if-not-in_range.false)
    ∙ first_hit 10 _ _ (taken c.ranges.x c.ranges.y c.point_of-p.ensures.0 a.nodes.rows.now a.nodes.count
    c.node_at.ensures c.if-node_at.true))

pub returns-then-not-lies_on : goal.returns-then-not-lies_on
returns-then-not-lies_on c =
    let a = c.args in
    let p = c.point_of-p.ensures.0 in
    sym (first_miss 5 _ _ (range c.ranges.x c.ranges.y c.in_range.ensures c.if-not-in_range.false)
    ∙ first_miss 10 _ _ (taken c.ranges.x c.ranges.y p a.nodes.rows.now a.nodes.count c.node_at.ensures
    c.if-node_at.false)
    ∙ first_hit 13 _ _ (lies c.ranges.x c.ranges.y p (edge_at a.edges.now a.i).curve c.lies_on.ensures
    c.if-not-lies_on.true))

pub returns : goal.returns
returns c =
    let a = c.args in
    let p = c.point_of-p.ensures.0 in
    sym (first_miss 5 _ _ (range c.ranges.x c.ranges.y c.in_range.ensures c.if-not-in_range.false)
    ∙ first_miss 10 _ _ (taken c.ranges.x c.ranges.y p a.nodes.rows.now a.nodes.count c.node_at.ensures
    c.if-node_at.false)
    ∙ first_miss 13 _ _ (lies c.ranges.x c.ranges.y p (edge_at a.edges.now a.i).curve c.lies_on.ensures
    c.if-not-lies_on.false) ∙ first_none)
