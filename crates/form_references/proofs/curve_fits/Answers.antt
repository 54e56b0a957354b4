-- `form_references::curve_fits` meets its contract: the rows that are written down have the points of the nodes.
-- Assumes nothing.
use mathlib.Core.Bool.{Bool, ◌&&◌}
use mathlib.Core.Path.{◌≡◌, ap, ap₂, ◌∙◌}
use mathlib.Core.List.{List}
use Prim.Native.Nat.{ℕ, ◌+◌, ◌*◌}
use native.Mathlib.Omega.{arith}
use lib.IntN.{ℤ}
use lib.ListN.{get_or}
use Rattle.plane.specs.declared.Point.{Point}
use Rattle.plane.specs.Points.{same_point}
use Rattle.curves.specs.Curves.{Curve, last_point}
use Rattle.curves.specs.Tests.{neighbours_differ}
use Rattle.map.specs.Form.{curve_fits}
use Rattle.map_rows.specs.Rows.{NodeRows, EdgeRow, node_at, node_map, edge_at}
use Rattle.map_rows.proofs.Rows.{edge_cells_lem, node-row_of}
use Rattle.darts.specs.Positions.{RowsNamed}
use Rattle.darts.proofs.Positions.{side_even, side_odd}
use Rattle.form_references.proofs.Nexts.{row_point}
use Rattle.form_references.proofs.curve_fits.Goals as goal

-- a curve that runs between the points of the rows of its nodes
fits : {nodes edges : List ℤ} {n i : ℕ} (starts : List ℕ) → NodeRows nodes n → EdgeRow edges i
    → RowsNamed 4 nodes n edges 1 starts (i * 2 + 2) → {k : Curve} {u v : Point} {r : Bool} → k ≡ (edge_at edges i).curve
    → u ≡ (node_at nodes (get_or starts (i * 2) 0)).at → v ≡ (node_at nodes (get_or starts (i * 2 + 1) 0)).at → r
    ≡ (same_point k.first u && same_point (last_point k) v && neighbours_differ k) → r
    ≡ curve_fits (node_map nodes n) (edge_at edges i)
fits {nodes} {edges} {n} {i} starts rows row named ek eu ev e =
    let k = edge_cells_lem edges i row.ranges in
    let u = named (i * 2) (omega arith) in
    let v = named (i * 2 + 1) (omega arith) in
    e
    ∙ ap₂ ◌&&◌
    (ap₂ ◌&&◌
    (ap₂ same_point (ap (λ (c : Curve). c.first) ek)
    (eu ∙ row_point rows _ u.0 _ (u.1 ∙ side_even edges i 1 ∙ k.start)))
    (ap₂ same_point (ap last_point ek) (ev ∙ row_point rows _ v.0 _ (v.1 ∙ side_odd edges i 1 ∙ k.end))))
    (ap neighbours_differ ek)

pub overflow_cast-u : goal.overflow_cast-u
overflow_cast-u c = let s = c in omega (arith, c.shared_slice_known-2-1.given (s.args.i * 2))

pub overflow_cast-v : goal.overflow_cast-v
overflow_cast-v c = let s = c in
    omega (arith, c.shared_slice_known-3-1.given (s.args.i * 2 + 1))

pub node_point-from-requires : goal.node_point-from-requires
node_point-from-requires c = let s = c in
    node-row_of s.requires.0 _ (s.requires.3 (s.args.i * 2) (omega arith)).0

pub node_point-to-requires : goal.node_point-to-requires
node_point-to-requires c = let s = c in
    node-row_of s.requires.0 _ (s.requires.3 (s.args.i * 2 + 1) (omega arith)).0

pub returns-then-k-eq2 : goal.returns-then-k-eq2
returns-then-k-eq2 c =
    let t = c in
    let s = t in
    fits s.args.starts.now s.requires.0 s.requires.1 s.requires.3
    t.curve_of-c.ensures.1 t.node_point-from.ensures.0
    t.node_point-to.ensures.0
    c.runs_between.ensures

pub returns : goal.returns
returns c =
    let t = c in
    let s = t in
    fits s.args.starts.now s.requires.0 s.requires.1 s.requires.3
    t.curve_of-c.ensures.1 t.node_point-from.ensures.0
    t.node_point-to.ensures.0
    c.runs_between-2.ensures
