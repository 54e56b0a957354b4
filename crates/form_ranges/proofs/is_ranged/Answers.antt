-- `form_ranges::is_ranged` meets its contract. Assumes nothing.
use mathlib.Core.Path.{◌≡◌, sym, ap, ◌∙◌}
use mathlib.Core.Bool.{Bool, true, false, ◌&&◌}
use lib.IntN.{ℤ}
use mir.Syntax.{w64}
use mir.Facts.{to_z-of_z}
use Rattle.lists.specs.Scans.{all_of}
use Rattle.tables.specs.Tables.{rows}
use Rattle.map.specs.Limits.{most_points, limit_of}
use Rattle.map.specs.Form.{node_ranges, edge_ranges_to, face_ranges}
use Rattle.form_ranges.proofs.is_ranged.Goals as goal

module _ {p q r p' q' r' : Bool} (e : p ≡ p') (f : q ≡ q') (g : r ≡ r') where
  three : p && q && r ≡ p' && q' && r'
  three = rw (e, f, g)

  none_of : p && q && r ≡ false → (x y z : Bool) → false ≡ p' && q' && r' && x && y && z
  none_of h x y z = rw (sym three ∙ h)

  rest_of : p && q && r ≡ true → {s t u : Bool} (x y z : Bool) → s ≡ x → t ≡ y → u ≡ z → s && t && u ≡ p' && q' && r'
      && x && y && z
  rest_of h x y z i j k = rw (sym three ∙ h, i, j, k)

pub returns-then-not-rest_zero : goal.returns-then-not-rest_zero
returns-then-not-rest_zero c =
    let a = c.args in
    none_of c.rest_zero.ensures
    c.rest_zero-2.ensures
    c.rest_zero-3.ensures (c.if-not-rest_zero.true)
    (all_of node_ranges (rows 4 a.c.nodes a.nodes.now))
    (all_of (edge_ranges_to (most_points (limit_of a.points))) (rows 32 a.c.edges a.edges.now))
    (all_of face_ranges (rows 5 a.c.faces a.faces.now))

pub returns : goal.returns
returns c =
    let s = c in
    let a = s.args in
    rest_of c.rest_zero.ensures
    c.rest_zero-2.ensures
    c.rest_zero-3.ensures
    (c.if-not-rest_zero.false)
    (all_of node_ranges (rows 4 a.c.nodes a.nodes.now))
    (all_of (edge_ranges_to (most_points (limit_of a.points))) (rows 32 a.c.edges a.edges.now))
    (all_of face_ranges (rows 5 a.c.faces a.faces.now))
    c.nodes_ranged.ensures
    (c.edges_ranged.ensures
    ∙ ap (λ (z : ℤ). all_of (edge_ranges_to (most_points (limit_of z))) (rows 32 a.c.edges a.edges.now))
    (to_z-of_z {w = w64} s.ranges.points))
    c.faces_ranged.ensures
