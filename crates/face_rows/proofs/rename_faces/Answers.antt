-- `face_rows::rename_faces` meets its contract: left and then right renamed. Assumes nothing.
use mathlib.Core.Path.{◌≡◌, sym, ap, ◌∙◌}
use mathlib.Core.List.{List}
use lib.IntN.{ℤ, pos, nat_abs}
use mir.Syntax.{w64}
use mir.Facts.{to_z-of_z}
use Rattle.map.specs.Limits.{node_width, edge_width}
use Rattle.face_rows.proofs.Renames.{swept_column, node_table_lem, edge-table}
use Rattle.face_rows.proofs.rename_faces.Goals as goal

pub returns : goal.returns
returns c row m el er en ee =
    let second = c.rename_face-2 in
    let first = c.rename_face in
    let s = c in
    let a = s.args in
    let p = s.requires in
    let vl = to_z-of_z {w = w64} {z = a.left} s.ranges.left in
    let vr = to_z-of_z {w = w64} {z = a.right} s.ranges.right in
    let vf = to_z-of_z {w = w64} {z = a.face} s.ranges.face in
    let il : a.left ≡ pos row.left = p.4 ∙ ap pos (sym el) in
    let ir : a.right ≡ pos row.right = p.5 ∙ ap pos (sym er) in (
      node_table_lem row (nat_abs a.face) m a.left a.right a.face il ir p.6 a.nodes.now a.n en p.2
          ∙ ap (swept_column node_width 3 0 a.n a.right a.face) (sym (rw (vl, vf) at first.ensures.0))
          ∙ sym (rw (vr, vf) at second.ensures.0),
      edge-table row (nat_abs a.face) m a.left a.right a.face il ir p.6 a.edges.now a.count ee
          p.1 p.3
          ∙ ap (λ (l : List ℤ). swept_column edge_width 6 0 a.count a.right a.face
          (swept_column edge_width 5 0 a.count a.right a.face l)) (sym (rw (vl, vf) at first.ensures.1))
          ∙ sym (rw (vr, vf) at second.ensures.1),
    )
