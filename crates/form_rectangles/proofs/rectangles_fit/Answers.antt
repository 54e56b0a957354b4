-- `form_rectangles::rectangles_fit` meets its contract. Assumes nothing.
use mathlib.Core.Path.{sym, ap, ◌∙◌, subst}
use native.Mathlib.Omega.{arith}
use Rattle.lists.specs.Scans.{all_of}
use Rattle.tables.specs.Tables.{row_at}
use Rattle.tables.proofs.Rows.{rows-table}
use Rattle.bounding_boxes.specs.declared.Extent.{Extent}
use Rattle.map.specs.Limits.{face_width}
use Rattle.map.specs.Rows.{rectangle}
use Rattle.map.specs.Form.{has_box}
use Rattle.map_rows.specs.Rows.{edges_of, face_at}
use Rattle.rectangles.specs.Boxes.{Bounded}
use Rattle.rectangles.proofs.Boundaries.{rows_bounded}
use Rattle.form_rectangles.specs.Merged.{settled_for}
use Rattle.form_rectangles.proofs.Boxes.{none_taken}
use Rattle.form_rectangles.proofs.Rows.{edges_ranged, rectangle_is, all_alike}
use Rattle.form_rectangles.proofs.rectangles_fit.Goals as goal

pub take_edges-requires : goal.take_edges-requires
take_edges-requires c = (
  c.requires.0,
  c.requires.2,
  c.requires.4,
  (λ p h. omega (arith, (c.requires.5 p h).0, c.requires.3)),
)

pub rows_fit-requires : goal.rows_fit-requires
rows_fit-requires c =
    let a = c.args in (
      c.requires.3,
      c.requires.1.fits,
      (λ k h. subst Bounded
          (sym (c.take_edges.ensures a.faces.now a.n c.requires.1 c.requires.3
          (none_taken _ c.empty_boxes.ensures) c.requires.5 k h))
          (rows_bounded (edges_ranged c.requires.0) (face_at a.faces.now k))),
    )

pub returns : goal.returns
returns c =
    let a = c.args in
    let es = edges_of a.edges.now a.count in
    let l = a.faces.now in
    c.rows_fit.ensures
    ∙ all_alike _ (has_box (rectangle es)) (row_at face_width l) 0 a.n (λ k g h.
    ap (λ (e : Extent). has_box (λ f. e) (row_at face_width l k))
    (ap (settled_for (face_at l k))
    (c.take_edges.ensures l a.n c.requires.1 c.requires.3 (none_taken _ c.empty_boxes.ensures) c.requires.5 k
    (omega arith))
    ∙ rectangle_is c.requires.0 (face_at l k)))
    ∙ ap (all_of (has_box (rectangle es))) (sym (rows-table face_width l a.n))
