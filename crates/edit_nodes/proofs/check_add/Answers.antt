-- `edit_nodes::check_add` meets its contract: 4 where a face is given that is not found, else a reason of the point.
-- Assumes nothing.
use mathlib.Core.Path.{◌≡◌, sym, ap, ◌∙◌}
use mir.Syntax.{w64}
use mir.Facts.{to_z-of_z}
use Rattle.map.specs.Limits.{face_width}
use Rattle.map.specs.Reasons.{minus_one}
use Rattle.map_rows.proofs.Rows.{face_rows_rising}
use Rattle.outcomes.proofs.Formed.{face_rows_lem, counted}
use Rattle.outcomes.proofs.Words.{place_told}
use Rattle.head.proofs.Words.{faces_natural, faces_read}
use Rattle.edit_nodes.proofs.Told.{point_told, face_not_given, face_there, face_missing}
use Rattle.edit_nodes.proofs.check_add.Goals as goal

pub returns-then-is_none : goal.returns-then-is_none
returns-then-is_none c =
    point_told _ c.ranges.x c.ranges.y c.check_point.ensures
    ∙ face_not_given c.requires c.args.face c.args.x c.args.y
    (ap minus_one (sym (to_z-of_z {w = w64} c.ranges.face)) ∙ sym c.is_none.ensures ∙ c.if-is_none.true)

pub returns-in_default : goal.returns-in_default
returns-in_default c =
    face_missing c.requires c.args.face c.args.x c.args.y
    (place_told face_width c.args.faces.now (faces_read (counted c.requires) c.to_usize-n.ensures)
    (to_z-of_z {w = w64} c.ranges.face) c.find_row.ensures c.in_default.is)
    (ap minus_one (sym (to_z-of_z {w = w64} c.ranges.face)) ∙ sym c.is_none.ensures ∙ c.if-is_none.false)

pub returns : goal.returns
returns c =
    point_told _ c.ranges.x c.ranges.y c.check_point-2.ensures
    ∙ face_there c.requires c.args.face c.args.x c.args.y
    (place_told face_width c.args.faces.now (faces_read (counted c.requires) c.to_usize-n.ensures)
    (to_z-of_z {w = w64} c.ranges.face) c.find_row.ensures c.in-Some.is)

pub to_usize-n-requires : goal.to_usize-n-requires
to_usize-n-requires c = faces_natural (counted c.requires)

pub find_row-requires : goal.find_row-requires
find_row-requires c =
    rw (faces_read (counted c.requires) c.to_usize-n.ensures) (face_rows_rising (face_rows_lem c.requires))
