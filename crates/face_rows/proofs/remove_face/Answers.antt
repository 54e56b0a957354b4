-- `face_rows::remove_face` meets its contract: the row is found and closed up, or the face has none. Assumes nothing.
use Rattle.std.specs.Prelude.{Some}
use mathlib.Core.Path.{◌≡◌, refl, ◌∙◌}
use lib.IntN.{pos, nat_abs}
use mir.Syntax.{w64}
use mir.Val.{of_z, to_z}
use mir.Facts.{to_z-of_z}
use Rattle.lists.specs.Tables.{place}
use Rattle.tables.specs.Tables.{same_z, column}
use Rattle.tables.proofs.Tests.{pos_abs}
use Rattle.map.specs.Limits.{face_width}
use Rattle.map_rows.proofs.Rows.{face_rows_rising}
use Rattle.outcomes.proofs.Words.{place_told}
use Rattle.face_rows.proofs.FaceRows.{face_rows_lem, found_gone, missing_gone}
use Rattle.face_rows.proofs.remove_face.Lts as lts
use Rattle.face_rows.proofs.remove_face.Tie as tie
use Rattle.face_rows.proofs.remove_face.Reads as reads
use Rattle.face_rows.proofs.remove_face.Goals as goal

-- places in the code, by their names in what is generated
abbrev In-Some : Type 0
In-Some = lts.Past-After-known_told tie.the-claims reads.Pre reads.Post

-- the face, as it was passed
face : (s : goal.Start) → to_z w64 (of_z w64 s.args.face) ≡ pos (nat_abs s.args.face)
face s = to_z-of_z {w = w64} s.ranges.face ∙ pos_abs s.args.face s.requires.1

-- the row that is found
found : (c : In-Some)
    → let a = c.args in
    place (same_z (pos (nat_abs a.face))) 0 (column face_width a.faces.now a.count) ≡ Some c.in-Some.i
found c =
    let s = c.before.before in
    place_told face_width s.args.faces.now {a = s.args.count} refl (face s) c.find_row.ensures
    c.in-Some.is

pub remove_row-requires : goal.remove_row-requires
remove_row-requires c =
    let s = c in (
      (found_gone s.args.count s.requires.0.1 (nat_abs s.args.face) _ (found c.before)).0,
      (face_rows_lem
          s.args.count s.requires.0.1).fits,
    )

pub returns-in-Some : goal.returns-in-Some
returns-in-Some c box t =
    let s = c in
    let a = s.args in
    rw c.remove_row.ensures
    (found_gone s.args.count t (nat_abs a.face) _ (found c.before.before.before)).1

pub returns-in_default : goal.returns-in_default
returns-in_default c box t =
    let s = c.before.before in
    missing_gone s.args.count t (nat_abs s.args.face)
    (place_told face_width s.args.faces.now {a = s.args.count} refl (face s)
    c.find_row.ensures
    c.in_default.is)

pub find_row-requires : goal.find_row-requires
find_row-requires c = face_rows_rising (face_rows_lem c.args.count c.requires.0.1)
