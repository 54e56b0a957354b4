-- `rectangles::set_rectangles` meets its contract: one face is set after the other. Assumes nothing.
use mathlib.Core.Path.{◌≡◌, ap, ◌∙◌}
use native.Mathlib.Omega.{arith}
use lib.IntN.{ℤ, pos, nat_abs}
use mir.Syntax.{w64}
use mir.Val.{to_z, of_z, SFits}
use mir.Facts.{to_z-of_z}
use Rattle.lists.proofs.Bools.{same_eq}
use Rattle.map.specs.Rows.{rectangle}
use Rattle.map_rows.specs.Rows.{edges_of}
use Rattle.rectangles.specs.Boxes.{set_face}
use Rattle.rectangles.proofs.Settings.{zero_word, face_done, face_bounded}
use Rattle.rectangles.proofs.set_rectangles.Goals as goal

pub returns-then-b-eq0 : goal.returns-then-b-eq0
returns-then-b-eq0 c =
    let a = c.args in
    let p = zero_word c.ranges.a c.if-a-eq0.true in
    let q = zero_word c.ranges.b c.if-b-eq0.true in
    rw (same_eq (nat_abs a.a) 0 p) (rw (same_eq (nat_abs a.b) 0 q))

-- a face as it is passed
sent : {z : ℤ} → SFits w64 z → z ≡ pos (nat_abs z) → to_z w64 (of_z w64 z) ≡ pos (nat_abs (to_z w64 (of_z w64 z)))
sent {z} f e = rw (to_z-of_z {w = w64} {z = z} f) e

pub set_rectangle-requires : goal.set_rectangle-requires
set_rectangle-requires c =
    let s = c in (
      s.requires.1,
      sent s.ranges.a s.requires.2,
      face_bounded s.requires.0 (to_z-of_z s.ranges.a) c.boundary_boxes.ensures.0,
    )

pub set_rectangle-requires-2 : goal.set_rectangle-requires-2
set_rectangle-requires-2 c =
    let b = c in
    let s = b in (
      omega (arith, s.requires.1, c.set_rectangle.auto.faces),
      sent s.ranges.b s.requires.3,
      face_bounded s.requires.0 (to_z-of_z s.ranges.b) s.boundary_boxes.ensures.1,
    )

pub returns : goal.returns
returns c =
    let s = c in
    let a = s.args in
    let es = edges_of a.edges.now a.count in
    let first = c.set_rectangle.ensures
    ∙ face_done s.requires.0 (to_z-of_z s.ranges.a) s.boundary_boxes.ensures.0 a.n a.faces.now in
    c.set_rectangle-2.ensures
    ∙ face_done s.requires.0 (to_z-of_z s.ranges.b) s.boundary_boxes.ensures.1 a.n _
    ∙ ap (set_face a.n (nat_abs a.b) (rectangle es (nat_abs a.b))) first
