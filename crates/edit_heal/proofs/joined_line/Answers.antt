-- `edit_heal::joined_line` meets its contract: the two lines are read as the runs that they are. Assumes nothing.
use mathlib.Core.Path.{◌≡◌, subst, ap₂, ◌∙◌}
use Prim.Native.Nat.{ℕ, ◌*◌}
use native.Mathlib.Nat.{sub-zero}
use native.Mathlib.Omega.{arith}
use lib.ListN.{take}
use Rattle.curve_edits.specs.declared.Line.{Line}
use Rattle.curves.specs.Curves.{Curve, Run, curve_of, points}
use Rattle.curves.specs.Edits.{joined}
use Rattle.curve_edits.specs.Lines.{line_of}
use Rattle.map_rows.proofs.Lines.{LineRead}
use Rattle.edit_heal.proofs.Courses.{course-line}
use Rattle.edit_heal.proofs.joined_line.Goals as goal

-- the line as it is read, from its first number on
whole : {x : Line} {c : Curve} → LineRead x c
    → Run (take (x.count * 2) x.cells) × (curve_of (take (x.count * 2) x.cells) ≡ c)
whole {x} {c} r = subst (λ (k : ℕ). Run (take k x.cells) × (curve_of (take k x.cells) ≡ c)) (sub-zero (x.count * 2))
    (r.run, r.curve)

pub overflow_mul-a : goal.overflow_mul-a
overflow_mul-a c = omega (arith, (course-line _ c.args.p _ c.requires.0 c.course_of-a.ensures).few)

pub overflow_mul-b : goal.overflow_mul-b
overflow_mul-b c = omega (arith, (course-line _ c.args.q _ c.requires.1 c.course_of-b.ensures).few)

pub shared_ref_as_front-joined_of : goal.shared_ref_as_front-joined_of
shared_ref_as_front-joined_of c = omega (arith, (course-line _ c.args.p _ c.requires.0 c.course_of-a.ensures).few)

pub shared_ref_as_front-joined_of-2 : goal.shared_ref_as_front-joined_of-2
shared_ref_as_front-joined_of-2 c = omega (arith, (course-line _ c.args.q _ c.requires.1 c.course_of-b.ensures).few)

pub joined_of-requires : goal.joined_of-requires
joined_of-requires c = (
  (whole (course-line _ c.args.p _ c.requires.0 c.course_of-a.ensures)).0,
  (whole (course-line _ c.args.q _ c.requires.1 c.course_of-b.ensures)).0,
)

pub returns : goal.returns
returns c =
    c.joined_of.ensures
    ∙ ap₂ (λ (a d : Curve). line_of (points (joined a d)))
    (whole (course-line _ c.args.p _ c.requires.0 c.course_of-a.ensures)).1
    (whole (course-line _ c.args.q _ c.requires.1 c.course_of-b.ensures)).1
