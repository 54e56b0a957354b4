-- `face_rows::heal_row` meets its contract: both faces go and one comes, or the higher goes. Assumes nothing.
use mathlib.Core.Path.{◌≡◌, sym, ap, ◌∙◌}
use mathlib.Core.Bool.{Bool, true, cond}
use mathlib.Core.List.{List}
use Prim.Native.Nat.{ℕ, ◌+◌, ◌-◌}
use native.Mathlib.Omega.{arith}
use lib.IntN.{ℤ, nat_abs}
use lib.ListN.{length}
use lib.Signed.{non_neg, lt_z}
use mir.Syntax.{w64}
use mir.Val.{to_z, of_z}
use mir.Facts.{to_z-of_z}
use Rattle.std.specs.Int.{int_max}
use Rattle.integers.specs.Signs.{sent}
use Rattle.tables.proofs.Tests.{pos_abs}
use Rattle.lists.proofs.Bools.{cond_has}
use Rattle.bounding_boxes.specs.declared.Extent.{Extent}
use Rattle.map_rows.specs.Rows.{faces_of, faces_in}
use Rattle.map_rows.proofs.Rows.{faces_length}
use Rattle.face_rows.specs.Holds.{FaceTable, without_face, heal_faces}
use Rattle.face_rows.proofs.Words.{greatest_is}
use Rattle.face_rows.proofs.FaceRows.{table_distinct, table_long, without_length, two_less, cells_here}
use Rattle.face_rows.proofs.FaceRows.{pushed_here, table_here, removed_here}
use Rattle.face_rows.proofs.heal_row.Lts as lts
use Rattle.face_rows.proofs.heal_row.Tie as tie
use Rattle.face_rows.proofs.heal_row.Reads as reads
use Rattle.face_rows.proofs.heal_row.Goals as goal

-- places in the code, by their names in what is generated
abbrev After-remove_face : Type 0
After-remove_face = lts.After-remove_face tie.the-claims reads.Pre reads.Post tie.handed_clauses

abbrev After-remove_face-then-makes : Type 0
After-remove_face-then-makes = lts.After-remove_face2 tie.the-claims reads.Pre reads.Post tie.handed_clauses

abbrev Start : Type 0
Start = lts.Start tie.the-claims reads.Pre reads.Post tie.handed_clauses

abbrev faces : Start → List ℕ
faces s = faces_of s.args.faces.now s.args.count

-- without the left face, and without the right one too
abbrev rest : Start → List ℕ
rest s = without_face (nat_abs s.args.left) (faces s)

fewer : (s : Start) → length (rest s) + 1 ≡ s.args.count
fewer s = without_length (nat_abs s.args.left) (faces s) (table_distinct s.requires.table.2) s.requires.left_there
    ∙ faces_length s.args.faces.now s.args.count

fewest : (s : Start) → length (without_face (nat_abs s.args.right) (rest s)) + 2 ≡ s.args.count
fewest s = two_less s.requires.table.2 _ _ s.requires.differ s.requires.left_there s.requires.right_there
    ∙ faces_length s.args.faces.now s.args.count

module _ (box : ℕ → Extent) where
  -- the table on entry, with these rectangles
  abbrev Table : Start → Type 0
  Table s = FaceTable (length s.args.faces.now) box (faces s) s.args.faces.now

  gone : (c : After-remove_face)
      → let s = c.before.before.before in
      Table s → FaceTable (length s.args.faces.now) box (rest s) c.remove_face.new.faces
  gone c t = rw (to_z-of_z {w = w64} c.ranges.left) at (c.remove_face.ensures box t)

  both-gone : (c : After-remove_face-then-makes)
      → let s = c.before.before.before.before.before.before in
      Table s
      → FaceTable (length s.args.faces.now) box (without_face (nat_abs s.args.right) (rest s))
      c.remove_face-then-makes.new.faces
  both-gone c t =
      let g = c.before.before.before in
      let s = g.before.before.before in
      let e = fewer s in
      let k = gone g t in
      rw (to_z-of_z {w = w64} s.ranges.right) at
      (removed_here k {n = s.args.count - 1} (omega arith) _
      (c.remove_face-then-makes.ensures box (table_here k {n = s.args.count - 1} (omega arith))))

pub remove_face-requires-then-makes : goal.remove_face-requires-then-makes
remove_face-requires-then-makes c =
    let g = c.before.before in
    let s = c.before.before.before.before.before in
    let e = fewer s in (
      (_, table_here (gone _ g s.requires.table.2) {n = s.args.count - 1} (omega arith)),
      ap non_neg (to_z-of_z {w = w64} s.ranges.right) ∙ s.requires.right_natural,
    )

pub push_face-requires : goal.push_face-requires
push_face-requires c =
    let g = c.before.before in
    let s = c.before.before.before.before.before.before.before.before in
    let e = fewest s in
    let t = s.requires.table.2 in
    let k = both-gone _ g t in
    let v = to_z-of_z {w = w64} s.ranges.face in (
      rw (table_long k) (omega (arith, t.fits, faces_length s.args.faces.now s.args.count)),
      ap non_neg v ∙ s.requires.natural,
      (
        s.requires.table.0,
        rw v (s.requires.table.1 g.if-makes.true),
        cells_here _ _ (without_face (nat_abs s.args.right) (rest s)) k.cells k.fits {n = s.args.count - 2}
            (omega arith),
      ),
    )

-- the higher of the two, as it was passed
higher : (c : goal.After-max)
    → let a = c.args in
    to_z w64 (of_z w64 c.max.result) ≡ cond (lt_z a.left a.right) a.right a.left
higher c =
    let a = c.args in
    let l = to_z-of_z {w = w64} c.ranges.left in
    let r = to_z-of_z {w = w64} c.ranges.right in
    let x = pos_abs a.left c.requires.left-natural in
    let y = pos_abs a.right c.requires.right_natural in
    sent c.max.type_inv ∙ c.max.ensures.value ∙ (λ i. int_max ((l ∙ x) i) ((r ∙ y) i))
    ∙ greatest_is (nat_abs a.left) (nat_abs a.right)
    ∙ sym (λ i. cond (lt_z (x i) (y i)) (y i) (x i))

pub remove_face-requires-else-makes : goal.remove_face-requires-else-makes
remove_face-requires-else-makes c = (
  (c.requires.table.0, c.requires.table.2),
  ap non_neg (higher c) ∙ cond_has (λ (z : ℤ). non_neg z ≡ true) (lt_z c.args.left c.args.right)
      c.requires.right_natural c.requires.left-natural,
)

pub returns-then-makes : goal.returns-then-makes
returns-then-makes c box none t =
    let g = c.before.before.before.before in
    let s = c.before.before.before.before.before.before.before.before.before.before in
    let a = s.args in
    let e = fewest s in
    let makes = g.if-makes.true in
    let k = both-gone box g t in
    let v = to_z-of_z {w = w64} s.ranges.face in
    let both = without_face (nat_abs a.right) (rest s) in
    ap (λ (b : Bool). faces_in (length a.faces.now) box
    (heal_faces b a.left a.right (nat_abs a.face) (faces s))) makes
    ∙ (rw v at (pushed_here _ box both k.cells k.fits {n = a.count - 2} (omega arith) _
    (c.push_face.ensures.1 box (rw v (none makes))
    (cells_here _ box both k.cells k.fits {n = a.count - 2} (omega arith)))))

pub returns-else-makes : goal.returns-else-makes
returns-else-makes c box none t =
    let a = c.args in
    let fs = faces_of a.faces.now a.count in
    ap (λ (b : Bool). faces_in (length a.faces.now) box (heal_faces b a.left a.right (nat_abs a.face) fs)) c.if-makes.false
    ∙ ap (λ (z : ℤ). faces_in (length a.faces.now) box (without_face (nat_abs z) fs)) (sym (higher c.before.before))
    ∙ (c.remove_face-else-makes.ensures box t).cells

pub remove_face-requires : goal.remove_face-requires
remove_face-requires c = let s = c in
    ((s.requires.table.0, s.requires.table.2), ap non_neg (to_z-of_z {w = w64} s.ranges.left) ∙ s.requires.left-natural)

pub overflow_sub-count : goal.overflow_sub-count
overflow_sub-count c = omega (arith, fewer c.before.before.before.before.before)

pub overflow_sub-count-then-makes : goal.overflow_sub-count-then-makes
overflow_sub-count-then-makes c = omega (arith, fewest c.before.before.before.before.before.before.before.before)
