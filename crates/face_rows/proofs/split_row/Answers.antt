-- `face_rows::split_row` meets its contract: the old face goes and two come, or one comes. Assumes nothing.
use mathlib.Core.Path.{◌≡◌, sym, ap, ◌∙◌}
use mathlib.Core.Bool.{Bool}
use mathlib.Core.List.{List, [], ◌∷◌, ◌++◌, append_assoc}
use Prim.Native.Nat.{ℕ, ◌+◌, ◌*◌, ◌-◌, ◌≤◌}
use native.Mathlib.Omega.{arith}
use lib.IntN.{nat_abs}
use lib.ListN.{length, length-append}
use lib.Signed.{non_neg}
use mir.Syntax.{w64}
use mir.Facts.{to_z-of_z}
use Rattle.tables.proofs.Tests.{pos_abs}
use Rattle.bounding_boxes.specs.declared.Extent.{Extent}
use Rattle.map.specs.Limits.{face_width}
use Rattle.map_rows.specs.Rows.{faces_of, faces_in}
use Rattle.map_rows.proofs.Rows.{faces_length}
use Rattle.outcomes.proofs.Words.{plus_fits, plus_is, count_natural}
use Rattle.face_rows.specs.Holds.{FaceTable, Unboxed, without_face, split_faces}
use Rattle.face_rows.proofs.FaceRows.{table_distinct, table_long, without_length, cells_here, pushed_here}
use Rattle.face_rows.proofs.split_row.Lts as lts
use Rattle.face_rows.proofs.split_row.Tie as tie
use Rattle.face_rows.proofs.split_row.Reads as reads
use Rattle.face_rows.proofs.split_row.Goals as goal

-- places in the code, by their names in what is generated
abbrev After-push_face : Type 0
After-push_face = lts.After-push_face tie.the-claims reads.Pre reads.Post

abbrev After-remove_face : Type 0
After-remove_face = lts.After-remove_face tie.the-claims reads.Pre reads.Post

abbrev Start : Type 0
Start = lts.Start tie.the-claims reads.Pre reads.Post

-- the faces but the old one
abbrev others : Start → List ℕ
others s = without_face (nat_abs s.args.old) (faces_of s.args.faces.now s.args.count)

fewer : (s : Start) → length (others s) + 1 ≡ s.args.count
fewer s = let a = s.args in
    without_length (nat_abs a.old) (faces_of a.faces.now a.count) (table_distinct s.requires.table.2)
    s.requires.there ∙ faces_length a.faces.now a.count

module _ (box : ℕ → Extent) where
  -- the table on entry, with these rectangles
  abbrev Table : Start → Type 0
  Table s = let l = s.args.faces.now in FaceTable (length l) box (faces_of l s.args.count) l

  gone : (c : After-remove_face) → Table c.before.before.before
      → FaceTable (length c.args.faces.now) box (others c.before.before.before)
      c.remove_face.new.faces
  gone c t = rw (to_z-of_z {w = w64} c.ranges.old) at (c.remove_face.ensures box t)

  -- the first new face after the others
  first : (c : After-push_face)
      → let s = c.before.before.before.before.before.before in
      Unboxed box (nat_abs s.args.a) → Table s
      → faces_in (length s.args.faces.now) box (others s ++ nat_abs s.args.a ∷ []) ≡ c.push_face.new.faces
  first c none t =
      let g = c.before.before.before in
      let s = g.before.before.before in
      let e = fewer s in
      let k = gone g t in
      let v = to_z-of_z {w = w64} s.ranges.a in
      rw v at
      (pushed_here _ box (others s) k.cells k.fits {n = s.args.count - 1} (omega arith) _
      (c.push_face.ensures.1 box (rw v (none _ (omega arith)))
      (cells_here _ box (others s) k.cells k.fits {n = s.args.count - 1} (omega arith))))

pub push_face-requires : goal.push_face-requires
push_face-requires c =
    let g = c.before.before in
    let s = c.before.before.before.before.before in
    let e = fewer s in
    let k = gone _ g s.requires.table.2 in (
      rw (table_long k) (omega (arith, s.requires.room)),
      count_natural s.args.a (pos_abs s.args.a s.requires.natural) s.requires.most,
      (
        s.requires.table.0,
        rw (to_z-of_z {w = w64} s.ranges.a) (s.requires.table.1 _ (omega arith)),
        cells_here _ _ (others s) k.cells k.fits {n = s.args.count - 1} (omega arith),
      ),
    )

more : (s : Start) → length (others s ++ nat_abs s.args.a ∷ []) ≡ s.args.count
more s = length-append (others s) (nat_abs s.args.a ∷ []) ∙ fewer s

more-fits : (s : Start) → length (others s ++ nat_abs s.args.a ∷ []) * face_width ≤ length s.args.faces.now
more-fits s = rw (more s) (omega (arith, s.requires.room))

pub push_face-requires-then-goes : goal.push_face-requires-then-goes
push_face-requires-then-goes c =
    let p = c.before.before in
    let g = p.before.before.before in
    let s = c.before.before.before.before.before.before.before.before in
    let a = s.args in
    let v = plus_is a.a (pos_abs a.a s.requires.natural) s.requires.most in
    let fresh = s.requires.table in (
      rw (p.push_face.ensures.0, table_long (gone _ g fresh.2)) s.requires.room,
      ap non_neg v,
      (
        fresh.0,
        rw v (fresh.1 _ (omega arith)),
        cells_here _ _ (others s ++ nat_abs a.a ∷ []) (first _ p fresh.1 fresh.2) (more-fits s) (more s),
      ),
    )

pub returns-then-goes : goal.returns-then-goes
returns-then-goes c box none t =
    let p = c.before.before.before.before in
    let s = c.before.before.before.before.before.before.before.before.before.before in
    let a = s.args in
    let N = length a.faces.now in
    let fs = others s in
    let v = plus_is a.a (pos_abs a.a s.requires.natural) s.requires.most in
    ap (λ (b : Bool). faces_in N box (split_faces b (nat_abs a.old) (nat_abs a.a)
    (faces_of a.faces.now a.count))) p.if-goes.true
    ∙ ap (faces_in N box) (sym (append_assoc fs (nat_abs a.a ∷ []) ((nat_abs a.a + 1) ∷ [])))
    ∙ ap (λ (j : ℕ). faces_in N box ((fs ++ nat_abs a.a ∷ []) ++ j ∷ [])) (sym (ap nat_abs v))
    ∙ pushed_here N box (fs ++ nat_abs a.a ∷ []) (first box p none t) (more-fits s) (more s) _
    (c.push_face-then-goes.ensures.1 box (rw v (none _ (omega arith)))
    (cells_here N box (fs ++ nat_abs a.a ∷ []) (first box p none t) (more-fits s) (more s)))

pub returns-else-goes : goal.returns-else-goes
returns-else-goes c box none t =
    let s = c in
    let a = s.args in
    let v = to_z-of_z {w = w64} s.ranges.a in
    ap (λ (b : Bool). faces_in (length a.faces.now) box (split_faces b (nat_abs a.old) (nat_abs a.a)
    (faces_of a.faces.now a.count))) c.if-goes.false
    ∙ (rw v at (c.push_face-else-goes.ensures.1 box (rw v (none _ (omega arith))) t.cells))

pub remove_face-requires : goal.remove_face-requires
remove_face-requires c = let s = c in
    ((s.requires.table.0, s.requires.table.2), ap non_neg (to_z-of_z {w = w64} s.ranges.old) ∙ s.requires.old_natural)

pub overflow_sub-count : goal.overflow_sub-count
overflow_sub-count c = omega (arith, fewer c.before.before.before.before.before)

pub overflow_add-a : goal.overflow_add-a
overflow_add-a c = let s = c in
    plus_fits s.args.a (pos_abs s.args.a s.requires.natural) s.requires.most

pub push_face-requires-else-goes : goal.push_face-requires-else-goes
push_face-requires-else-goes c = let s = c in (
  s.requires.room,
  ap non_neg (to_z-of_z {w = w64} s.ranges.a) ∙ s.requires.natural,
  (
    s.requires.table.0,
    rw (to_z-of_z {w = w64} s.ranges.a) (s.requires.table.1 _ (omega arith)),
    s.requires.table.2.cells,
  ),
)
