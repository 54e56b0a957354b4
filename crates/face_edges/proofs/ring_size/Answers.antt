-- `face_edges::ring_size` meets its contract: an unmarked position of the face is the first member of its ring. Assumes
-- nothing.
use borrow.Author.Rules.{sfits_of}
use mathlib.Core.Path.{◌≡◌, refl, sym, ap, ◌∙◌}
use mathlib.Core.Bool.{Bool, true, false, ◌&&◌, false≢true}
use mathlib.Core.Logic.{inl, inr}
use Prim.Native.Nat.{ℕ, ◌+◌}
use native.Mathlib.Omega.{arith}
use lib.Dec.{eqb, eqb→eq, eqb_refl}
use lib.IntN.{pos}
use lib.ListN.{get_or}
use mir.Syntax.{w64}
use mir.Val.{of_z}
use Rattle.lists.specs.Tests.{same}
use Rattle.lists.proofs.Bools.{which, T→≡, ≡→T, same_true, differ}
use Rattle.curves.proofs.Runs.{and_left, and_right}
use Rattle.tables.proofs.Order.{same-pos}
use Rattle.darts.specs.Positions.{dart_at}
use Rattle.darts.proofs.Positions.{cell-bears}
use Rattle.rings.proofs.Marks.{marked_places}
use Rattle.form_links.proofs.Words.{word_test}
use Rattle.face_edges.specs.Listing.{borne}
use Rattle.face_edges.proofs.Walks.{marked_other, marked_old, marked_new, old_first, new_first, left-taken}
use Rattle.face_edges.proofs.Walks.{left-later, left_other, ring-length}
use Rattle.face_edges.proofs.ring_size.Lts as lts
use Rattle.face_edges.proofs.ring_size.Tie as tie
use Rattle.face_edges.proofs.ring_size.Reads as reads
use Rattle.face_edges.proofs.ring_size.Goals as goal

-- places in the code, by their names in what is generated
abbrev After-slice_known-2-1 : Type 0
After-slice_known-2-1 = lts.After-slice_known2 tie.the-claims reads.Pre reads.Post

zero_is : (k : ℕ) → eqb k 0 ≡ true → k ≡ 0
zero_is k e = eqb→eq k 0 (≡→T (eqb k 0) e)

zero-not : (k : ℕ) → eqb k 0 ≡ false → k ≡ 0 → ⊥
zero-not k e z = false≢true (sym e ∙ T→≡ (eqb k 0) (rw z (eqb_refl 0)))

-- the test of the face
face_is : (c : After-slice_known-2-1) → eqb (of_z w64 c.dart_cell.result)
    (of_z w64 (pos c.args.face))
    ≡ same (borne c.args.edges.rows.now c.args.edges.count
    c.args.p) c.args.face
face_is c =
    let s = c in
    let a = s.args in
    let d = c.dart_cell in
    let f = a.face in
    let b = borne a.edges.rows.now a.edges.count a.p in
    word_test d.result (pos f) (pos b) (pos f) (sfits_of d.type_inv) (record { sfits = omega (arith, s.requires.1) })
    (d.ensures ∙ cell-bears s.requires.0.rows a.p s.requires.2) refl
    ∙ same-pos b f

pub overflow_add-result : goal.overflow_add-result
overflow_add-result c =
    let m = c.mark_ring in
    let s = c in
    let a = s.args in
    omega (
      arith,
      m.ensures.0,
      ring-length a.edges.rows.now a.edges.count (dart_at a.edges.rows.now a.p),
      s.requires.0.small,
    )

pub returns-then-dart_cell-face : goal.returns-then-dart_cell-face
returns-then-dart_cell-face c =
    let m = c.mark_ring in
    let k = c.before.before.before.before.before.before in
    let s = k in
    let a = s.args in
    let f = a.face in
    let x = eqb (of_z w64 k.dart_cell.result) (of_z w64 (pos a.face)) in
    let y = eqb (get_or a.marks.now a.p 0) 0 in
    let t = c.if-dart_cell-face.true in
    let one = sym (face_is k) ∙ and_left x y t in
    let e = same_true (borne a.edges.rows.now a.edges.count a.p) f one in
    let clear = zero_is (get_or a.marks.now a.p 0) (and_right x y t) in
    let g = s.requires.0 in
    let w = s.requires.3 in
    let h = s.requires.2 in
    let after = marked_places a.edges.rows.now a.edges.count a.p 1 a.marks.now
    (omega (arith, g.small, w.room)) m.ensures.1 in (
      marked_new g w h e clear _ after.0 after.1,
      inr (
        ap (λ (r : ℕ). r + 1) m.ensures.0,
        left-taken a.edges.rows.now a.edges.count f a.p h (new_first g w h e clear) one,
      ),
    )

pub returns : goal.returns
returns c =
    let k = c.before.before in
    let s = k in
    let a = s.args in
    let f = a.face in
    let b = borne a.edges.rows.now a.edges.count a.p in
    let x = eqb (of_z w64 k.dart_cell.result) (of_z w64 (pos a.face)) in
    let y = eqb (get_or a.marks.now a.p 0) 0 in
    let g = s.requires.0 in
    let w = s.requires.3 in
    let h = s.requires.2 in
    elim (which x) [
      | inl e ↦
          let one = same_true b f (sym (face_is k) ∙ e) in
          let no = zero-not (get_or a.marks.now a.p 0) (sym (ap (λ (z : Bool). z && y) e) ∙ c.if-dart_cell-face.false) in (
            marked_old g w h one no,
            inl
                (refl, left-later a.edges.rows.now a.edges.count f a.p h (old_first g w h one no)),
          )
      | inr e ↦
          let other = sym (face_is k) ∙ e in
          (marked_other g w h (differ b f other), inl (refl, left_other a.edges.rows.now a.edges.count f a.p h other))
    ]
