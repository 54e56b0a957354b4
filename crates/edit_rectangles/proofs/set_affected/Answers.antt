-- `edit_rectangles::set_affected` meets its contract: two faces are set, and then two more. Assumes nothing.
use borrow.Author.Rules.{rules, sfits_of}
use mathlib.Core.Path.{◌≡◌, sym, ap, ◌∙◌, subst}
use Prim.Native.Nat.{ℕ, ◌*◌, ◌≤◌}
use native.Mathlib.Omega.{arith}
use lib.IntN.{pos, nat_abs}
use lib.ListN.{length}
use mir.Syntax.{w64}
use mir.Val.{of_z, to_z, SFits}
use Rattle.integers.specs.Signs.{sent}
use Rattle.map.specs.Limits.{face_width}
use Rattle.map.specs.Rows.{rectangle}
use Rattle.map_rows.specs.Rows.{EdgesInRange, edges_of}
use Rattle.rectangles.specs.Boxes.{set_two}
use Rattle.edit_rectangles.specs.FacePairs.{other_than}
use Rattle.edit_rectangles.proofs.Set.{other_read, passed}
use Rattle.edit_rectangles.proofs.set_affected.Lts as lts
use Rattle.edit_rectangles.proofs.set_affected.Tie as tie
use Rattle.edit_rectangles.proofs.set_affected.Reads as reads
use Rattle.edit_rectangles.proofs.set_affected.Goals as goal

-- places in the code, by their names in what is generated
abbrev After-other_than-fourth : Type 0
After-other_than-fourth = lts.After-other_than2 tie.the-claims reads.Pre reads.Post

abbrev After-other_than-third : Type 0
After-other_than-third = lts.After-other_than tie.the-claims reads.Pre reads.Post

abbrev After-set_rectangles : Type 0
After-set_rectangles = lts.After-set_rectangles tie.the-claims reads.Pre reads.Post

abbrev After-struct_told-3-1 : Type 0
After-struct_told-3-1 = lts.After-struct_told3 tie.the-claims reads.Pre reads.Post

abbrev After-struct_told-4-1 : Type 0
After-struct_told-4-1 = lts.After-struct_told4 tie.the-claims reads.Pre reads.Post

abbrev After-to_usize-e : Type 0
After-to_usize-e = lts.After-to_usize tie.the-claims reads.Pre reads.Post

abbrev After-to_usize-n : Type 0
After-to_usize-n = lts.After-to_usize2 tie.the-claims reads.Pre reads.Post

-- ---- the numbers as they are passed
edges_are : (c : After-to_usize-e) → c.to_usize-e.result ≡ nat_abs c.args.h.edges
edges_are c = let z = c.args.h.edges in
    c.to_usize-e.ensures ∙ ap nat_abs (sent {z = z} c.struct_told-1.given.1.0.1)

faces_are : (c : After-to_usize-n) → c.to_usize-n.result
    ≡ nat_abs c.args.h.faces
faces_are c = let z = c.args.h.faces in
    c.to_usize-n.ensures ∙ ap nat_abs (sent {z = z} c.struct_told-2-1.given.1.1.0.1)

first_is : (c : After-struct_told-3-1) → let z = c.args.a.first in
    to_z w64 (of_z w64 z) ≡ pos (nat_abs z)
first_is c = let s = c in
    sent {z = s.args.a.first} c.struct_told-3-1.given.0.1 ∙ s.requires.4.first

second_is : (c : After-struct_told-4-1) → let z = c.args.a.second in
    to_z w64 (of_z w64 z) ≡ pos (nat_abs z)
second_is c = let s = c in
    sent {z = s.args.a.second} c.struct_told-4-1.given.1.0.1 ∙ s.requires.4.second

third-is : (c : After-other_than-third)
    → let a = c.args.a in
    to_z w64 (of_z w64 c.other_than-third.result)
    ≡ pos (other_than (nat_abs a.first) (nat_abs a.second) (nat_abs a.third))
third-is c =
    let t = c in
    let s = t in
    let a = s.args.a in
    let f = first_is c.before.before.before in
    let g = second_is c.before.before in
    let h = sent {z = a.third} t.struct_told-5-1.given.1.1.0.1 ∙ s.requires.4.third in
    other_read (nat_abs a.first) (nat_abs a.second) (nat_abs a.third)
    (subst (SFits w64) s.requires.4.third (sfits_of t.struct_told-5-1.given.1.1.0.1))
    (c.other_than-third.ensures ∙ (λ j. pos (other_than (nat_abs (f j)) (nat_abs (g j)) (nat_abs (h j)))))

fourth-is : (c : After-other_than-fourth)
    → let a = c.args.a in
    to_z w64 (of_z w64 c.other_than-fourth.result)
    ≡ pos (other_than (nat_abs a.first) (nat_abs a.second) (nat_abs a.fourth))
fourth-is c =
    let t = c in
    let s = t in
    let a = s.args.a in
    let f = first_is c.before.before.before.before.before in
    let g = second_is c.before.before.before.before in
    let h = sent {z = a.fourth} c.struct_told-6-1.given.1.1.1.0.1 ∙ s.requires.4.fourth in
    other_read (nat_abs a.first) (nat_abs a.second) (nat_abs a.fourth)
    (subst (SFits w64) s.requires.4.fourth (sfits_of c.struct_told-6-1.given.1.1.1.0.1))
    (c.other_than-fourth.ensures ∙ (λ j. pos (other_than (nat_abs (f j)) (nat_abs (g j)) (nat_abs (h j)))))

-- ---- the two calls
kept : (c : After-set_rectangles)
    → let o = c in
    length c.set_rectangles.new.faces
    ≡ length o.args.faces.now
kept c = c.set_rectangles.auto.faces

pub set_rectangles-requires : goal.set_rectangles-requires
set_rectangles-requires c =
    let t = c in
    let n = c.before.before.before.before.before.before.before in
    let s = n in (
      subst (EdgesInRange s.args.edges.now) (sym (edges_are n.before.before)) s.requires.2,
      subst (λ (k : ℕ). k * face_width ≤ length s.args.faces.now) (sym (faces_are n)) s.requires.3,
      passed (first_is c.before.before.before.before.before.before),
      passed (second_is c.before.before.before.before.before),
    )

pub set_rectangles-requires-2 : goal.set_rectangles-requires-2
set_rectangles-requires-2 c =
    let r = c.before.before in
    let o = r.before.before in
    let n = o.before.before.before.before.before.before in
    let s = n in (
      subst (EdgesInRange s.args.edges.now) (sym (edges_are n.before.before)) s.requires.2,
      subst (λ (k : ℕ). k * face_width ≤ length r.set_rectangles.new.faces) (sym (faces_are n))
          (omega (arith, s.requires.3, kept r)),
      passed (third-is o.before.before),
      passed (fourth-is o),
    )

pub returns : goal.returns
returns c =
    let r = c in
    let o = c.before.before.before.before.before.before in
    let t = o in
    let n = o.before.before.before.before.before.before in
    let s = n in
    let a = s.args in
    let e = edges_are n.before.before in
    let k = faces_are n in
    let new = ap (λ (x : ℕ). rectangle (edges_of a.edges.now x)) e in
    let p = ap nat_abs (first_is o.before.before.before.before.before) in
    let q = ap nat_abs (second_is o.before.before.before.before) in
    let f = ap nat_abs (third-is o.before.before) in
    let g = ap nat_abs (fourth-is o) in
    let one = r.set_rectangles.ensures ∙ (λ i. set_two (k i) (new i) (p i) (q i) a.faces.now) in
    c.set_rectangles-2.ensures ∙ (λ i. set_two (k i) (new i) (f i) (g i) (one i))
