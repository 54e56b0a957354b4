-- `rings::mark_ring` meets its contract: the marks that are set, with those of what is left of the ring, are those of
-- the ring. Assumes nothing.
use mathlib.Core.Path.{◌≡◌, refl, sym, ap, ◌∙◌}
use mathlib.Core.Bool.{cond}
use mathlib.Core.List.{List}
use Prim.Native.Nat.{ℕ, suc, ◌+◌, ◌*◌, ◌-◌, ◌≤◌}
use native.Mathlib.Nat.{zero-add}
use native.Mathlib.Omega.{arith}
use lib.ListN.{length, get_or, set, length-set}
use lib.Seq.{drop-set-lt}
use Rattle.planar_maps.specs.Map.{Dart}
use Rattle.map.specs.Darts.{among}
use Rattle.darts.specs.Positions.{dart_at}
use Rattle.rings.proofs.Walks.{steps, ring-steps, Follows, steps-end, steps_on, steps_last, mark_on}
use Rattle.rings.proofs.Walks.{mark_last}
use Rattle.rings.proofs.Marks.{marked_from}
use Rattle.rings.proofs.mark_ring.Lts as lts
use Rattle.rings.proofs.mark_ring.Tie as tie
use Rattle.rings.proofs.mark_ring.Reads as reads
use Rattle.rings.proofs.mark_ring.Goals as goal

-- places in the code, by their names in what is generated
abbrev After-next_position-c : Type 0
After-next_position-c = lts.After-next_position tie.the-claims reads.Pre reads.Post goal.the-invariant-loop-k goal.the-decreases-loop-k

one_more : (a b : ℕ) → a + 1 + b ≡ a + suc b
one_more a b = omega arith

pub overflow_mul-k-end : goal.overflow_mul-k-end
overflow_mul-k-end c = omega (arith, c.args.edges.ranged.fits)

pub loop-k-init : goal.loop-k-init
loop-k-init c =
    let a = c.args in
    let e = sym (ring-steps a.edges.rows.now a.edges.count a.p) in (
      c.requires.1,
      omega arith,
      refl,
      zero-add (length (steps a.edges.rows.now a.edges.count a.p (a.edges.count * 2 - 0) a.p)) ∙ ap length e,
      (λ q h. ap (λ (r : List Dart). cond (among r (dart_at a.edges.rows.now q)) a.v (get_or a.marks.now q 0)) e),
      refl,
    )

follows : (c : After-next_position-c)
    → Follows c.args.edges.rows.now c.args.edges.count
    c.loop-k.c c.next_position-c.result
follows c = record { below = c.next_position-c.ensures.0; is = c.next_position-c.ensures.1 }

pub returns-then-c-first : goal.returns-then-c-first
returns-then-c-first c =
    let b = c in
    let s = b in
    let w = b.loop-k in
    let r = c.next_position-c.result in
    let f = follows c.before in
    let room : s.args.edges.count * 2 ≤ length w.marks = omega (arith, s.requires.2, w.invariant.2) in (
      ap (λ (l : List Dart). w.k + length l)
          (sym (steps_last s.args.edges.ranged s.args.p s.requires.1 w.k w.c b.loop-k-test.true r f
          c.if-c-first.true)) ∙ w.invariant.3,
      marked_from s.args.edges.rows.now s.args.edges.count s.args.p s.args.v s.args.marks.now
          s.requires.2 (set w.marks w.c s.args.v) (length-set w.marks w.c s.args.v ∙ w.invariant.2)
          (λ q h. mark_last s.args.edges.ranged s.args.p s.requires.1 w.k w.c b.loop-k-test.true r f w.invariant.0
          s.args.v w.marks room q h c.if-c-first.true ∙ w.invariant.4 q h)
          (drop-set-lt (s.args.edges.count * 2) w.marks w.c s.args.v w.invariant.0 ∙ w.invariant.5),
    )

pub loop-k-preserved : goal.loop-k-preserved
loop-k-preserved c =
    let b = c in
    let s = b in
    let w = b.loop-k in
    let r = c.next_position-c.result in
    let f = follows c.before in
    let room : s.args.edges.count * 2 ≤ length w.marks = omega (arith, s.requires.2, w.invariant.2) in
    let e = ap (λ (l : List Dart). w.k + length l)
    (steps_on s.args.edges.ranged s.args.p s.requires.1 w.k w.c b.loop-k-test.true r f c.if-c-first.false) in (
      f.below,
      omega arith,
      length-set w.marks w.c s.args.v ∙ w.invariant.2,
      one_more w.k (length (steps s.args.edges.rows.now s.args.edges.count s.args.p
          (s.args.edges.count * 2 - (w.k + 1)) r)) ∙ sym e ∙ w.invariant.3,
      (λ q h. mark_on s.args.edges.ranged s.args.p s.requires.1 w.k w.c b.loop-k-test.true r f w.invariant.0
          s.args.v w.marks room q h c.if-c-first.false ∙ w.invariant.4 q h),
      drop-set-lt (s.args.edges.count * 2) w.marks w.c s.args.v w.invariant.0 ∙ w.invariant.5,
    )

pub returns : goal.returns
returns c =
    let s = c in
    let w = c.loop-k in
    let end = sym (steps-end s.args.edges.ranged s.args.p s.requires.1 w.k w.c c.loop-k-test.false) in
    let e = ap (λ (l : List Dart). w.k + length l) end ∙ w.invariant.3 in
    let all : s.args.edges.count * 2 ≡ w.k + 0 = omega (arith, w.invariant.1, c.loop-k-test.false) in (
      all ∙ e,
      marked_from s.args.edges.rows.now s.args.edges.count s.args.p s.args.v s.args.marks.now
          s.requires.2 w.marks w.invariant.2
          (λ q h. ap (λ (l : List Dart). cond (among l (dart_at s.args.edges.rows.now q)) s.args.v
          (get_or w.marks q 0)) end ∙ w.invariant.4 q h) w.invariant.5,
    )

pub overflow_cast-first : goal.overflow_cast-first
overflow_cast-first c = omega (arith, c.requires.0, c.requires.1)

pub bounds-marks-c : goal.bounds-marks-c
bounds-marks-c c = omega (arith, c.requires.2, c.loop-k.invariant.2)

pub next_position-c-requires : goal.next_position-c-requires
next_position-c-requires c = (c.args.edges.ranged, c.requires.0, c.loop-k.invariant.0)

pub overflow_add-result : goal.overflow_add-result
overflow_add-result c = omega (arith, c.loop-k-test.true, c.args.edges.ranged.fits)

pub shape_of-marks-then-c-first : goal.shape_of-marks-then-c-first
shape_of-marks-then-c-first c = let w = c.loop-k in
    length-set w.marks w.c c.args.v ∙ w.invariant.2

pub overflow_mul-result : goal.overflow_mul-result
overflow_mul-result c = omega (arith, c.args.edges.ranged.fits)

pub shape_of-marks : goal.shape_of-marks
shape_of-marks c = c.loop-k.invariant.2
