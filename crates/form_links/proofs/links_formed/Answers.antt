-- `form_links::links_formed` meets its contract: the marks are those of the positions that are passed, two in each row.
-- Assumes nothing.
use mathlib.Core.Path.{◌≡◌, sym, subst}
use Prim.Native.Nat.{ℕ, ◌+◌, ◌*◌}
use native.Mathlib.Omega.{arith}
use Rattle.darts.specs.Positions.{reverse_of}
use Rattle.darts.proofs.Positions.{even_of, odd_of, reverse_even, reverse-odd}
use Rattle.form_links.proofs.Links.{Marked, none_marked, step_passed, step_refused, all_linked}
use Rattle.form_links.proofs.links_formed.Goals as goal

-- the two positions of a row are the reverse of each other
forth : (i : ℕ) → reverse_of (i * 2) ≡ i * 2 + 1
forth i = reverse_even (even_of (i * 2) (omega arith))

back : (i : ℕ) → reverse_of (i * 2 + 1) ≡ i * 2
back i = let e = reverse-odd (odd_of (i * 2 + 1) (omega arith)) in omega arith

pub loop-i-init : goal.loop-i-init
loop-i-init c = let a = c.args in
    (omega arith, none_marked a.starts.now a.nexts.now a.bears.now)

pub link_fits-requires : goal.link_fits-requires
link_fits-requires c =
    let s = c.requires in
    let h = c.loop-i-test.true in
    let q = s.4 (c.loop-i.i * 2) (omega arith) in
    (omega (arith, s.1), omega (arith, s.1), omega (arith, s.3), omega (arith, s.3))

pub returns-then-marks-q : goal.returns-then-marks-q
returns-then-marks-q c =
    λ nodes edges faces n f s t u named follow borne.
    sym (step_refused c.loop-i.invariant.1 (forth c.loop-i.i)
    c.link_fits.ensures s t u named follow borne (omega (arith, c.loop-i-test.true)) c.if-marks-q.true)

pub link_fits-requires-in-loop-i : goal.link_fits-requires-in-loop-i
link_fits-requires-in-loop-i c =
    let s = c.requires in
    let h = c.loop-i-test.true in
    let q = s.4 (c.loop-i.i * 2 + 1) (omega arith) in
    (omega (arith, s.1), omega (arith, s.1), omega (arith, s.3), omega (arith, s.3))

pub returns-then-marks-s : goal.returns-then-marks-s
returns-then-marks-s c =
    let i = c.loop-i.i in
    let h = c.loop-i-test.true in
    let q = c.requires.4 (i * 2) (omega arith) in
    -- the marks after the first position of the row
    let first = step_passed c.loop-i.invariant.1 (forth i) c.link_fits.ensures (omega (arith, c.requires.0))
    c.if-marks-q.false in
    λ nodes edges faces n f s t u named follow borne.
    sym (step_refused first (back i) c.link_fits-in-loop-i.ensures s t u named follow borne
    (omega (arith, h)) c.if-marks-s.true)

pub loop-i-preserved : goal.loop-i-preserved
loop-i-preserved c =
    let i = c.loop-i.i in
    let h = c.loop-i-test.true in
    let q = c.requires.4 (i * 2) (omega arith) in
    let r = c.requires.4 (i * 2 + 1) (omega arith) in
    let first = step_passed c.loop-i.invariant.1 (forth i) c.link_fits.ensures (omega (arith, c.requires.0))
    c.if-marks-q.false in
    let on : (i + 1) * 2 ≡ i * 2 + 1 + 1 = omega arith in (
      omega (arith, h),
      rw on (step_passed first (back i) c.link_fits-in-loop-i.ensures (omega (arith, c.requires.0)) c.if-marks-s.false),
    )

pub returns : goal.returns
returns c =
    let w = c.loop-i in
    let a = c.args in
    let e : w.i ≡ a.count = omega (arith, w.invariant.0, c.loop-i-test.false) in
    λ nodes edges faces n f s t u named follow borne.
    sym (all_linked a.starts.now a.nexts.now a.bears.now s t u named follow borne
    (subst (λ (i : ℕ). Marked a.starts.now a.nexts.now a.bears.now (i * 2) w.marks) e w.invariant.1))

-- the next of a position has a mark
pub overflow_cast-q : goal.overflow_cast-q
overflow_cast-q c =
    omega (arith, c.requires.4 (c.loop-i.i * 2) (omega (arith, c.loop-i-test.true)), c.requires.0)

pub bounds-marks-q : goal.bounds-marks-q
bounds-marks-q c =
    omega (arith, c.requires.4 (c.loop-i.i * 2) (omega (arith, c.loop-i-test.true)), c.requires.0)

pub bounds-marks-q-in-loop-i : goal.bounds-marks-q-in-loop-i
bounds-marks-q-in-loop-i c =
    omega (arith, c.requires.4 (c.loop-i.i * 2) (omega (arith, c.loop-i-test.true)), c.requires.0)

pub overflow_cast-s : goal.overflow_cast-s
overflow_cast-s c =
    omega (arith, c.requires.4 (c.loop-i.i * 2 + 1) (omega (arith, c.loop-i-test.true)), c.requires.0)

pub bounds-marks-s : goal.bounds-marks-s
bounds-marks-s c =
    omega (arith, c.requires.4 (c.loop-i.i * 2 + 1) (omega (arith, c.loop-i-test.true)), c.requires.0)

pub bounds-marks-s-in-loop-i : goal.bounds-marks-s-in-loop-i
bounds-marks-s-in-loop-i c =
    omega (arith, c.requires.4 (c.loop-i.i * 2 + 1) (omega (arith, c.loop-i-test.true)), c.requires.0)
