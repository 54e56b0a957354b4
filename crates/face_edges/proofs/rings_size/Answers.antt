-- `face_edges::rings_size` meets its contract: the size, and what is left, make up the whole. Assumes nothing.
use mathlib.Core.Path.{◌≡◌, sym, ap, ◌∙◌}
use Prim.Native.Nat.{◌+◌, ◌*◌, ◌≤◌}
use native.Mathlib.Omega.{arith}
use lib.ListN.{length}
use Rattle.face_edges.specs.Listing.{left}
use Rattle.face_edges.proofs.Walks.{none_marked, all_left, none_left_lem, size_left}
use Rattle.face_edges.proofs.rings_size.Goals as goal

-- what a turn takes
taken : (c : goal.After-marks-in-loop-p-1) →
    let a = c.args in
    let p = c.loop-p.p in
    let z = c.ring_size-size.result in
    (length (left a.edges.rows.now a.edges.count a.face p)
    ≡ z + length (left a.edges.rows.now a.edges.count a.face (p + 1))) × (z ≤ a.edges.count * 2 + 1)
taken c =
    let a = c.args in
    size_left a.edges.rows.now a.edges.count a.face c.loop-p.p
    c.ring_size-size.result c.ring_size-size.ensures.1

pub loop-p-init : goal.loop-p-init
loop-p-init c = let a = c.args in (
  omega arith,
  omega arith,
  omega arith,
  none_marked a.edges.rows.now a.edges.count a.face,
)

pub ring_size-size-requires : goal.ring_size-size-requires
ring_size-size-requires c = let s = c in
    (s.requires.0, s.requires.1, c.loop-p-test.true, c.loop-p.invariant.3)

pub overflow_add-size : goal.overflow_add-size
overflow_add-size c =
    let w = c.loop-p in
    let s = c in
    omega (arith, (taken c).1, w.invariant.2, c.loop-p-test.true, s.requires.0.small)

pub loop-p-preserved : goal.loop-p-preserved
loop-p-preserved c =
    let w = c.loop-p in
    let s = c in
    let r = taken c in (
      omega (arith, c.loop-p-test.true),
      omega (arith, r.0, w.invariant.1),
      omega (arith, r.1, w.invariant.2, s.requires.0.small),
      c.ring_size-size.ensures.0,
    )

pub returns : goal.returns
returns c =
    let a = c.args in
    let w = c.loop-p in
    let e = ap length (none_left_lem a.edges.rows.now a.edges.count a.face w.p c.loop-p-test.false) in (
      omega (arith, w.invariant.1, e) ∙ sym (ap length (all_left a.edges.rows.now a.edges.count a.face)),
      omega (arith, w.invariant.0, w.invariant.2, c.requires.0.small),
    )

pub overflow_mul-p-end : goal.overflow_mul-p-end
overflow_mul-p-end c = omega (arith, c.requires.0.small)

pub slice_bounds-ring_size-end : goal.slice_bounds-ring_size-end
slice_bounds-ring_size-end c = sym c.loop-p.invariant.3.room
