-- `map_piece_faces::count_roots` meets its contract: what is counted, with what is left, is the count of all.
-- Assumes nothing.
use Prim.Native.Nat.{◌+◌, ◌-◌}
use native.Mathlib.Nat.{zero-add, sub-zero}
use native.Mathlib.Omega.{arith}
use lib.Dec.{eqb}
use lib.ListN.{get_or}
use Rattle.lists.specs.Tests.{same}
use Rattle.lists.specs.Scans.{count_of}
use Rattle.lists.specs.Tables.{table}
use Rattle.lists.proofs.Scans.{count_step, count_end}
use Rattle.lists.proofs.Counts.{byte_bit, byte_most}
use Rattle.map_piece_faces.specs.InFaces.{is_root}
use Rattle.map_piece_faces.proofs.count_roots.Goals as goal

pub overflow_cast-roots : goal.overflow_cast-roots
overflow_cast-roots c = omega (arith, c.shared_slice_known-1.given c.loop-i.i)

pub overflow_add-roots : goal.overflow_add-roots
overflow_add-roots c =
    let l = c in
    omega (arith, byte_most (eqb (get_or l.args.labels.now l.loop-i.i 0) l.loop-i.i))

pub loop-i-preserved : goal.loop-i-preserved
unfolding same
loop-i-preserved c =
    let l = c in
    let a = l.args in
    let i = l.loop-i.i in
    let test = eqb (get_or a.labels.now i 0) i in
    let here = byte_bit test in
    let rest = count_of (is_root a.labels.now) (table (λ k. k) (i + 1) (a.n - (i + 1))) in
    let step = count_step (λ k. k) i a.n (is_root a.labels.now) (omega arith) in
    let e = l.loop-i.invariant.2 in
    (omega arith, omega (arith, byte_most test), omega arith)

pub returns : goal.returns
returns c =
    let l = c in
    let a = l.args in
    let end = count_end (λ k. k) l.loop-i.i a.n (is_root a.labels.now) c.loop-i-test.false in
    let e = l.loop-i.invariant.2 in
    omega arith

pub loop-i-init : goal.loop-i-init
loop-i-init c = (omega arith, omega arith, rw (zero-add, sub-zero))
