-- `links::departures_at` meets its contract: what is written, with what is left, is what is kept of all. Assumes
-- nothing.
use mathlib.Core.Path.{◌≡◌, refl, sym, ap, ◌∙◌}
use Prim.Native.Nat.{ℕ, ◌+◌, ◌*◌, ◌<◌}
use native.Mathlib.Omega.{arith}
use lib.ListN.{length}
use lib.Seq.{sets}
use mir.Syntax.{w64}
use mir.Val.{to_z, of_z}
use mir.Facts.{to_z-of_z}
use borrow.Author.Rules.{sfits_of}
use Rattle.darts.proofs.Positions.{side_even, side_odd}
use Rattle.links.specs.Linking.{leaves_node, departures_of}
use Rattle.links.proofs.ByRows.{cell_is, cell-differs}
use Rattle.links.proofs.Listed.{left, Written, left_all, left_end, written_hit, written_miss}
use Rattle.links.proofs.departures_at.Goals as goal
use Rattle.links.proofs.departures_at.Goals.{then-edges-i, else-edges-i, then-edges-i-2, else-edges-i-2}

pub loop-i-init : goal.loop-i-init
loop-i-init c =
    let all = left_all (leaves_node c.args.edges.rows.now (to_z w64 (of_z w64 c.args.node))) (c.args.edges.count * 2) in (
      omega arith,
      omega arith,
      refl,
      ap (sets c.args.list.now 0) all,
      omega (arith, ap length all),
    )

-- what the first test leaves
first : (c : goal.Joined-edges-i)
    → Written (leaves_node c.args.edges.rows.now
    (to_z w64 (of_z w64 c.args.node)))
    (c.args.edges.count * 2) (c.loop-i.i * 2)
    c.loop-i.list c.loop-i.k c.if-edges-i.list c.if-edges-i.k
first c =
    let s = c in
    let a = s.args in
    let l = c.loop-i in
    let f = leaves_node a.edges.rows.now (to_z w64 (of_z w64 a.node)) in
    let n = a.edges.count * 2 in
    let there : l.i * 2 < n = omega arith in
    let fits = sfits_of c.t12-1.given in
    let cell = sym (side_even a.edges.rows.now l.i 1) in
    elim c.if-edges-i.branch [
      | then-edges-i w ↦ written_hit f l.list l.k (l.i * 2) n c.if-edges-i.list c.if-edges-i.k there
          (cell_is fits s.ranges.node cell w.if-edges-i.true) w.list-is w.k-is
      | else-edges-i w ↦ written_miss f l.list l.k (l.i * 2) n c.if-edges-i.list c.if-edges-i.k there
          (cell-differs fits s.ranges.node cell w.if-edges-i.false) w.list-is w.k-is
    ]

-- and the second
second : (c : goal.Joined-edges-i-2)
    → Written (leaves_node c.args.edges.rows.now
    (to_z w64 (of_z w64 c.args.node)))
    (c.args.edges.count * 2)
    (c.loop-i.i * 2 + 1) c.if-edges-i.list
    c.if-edges-i.k c.if-edges-i-2.list c.if-edges-i-2.k
second c =
    let s = c in
    let a = s.args in
    let l = c.loop-i in
    let m = c.if-edges-i in
    let f = leaves_node a.edges.rows.now (to_z w64 (of_z w64 a.node)) in
    let n = a.edges.count * 2 in
    let p = l.i * 2 + 1 in
    let there : p < n = omega arith in
    let fits = sfits_of c.t12-in-loop-i-1.given in
    let cell = sym (side_odd a.edges.rows.now l.i 1) in
    elim c.if-edges-i-2.branch [
      | then-edges-i-2 w ↦ written_hit f m.list m.k p n c.if-edges-i-2.list c.if-edges-i-2.k there
          (cell_is fits s.ranges.node cell w.if-edges-i-2.true) w.list-is w.k-is
      | else-edges-i-2 w ↦ written_miss f m.list m.k p n c.if-edges-i-2.list c.if-edges-i-2.k there
          (cell-differs fits s.ranges.node cell w.if-edges-i-2.false) w.list-is w.k-is
    ]

pub loop-i-preserved : goal.loop-i-preserved
loop-i-preserved c =
    let s = c in
    let a = s.args in
    let l = c.loop-i in
    let f = leaves_node a.edges.rows.now (to_z w64 (of_z w64 a.node)) in
    let x = first c.before.before in
    let y = second c in
    let next : (l.i + 1) * 2 ≡ l.i * 2 + 1 + 1 = omega arith in (
      omega arith,
      omega (arith, x.most, y.most),
      y.long ∙ x.long ∙ l.invariant.2,
      ap (λ (p : ℕ). sets c.if-edges-i-2.list c.if-edges-i-2.k (left f p (a.edges.count * 2))) next ∙ y.rest ∙ x.rest ∙ l.invariant.3,
      ap (λ (p : ℕ). c.if-edges-i-2.k + length (left f p (a.edges.count * 2))) next ∙ y.count ∙ x.count ∙ l.invariant.4,
    )

pub returns : goal.returns
returns c =
    let s = c in
    let a = s.args in
    let l = c.loop-i in
    let f = leaves_node a.edges.rows.now (to_z w64 (of_z w64 a.node)) in
    let none = left_end f (l.i * 2) (a.edges.count * 2) (omega arith) in
    let many : l.k ≡ length (departures_of a.edges.rows.now a.edges.count (to_z w64 (of_z w64 a.node))) =
    omega (arith, ap length none, l.invariant.4) in (
      rw (to_z-of_z {w = w64} s.ranges.node) at many,
      rw (to_z-of_z {w = w64} s.ranges.node) at (ap (sets l.list l.k) (sym none) ∙ l.invariant.3),
    )

pub offset_bounds-list-k-then-edges-i-2 : goal.offset_bounds-list-k-then-edges-i-2
offset_bounds-list-k-then-edges-i-2 c = let f = first c.before.before.before in omega (arith, f.long, f.most)

pub bounds-list-k-then-edges-i-2 : goal.bounds-list-k-then-edges-i-2
bounds-list-k-then-edges-i-2 c = let f = first c.before.before.before in omega (arith, f.long, f.most)

pub overflow_add-k-then-edges-i-2 : goal.overflow_add-k-then-edges-i-2
overflow_add-k-then-edges-i-2 c = let f = first c.before.before.before in omega (arith, f.long, f.most)

pub shape_of-list : goal.shape_of-list
shape_of-list c = c.loop-i.invariant.2

pub overflow_mul-i-in-loop-i : goal.overflow_mul-i-in-loop-i
overflow_mul-i-in-loop-i c = omega (arith, c.args.edges.ranged.fits)
