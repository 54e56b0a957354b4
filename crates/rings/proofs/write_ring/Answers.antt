-- `rings::write_ring` meets its contract: k numbers of the ring are written, and c is the next of it. Assumes nothing.
use mathlib.Core.Path.{◌≡◌, refl, sym, ap, ◌∙◌}
use mathlib.Core.List.{map}
use Prim.Native.Nat.{◌+◌, ◌/◌, ◌<◌}
use native.Mathlib.Omega.{arith}
use lib.IntN.{pos}
use lib.ListN.{length, length-set, length-map}
use lib.Seq.{paste-zero}
use mir.Syntax.{w64}
use mir.Val.{to_z, of_z}
use Rattle.integers.specs.Signs.{sent}
use Rattle.map.specs.Rows.{dart_cell}
use Rattle.tables.proofs.Cells.{copy_more, copy_end}
use Rattle.map_rows.proofs.Rows.{edge-row_of}
use Rattle.rings.proofs.Walks.{ring_at, ring-steps, cells, Follows, written_here, written_on}
use Rattle.rings.proofs.write_ring.Goals as goal

pub loop-k-init : goal.loop-k-init
loop-k-init c =
    let a = c.args in (
      c.requires.1,
      omega arith,
      refl,
      paste-zero a.list.now a.at (cells a.edges.rows.now a.edges.count a.p),
      (λ h. ap (map dart_cell) (ring-steps a.edges.rows.now a.edges.count a.p)),
    )

pub loop-k-preserved : goal.loop-k-preserved
loop-k-preserved c =
    let b = c in
    let s = b in
    let w = b.loop-k in
    let a = s.args in
    let f : Follows a.edges.rows.now a.edges.count w.c c.next_position-c.result =
    record { below = c.next_position-c.ensures.0; is = c.next_position-c.ensures.1 } in
    let h : w.k < length (ring_at a.edges.rows.now a.edges.count a.p) = omega
    (arith, b.loop-k-test.true, s.requires.2) in
    let left = w.invariant.4 b.loop-k-test.true in
    let many : length (cells a.edges.rows.now a.edges.count a.p) ≡ length (ring_at a.edges.rows.now a.edges.count a.p) =
    length-map (ring_at a.edges.rows.now a.edges.count a.p) dart_cell in
    let v = to_z w64 (of_z w64 c.dart_at.result) in
    let read = sent {z = c.dart_at.result} c.dart_at.type_inv ∙ c.dart_at.ensures in (
      f.below,
      omega arith,
      length-set w.list (a.at + w.k) v ∙ w.invariant.2,
      copy_more a.list.now a.at (cells a.edges.rows.now a.edges.count a.p) w.k (pos 0) w.list v
          (omega (arith, s.requires.3)) (omega arith) w.invariant.3
          (read ∙ sym (written_here s.args.edges.ranged a.p s.requires.1 w.k w.c h left)),
      (λ g. written_on s.args.edges.ranged a.p s.requires.1 w.k w.c h left c.next_position-c.result f
          (omega (arith, s.requires.2))),
    )

pub returns : goal.returns
returns c =
    let a = c.args in
    let w = c.loop-k in
    copy_end a.list.now a.at (cells a.edges.rows.now a.edges.count a.p) w.k a.n w.list w.invariant.3
    (omega arith)

pub overflow_cast-c : goal.overflow_cast-c
overflow_cast-c c = omega (arith, c.requires.0, c.requires.1)

pub dart_at-requires : goal.dart_at-requires
dart_at-requires c = edge-row_of c.args.edges.ranged (c.loop-k.c / 2) (omega (arith, c.loop-k.invariant.0))

pub overflow_add-at : goal.overflow_add-at
overflow_add-at c = omega (arith, c.requires.3)

pub offset_bounds-list-at : goal.offset_bounds-list-at
offset_bounds-list-at c = omega (arith, c.requires.3)

pub bounds-list-at : goal.bounds-list-at
bounds-list-at c = omega (arith, c.requires.3, c.loop-k.invariant.2)

pub next_position-c-requires : goal.next_position-c-requires
next_position-c-requires c = (c.args.edges.ranged, c.requires.0, c.loop-k.invariant.0)

pub shape_of-list : goal.shape_of-list
shape_of-list c = c.loop-k.invariant.2
