-- `face_edges::write_rings` meets its contract: what is written, and what is left, make up the whole. Assumes nothing.
use borrow.Author.Rules.{rules}
use mathlib.Core.Path.{◌≡◌, refl, sym, ap, ◌∙◌, subst}
use mathlib.Core.List.{List, ◌++◌}
use Prim.Native.Nat.{ℕ, ◌+◌, ◌*◌, ◌-◌, ◌<◌, ◌≤◌}
use native.Mathlib.Omega.{arith}
use lib.IntN.{ℤ, pos}
use lib.ListN.{length, drop, length-set}
use lib.Seq.{paste, length-paste}
use mir.Syntax.{w64}
use mir.Val.{to_z, of_z}
use mir.Facts.{to_z-of_z}
use Rattle.map.specs.Ticket.{ring_numbers}
use Rattle.face_edges.specs.Listing.{ring_at, left}
use Rattle.face_edges.proofs.Walks.{none_marked, all_left, none_left_lem, size_left, some_size, none_size}
use Rattle.face_edges.proofs.Writes.{size, ring-turn, rest_left, all_written}
use Rattle.face_edges.proofs.write_rings.Lts as lts
use Rattle.face_edges.proofs.write_rings.Tie as tie
use Rattle.face_edges.proofs.write_rings.Reads as reads
use Rattle.face_edges.proofs.write_rings.Goals as goal
use Rattle.face_edges.proofs.write_rings.Goals.{then-n-gt0, else-n-gt0}

-- places in the code, by their names in what is generated
abbrev After-marks-in-loop-p-1 : Type 0
After-marks-in-loop-p-1 = lts.After-marks2 tie.the-claims reads.Pre reads.Post goal.the-invariant-loop-p goal.the-decreases-loop-p

-- all of it finds room
room : (c : goal.Start)
    → length (left c.args.edges.rows.now c.args.edges.count c.args.face 0) ≤ length c.args.list.now
room c = let a = c.args in subst (λ (l : List ℤ). length l ≤ length a.list.now)
    (all_left a.edges.rows.now a.edges.count a.face) c.requires.2

-- the ring that a turn writes: its numbers from `at` on
record Turn (l : List ℤ) (n f p at r end : ℕ) : Type 0 where
  size : r ≡ length (ring_at l n p) + 1
  is : drop at (left l n f 0) ≡ ring_numbers (ring_at l n p) ++ left l n f (p + 1)
  most : r ≤ n * 2 + 1
  inside : at + r ≤ length (left l n f 0)
  room : at + r ≤ end

ring-at : (c : After-marks-in-loop-p-1) → 0 < c.ring_size-n.result →
    let a = c.args in
    let w = c.loop-p in
    Turn a.edges.rows.now a.edges.count a.face w.p w.at c.ring_size-n.result (length w.list)
ring-at c h =
    let a = c.args in
    let w = c.loop-p in
    let z = c.ring_size-n in
    let r = some_size a.edges.rows.now a.edges.count a.face w.p z.result z.ensures.1 h in
    let is = w.invariant.4 ∙ r.1 in
    let enough = room c.before.before.before.before.before in
    let k = size a.list.now (left a.edges.rows.now a.edges.count a.face 0) w.at
    (ring_at a.edges.rows.now a.edges.count w.p) (left a.edges.rows.now a.edges.count a.face (w.p + 1)) is enough in
    record {
      size = r.0;
      is = is;
      most = (size_left a.edges.rows.now a.edges.count a.face w.p z.result z.ensures.1).1;
      inside = omega (arith, k, r.0);
      room = omega (arith, k, r.0, enough, w.invariant.2);
    }

pub loop-p-init : goal.loop-p-init
loop-p-init c = let a = c.args in (
  omega arith,
  omega arith,
  refl,
  refl,
  refl,
  none_marked a.edges.rows.now a.edges.count a.face,
)

pub ring_size-n-requires : goal.ring_size-n-requires
ring_size-n-requires c = let s = c in
    (s.requires.0, s.requires.1, c.loop-p-test.true, c.loop-p.invariant.5)

pub overflow_cast-list : goal.overflow_cast-list
overflow_cast-list c = record { sfits = omega (arith, (ring-at c.before c.if-n-gt0.true).most) }

pub write_ring-requires : goal.write_ring-requires
write_ring-requires c =
    let k = c.before.before in
    let s = k in
    let r = ring-at k c.if-n-gt0.true in (
      s.requires.0.small,
      k.loop-p-test.true,
      omega (arith, r.size),
      omega (
        arith,
        r.size,
        r.room,
        length-set k.loop-p.list
            k.loop-p.at (to_z w64 (of_z w64 (pos (k.ring_size-n.result - 1)))),
      ),
    )

pub loop-p-preserved : goal.loop-p-preserved
loop-p-preserved c =
    let b = c in
    let s = c.before.before.before.before.before.before in
    let a = s.args in
    let v = b.loop-p in
    let z = c.ring_size-n in
    let all = left a.edges.rows.now a.edges.count a.face 0 in
    let ring = ring_at a.edges.rows.now a.edges.count v.p in
    let rest = left a.edges.rows.now a.edges.count a.face (v.p + 1) in
    elim c.if-n-gt0.branch [
      | then-n-gt0 w ↦
          let r = ring-at c.before w.if-n-gt0.true in
          let more : c.if-n-gt0.at ≡ v.at + z.result = w.at-is in
          let end : v.at + (length ring + 1) ≡ c.if-n-gt0.at = omega (arith, more, r.size) in
          let m : z.result - 1 ≡ length ring = omega (arith, r.size) in
          let is : c.if-n-gt0.list ≡ paste a.list.now 0 all c.if-n-gt0.at = w.list-is ∙ w.write_ring.ensures
          ∙ ring-turn a.list.now all v.at ring rest r.is (room s) v.list
          (to_z w64 (of_z w64 (pos (z.result - 1)))) (z.result - 1) v.invariant.3
          (to_z-of_z {w = w64} {z = pos (z.result - 1)} (record { sfits = omega (arith, r.most) }) ∙ ap pos m) m
          ∙ ap (paste a.list.now 0 all) end in (
            omega (arith, b.loop-p-test.true),
            omega (arith, more, r.inside),
            ap length is ∙ length-paste a.list.now 0 all c.if-n-gt0.at (omega (arith, more, r.inside, room s))
                (omega (arith, more, r.inside)),
            is,
            ap (λ (k : ℕ). drop k all) (sym end) ∙ rest_left a.list.now all v.at ring rest r.is (room s),
            z.ensures.0,
          )
      | else-n-gt0 w ↦
          let same_at : c.if-n-gt0.at ≡ v.at = w.at-is in
          let same-list : c.if-n-gt0.list ≡ v.list = w.list-is in (
            omega (arith, b.loop-p-test.true),
            omega (arith, same_at, v.invariant.1),
            ap length same-list ∙ v.invariant.2,
            same-list ∙ v.invariant.3 ∙ ap (paste a.list.now 0 all) (sym same_at),
            ap (λ (k : ℕ). drop k all) same_at ∙ v.invariant.4
                ∙ none_size a.edges.rows.now a.edges.count a.face v.p z.result z.ensures.1 w.if-n-gt0.false,
            z.ensures.0,
          )
    ]

pub returns : goal.returns
returns c =
    let a = c.args in
    let w = c.loop-p in
    let e = none_left_lem a.edges.rows.now a.edges.count a.face w.p c.loop-p-test.false in
    w.invariant.3 ∙ all_written a.list.now (left a.edges.rows.now a.edges.count a.face 0) w.at w.invariant.1
    (w.invariant.4 ∙ e)
    ∙ sym (ap (λ (l : List ℤ). l ++ drop (length l) a.list.now) (all_left a.edges.rows.now a.edges.count a.face))

pub overflow_mul-p-end : goal.overflow_mul-p-end
overflow_mul-p-end c = omega (arith, c.requires.0.small)

pub slice_bounds-ring_size-end : goal.slice_bounds-ring_size-end
slice_bounds-ring_size-end c = sym c.loop-p.invariant.5.room

pub offset_bounds-list-at : goal.offset_bounds-list-at
offset_bounds-list-at c = let r = (ring-at c.before c.if-n-gt0.true).room in search rules

pub bounds-list-at : goal.bounds-list-at
bounds-list-at c = omega (arith, (ring-at c.before c.if-n-gt0.true).room)

pub overflow_add-at : goal.overflow_add-at
overflow_add-at c = omega (arith, (ring-at c.before.before c.if-n-gt0.true).room)

pub overflow_add-at-then-n-gt0 : goal.overflow_add-at-then-n-gt0
overflow_add-at-then-n-gt0 c = omega (arith, (ring-at c.before.before.before.before c.if-n-gt0.true).room)

pub shape_of-list : goal.shape_of-list
shape_of-list c = c.loop-p.invariant.2
