-- `face_relabel::share_edges` meets its contract: marks of the two sides of the new edge, of the other rings, and the
-- numbers of the marks. Assumes nothing.
use mathlib.Core.Path.{◌≡◌, sym, ap, ◌∙◌}
use mathlib.Core.Bool.{cond}
use Prim.Native.Nat.{ℕ, ◌*◌, ◌≤◌, ◌<◌}
use native.Mathlib.Omega.{arith}
use lib.ListN.{length, get_or, replicate, length-replicate, get_or-replicate}
use Rattle.lists.specs.Tests.{same}
use Rattle.map.specs.Darts.{ring, among}
use Rattle.map_rows.specs.Rows.{edge_map}
use Rattle.darts.specs.Positions.{dart_at}
use Rattle.face_relabel.specs.Sharing.{ring_mark}
use Rattle.rings.proofs.Marks.{marked_places}
use Rattle.face_relabel.proofs.Faces.{first_mark, sides_shared}
use Rattle.face_relabel.proofs.Marks.{whole_first}
use Rattle.face_relabel.proofs.share_edges.Lts as lts
use Rattle.face_relabel.proofs.share_edges.Tie as tie
use Rattle.face_relabel.proofs.share_edges.Reads as reads
use Rattle.face_relabel.proofs.share_edges.Goals as goal

-- places in the code, by their names in what is generated
abbrev After-mark_ring : Type 0
After-mark_ring = lts.After-mark_ring tie.the-claims reads.Pre reads.Post

abbrev After-mark_ring-2 : Type 0
After-mark_ring-2 = lts.After-mark_ring2 tie.the-claims reads.Pre reads.Post

-- the marks of the new edge's other side
module _ (c : After-mark_ring) where
  marked : (length c.mark_ring.new.marks ≡ 4000)
      × ((q : ℕ) → q < c.args.count * 2 → get_or c.mark_ring.new.marks q 0
      ≡ cond (among (ring (edge_map c.args.edges.now
      c.args.count) (dart_at c.args.edges.now
      c.args.across)) (dart_at c.args.edges.now q)) 2 0)
  marked =
      let s = c in
      let a = s.args in
      let m = edge_map a.edges.now a.count in
      let long = length-replicate {A = ℕ} 4000 0 in
      let after = marked_places a.edges.now a.count a.across 2 (replicate 4000 0)
      (omega (arith, long, s.requires.0.few)) c.mark_ring.ensures.1 in (
        after.0 ∙ long,
        (λ q h. after.1 q h
            ∙ ap (λ (k : ℕ). cond (among (ring m (dart_at a.edges.now a.across)) (dart_at a.edges.now q)) 2 k)
            (get_or-replicate 4000 q 0 0 (omega (arith, s.requires.0.few)))),
      )

  room-first : c.args.count * 2 ≤ length c.mark_ring.new.marks
  room-first = omega (arith, marked.0, c.requires.0.few)

-- the marks of the two sides of the new edge
module _ (c : After-mark_ring-2) where
  both : (length c.mark_ring-2.new.marks ≡ 4000)
      × ((q : ℕ) → q < c.args.count * 2
      → get_or c.mark_ring-2.new.marks q 0
      ≡ first_mark c.args.edges.now
      c.args.count
      c.args.s.ring
      c.args.across q)
  both =
      let b = c.before.before.before.before in
      let a = b.args in
      let m = edge_map a.edges.now a.count in
      let after = marked_places a.edges.now a.count a.s.ring 1 b.mark_ring.new.marks
      (room-first b) c.mark_ring-2.ensures.1 in (
        after.0 ∙ (marked b).0,
        (λ q h. after.1 q h
            ∙ ap (λ (k : ℕ). cond (among (ring m (dart_at a.edges.now a.s.ring)) (dart_at a.edges.now q)) 1 k)
            ((marked b).1 q h)),
      )

  room : c.args.count * 2 ≤ length
      c.mark_ring-2.new.marks
  room = omega (arith, both.0, c.requires.0.few)

pub mark_ring-requires-2 : goal.mark_ring-requires-2
mark_ring-requires-2 c = let b = c.before.before.before in let s = b in
    (s.requires.0.few, s.requires.0.ring, room-first b)

pub mark_sides-requires : goal.mark_sides-requires
mark_sides-requires c =
    let b = c.before.before.before.before in
    let s = b in (
      s.requires.0,
      s.requires.1,
      whole_first s.requires.0.edges s.requires.1 s.args.s.ring s.args.across
          s.requires.0.ring s.requires.2 b.mark_ring-2.new.marks (room b) (both b).1,
    )

pub returns : goal.returns
returns c =
    let w = c in
    let d = w in
    let b = c.before.before.before.before.before.before.before.before.before.before in
    let s = b in
    let a = s.args in
    w.write_sides.ensures
    ∙ sides_shared a.nodes.now a.n a.edges.now a.count a.s s.requires.0 a.across
    d.mark_sides.new.marks
    (λ p hp is. d.mark_sides.ensures.1 p hp is
    ∙ ap (λ (k : ℕ). cond (same k 0) (ring_mark a.nodes.now a.n a.edges.now a.count a.s.ring p) k)
    ((both b).1 p hp))

pub slice_bounds-mark_ring-end-2 : goal.slice_bounds-mark_ring-end-2
slice_bounds-mark_ring-end-2 c = sym (marked c.before.before).0

pub slice_bounds-mark_sides-end : goal.slice_bounds-mark_sides-end
slice_bounds-mark_sides-end c = sym (both c.before.before).0
