-- `face_rows::split_face` meets its contract. Assumes nothing.
use mathlib.Core.Path.{◌≡◌, sym, ap, ◌∙◌, subst}
use mathlib.Core.Bool.{Bool}
use Prim.Native.Nat.{◌*◌, ◌-◌}
use native.Mathlib.Omega.{arith}
use lib.IntN.{ℤ, nat_abs}
use mir.Syntax.{w64}
use mir.Val.{to_z, of_z}
use mir.Facts.{to_z-of_z}
use Rattle.integers.specs.Order.{sgn}
use Rattle.plane.specs.Areas.{is_positive}
use Rattle.map.specs.declared.Counts.{Counts}
use Rattle.map.specs.Rows.{map_of, lent}
use Rattle.map.specs.Darts.{ring}
use Rattle.map.specs.Faces.{ring_area}
use Rattle.map_rows.specs.Rows.{nodes_of, edges_of, edge_map}
use Rattle.darts.specs.Positions.{dart_at}
use Rattle.face_relabel.specs.Sharing.{ShareableFace}
use Rattle.head.proofs.Words.{is_natural, count_back, counts-natural}
use Rattle.face_rows.specs.Holds.{sides_of}
use Rattle.face_rows.proofs.Heals.{map_nodes, map_edges}
use Rattle.face_rows.proofs.Splits.{area_is, old_natural, split_holds, sides_shared}
use Rattle.face_rows.proofs.split_face.Lts as lts
use Rattle.face_rows.proofs.split_face.Tie as tie
use Rattle.face_rows.proofs.split_face.Reads as reads
use Rattle.face_rows.proofs.split_face.Goals as goal

-- places in the code, by their names in what is generated
abbrev After-sides_of-s : Type 0
After-sides_of-s = lts.After-sides_of tie.the-claims reads.Pre reads.Post

-- old face and next face number, as they were passed and read
old : (s : goal.Start) → to_z w64 (of_z w64 s.args.old) ≡ s.args.old
old s = to_z-of_z {w = w64} s.ranges.old

next : (s : goal.Start) → to_z w64 (of_z w64 s.args.h.next_face) ≡ s.args.h.next_face
next s = let k = s.requires.held.counted.next_face in count_back s.args.h.next_face k.natural k.most

pub sides_of-s-requires : goal.sides_of-s-requires
sides_of-s-requires c =
    let s = c.before.before.before.before.before in
    let k = s.requires.held in
    rw (c.counts_of-n.ensures, next s)
    (s.requires.drawn, k.counted.edges.most, k.counted.next_face.natural, k.counted.next_face.most)

pub invariant_of-drawn : goal.invariant_of-drawn
invariant_of-drawn c = record { ranged = rw c.counts_of-n.ensures c.requires.held.edge_rows_lem }

-- the left ring's doubled area is positive
abbrev is_left : goal.Start → Bool
is_left s =
    let l = s.args.edges.now in
    let es = edge_map l (nat_abs s.args.h.edges) in
    is_positive (sgn (ring_area es (ring es (dart_at l ((nat_abs s.args.h.edges - 1) * 2)))))

sides : (c : After-sides_of-s)
    → let s = c.before.before.before.before.before in
    let a = s.args in
    c.sides_of-s.result ≡ sides_of (is_left s) c.face_goes-goes.result ((nat_abs a.h.edges - 1) * 2)
    a.old a.h.next_face
sides c =
    let s = c.before.before.before.before.before in
    rw (c.counts_of-n.ensures, old s, next s) at c.sides_of-s.ensures

pub share_rows-requires : goal.share_rows-requires
share_rows-requires c =
    let d = c.before.before.before in
    let s = d.before.before.before.before.before in
    let a = s.args in
    let shared = subst (ShareableFace a.nodes.now (nat_abs a.h.nodes) a.edges.now (nat_abs a.h.edges))
    (sym (sides d)) (sides_shared s.requires (is_left s) d.face_goes-goes.result) in
    rw d.counts_of-n.ensures
    (shared, s.requires.rings, s.requires.held.node_cells_lem, s.requires.held.edge_cells_lem)

pub split_row-requires : goal.split_row-requires
split_row-requires c =
    let n = c in
    let s = c.before.before.before.before.before.before.before.before.before.before.before.before in
    let k = s.requires.held in
    rw (n.counts_of-n.ensures, old s, next s)
    (record {
      table = k.face_table;
      there = s.requires.there;
      room = omega (arith, s.requires.room);
      old_natural = is_natural s.args.old (old_natural s.requires);
      natural = is_natural s.args.h.next_face k.counted.next_face.natural;
      most = k.counted.next_face.most;
    })

pub returns : goal.returns
returns c box none t =
    let d = c.before.before.before.before.before.before.before.before.before in
    let g = d in
    let n = g in
    let s = d.before.before.before.before.before in
    let a = s.args in
    let count = n.counts_of-n.ensures in
    let rows = c.share_rows.ensures
    (map_of (lent a.nodes.now a.edges.now a.faces.now a.h))
    (map_nodes a.nodes.now a.edges.now a.faces.now a.h
    ∙ ap (λ (k : Counts). nodes_of a.nodes.now k.nodes) (sym count))
    (map_edges a.nodes.now a.edges.now a.faces.now a.h
    ∙ ap (λ (k : Counts). edges_of a.edges.now k.edges) (sym count)) in
    split_holds s.requires box a.how _ g.face_goes-goes.result (ap (λ (z : ℤ). is_positive (sgn z)) (area_is s.requires))
    (sym (rw (old s) at g.face_goes-goes.ensures)) d.sides_of-s.result (sides d) _ _ _ _ rows.0 rows.1
    (rw (count, old s, next s) at (c.split_row.ensures box (rw (next s) none) (rw count t)))
    c.with_face.ensures

pub counts_of-n-requires : goal.counts_of-n-requires
counts_of-n-requires c = counts-natural c.requires.held.counted

pub face_goes-goes-requires : goal.face_goes-goes-requires
face_goes-goes-requires c = rw (old c.before.before.before) (old_natural c.requires)

pub with_face-requires : goal.with_face-requires
with_face-requires c = c.requires.held.counted
