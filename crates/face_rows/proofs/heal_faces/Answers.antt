-- `face_rows::heal_faces` meets its contract. Assumes nothing.
use mathlib.Core.Path.{◌≡◌, refl, sym, ap, ◌∙◌}
use mathlib.Core.Bool.{Bool, true, cond}
use mathlib.Core.List.{[]}
use Prim.Native.Nat.{ℕ, min}
use native.Mathlib.Omega.{arith}
use lib.IntN.{ℤ, pos, nat_abs}
use lib.Signed.{non_neg}
use mir.Syntax.{w64}
use mir.Val.{of_z, to_z}
use mir.Facts.{to_z-of_z}
use Rattle.integers.specs.Signs.{sent}
use Rattle.map.specs.declared.Counts.{Counts}
use Rattle.bounding_boxes.specs.declared.Extent.{Extent}
use Rattle.map.specs.Rows.{map_of, box_of, lent}
use Rattle.map_rows.specs.Rows.{nodes_of, edges_of, faces_of}
use Rattle.map_rows.proofs.Rows.{faces_length}
use Rattle.head.proofs.Words.{is_natural, count_abs, counts-natural}
use Rattle.face_rows.specs.Holds.{Unboxed, sides_alone, face_kept}
use Rattle.face_rows.proofs.FaceRows.{table_distinct, without_length}
use Rattle.face_rows.proofs.Heals.{map_nodes, map_edges, map_next, healed_holds}
use Rattle.face_rows.proofs.heal_faces.Lts as lts
use Rattle.face_rows.proofs.heal_faces.Tie as tie
use Rattle.face_rows.proofs.heal_faces.Reads as reads
use Rattle.face_rows.proofs.heal_faces.Goals as goal

-- places in the code, by their names in what is generated
abbrev After-face_left-face : Type 0
After-face_left-face = lts.After-face_left tie.the-claims reads.Pre reads.Post

-- the two faces as they were passed
left : (s : goal.Start) → to_z w64 (of_z w64 s.args.left) ≡ s.args.left
left s = to_z-of_z {w = w64} s.ranges.left

right : (s : goal.Start) → to_z w64 (of_z w64 s.args.right) ≡ s.args.right
right s = to_z-of_z {w = w64} s.ranges.right

-- the face that is left
face : (f : After-face_left-face)
    → let a = f.args in
    f.face_left-face.result ≡ pos (face_kept a.makes (sides_alone (nat_abs a.left) (nat_abs a.right))
    (map_of (lent a.nodes.now a.edges.now a.faces.now a.h)))
face f =
    let s = f.before.before.before in
    let a = s.args in
    let k = s.requires.held.counted.next_face in
    let nx = count_abs a.h.next_face k.natural k.most
    ∙ sym (map_next a.nodes.now a.edges.now a.faces.now a.h) in
    f.face_left-face.ensures
    ∙ (λ i. pos (cond a.makes (nx i) (min (nat_abs (left s i)) (nat_abs (right s i)))))

-- it has no rectangle where it is new
fresh : (f : After-face_left-face) (box : ℕ → Extent)
    → let a = f.args in
    Unboxed box (nat_abs a.h.next_face) → a.makes ≡ true → box (nat_abs f.face_left-face.result) ≡ box_of []
fresh f box none e =
    let a = f.args in
    let m = map_of (lent a.nodes.now a.edges.now a.faces.now a.h) in
    ap box (ap nat_abs (face f)
    ∙ ap (λ (b : Bool). face_kept b (sides_alone (nat_abs a.left) (nat_abs a.right)) m) e
    ∙ map_next a.nodes.now a.edges.now a.faces.now a.h) ∙ none _ (omega arith)

pub rename_faces-requires : goal.rename_faces-requires
rename_faces-requires c =
    let f = c.before.before.before in
    let s = f.before.before.before in
    let k = s.requires.held in
    rw (f.counts_of-n.ensures, left s, right s, sent {z = f.face_left-face.result} f.face_left-face.type_inv) (
      k.node_rows_lem,
      k.edge_rows_lem,
      k.node_cells_lem,
      k.edge_cells_lem,
      s.requires.left_face,
      s.requires.right_face,
      face f ∙ ap (λ (z : ℤ). pos (nat_abs z)) (sym (face f)),
    )

pub heal_row-requires : goal.heal_row-requires
heal_row-requires c =
    let f = c.before.before.before.before.before.before.before in
    let s = f.before.before.before in
    let a = s.args in
    let p = s.requires in
    rw (f.counts_of-n.ensures, left s, right s, sent {z = f.face_left-face.result} f.face_left-face.type_inv)
    (record {
      table = (
        p.held.face_table.0,
        fresh f p.held.face_table.0 p.held.face_table.1,
        p.held.face_table.2,
      );
      left_there = p.left_there;
      right_there = p.right_there;
      left-natural = is_natural a.left p.left_face;
      right_natural = is_natural a.right p.right_face;
      natural = ap non_neg f.face_left-face.ensures;
      differ = p.differ;
    })

pub without_face-requires : goal.without_face-requires
without_face-requires c =
    let s = c in
    let a = s.args in
    let e = without_length (nat_abs a.left) (faces_of a.faces.now (nat_abs a.h.faces))
    (table_distinct s.requires.held.face_table.2) s.requires.left_there in
    (s.requires.held.counted, omega (arith, faces_length a.faces.now (nat_abs a.h.faces)))

pub returns : goal.returns
returns c =
    let f = c.before.before.before.before.before.before.before.before.before in
    let n = f in
    let s = f.before.before.before in
    let a = s.args in
    let m = map_of (lent a.nodes.now a.edges.now a.faces.now a.h) in
    let row = sides_alone (nat_abs a.left) (nat_abs a.right) in
    let count = n.counts_of-n.ensures in
    let vf = sent {z = f.face_left-face.result} f.face_left-face.type_inv in
    let vl = ap nat_abs (left s) in
    let vr = ap nat_abs (right s) in
    let rows = c.rename_faces.ensures row m (sym vl) (sym vr)
    (map_nodes a.nodes.now a.edges.now a.faces.now a.h
    ∙ ap (λ (k : Counts). nodes_of a.nodes.now k.nodes) (sym count))
    (map_edges a.nodes.now a.edges.now a.faces.now a.h
    ∙ ap (λ (k : Counts). edges_of a.edges.now k.edges) (sym count)) in (
      λ box none t. healed_holds s.requires row refl refl a.makes box
          (nat_abs (to_z w64 (of_z w64 f.face_left-face.result))) (ap nat_abs (vf ∙ face f)) _ _ _ _ rows.0 rows.1
          (rw (count, left s, right s) at
          (c.heal_row.ensures box (rw vf (fresh f box none)) (rw count t)))
          c.without_face.ensures,
      vf ∙ face f,
    )

pub counts_of-n-requires : goal.counts_of-n-requires
counts_of-n-requires c = counts-natural c.requires.held.counted
