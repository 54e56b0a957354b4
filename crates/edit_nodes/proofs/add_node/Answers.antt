-- `edit_nodes::add_node` meets its contract: turned down by the first reason, or a row more. Assumes nothing.
use borrow.Author.Rules.{rules}
use mathlib.Core.Path.{◌≡◌, refl, sym, ap, ◌∙◌}
use mathlib.Core.Bool.{Bool, true, false, not, ◌&&◌}
use mathlib.Core.List.{List, [], ◌∷◌}
use Prim.Native.Nat.{ℕ, ◌*◌}
use native.Mathlib.Omega.{arith}
use lib.Dec.{lit<}
use lib.IntN.{ℤ, pos, nat_abs}
use lib.Seq.{paste}
use lib.Signed.{non_neg}
use mir.Syntax.{w64}
use mir.Val.{to_z, of_z, SFits}
use mir.Facts.{to_z-of_z}
use Rattle.std.specs.Prelude.{Ok}
use Rattle.lists.specs.Tests.{same}
use Rattle.curves.specs.Curves.{point}
use Rattle.map.specs.Limits.{node_width}
use Rattle.map.specs.declared.Counts.{Counts}
use Rattle.map.specs.declared.Head.{Head}
use Rattle.map.specs.Rows.{map_of, sizes_of, counts, lent}
use Rattle.map.specs.Faces.{face_of_point}
use Rattle.map.specs.Tickets.{AddIsoNode}
use Rattle.map.specs.Reasons.{first_reason, minus_one, reasons}
use Rattle.head.specs.Heads.{sizes_in, room_at}
use Rattle.head.proofs.Heads.{room_told, room_left}
use Rattle.outcomes.specs.declared.Carried.{Carried}
use Rattle.outcomes.specs.Outcomes.{Formed, done_of}
use Rattle.outcomes.proofs.Formed.{edge_rows_lem, nodes_size, counted, decided-refused, decided-carried}
use Rattle.outcomes.proofs.Results.{number_some, decided-handed}
use Rattle.head.proofs.Words.{edges_natural, edges_read}
use Rattle.edit_nodes.specs.Parts.{add_early}
use Rattle.edit_nodes.proofs.Told.{early_told, other_told, around_told, add_early_lem}
use Rattle.edit_nodes.proofs.Told.{early_face, early_point, add_other, add_room}
use Rattle.edit_nodes.proofs.Nodes.{add-carried}
use Rattle.edit_nodes.proofs.add_node.Goals as goal

pub returns-in_err-check_add : goal.returns-in_err-check_add
returns-in_err-check_add c =
    let a = c.args in
    decided-handed a.nodes.now a.edges.now a.faces.now a.h _ _ c.from_residual.ensures.1 (AddIsoNode a.face a.x a.y)
    (add_early_lem c.requires a.face a.x a.y _ (number_some c.in_err-check_add.field-0.0)
    (early_told _ c.ranges.face c.ranges.x c.ranges.y c.in_err-check_add.ensures))

-- what the tests after the first told, with the numbers as they were passed
module _ {nodes edges faces : List ℤ} {h : Head} (f : Formed nodes edges faces h) {face x y : ℤ}
    (ff : SFits w64 face) (fx : SFits w64 x) (fy : SFits w64 y)
    (early : 0 ≡ first_reason (add_early (map_of (lent nodes edges faces h)) (to_z w64 (of_z w64 face))
    (to_z w64 (of_z w64 x)) (to_z w64 (of_z w64 y)))) where
  passed : first_reason (add_early (map_of (lent nodes edges faces h)) face x y) ≡ 0
  passed = sym (early_told _ ff fx fy early)

  abbrev around : ℕ
  around = face_of_point (map_of (lent nodes edges faces h)) (point x y)

  module _ (a : ℤ) (at : to_z w64 (of_z w64 a) ≡ pos around) {r : Bool}
      (e : r ≡ not (minus_one (to_z w64 (of_z w64 face))) && not (same (nat_abs (to_z w64 (of_z w64 face)))
      (nat_abs (to_z w64 (of_z w64 a))))) where
    is_other : r ≡ true → first_reason (reasons (sizes_of (lent nodes edges faces h)) (map_of (lent nodes edges faces h))
        (AddIsoNode face x y)) ≡ 12
    is_other k = add_other f face x y passed (other_told a around ff at e k)

    is_own : {s : Counts} {n : ℕ} → r ≡ false → s ≡ sizes_in nodes edges faces
        → n ≡ first_reason (room_at s h (counts 1 0 0) (counts 1 0 0))
        → first_reason (reasons (sizes_of (lent nodes edges faces h)) (map_of (lent nodes edges faces h))
        (AddIsoNode face x y)) ≡ n
    is_own k es en = add_room f face x y passed (other_told a around ff at e k)
        ∙ room_told h (counts 1 0 0) (counts 1 0 0) es en

pub returns-then-other_face : goal.returns-then-other_face
returns-then-other_face c =
    let f = c.requires in
    decided-refused _ _ _ _ _ 12 (lit< tt) refl
    (is_other f c.ranges.face c.ranges.x c.ranges.y c.in_ok-check_add.ensures
    c.face_of_point-around.result (around_told f _ _ c.ranges.x c.ranges.y
    c.face_of_point-around.type_inv c.face_of_point-around.ensures
    (edges_read (counted f) c.to_usize.ensures) c.point_of.ensures.0) c.other_face.ensures c.if-other_face.true)

pub returns-in_err-check_room : goal.returns-in_err-check_room
returns-in_err-check_room c =
    let f = c.requires in
    let a = c.args in
    decided-handed a.nodes.now a.edges.now a.faces.now a.h _ _ c.from_residual-in_err-check_room.ensures.1
    (AddIsoNode a.face a.x a.y)
    (is_own f c.ranges.face c.ranges.x c.ranges.y c.in_ok-check_add.ensures
    c.face_of_point-around.result (around_told f _ _ c.ranges.x c.ranges.y
    c.face_of_point-around.type_inv c.face_of_point-around.ensures
    (edges_read (counted f) c.to_usize.ensures) c.point_of.ensures.0) c.other_face.ensures c.if-other_face.false
    c.sizes_of-sizes.ensures c.in_err-check_room.ensures)

pub returns : goal.returns
returns c =
    let n = c.push_node in
    let f = c.requires in
    let a = c.args in
    let x = to_z-of_z {w = w64} c.ranges.x in
    let y = to_z-of_z {w = w64} c.ranges.y in
    let z = around_told f _ _ c.ranges.x c.ranges.y c.face_of_point-around.type_inv c.face_of_point-around.ensures
    (edges_read (counted f) c.to_usize.ensures) c.point_of.ensures.0 in
    let left = room_left _ a.h (counts 1 0 0) (counts 1 0 0)
    (room_told _ (counts 1 0 0) (counts 1 0 0) c.sizes_of-sizes.ensures c.in_ok-check_room.ensures) in
    let done = add-carried f a.face a.x a.y
    (early_point f a.face a.x a.y (passed f c.ranges.face c.ranges.x c.ranges.y c.in_ok-check_add.ensures))
    left.nodes refl
    (n.ensures.0 ∙ (λ i. paste a.nodes.now (nat_abs a.h.nodes * node_width)
    (a.h.next_node ∷ x i ∷ y i ∷ z i ∷ []) node_width)) in
    decided-carried _ _ _ _ _ _ _ _ _ a.h.next_node (ap (λ (r : Carried). done_of a.h (Ok r)) n.ensures.1)
    (is_own f c.ranges.face c.ranges.x c.ranges.y c.in_ok-check_add.ensures
    c.face_of_point-around.result z c.other_face.ensures
    c.if-other_face.false c.sizes_of-sizes.ensures c.in_ok-check_room.ensures) done.0 done.1

pub point_of-requires : goal.point_of-requires
point_of-requires c =
    rw (to_z-of_z {w = w64} c.ranges.x, to_z-of_z {w = w64} c.ranges.y)
    (early_point c.requires c.args.face c.args.x c.args.y
    (passed c.requires c.ranges.face c.ranges.x c.ranges.y c.in_ok-check_add.ensures))

pub other_face-requires : goal.other_face-requires
other_face-requires c =
    let f = c.requires in (
      rw (to_z-of_z {w = w64} c.ranges.face) (early_face f c.args.face c.args.x c.args.y
          (passed f c.ranges.face c.ranges.x c.ranges.y c.in_ok-check_add.ensures)),
      ap non_neg (around_told f _ _ c.ranges.x c.ranges.y c.face_of_point-around.type_inv
          c.face_of_point-around.ensures (edges_read (counted f) c.to_usize.ensures) c.point_of.ensures.0),
    )

pub push_node-requires : goal.push_node-requires
push_node-requires c =
    let left = room_left _ c.args.h (counts 1 0 0) (counts 1 0 0)
    (room_told _ (counts 1 0 0) (counts 1 0 0) c.sizes_of-sizes.ensures c.in_ok-check_room.ensures) in
    (counted c.requires, omega (arith, left.nodes, (nodes_size c.requires).0))

pub to_usize-requires : goal.to_usize-requires
to_usize-requires c = edges_natural (counted c.requires)

pub check_room-requires : goal.check_room-requires
check_room-requires c = let k =
    counted c.requires in
    search rules

pub invariant_of-drawn : goal.invariant_of-drawn
invariant_of-drawn c =
    record { ranged = rw (edges_read (counted c.requires) c.to_usize.ensures) (edge_rows_lem c.requires) }
