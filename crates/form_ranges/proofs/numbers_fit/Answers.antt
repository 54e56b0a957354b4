-- `form_ranges::numbers_fit` meets its contract. Assumes nothing.
use mathlib.Core.Path.{◌≡◌, refl, sym, ap, ap₂, ◌∙◌}
use mathlib.Core.Bool.{Bool, ◌&&◌}
use mathlib.Core.List.{List, map}
use Prim.Native.Nat.{ℕ, suc, ◌*◌, ◌≤◌}
use native.Mathlib.Omega.{arith}
use lib.Dec.{eqb, lit≤}
use lib.IntN.{ℤ, pos, nat_abs}
use lib.ListN.{get_or}
use lib.Signed.{non_neg}
use mir.Syntax.{w64}
use mir.Val.{to_z, of_z}
use Rattle.lists.specs.Tests.{same}
use Rattle.lists.specs.Scans.{first_or}
use Rattle.lists.proofs.Bools.{≡→T}
use Rattle.map.specs.Limits.{last_number}
use Rattle.map.specs.Rows.{Map}
use Rattle.map.specs.Form.{numbers}
use Rattle.tables.specs.Tables.{numbered}
use Rattle.map_rows.specs.Rows.{faces_of}
use Rattle.tables.proofs.Rows.{all_table}
use Rattle.head.specs.Heads.{UpTo}
use Rattle.head.proofs.Words.{count_natural, count_abs}
use Rattle.form_ranges.specs.Ranges.{map_in}
use Rattle.form_ranges.proofs.Columns.{node_naturals, edge_naturals, face_naturals, node-column, edge-column}
use Rattle.form_ranges.proofs.Columns.{face_column, first_face}
use Rattle.form_ranges.proofs.Parts.{nexts_in, ranged_rows_lem}
use Rattle.form_ranges.proofs.Chains.{second_told, first_told}
use Rattle.form_ranges.proofs.numbers_fit.Goals.{then-numbers_rise, else-numbers_rise}
use Rattle.form_ranges.proofs.numbers_fit.Goals.{then-numbers_rise-2, else-numbers_rise-2}
use Rattle.form_ranges.proofs.numbers_fit.Goals as goal

-- a column asked with the next number as it is read
asked : (least : ℕ) {k : ℕ} {z : ℤ} {ns ms : List ℕ} {r b : Bool} → UpTo (suc last_number) z → k
    ≡ nat_abs (to_z w64 (of_z w64 z)) → ns ≡ ms
    → r ≡ numbered least k ns → r ≡ b → numbered least (nat_abs z) ms ≡ b
asked least {k} {z} n e f g h = sym (ap₂ (numbered least) (e ∙ count_abs z n.natural n.most) f) ∙ sym g ∙ h

module _ (m : Map) where
  abbrev nodes-rise : Bool
  nodes-rise = numbered 1 m.next.nodes (map (λ n. n.number) m.nodes)

  abbrev edges_rise : Bool
  edges_rise = numbered 1 m.next.edges (map (λ e. e.number) m.edges)

  abbrev faces-rise : Bool
  faces-rise = numbered 0 m.next.faces m.faces

  -- the three columns and face 0
  told : {r p q : Bool} → r ≡ (nodes-rise && edges_rise && p) && q → p ≡ faces-rise → q ≡ same (first_or 1 m.faces) 0
      → r ≡ numbers m
  unfolding numbers
  told e f g = e ∙ (λ i. (nodes-rise && edges_rise && f i) && g i)

first-tested : (l : List ℤ) (n k : ℕ) → 1 ≤ n → k ≡ nat_abs (get_or l 0 (pos 0)) → eqb k 0
    ≡ same (first_or 1 (faces_of l n)) 0
unfolding same
first-tested l n k h e = ap (λ (x : ℕ). eqb x 0) (e ∙ sym (first_face l n h))

pub to_usize-next_node-requires : goal.to_usize-next_node-requires
to_usize-next_node-requires c = let n = (nexts_in c.args.h c.requires.counted.nexts).0 in
    count_natural _ n.natural n.most

pub numbers_rise-requires : goal.numbers_rise-requires
numbers_rise-requires c = let s = c in (
  lit≤ tt,
  s.requires.counted.nodes_fit,
  node_naturals s.args.nodes.now s.args.c.nodes (ranged_rows_lem s.requires).0,
)

pub to_usize-next_edge-requires : goal.to_usize-next_edge-requires
to_usize-next_edge-requires c = let n = (nexts_in c.args.h
    c.requires.counted.nexts).1 in
    count_natural _ n.natural n.most

pub numbers_rise-requires-then-numbers_rise : goal.numbers_rise-requires-then-numbers_rise
numbers_rise-requires-then-numbers_rise c = let s = c in (
  lit≤ tt,
  s.requires.counted.edges_fit,
  edge_naturals s.args.edges.now s.args.c.edges (ranged_rows_lem s.requires).1,
)

pub natural-requires : goal.natural-requires
natural-requires c =
    let s = c in
    let l = s.args.faces.now in
    let some = s.requires.counted.a_face in
    let room = s.requires.counted.faces_fit in (
      omega arith,
      ≡→T (non_neg (get_or l 0 (pos 0)))
          (all_table non_neg (λ i. get_or l (i * 5) (pos 0)) s.args.c.faces
          (face_naturals l s.args.c.faces (ranged_rows_lem s.requires).2) 0 some),
    )

pub to_usize-next_face-requires : goal.to_usize-next_face-requires
to_usize-next_face-requires c = let n = (nexts_in
    c.args.h
    c.requires.counted.nexts).2 in
    count_natural _ n.natural n.most

pub numbers_rise-requires-then-numbers_rise-2 : goal.numbers_rise-requires-then-numbers_rise-2
numbers_rise-requires-then-numbers_rise-2 c = let s =
    c in (
      lit≤ tt,
      s.requires.counted.faces_fit,
      face_naturals s.args.faces.now s.args.c.faces (ranged_rows_lem s.requires).2,
    )

pub returns-then-numbers_rise-3 : goal.returns-then-numbers_rise-3
returns-then-numbers_rise-3 c =
    let a = c.args in
    let n = nexts_in a.h c.requires.counted.nexts in
    let m = map_in a.nodes.now a.edges.now a.faces.now a.c a.h in
    let one = sym (asked 1 n.0 c.to_usize-next_node.ensures (node-column a.nodes.now a.c.nodes) c.numbers_rise.ensures refl) in
    let two : c.if-numbers_rise.value ≡ nodes-rise m && edges_rise m =
    elim c.if-numbers_rise.branch [
      | then-numbers_rise w ↦
          second_told w.if-numbers_rise.true w.value-is one
          (sym (asked 1 n.1 c.to_usize-next_edge.ensures (edge-column a.edges.now a.c.edges)
          w.numbers_rise-then-numbers_rise.ensures refl))
      | else-numbers_rise w ↦ first_told _ w.if-numbers_rise.false w.value-is one
    ] in
    let three : c.if-numbers_rise-2.value ≡ nodes-rise m && edges_rise m && faces-rise m =
    elim c.if-numbers_rise-2.branch [
      | then-numbers_rise-2 w ↦
          second_told w.if-numbers_rise-2.true w.value-is two
          (sym (asked 0 n.2 c.to_usize-next_face.ensures (face_column a.faces.now a.c.faces)
          w.numbers_rise-then-numbers_rise-2.ensures refl))
      | else-numbers_rise-2 w ↦ first_told _ w.if-numbers_rise-2.false w.value-is two
    ] in
    told m (second_told c.if-numbers_rise-3.true refl three refl) refl
    (first-tested a.faces.now a.c.faces c.natural.result c.requires.counted.a_face c.natural.ensures)

pub returns-else-numbers_rise-3 : goal.returns-else-numbers_rise-3
returns-else-numbers_rise-3 c =
    let a = c.args in
    let n = nexts_in a.h c.requires.counted.nexts in
    let m = map_in a.nodes.now a.edges.now a.faces.now a.c a.h in
    let one = sym (asked 1 n.0 c.to_usize-next_node.ensures (node-column a.nodes.now a.c.nodes) c.numbers_rise.ensures refl) in
    let two : c.if-numbers_rise.value ≡ nodes-rise m && edges_rise m =
    elim c.if-numbers_rise.branch [
      | then-numbers_rise w ↦
          second_told w.if-numbers_rise.true w.value-is one
          (sym (asked 1 n.1 c.to_usize-next_edge.ensures (edge-column a.edges.now a.c.edges)
          w.numbers_rise-then-numbers_rise.ensures refl))
      | else-numbers_rise w ↦ first_told _ w.if-numbers_rise.false w.value-is one
    ] in
    let three : c.if-numbers_rise-2.value ≡ nodes-rise m && edges_rise m && faces-rise m =
    elim c.if-numbers_rise-2.branch [
      | then-numbers_rise-2 w ↦
          second_told w.if-numbers_rise-2.true w.value-is two
          (sym (asked 0 n.2 c.to_usize-next_face.ensures (face_column a.faces.now a.c.faces)
          w.numbers_rise-then-numbers_rise-2.ensures refl))
      | else-numbers_rise-2 w ↦ first_told _ w.if-numbers_rise-2.false w.value-is two
    ] in
    told m (first_told _ c.if-numbers_rise-3.false refl three) refl refl
