-- `piece_labels::join_ends` meets its contract: the rows of the edge's nodes are found, and the higher root leads to
-- the lower. Assumes nothing.
use borrow.Author.Rules.{sfits_of}
use mathlib.Core.Path.{◌≡◌, sym, ap, ◌∙◌}
use Prim.Native.Nat.{◌+◌, ◌*◌, ◌-◌, ◌≤◌}
use native.Mathlib.Omega.{arith}
use lib.IntN.{pos, nat_abs}
use lib.ListN.{get_or, set, drop}
use mir.Syntax.{w64}
use mir.Val.{to_z, of_z}
use mir.Facts.{to_z-of_z}
use mathlib.Core.Logic.{inl, inr}
use Rattle.tables.proofs.Order.{lt_or_ge}
use Rattle.map.specs.Darts.{arcs}
use Rattle.map.proofs.Linked.{arc_of}
use Rattle.map_rows.specs.Rows.{edge_at, edge_map}
use Rattle.piece_labels.specs.Labels.{Leading}
use Rattle.piece_labels.proofs.Roots.{Root, root_is}
use Rattle.piece_labels.proofs.Joins.{edge_and_rest, ends_there, cells, asked, join_roots}
use Rattle.piece_labels.proofs.join_ends.Lts as lts
use Rattle.piece_labels.proofs.join_ends.Tie as tie
use Rattle.piece_labels.proofs.join_ends.Reads as reads
use Rattle.piece_labels.proofs.join_ends.Goals as goal

-- places in the code, by their names in what is generated
abbrev After-root_of-a : Type 0
After-root_of-a = lts.After-root_of tie.the-claims reads.Pre reads.Post

abbrev After-root_of-b : Type 0
After-root_of-b = lts.After-root_of2 tie.the-claims reads.Pre reads.Post

abbrev After-row_of-arg-1 : Type 0
After-row_of-arg-1 = lts.After-row_of-arg tie.the-claims reads.Pre reads.Post

abbrev After-row_of-arg-2-1 : Type 0
After-row_of-arg-2-1 = lts.After-row_of-arg2 tie.the-claims reads.Pre reads.Post

-- the nodes of the edge, as they are passed
start-sent : (c : After-row_of-arg-1) →
    let a = c.args in
    let j = a.count - (a.k + 1) in
    to_z w64 (of_z w64 (get_or a.edges.now (j * 32 + 1) (pos 0))) ≡ pos (edge_at a.edges.now j).start
start-sent c =
    let s = c in
    let a = s.args in
    let j = a.count - (a.k + 1) in
    to_z-of_z {w = w64} {z = get_or a.edges.now (j * 32 + 1) (pos 0)} (sfits_of c.row_of-arg-1.given)
    ∙ (cells s.requires.0 j (omega (arith, s.requires.2))).start

end-sent : (c : After-row_of-arg-2-1) →
    let a = c.args in
    let j = a.count - (a.k + 1) in
    to_z w64 (of_z w64 (get_or a.edges.now (j * 32 + 2) (pos 0))) ≡ pos (edge_at a.edges.now j).end
end-sent c =
    let s = c in
    let a = s.args in
    let j = a.count - (a.k + 1) in
    to_z-of_z {w = w64} {z = get_or a.edges.now (j * 32 + 2) (pos 0)} (sfits_of c.row_of-arg-2-1.given)
    ∙ (cells s.requires.0 j (omega (arith, s.requires.2))).end

pub row_of-requires : goal.row_of-requires
row_of-requires c =
    let s = c in
    let a = s.args in
    asked s.requires.0 s.requires.1 (start-sent c.before)
    (ends_there s.requires.0 (a.count - (a.k + 1)) (omega (arith, s.requires.2))).0

pub row_of-requires-2 : goal.row_of-requires-2
row_of-requires-2 c =
    let s = c in
    let a = s.args in
    asked s.requires.0 s.requires.1 (end-sent c.before)
    (ends_there s.requires.0 (a.count - (a.k + 1)) (omega (arith, s.requires.2))).1

-- the roots of both
first-root : (c : After-root_of-a) →
    let a = c.args in
    Root (drop (a.count - a.k) (arcs (edge_map a.edges.now a.count))) a.nodes.now a.labels.now
    c.row_of.result c.root_of-a.result
first-root c =
    let s = c in
    rw c.root_of-a.ensures (root_is s.requires.3 c.row_of.result c.row_of.ensures.0)

second-root : (c : After-root_of-b) →
    let a = c.args in
    Root (drop (a.count - a.k) (arcs (edge_map a.edges.now a.count))) a.nodes.now a.labels.now
    c.row_of-2.result c.root_of-b.result
second-root c =
    let s = c in
    rw c.root_of-b.ensures (root_is s.requires.3 c.row_of-2.result c.row_of-2.ensures.0)

-- the labels where one of them leads to the other
both : (c : After-root_of-b) →
    let r = c.before.before.before in
    let a = r.args in
    let x = r.root_of-a.result in
    let y = c.root_of-b.result in
    let es = drop (a.count - (a.k + 1)) (arcs (edge_map a.edges.now a.count)) in
    (x ≤ y → Leading es a.nodes.now a.n (set a.labels.now y x))
    × (y ≤ x → Leading es a.nodes.now a.n (set a.labels.now x y))
both c =
    let r = c.before.before.before in
    let s = r in
    let a = s.args in
    let u = r.row_of in
    let v = c.row_of-2 in
    rw (edge_and_rest a.edges.now a.count a.k s.requires.2)
    (join_roots s.requires.0.nodes (arc_of (edge_at a.edges.now (a.count - (a.k + 1)))) s.requires.3
    u.result v.result r.root_of-a.result c.root_of-b.result u.ensures.0 v.ensures.0
    (ap nat_abs (sym (start-sent r.before.before) ∙ u.ensures.1))
    (ap nat_abs (sym (end-sent c.before.before) ∙ v.ensures.1))
    (first-root r) (second-root c))

-- the higher is a row
pub bounds-labels-max : goal.bounds-labels-max
bounds-labels-max c =
    let b = c.before.before.before in
    let r = b.before.before.before in
    omega (
      arith,
      (first-root r).below,
      r.row_of.ensures.0,
      (second-root b).below,
      b.row_of-2.ensures.0,
      c.requires.3.size,
      c.max.ensures,
    )

pub returns : goal.returns
returns c =
    let x = c.root_of-a.result in
    let y = c.root_of-b.result in
    elim (lt_or_ge x y) [
      | inl h ↦
          let high : c.max.result ≡ y = omega (arith, c.max.ensures) in
          let low : c.min.result ≡ x = omega (arith, c.min.ensures) in
          rw (high, low) ((both c.before.before.before).0 (omega arith))
      | inr h ↦
          let high : c.max.result ≡ x = omega (arith, c.max.ensures) in
          let low : c.min.result ≡ y = omega (arith, c.min.ensures) in
          rw (high, low) ((both c.before.before.before).1 h)
    ]
