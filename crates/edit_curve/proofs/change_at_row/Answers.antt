-- `edit_curve::change_at_row` meets its contract: the rows of the edge's nodes are found. Assumes nothing.
use mathlib.Core.Path.{refl, sym, ap, ap₂, ◌∙◌}
use Prim.Native.Nat.{ℕ}
use lib.IntN.{ℤ, pos, nat_abs}
use lib.Signed.{non_neg}
use Rattle.integers.specs.Signs.{sent}
use Rattle.map.specs.Limits.{node_width}
use Rattle.map.specs.Rows.{has_node}
use Rattle.map_rows.specs.Rows.{node_map, edge_at}
use Rattle.map_rows.proofs.Rows.{edge-row_of}
use Rattle.outcomes.proofs.Formed.{counted, node_rows_lem, edge_rows_lem}
use Rattle.outcomes.proofs.Words.{place_told}
use Rattle.head.proofs.Words.{nodes_natural, nodes_read}
use Rattle.outcomes.proofs.FoundRows.{node_in, node-number}
use Rattle.edit_curve.proofs.Changed.{start_there, end_there}
use Rattle.edit_curve.proofs.change_at_row.Goals as goal

pub row_of-u-requires : goal.row_of-u-requires
row_of-u-requires c =
    let s = c in
    let a = s.args in
    let n = nodes_read (counted s.requires.0) c.to_usize-n.ensures in
    let q = sent c.start_of.type_inv ∙ c.start_of.ensures in (
      ap non_neg q,
      ap₂ (λ (k : ℕ) (z : ℤ). has_node (node_map a.nodes.now k) (nat_abs z)) n q
          ∙ start_there s.requires.0 a.i s.requires.1,
    )

pub row_of-v-requires : goal.row_of-v-requires
row_of-v-requires c =
    let s = c in
    let a = s.args in
    let n = nodes_read (counted s.requires.0) c.to_usize-n.ensures in
    let q = sent c.end_of.type_inv ∙ c.end_of.ensures in (
      ap non_neg q,
      ap₂ (λ (k : ℕ) (z : ℤ). has_node (node_map a.nodes.now k) (nat_abs z)) n q
          ∙ end_there s.requires.0 a.i s.requires.1,
    )

pub change_between-requires : goal.change_between-requires
change_between-requires c =
    let v = c in
    let u = v in
    let s = u in
    let a = s.args in
    let n = nodes_read (counted s.requires.0) u.to_usize-n.ensures in
    let x = u.start_of in
    let y = v.end_of in
    let zu = pos (edge_at a.edges.now a.i).start in
    let zv = pos (edge_at a.edges.now a.i).end in
    let eu = place_told node_width a.nodes.now n (sent x.type_inv ∙ x.ensures) refl u.row_of-u.ensures in
    let ev = place_told node_width a.nodes.now n (sent y.type_inv ∙ y.ensures) refl v.row_of-v.ensures in (
      s.requires.0,
      s.requires.1,
      record {
        start_in = node_in s.requires.0 zu u.row_of-u.result eu;
        end_in = node_in s.requires.0 zv v.row_of-v.result ev;
        start = sym (ap nat_abs (node-number s.requires.0 zu u.row_of-u.result eu));
        end = sym (ap nat_abs (node-number s.requires.0 zv v.row_of-v.result ev));
      },
    )

pub to_usize-n-requires : goal.to_usize-n-requires
to_usize-n-requires c = nodes_natural (counted c.requires.0)

pub start_of-requires : goal.start_of-requires
start_of-requires c = let s = c in edge-row_of (edge_rows_lem s.requires.0) s.args.i s.requires.1

pub end_of-requires : goal.end_of-requires
end_of-requires c = let s = c in
    edge-row_of (edge_rows_lem s.requires.0) s.args.i s.requires.1

pub invariant_of-placed : goal.invariant_of-placed
invariant_of-placed c = record {
  ranged = rw (nodes_read (counted c.requires.0) c.to_usize-n.ensures) (node_rows_lem c.requires.0);
}
