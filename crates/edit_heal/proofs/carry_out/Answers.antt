-- `edit_heal::carry_out` meets its contract. Assumes nothing.
use borrow.Author.Rules.{rules}
use mathlib.Core.Path.{◌≡◌, ap, ◌∙◌}
use Prim.Native.Nat.{ℕ}
use lib.IntN.{pos}
use lib.Signed.{non_neg}
use mir.Syntax.{w64}
use mir.Val.{SFits, to_z, of_z}
use mir.Facts.{to_z-of_z}
use Rattle.integers.specs.Signs.{sent}
use Rattle.lists.specs.Tables.{place}
use Rattle.map.specs.Limits.{node_width}
use Rattle.tables.specs.Tables.{same_z, column, closed}
use Rattle.map_rows.specs.Rows.{edge_at}
use Rattle.map_rows.proofs.Rows.{edge-row_of}
use Rattle.outcomes.specs.Variants.{own_or_next}
use Rattle.head.proofs.Words.{nodes_natural, nodes_read, edges_natural, edges_read}
use Rattle.edit_heal.specs.Heals.{healed_rows}
use Rattle.edit_heal.proofs.carry_out.Lts as lts
use Rattle.edit_heal.proofs.carry_out.Tie as tie
use Rattle.edit_heal.proofs.carry_out.Reads as reads
use Rattle.edit_heal.proofs.carry_out.Goals as goal

-- places in the code, by their names in what is generated
abbrev After-own_or_next-number : Type 0
After-own_or_next-number = lts.After-own_or_next tie.the-claims reads.Pre reads.Post

number : (c : After-own_or_next-number)
    → let a = c.args in
    to_z w64 (of_z w64 c.own_or_next-number.result) ≡ pos (own_or_next a.h a.how (edge_at a.edges.now a.i).number)
number c = sent c.own_or_next-number.type_inv ∙ c.own_or_next-number.ensures

joint-fits : (s : goal.Start) → SFits w64 s.args.s.joint
joint-fits s = let g = s.well_formed.1.1.1.1.1.1.0 in search (rules, g)

pub heal_rows-requires : goal.heal_rows-requires
heal_rows-requires c =
    let o = c.before.before.before.before in
    let p = o.requires in
    let e = edges_read p.counted c.to_usize.ensures in
    record {
      darts = record {
        rows = rw e p.edge_rows_lem;
        few = rw e p.counted.edges.most;
        first = rw e p.first;
        second = rw e p.second;
        natural = ap non_neg (number o);
      };
      rows = record {
        first_row = rw e p.first_row;
        second_row = rw e p.second_row;
        apart = p.apart;
        room = rw e p.edge_rows_lem.fits;
      };
      few_points = p.few_points;
    }

pub returns : goal.returns
returns c =
    let v = c.healed_value in
    let j = c in
    let r = j in
    let o = c.before.before.before.before.before.before.before.before.before.before.before.before.before in
    let s = o.before in
    let a = s.args in
    let p = s.requires in
    let e = edges_read p.counted r.to_usize.ensures in
    let n = nodes_read p.counted j.to_usize-2.ensures in
    record {
      edges_after = r.heal_rows.ensures ∙ (λ t. healed_rows a.edges.now (e t) a.i a.j a.s.first
          a.s.second a.how (number o t) a.l);
      nodes_after = λ k at. j.remove_joint.ensures k
          ((λ t. place (same_z (to_z-of_z {w = w64} (joint-fits s) t)) 0 (column node_width a.nodes.now (n t))) ∙ at)
          ∙ ap (λ (x : ℕ). closed node_width a.nodes.now x k) n;
      answered = λ t. record { head = c.after_heal.ensures t; value = (sent v.type_inv ∙ v.ensures) t };
    }

pub own_or_next-number-requires : goal.own_or_next-number-requires
own_or_next-number-requires c = let s = c in let p = s.requires in
    (p.counted, edge-row_of p.edge_rows_lem s.args.i p.first_row)

pub to_usize-requires : goal.to_usize-requires
to_usize-requires c = edges_natural c.requires.counted

pub to_usize-requires-2 : goal.to_usize-requires-2
to_usize-requires-2 c = nodes_natural
    c.requires.counted

pub remove_joint-requires : goal.remove_joint-requires
remove_joint-requires c = let p = c.requires in
    rw (nodes_read p.counted c.to_usize-2.ensures) p.node_rows_lem
