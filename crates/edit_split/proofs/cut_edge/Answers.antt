-- `edit_split::cut_edge` meets its contract. Assumes nothing.
use mathlib.Core.Path.{ap, ap₂, ◌∙◌}
use lib.Signed.{non_neg}
use mir.Syntax.{w64}
use mir.Facts.{to_z-of_z}
use Rattle.integers.specs.Signs.{sent}
use Rattle.curves.specs.Curves.{point}
use Rattle.head.proofs.Words.{edges_natural, edges_read}
use Rattle.outcomes.proofs.Words.{next_node_back}
use Rattle.edit_split.specs.Cuts.{cut_row}
use Rattle.edit_split.proofs.cut_edge.Goals as goal

pub cut_row-requires : goal.cut_row-requires
cut_row-requires c =
    let p = c.requires in
    let e = edges_read p.counted c.to_usize-e.ensures in
    record {
      row = p.row;
      point = c.point_of-p.ensures.1;
      below = rw e p.below;
      few = rw e p.counted.edges.most;
      room = rw e p.room;
      start_natural = ap non_neg (sent c.own_or_next-a.type_inv ∙ c.own_or_next-a.ensures);
      end-natural = ap non_neg (sent c.end_number-b.type_inv ∙ c.end_number-b.ensures);
    }

pub returns : goal.returns
returns c =
    let a = c.args in
    let k = c.requires.counted in
    let e = edges_read k c.to_usize-e.ensures in
    let n = next_node_back k in
    let p = c.point_of-p.ensures.0 ∙ ap₂ point (to_z-of_z {w = w64} c.ranges.x) (to_z-of_z {w = w64} c.ranges.y) in
    let start = sent c.own_or_next-a.type_inv ∙ c.own_or_next-a.ensures in
    let end = sent c.end_number-b.type_inv ∙ c.end_number-b.ensures in
    c.cut_row.ensures ∙ (λ j. cut_row a.edges.now (e j) a.i (n j) (p j) a.how (start j) (end j))

pub to_usize-e-requires : goal.to_usize-e-requires
to_usize-e-requires c = edges_natural c.requires.counted

pub own_or_next-a-requires : goal.own_or_next-a-requires
own_or_next-a-requires c = let p = c.requires in (p.counted, p.row)
