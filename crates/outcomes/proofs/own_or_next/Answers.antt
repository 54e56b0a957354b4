-- `outcomes::own_or_next` meets its contract. Assumes nothing.
use borrow.Author.Rules.{sfits_of}
use mathlib.Core.Path.{◌∙◌}
use mir.Syntax.{w64}
use mir.Facts.{to_z-of_z}
use Rattle.map_rows.proofs.Rows.{edge_cells_lem}
use Rattle.head.proofs.Words.{count_read}
use Rattle.outcomes.proofs.own_or_next.Goals as goal

pub returns-in-New : goal.returns-in-New
returns-in-New c =
    let s = c in
    let k = s.requires.0.next_edge in
    rw c.in-New.is (count_read s.args.h.next_edge k.natural k.most)

pub returns-in-Mod : goal.returns-in-Mod
returns-in-Mod c =
    let s = c in
    rw c.in-Mod.is (to_z-of_z {w = w64} (sfits_of c.result-1.given)
    ∙ (edge_cells_lem s.args.edges.now s.args.i s.requires.1.ranges).number)
