-- `edit_split::split_edge` meets its contract: a missing row is turned down, and a row that is found is worked on.
-- Assumes nothing.
use mathlib.Core.Path.{refl, sym, ◌∙◌}
use lib.Dec.{lit<}
use mir.Syntax.{w64}
use mir.Facts.{to_z-of_z}
use Rattle.map.specs.Limits.{edge_width}
use Rattle.map.specs.Rows.{lent}
use Rattle.map_rows.proofs.Rows.{edge_rows_rising}
use Rattle.outcomes.specs.Outcomes.{edited}
use Rattle.outcomes.specs.Variants.{split_ticket}
use Rattle.outcomes.proofs.Formed.{edge_rows_lem, counted, edited-refused}
use Rattle.head.proofs.Words.{edges_natural, edges_read}
use Rattle.outcomes.proofs.Words.{place_told}
use Rattle.outcomes.proofs.FoundRows.{edge_in, edge-number}
use Rattle.edit_split.proofs.Told.{split_missing}
use Rattle.edit_split.proofs.split_edge.Goals as goal

pub returns-in_default : goal.returns-in_default
returns-in_default c =
    let a = c.args in
    edited-refused _ _ _ _ _ 4 (lit< tt) refl
    (split_missing c.requires a.how a.edge a.x a.y (place_told edge_width a.edges.now
    (edges_read (counted c.requires) c.to_usize-e.ensures) (to_z-of_z {w = w64} c.ranges.edge)
    c.find_row.ensures c.in_default.is))

pub returns : goal.returns
returns c =
    let a = c.args in
    let number = sym (edge-number c.requires a.edge c.in-Some.i (place_told edge_width a.edges.now
    (edges_read (counted c.requires) c.to_usize-e.ensures) (to_z-of_z {w = w64} c.ranges.edge)
    c.find_row.ensures c.in-Some.is)) in
    let x = to_z-of_z {w = w64} c.ranges.x in
    let y = to_z-of_z {w = w64} c.ranges.y in
    c.split_at_row.ensures
    ∙ (λ j. edited (lent a.nodes.now a.edges.now a.faces.now a.h)
    (split_ticket a.how (number j) (x j) (y j)))

pub to_usize-e-requires : goal.to_usize-e-requires
to_usize-e-requires c = edges_natural (counted c.requires)

pub find_row-requires : goal.find_row-requires
find_row-requires c =
    rw (edges_read (counted c.requires) c.to_usize-e.ensures) (edge_rows_rising (edge_rows_lem c.requires))

pub split_at_row-requires : goal.split_at_row-requires
split_at_row-requires c = (
  c.requires,
  edge_in c.requires c.args.edge c.in-Some.i (place_told edge_width c.args.edges.now
      (edges_read (counted c.requires) c.to_usize-e.ensures) (to_z-of_z {w = w64} c.ranges.edge)
      c.find_row.ensures c.in-Some.is),
)
