-- `edit_isolated::remove_isolated_edge` meets its contract: a missing row is turned down, and a row that is found is
-- worked on. Assumes nothing.
use mathlib.Core.Path.{refl, sym, ap, ◌∙◌}
use lib.Dec.{lit<}
use lib.IntN.{ℤ}
use mir.Syntax.{w64}
use mir.Facts.{to_z-of_z}
use Rattle.map.specs.Limits.{edge_width}
use Rattle.map.specs.Rows.{lent}
use Rattle.map.specs.Tickets.{RemoveIsoEdge}
use Rattle.map_rows.proofs.Rows.{edge_rows_rising}
use Rattle.outcomes.specs.Outcomes.{edited}
use Rattle.outcomes.proofs.Formed.{counted, edge_rows_lem, edited-refused}
use Rattle.outcomes.proofs.Words.{place_told}
use Rattle.head.proofs.Words.{edges_natural, edges_read}
use Rattle.outcomes.proofs.FoundRows.{edge_in, edge-number}
use Rattle.edit_isolated.proofs.Removed.{remove_missing}
use Rattle.edit_isolated.proofs.remove_isolated_edge.Goals as goal

pub find_row-requires : goal.find_row-requires
find_row-requires c =
    rw (edges_read (counted c.requires) c.to_usize-e.ensures) (edge_rows_rising (edge_rows_lem c.requires))

pub returns-in_default : goal.returns-in_default
returns-in_default c =
    let a = c.args in
    edited-refused a.nodes.now a.edges.now a.faces.now a.h (RemoveIsoEdge a.edge) 4 (lit< tt) refl
    (remove_missing c.requires a.edge (place_told edge_width a.edges.now
    (edges_read (counted c.requires) c.to_usize-e.ensures) (to_z-of_z {w = w64} c.ranges.edge)
    c.find_row.ensures c.in_default.is))

pub remove_at_row-requires : goal.remove_at_row-requires
remove_at_row-requires c =
    let a = c.args in (
      c.requires,
      edge_in c.requires a.edge c.in-Some.i (place_told edge_width a.edges.now
          (edges_read (counted c.requires) c.to_usize-e.ensures) (to_z-of_z {w = w64} c.ranges.edge)
          c.find_row.ensures c.in-Some.is),
    )

pub returns : goal.returns
returns c =
    let a = c.args in
    c.remove_at_row.ensures
    ∙ ap (λ (z : ℤ). edited (lent a.nodes.now a.edges.now a.faces.now a.h) (RemoveIsoEdge z))
    (sym (edge-number c.requires a.edge c.in-Some.i (place_told edge_width a.edges.now
    (edges_read (counted c.requires) c.to_usize-e.ensures) (to_z-of_z {w = w64} c.ranges.edge)
    c.find_row.ensures c.in-Some.is)))

pub to_usize-e-requires : goal.to_usize-e-requires
to_usize-e-requires c = edges_natural (counted c.requires)
