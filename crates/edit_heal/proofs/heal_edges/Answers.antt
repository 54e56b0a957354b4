-- `edit_heal::heal_edges` meets its contract: a missing row is turned down, and rows that are found are worked on.
-- Assumes nothing.
use mathlib.Core.Path.{refl, sym, ap₂, ◌∙◌}
use lib.Dec.{lit<}
use lib.IntN.{ℤ}
use mir.Syntax.{w64}
use mir.Facts.{to_z-of_z}
use Rattle.lists.proofs.Bools.{or_right}
use Rattle.map.specs.Limits.{edge_width}
use Rattle.map.specs.Rows.{map_of, lent}
use Rattle.map.specs.Reasons.{no_edge}
use Rattle.map_rows.proofs.Rows.{edge_rows_rising}
use Rattle.outcomes.specs.Outcomes.{edited}
use Rattle.outcomes.specs.Variants.{heal_ticket}
use Rattle.outcomes.proofs.Formed.{edge_rows_lem, counted, edited-refused, edge_none}
use Rattle.head.proofs.Words.{edges_natural, edges_read}
use Rattle.outcomes.proofs.Words.{place_told}
use Rattle.outcomes.proofs.FoundRows.{edge_in, edge-number}
use Rattle.edit_heal.proofs.Told.{row_missing}
use Rattle.edit_heal.proofs.heal_edges.Goals as goal

pub to_usize-e-requires : goal.to_usize-e-requires
to_usize-e-requires c = edges_natural (counted c.requires)

pub returns-in_default : goal.returns-in_default
returns-in_default c =
    let a = c.args in
    edited-refused _ _ _ _ _ 4 (lit< tt) refl (row_missing c.requires a.how a.edge a.other
    (rw (edge_none c.requires a.edge (place_told edge_width a.edges.now
    (edges_read (counted c.requires) c.to_usize-e.ensures) (to_z-of_z {w = w64} c.ranges.edge)
    c.find_row.ensures c.in_default.is))))

pub returns-in_default-find_row : goal.returns-in_default-find_row
returns-in_default-find_row c =
    let a = c.args in
    edited-refused _ _ _ _ _ 4 (lit< tt) refl (row_missing c.requires a.how a.edge a.other
    (or_right (no_edge (map_of (lent a.nodes.now a.edges.now a.faces.now a.h)) a.edge) _
    (edge_none c.requires a.other (place_told edge_width a.edges.now
    (edges_read (counted c.requires) c.to_usize-e.ensures) (to_z-of_z {w = w64} c.ranges.other)
    c.find_row-2.ensures c.in_default-find_row.is))))

pub find_row-requires : goal.find_row-requires
find_row-requires c =
    rw (edges_read (counted c.requires) c.to_usize-e.ensures) (edge_rows_rising (edge_rows_lem c.requires))

pub find_row-requires-2 : goal.find_row-requires-2
find_row-requires-2 c =
    rw (edges_read (counted c.requires) c.to_usize-e.ensures) (edge_rows_rising (edge_rows_lem c.requires))

pub heal_at_rows-requires : goal.heal_at_rows-requires
heal_at_rows-requires c =
    let a = c.args in
    let n = edges_read (counted c.requires) c.to_usize-e.ensures in (
      c.requires,
      edge_in c.requires a.edge _ (place_told edge_width a.edges.now n (to_z-of_z {w = w64} c.ranges.edge)
          c.find_row.ensures c.in-Some.is),
      edge_in c.requires a.other _ (place_told edge_width a.edges.now n (to_z-of_z {w = w64} c.ranges.other)
          c.find_row-2.ensures c.in-Some-find_row.is),
    )

pub returns : goal.returns
returns c =
    let a = c.args in
    let n = edges_read (counted c.requires) c.to_usize-e.ensures in
    c.heal_at_rows.ensures
    ∙ ap₂ (λ (y z : ℤ). edited (lent a.nodes.now a.edges.now a.faces.now a.h) (heal_ticket a.how y z))
    (sym (edge-number c.requires a.edge _ (place_told edge_width a.edges.now n (to_z-of_z {w = w64} c.ranges.edge)
    c.find_row.ensures c.in-Some.is)))
    (sym (edge-number c.requires a.other _ (place_told edge_width a.edges.now n (to_z-of_z {w = w64} c.ranges.other)
    c.find_row-2.ensures c.in-Some-find_row.is)))
