-- `edit_add::add_edge` meets its contract: a missing node is turned down, and rows that are found are worked on.
-- Assumes nothing.
use borrow.Author.Rules.{rules}
use mathlib.Core.Path.{refl, sym, ap₂, ◌∙◌}
use lib.Dec.{lit<}
use lib.IntN.{ℤ}
use Rattle.map.specs.Rows.{lent}
use Rattle.outcomes.specs.Outcomes.{edited}
use Rattle.outcomes.specs.Variants.{add_ticket}
use Rattle.outcomes.proofs.Formed.{edited-refused}
use Rattle.outcomes.proofs.Ends.{ends_found, ends_missing}
use Rattle.edit_add.proofs.Tickets.{missing}
use Rattle.edit_add.proofs.add_edge.Goals as goal

pub returns-in_default : goal.returns-in_default
returns-in_default c =
    let a = c.args in
    edited-refused _ _ _ _ _ 4 (lit< tt) refl (missing _ a.start a.end _ _ a.how
    (ends_missing c.requires c.ranges.start c.ranges.end c.find_ends.ensures c.in_default.is))

pub returns : goal.returns
returns c =
    let a = c.args in
    let k = ends_found c.requires c.ranges.start c.ranges.end c.find_ends.ensures c.in-Some.is in
    c.add_at_rows.ensures
    ∙ ap₂ (λ (x y : ℤ). edited (lent a.nodes.now a.edges.now a.faces.now a.h)
    (add_ticket a.how x y a.sent.now)) (sym k.start) (sym k.end)

pub add_at_rows-requires : goal.add_at_rows-requires
add_at_rows-requires c =
    let k = ends_found c.requires c.ranges.start c.ranges.end c.find_ends.ensures c.in-Some.is in
    (c.requires, k.start_in, k.end_in)
