-- Every definition opened at once: `unfolding opened` lets closed examples compute.
-- Written by tests/generate_opened.py.
use Rattle.map.proofs.Opened as below
use Rattle.joining.specs.Join.{node_ticket, edge_ticket, entries, enter_all, joined_sheet, tickets_for, join_tickets}

unfoldable pub opened : Unit {0}
unfolding below.opened node_ticket edge_ticket entries enter_all joined_sheet tickets_for join_tickets
opened = tt
