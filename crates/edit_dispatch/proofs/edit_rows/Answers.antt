-- `edit_dispatch::edit_rows` meets its contract: each arm answers as its routine's numbers are read. Assumes nothing.
use mathlib.Core.Path.{◌≡◌, sym, ap, ◌∙◌}
use mathlib.Core.Bool.{true}
use mathlib.Core.List.{List}
use mathlib.Core.Option.{some}
use Prim.Native.Nat.{ℕ, ◌-◌}
use native.Mathlib.Omega.{arith}
use lib.IntN.{ℤ}
use lib.ListN.{length, drop}
use borrow.Author.Rules.{part_to_end}
use Rattle.integers.specs.Signs.{sent}
use Rattle.map.specs.Rows.{Lent, lent}
use Rattle.map.specs.Tickets.{Ticket, AddIsoNode, MoveIsoNode, RemoveIsoNode, AddIsoEdge, RemoveIsoEdge, ChangeEdgeGeom}
use Rattle.map.specs.Ticket.{Outcome}
use Rattle.outcomes.specs.Outcomes.{edited}
use Rattle.outcomes.specs.Variants.{split_ticket, heal_ticket, add_ticket, remove_ticket}
use Rattle.edit_dispatch.specs.declared.Routine.{Routine}
use Rattle.edit_dispatch.specs.Shaped.{shaped_rows, kind_for, count_fits, read_for}
use Rattle.edit_dispatch.proofs.Counts.{Pairs, so_many, pairs_fit}
use Rattle.edit_dispatch.proofs.Counts.{one-read, two-read, three-read, one-curve_read, two-curve_read}
use Rattle.edit_dispatch.proofs.Affected.{add-rows, move_rows, remove_rows}
use Rattle.edit_dispatch.proofs.edit_rows.Lts as lts
use Rattle.edit_dispatch.proofs.edit_rows.Tie as tie
use Rattle.edit_dispatch.proofs.edit_rows.Reads as reads
use Rattle.edit_dispatch.proofs.edit_rows.Goals as goal

-- places in the code, by their names in what is generated
abbrev In-AddEdge : Type 0
In-AddEdge = lts.Past-After-known_told3 tie.the-claims reads.Pre reads.Post

abbrev In-AddIsolatedEdge : Type 0
In-AddIsolatedEdge = lts.Past-After-enum_told4 tie.the-claims reads.Pre reads.Post

abbrev In-AddNode : Type 0
In-AddNode = lts.Past-After-enum_told tie.the-claims reads.Pre reads.Post

abbrev In-ChangeCurve : Type 0
In-ChangeCurve = lts.Past-After-enum_told6 tie.the-claims reads.Pre reads.Post

abbrev In-Heal : Type 0
In-Heal = lts.Past-After-known_told2 tie.the-claims reads.Pre reads.Post

abbrev In-MoveNode : Type 0
In-MoveNode = lts.Past-After-enum_told2 tie.the-claims reads.Pre reads.Post

abbrev In-RemoveEdge : Type 0
In-RemoveEdge = lts.Past-After-known_told4 tie.the-claims reads.Pre reads.Post

abbrev In-RemoveIsolatedEdge : Type 0
In-RemoveIsolatedEdge = lts.Past-After-enum_told5 tie.the-claims reads.Pre reads.Post

abbrev In-RemoveNode : Type 0
In-RemoveNode = lts.Past-After-enum_told3 tie.the-claims reads.Pre reads.Post

abbrev In-Split : Type 0
In-Split = lts.Past-After-known_told tie.the-claims reads.Pre reads.Post

abbrev Start : Type 0
Start = lts.Start tie.the-claims reads.Pre reads.Post

abbrev ticketAt : Start → List ℤ
ticketAt s = s.args.t.now

abbrev count : Start → ℕ
count s = length (ticketAt s)

abbrev lent_at : Start → Lent
lent_at s = let a = s.args in lent a.nodes.now a.edges.now a.faces.now a.h

module _ (s : Start) {r : Routine} (e : s.args.routine ≡ r) where
  -- the count is the routine's
  held : count_fits (kind_for r) (count s - 1) ≡ true
  held = ap (λ (q : Routine). count_fits (kind_for q) (count s - 1)) (sym e) ∙ s.requires.1

  -- the edit is that of what is read
  answered : {o : Outcome} {k : Ticket} → o ≡ edited (lent_at s) k → some k ≡ read_for r (drop 1 (ticketAt s))
      → o ≡ shaped_rows (lent_at s) (read_for s.args.routine (drop 1 (ticketAt s)))
  answered eo ek = eo ∙ ap (shaped_rows (lent_at s)) (ek ∙ ap (λ (q : Routine). read_for q (drop 1 (ticketAt s))) (sym e))

-- ---- how many numbers there are in each arm
add_node_lem : (c : In-AddNode) → count c.before ≡ 4
add_node_lem c = let s = c.before in so_many (count s) 2 (held s c.in-AddNode.is)

move_node_lem : (c : In-MoveNode) → count c.before ≡ 4
move_node_lem c = let s = c.before in so_many (count s) 2 (held s c.in-MoveNode.is)

remove_node_lem : (c : In-RemoveNode) → count c.before ≡ 2
remove_node_lem c = let s = c.before in so_many (count s) 0 (held s c.in-RemoveNode.is)

add-isolated-edge : (c : In-AddIsolatedEdge) → Pairs 2 (count c.before - 1)
add-isolated-edge c = let s = c.before in pairs_fit _ 2 (held s c.in-AddIsolatedEdge.is)

remove-isolated-edge : (c : In-RemoveIsolatedEdge) → count c.before ≡ 2
remove-isolated-edge c = let s = c.before in so_many (count s) 0 (held s c.in-RemoveIsolatedEdge.is)

change-curve : (c : In-ChangeCurve) → Pairs 1 (count c.before - 1)
change-curve c = let s = c.before in pairs_fit _ 1 (held s c.in-ChangeCurve.is)

split-edge : (c : In-Split) → count c.before ≡ 4
split-edge c = let s = c.before in so_many (count s) 2 (held s c.in-Split.is)

heal-edges : (c : In-Heal) → count c.before ≡ 3
heal-edges c = let s = c.before in so_many (count s) 1 (held s c.in-Heal.is)

add-edge : (c : In-AddEdge) → Pairs 2 (count c.before - 1)
add-edge c = let s = c.before in pairs_fit _ 2 (held s c.in-AddEdge.is)

remove-edge : (c : In-RemoveEdge) → count c.before ≡ 2
remove-edge c = let s = c.before in so_many (count s) 0 (held s c.in-RemoveEdge.is)

pub bounds-t-1 : goal.bounds-t-1
bounds-t-1 c = omega (arith, add_node_lem c.before)

pub bounds-t-2 : goal.bounds-t-2
bounds-t-2 c = omega (arith, add_node_lem c.before.before)

pub bounds-t-3 : goal.bounds-t-3
bounds-t-3 c = omega (arith, add_node_lem c.before.before.before)

pub bounds-t-1-in-MoveNode : goal.bounds-t-1-in-MoveNode
bounds-t-1-in-MoveNode c = omega (arith, move_node_lem c.before)

pub bounds-t-2-in-MoveNode : goal.bounds-t-2-in-MoveNode
bounds-t-2-in-MoveNode c = omega (arith, move_node_lem c.before.before)

pub bounds-t-3-in-MoveNode : goal.bounds-t-3-in-MoveNode
bounds-t-3-in-MoveNode c = omega (arith, move_node_lem c.before.before.before)

pub bounds-t-1-in-RemoveNode : goal.bounds-t-1-in-RemoveNode
bounds-t-1-in-RemoveNode c = omega (arith, remove_node_lem c.before)

pub bounds-t-1-in-AddIsolatedEdge : goal.bounds-t-1-in-AddIsolatedEdge
bounds-t-1-in-AddIsolatedEdge c = omega (arith, add-isolated-edge c.before.before)

pub bounds-t-2-in-AddIsolatedEdge : goal.bounds-t-2-in-AddIsolatedEdge
bounds-t-2-in-AddIsolatedEdge c = omega (arith, add-isolated-edge c.before.before.before)

pub slice_bounds-add_isolated_edge-count : goal.slice_bounds-add_isolated_edge-count
slice_bounds-add_isolated_edge-count c = omega (arith, add-isolated-edge c.before.before.before.before)

pub slice_bounds-add_isolated_edge-start : goal.slice_bounds-add_isolated_edge-start
slice_bounds-add_isolated_edge-start c = omega (arith, add-isolated-edge c.before.before.before.before)

pub bounds-t-1-in-RemoveIsolatedEdge : goal.bounds-t-1-in-RemoveIsolatedEdge
bounds-t-1-in-RemoveIsolatedEdge c = omega (arith, remove-isolated-edge c.before.before)

pub bounds-t-1-in-ChangeCurve : goal.bounds-t-1-in-ChangeCurve
bounds-t-1-in-ChangeCurve c = omega (arith, change-curve c.before)

pub slice_bounds-change_curve-count : goal.slice_bounds-change_curve-count
slice_bounds-change_curve-count c = omega (arith, change-curve c.before.before)

pub slice_bounds-change_curve-start : goal.slice_bounds-change_curve-start
slice_bounds-change_curve-start c = omega (arith, change-curve c.before.before)

pub bounds-t-1-in-Split : goal.bounds-t-1-in-Split
bounds-t-1-in-Split c = omega (arith, split-edge c.before.before)

pub bounds-t-2-in-Split : goal.bounds-t-2-in-Split
bounds-t-2-in-Split c = omega (arith, split-edge c.before.before.before)

pub bounds-t-3-in-Split : goal.bounds-t-3-in-Split
bounds-t-3-in-Split c = omega (arith, split-edge c.before.before.before.before)

pub bounds-t-1-in-Heal : goal.bounds-t-1-in-Heal
bounds-t-1-in-Heal c = omega (arith, heal-edges c.before.before)

pub bounds-t-2-in-Heal : goal.bounds-t-2-in-Heal
bounds-t-2-in-Heal c = omega (arith, heal-edges c.before.before.before)

pub bounds-t-1-in-AddEdge : goal.bounds-t-1-in-AddEdge
bounds-t-1-in-AddEdge c = omega (arith, add-edge c.before.before.before)

pub bounds-t-2-in-AddEdge : goal.bounds-t-2-in-AddEdge
bounds-t-2-in-AddEdge c = omega (arith, add-edge c.before.before.before.before)

pub slice_bounds-add_edge-count : goal.slice_bounds-add_edge-count
slice_bounds-add_edge-count c = omega (arith, add-edge c.before.before.before.before.before)

pub slice_bounds-add_edge-start : goal.slice_bounds-add_edge-start
slice_bounds-add_edge-start c = omega (arith, add-edge c.before.before.before.before.before)

pub bounds-t-1-in-RemoveEdge : goal.bounds-t-1-in-RemoveEdge
bounds-t-1-in-RemoveEdge c = omega (arith, remove-edge c.before.before.before)

pub returns-in-AddNode : goal.returns-in-AddNode
returns-in-AddNode c = let e = c.before.before.before.before.before.before in
    let s = e.before in answered s e.in-AddNode.is
    (c.add_node.ensures ∙ add-rows (lent_at s) _ _ _)
    (three-read AddIsoNode (ticketAt s) (add_node_lem e) (sent c.add_node-arg-in-AddNode-1.given)
    (sent c.add_node-arg-in-AddNode-2-1.given) (sent c.add_node-arg-in-AddNode-3-1.given))

pub returns-in-MoveNode : goal.returns-in-MoveNode
returns-in-MoveNode c = let e = c.before.before.before.before.before.before in
    let s = e.before in answered s e.in-MoveNode.is
    (c.move_node.ensures ∙ move_rows (lent_at s) _ _ _)
    (three-read MoveIsoNode (ticketAt s) (move_node_lem e)
    (sent c.move_node-arg-in-MoveNode-1.given)
    (sent c.move_node-arg-in-MoveNode-2-1.given) (sent c.move_node-arg-in-MoveNode-3-1.given))

pub returns-in-RemoveNode : goal.returns-in-RemoveNode
returns-in-RemoveNode c = let e = c.before.before.before.before in
    let s = e.before in answered s e.in-RemoveNode.is
    (c.remove_node.ensures ∙ remove_rows (lent_at s) _)
    (one-read RemoveIsoNode (ticketAt s) (remove_node_lem e) (sent c.remove_node-arg-in-RemoveNode-1.given))

pub returns-in-AddIsolatedEdge : goal.returns-in-AddIsolatedEdge
returns-in-AddIsolatedEdge c = let e = c.before.before.before.before.before.before.before.before in
    let s = e.before in answered s e.in-AddIsolatedEdge.is
    c.add_isolated_edge.ensures
    (two-curve_read AddIsoEdge (ticketAt s) (add-isolated-edge e)
    (sent c.add_isolated_edge-arg-in-AddIsolatedEdge-2-1.given)
    (sent c.add_isolated_edge-arg-in-AddIsolatedEdge-3-1.given) (part_to_end (ticketAt s) 3))

pub returns-in-RemoveIsolatedEdge : goal.returns-in-RemoveIsolatedEdge
returns-in-RemoveIsolatedEdge c = let e = c.before.before.before.before.before.before in
    let s = e.before in answered s e.in-RemoveIsolatedEdge.is
    c.remove_isolated_edge.ensures
    (one-read RemoveIsoEdge (ticketAt s) (remove-isolated-edge e)
    (sent c.remove_isolated_edge-arg-in-RemoveIsolatedEdge-2-1.given))

pub returns-in-ChangeCurve : goal.returns-in-ChangeCurve
returns-in-ChangeCurve c = let e = c.before.before.before.before.before in
    let s = e.before in answered s e.in-ChangeCurve.is
    c.change_curve.ensures
    (one-curve_read ChangeEdgeGeom (ticketAt s) (change-curve e)
    (sent c.change_curve-arg-in-ChangeCurve-1.given) (part_to_end (ticketAt s) 2))

pub returns-in-Split : goal.returns-in-Split
returns-in-Split c = let e = c.before.before.before.before.before.before.before.before in
    let s = e.before in answered s e.in-Split.is
    c.split_edge.ensures
    (three-read (split_ticket e.in-Split.how) (ticketAt s) (split-edge e)
    (sent c.split_edge-arg-in-Split-2-1.given)
    (sent c.split_edge-arg-in-Split-3-1.given)
    (sent c.split_edge-arg-in-Split-4-1.given))

pub returns-in-Heal : goal.returns-in-Heal
returns-in-Heal c = let e = c.before.before.before.before.before.before.before in
    let s = e.before in answered s e.in-Heal.is
    c.heal_edges.ensures
    (two-read (heal_ticket e.in-Heal.how) (ticketAt s) (heal-edges e)
    (sent c.heal_edges-arg-in-Heal-2-1.given)
    (sent c.heal_edges-arg-in-Heal-3-1.given))

pub returns-in-AddEdge : goal.returns-in-AddEdge
returns-in-AddEdge c = let e = c.before.before.before.before.before.before.before.before.before.before in
    let s = e.before in answered s e.in-AddEdge.is
    c.add_edge.ensures
    (two-curve_read (add_ticket e.in-AddEdge.how) (ticketAt s) (add-edge e)
    (sent c.add_edge-arg-in-AddEdge-3-1.given)
    (sent c.add_edge-arg-in-AddEdge-4-1.given) (part_to_end (ticketAt s) 3))

pub returns-in-RemoveEdge : goal.returns-in-RemoveEdge
returns-in-RemoveEdge c = let e = c.before.before.before.before.before.before.before.before in
    let s = e.before in answered s e.in-RemoveEdge.is
    c.remove_edge.ensures
    (one-read (remove_ticket e.in-RemoveEdge.how) (ticketAt s) (remove-edge e)
    (sent c.remove_edge-arg-in-RemoveEdge-3-1.given))
