-- `edit_nodes::check_move` meets its contract: each test answers its reason, in order. Assumes nothing.
use mathlib.Core.Path.{◌≡◌, sym, ap, ◌∙◌}
use mathlib.Core.Bool.{Bool, not}
use mathlib.Core.List.{List}
use Prim.Native.Nat.{ℕ}
use lib.IntN.{ℤ}
use Rattle.plane.specs.declared.Point.{Point}
use Rattle.map.proofs.Reasons.{first_hit, first_miss, first_none}
use Rattle.map_rows.proofs.Rows.{node-row_of}
use Rattle.outcomes.proofs.Formed.{node_rows_lem, edge_rows_lem, counted}
use Rattle.head.proofs.Words.{nodes_natural, nodes_read, edges_natural, edges_read}
use Rattle.edit_nodes.specs.Parts.{point_taken}
use Rattle.edit_nodes.proofs.Told.{range_told, point_passed}
use Rattle.edit_nodes.proofs.check_move.Goals as goal

-- the point that was looked for
taken : (nodes edges : List ℤ) (own : ℕ) {n k a b : ℕ} {p q : Point} {r v : Bool} → r ≡ point_taken nodes n edges k own p
    → n ≡ a → k ≡ b → p ≡ q → r ≡ v → point_taken nodes a edges b own q ≡ v
taken nodes edges own e en ek ep ev = sym (e ∙ (λ j. point_taken nodes (en j) edges (ek j) own (ep j))) ∙ ev

pub returns-then-not-in_range : goal.returns-then-not-in_range
returns-then-not-in_range c =
    sym (first_hit 5 _ _ (range_told c.ranges.x c.ranges.y c.in_range.ensures c.if-not-in_range.true))

pub returns-then-not-is_isolated : goal.returns-then-not-is_isolated
returns-then-not-is_isolated c =
    sym (first_miss 5 _ _ (range_told c.ranges.x c.ranges.y c.in_range.ensures c.if-not-in_range.false)
    ∙ first_hit 9 _ _ (ap not (sym c.is_isolated.ensures ∙ c.if-not-is_isolated.true)))

pub returns-then-point_is_taken : goal.returns-then-point_is_taken
returns-then-point_is_taken c =
    let k = counted c.requires.0 in
    sym (first_miss 5 _ _ (range_told c.ranges.x c.ranges.y c.in_range.ensures c.if-not-in_range.false)
    ∙ first_miss 9 _ _ (ap not (sym c.is_isolated.ensures ∙ c.if-not-is_isolated.false))
    ∙ first_hit 10 _ _ (taken c.args.nodes.now c.args.edges.now c.args.i c.point_is_taken.ensures
    (nodes_read k c.to_usize.ensures)
    (edges_read k c.to_usize-2.ensures) (point_passed c.ranges.x c.ranges.y c.point_of.ensures.0)
    c.if-point_is_taken.true))

pub returns : goal.returns
returns c =
    let k = counted c.requires.0 in
    sym (first_miss 5 _ _ (range_told c.ranges.x c.ranges.y c.in_range.ensures c.if-not-in_range.false)
    ∙ first_miss 9 _ _ (ap not (sym c.is_isolated.ensures ∙ c.if-not-is_isolated.false))
    ∙ first_miss 10 _ _ (taken c.args.nodes.now c.args.edges.now c.args.i c.point_is_taken.ensures
    (nodes_read k c.to_usize.ensures)
    (edges_read k c.to_usize-2.ensures) (point_passed c.ranges.x c.ranges.y c.point_of.ensures.0)
    c.if-point_is_taken.false) ∙ first_none)

pub is_isolated-requires : goal.is_isolated-requires
is_isolated-requires c = node-row_of (node_rows_lem c.requires.0) c.args.i c.requires.1

pub to_usize-requires : goal.to_usize-requires
to_usize-requires c = nodes_natural (counted c.requires.0)

pub to_usize-requires-2 : goal.to_usize-requires-2
to_usize-requires-2 c = edges_natural (counted c.requires.0)

pub invariant_of-placed : goal.invariant_of-placed
invariant_of-placed c =
    record { ranged = rw (nodes_read (counted c.requires.0) c.to_usize.ensures) (node_rows_lem c.requires.0) }

pub invariant_of-drawn : goal.invariant_of-drawn
invariant_of-drawn c =
    record { ranged = rw (edges_read (counted c.requires.0) c.to_usize-2.ensures) (edge_rows_lem c.requires.0) }
