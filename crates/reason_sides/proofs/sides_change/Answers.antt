-- `reason_sides::sides_change` meets its contract: where one ring is on both sides nothing changes; else it is an area,
-- a node or a ring on another piece that tells. Assumes nothing.
use mathlib.Core.Path.{◌≡◌, refl, sym, ap, ◌∙◌}
use mathlib.Core.Bool.{Bool, true, false, not, ◌||◌}
use Rattle.map_rows.proofs.Rows.{edge-row_of}
use Rattle.head.proofs.Words.{nodes_natural, nodes_read, edges_natural, edges_read}
use Rattle.outcomes.proofs.Formed.{counted}
use Rattle.reason_sides.proofs.Sides.{ended, one_side, areas_change, node_passed, other_passed, two_sides}
use Rattle.reason_sides.proofs.sides_change.Goals as goal
use Rattle.reason_sides.proofs.sides_change.Goals.{then-areas_change, else-areas_change}

pub on_one_ring-requires : goal.on_one_ring-requires
on_one_ring-requires c = let p = c.requires in (p.0, p.1)

pub areas_change-requires : goal.areas_change-requires
areas_change-requires c =
    let n = edges_read (counted c.requires.0) c.to_usize-e.ensures in
    let t = ended c.requires.0 in
    (rw n t.few_edges, rw n c.requires.1, c.requires.2)

pub node_passed-requires : goal.node_passed-requires
node_passed-requires c = (c.curve_of.ensures.0, c.requires.2)

pub other_piece_passed-requires : goal.other_piece_passed-requires
other_piece_passed-requires c =
    let k = counted c.requires.0 in
    let n = nodes_read k c.to_usize-n.ensures in
    let e = edges_read k c.to_usize-e.ensures in
    (rw (n, e) (ended c.requires.0), rw e c.requires.1, c.requires.2)

-- the first two tests by what each answered, and all three
then_told : {p v a : Bool} → p ≡ a → p ≡ true → v ≡ p → (b : Bool) → v ≡ a || b
then_told ep t ev b = ev ∙ t ∙ ap (λ (x : Bool). x || b) (sym t ∙ ep)

else_told : {p q v a b : Bool} → p ≡ a → q ≡ b → p ≡ false → v ≡ q → v ≡ a || b
else_told {b = b} ep eq f ev = ev ∙ eq ∙ ap (λ (x : Bool). x || b) (sym f ∙ ep)

in_turn : (a b c : Bool) → a || (b || c) ≡ a || b || c
in_turn true b c = refl
in_turn false b c = refl

pub returns-then-node_passed : goal.returns-then-node_passed
returns-then-node_passed c =
    let f = c.requires.0 in
    let i = c.args.i in
    let new = c.args.c.now in
    let n = nodes_read (counted f) c.to_usize-n.ensures in
    let areas = rw (edges_read (counted f) c.to_usize-e.ensures) at c.areas_change.ensures in
    let both : c.if-areas_change.value ≡ areas_change f i c.requires.1 new || node_passed f i c.requires.1 new =
    elim c.if-areas_change.branch [
      | then-areas_change w ↦ then_told areas w.if-areas_change.true w.value-is _
      | else-areas_change w ↦ else_told areas (rw (n, w.curve_of.ensures.1) at w.node_passed.ensures)
          w.if-areas_change.false w.value-is
    ] in
    let all = two_sides f i c.requires.1 new (sym c.if-not-on_one_ring.ensures)
    ∙ in_turn (areas_change f i c.requires.1 new) (node_passed f i c.requires.1 new) (other_passed f i c.requires.1 new) in
    c.if-node_passed.true ∙ sym (all
    ∙ ap (λ (x : Bool). x || other_passed f i c.requires.1 new) (sym both ∙ c.if-node_passed.true))

pub returns-else-node_passed : goal.returns-else-node_passed
returns-else-node_passed c =
    let f = c.requires.0 in
    let i = c.args.i in
    let new = c.args.c.now in
    let n = nodes_read (counted f) c.to_usize-n.ensures in
    let areas = rw (edges_read (counted f) c.to_usize-e.ensures) at c.areas_change.ensures in
    let both : c.if-areas_change.value ≡ areas_change f i c.requires.1 new || node_passed f i c.requires.1 new =
    elim c.if-areas_change.branch [
      | then-areas_change w ↦ then_told areas w.if-areas_change.true w.value-is _
      | else-areas_change w ↦ else_told areas (rw (n, w.curve_of.ensures.1) at w.node_passed.ensures)
          w.if-areas_change.false w.value-is
    ] in
    let all = two_sides f i c.requires.1 new (sym c.if-not-on_one_ring.ensures)
    ∙ in_turn (areas_change f i c.requires.1 new) (node_passed f i c.requires.1 new) (other_passed f i c.requires.1 new) in
    rw (edges_read (counted f) c.to_usize-e.ensures) at c.other_piece_passed.ensures
    ∙ sym (all ∙ ap (λ (x : Bool). x || other_passed f i c.requires.1 new) (sym both ∙ c.if-node_passed.false))

pub returns-else-not-on_one_ring : goal.returns-else-not-on_one_ring
returns-else-not-on_one_ring c =
    ap not c.if-not-on_one_ring.false
    ∙ sym (one_side c.requires.0 c.args.i c.requires.1 c.args.c.now (sym c.if-not-on_one_ring.ensures))

pub to_usize-n-requires : goal.to_usize-n-requires
to_usize-n-requires c = nodes_natural (counted c.requires.0)

pub to_usize-e-requires : goal.to_usize-e-requires
to_usize-e-requires c = edges_natural (counted c.requires.0)

pub curve_of-requires : goal.curve_of-requires
curve_of-requires c = let s = c in
    edge-row_of (ended s.requires.0).edges _ s.requires.1

pub invariant_of-placed : goal.invariant_of-placed
invariant_of-placed c = record {
  ranged = rw (nodes_read (counted c.requires.0) c.to_usize-n.ensures) (ended c.requires.0).nodes;
}

pub invariant_of-drawn : goal.invariant_of-drawn
invariant_of-drawn c = record {
  ranged = rw (edges_read (counted c.requires.0) c.to_usize-e.ensures) (ended c.requires.0).edges;
}
