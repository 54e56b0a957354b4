-- `reason_departures::order_changes` meets its contract. Assumes nothing.
use borrow.Author.Rules.{sfits_of}
use mathlib.Core.Path.{◌≡◌, refl, sym, ap, ◌∙◌}
use mathlib.Core.Bool.{Bool, not, ◌&&◌, ◌||◌}
use mathlib.Core.List.{List}
use Prim.Native.Nat.{ℕ}
use lib.IntN.{ℤ, pos}
use mir.Syntax.{w64}
use mir.Facts.{to_z-of_z}
use Rattle.lists.specs.Tests.{same}
use Rattle.lists.specs.Scans.{any_of}
use Rattle.map.specs.Rows.{edge}
use Rattle.map_rows.specs.Rows.{edge_at, edge_map}
use Rattle.links.specs.Linking.{positions, leaves_node}
use Rattle.reason_departures.specs.Turning.{turns_at}
use Rattle.reason_departures.proofs.Ends.{start_cell, end-cell}
use Rattle.reason_departures.proofs.Turns.{order_is}
use Rattle.reason_departures.proofs.order_changes.Lts as lts
use Rattle.reason_departures.proofs.order_changes.Tie as tie
use Rattle.reason_departures.proofs.order_changes.Reads as reads
use Rattle.reason_departures.proofs.order_changes.Goals as goal

-- places in the code, by their names in what is generated
abbrev After-turn_changes : Type 0
After-turn_changes = lts.After-turn_changes tie.the-claims reads.Pre reads.Post

-- the tests at the two ends, in the order's terms
atNode : List ℤ → ℕ → ℕ → List ℤ → ℤ → Bool
atNode l n own c node = any_of (λ p. leaves_node l node p && not (same (turns_at l n n c p) (turns_at l n own c p)))
    (positions n)

start : (c : After-turn_changes)
    → (let a = c.args in c.turn_changes.result
    ≡ atNode a.edges.rows.now a.edges.count a.own a.c.now
    (pos (edge (edge_map a.edges.rows.now a.edges.count) (edge_at a.edges.rows.now a.own).number).start))
unfolding atNode
start c =
    let s = c in
    let a = s.args in
    c.turn_changes.ensures
    ∙ ap (atNode a.edges.rows.now a.edges.count a.own a.c.now)
    (to_z-of_z {w = w64} (sfits_of c.u-1.given) ∙ start_cell a.edges.ranged a.own s.requires.1)

pub returns-then-turn_changes : goal.returns-then-turn_changes
unfolding atNode
returns-then-turn_changes c =
    let s = c in
    let a = s.args in
    let l = a.edges.rows.now in
    let y = atNode l a.edges.count a.own a.c.now
    (pos (edge (edge_map l a.edges.count) (edge_at l a.own).number).end) in
    c.if-turn_changes.true ∙ ap (λ (b : Bool). b || y) (sym c.if-turn_changes.true)
    ∙ order_is a.edges.ranged a.own s.requires.1 a.c.now c.turn_changes.result y (start c.before) refl

pub returns-else-turn_changes : goal.returns-else-turn_changes
unfolding atNode
returns-else-turn_changes c =
    let s = c in
    let a = s.args in
    let l = a.edges.rows.now in
    let y = c.turn_changes-else-turn_changes.result in
    let end = c.turn_changes-else-turn_changes.ensures
    ∙ ap (atNode l a.edges.count a.own a.c.now)
    (to_z-of_z {w = w64} (sfits_of c.v-1.given) ∙ end-cell a.edges.ranged a.own s.requires.1) in
    ap (λ (b : Bool). b || y) (sym c.if-turn_changes.false)
    ∙ order_is a.edges.ranged a.own s.requires.1 a.c.now c.turn_changes.result y
    (start c.before.before) end
