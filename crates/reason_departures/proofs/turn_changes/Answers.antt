-- `reason_departures::turn_changes` meets its contract: the departures from the node are listed, and a scan of those is
-- a scan of all. Assumes nothing.
use mathlib.Core.Path.{◌≡◌, refl, sym, ap, ap₂, ◌∙◌}
use mathlib.Core.Bool.{not}
use Prim.Native.Nat.{ℕ, ◌≤◌}
use native.Mathlib.Omega.{arith}
use lib.ListN.{length, get_or, take, replicate, length-replicate, drop_of_length-le}
use lib.Seq.{length-take-le}
use mir.Syntax.{w64}
use mir.Val.{to_z, of_z}
use mir.Facts.{to_z-of_z}
use Rattle.lists.specs.Tests.{same}
use Rattle.lists.proofs.Bools.{same_eq, same_false}
use Rattle.links.specs.Linking.{departures_of}
use Rattle.links.proofs.Listed.{departures-listed}
use Rattle.reason_departures.specs.Turning.{turns_at}
use Rattle.reason_departures.proofs.Listed.{Listing, listed_any, listed-turn}
use Rattle.reason_departures.proofs.Listed.{listed_hit, listed_miss, listed_known}
use Rattle.reason_departures.proofs.turn_changes.Invariants.{changes}
use Rattle.reason_departures.proofs.turn_changes.Goals as goal
use Rattle.reason_departures.proofs.turn_changes.Goals.{After-departures_at-n}
use Rattle.reason_departures.proofs.turn_changes.Lts as lts
use Rattle.reason_departures.proofs.turn_changes.Tie as tie
use Rattle.reason_departures.proofs.turn_changes.Reads as reads

-- a place in the code, by its name in what is generated
abbrev After-clockwise-after : Type 0
After-clockwise-after =
    lts.After-clockwise2 tie.the-claims reads.Pre reads.Post goal.the-invariant-loop-p goal.the-decreases-loop-p

told : (c : After-departures_at-n) → let a = c.args in
    (c.departures_at-n.result ≤ length c.departures_at-n.new.list)
    × Listing a.edges.rows.now a.edges.count a.node (take c.departures_at-n.result c.departures_at-n.new.list)
told c =
    let a = c.args in
    let e = c.departures_at-n.ensures in
    let d = departures-listed a.edges.rows.now a.edges.count (to_z w64 (of_z w64 a.node)) (replicate {A = ℕ} 4000 0)
    (omega (arith, length-replicate {A = ℕ} 4000 0, c.requires.0)) e.0 e.1 in (
      omega (arith, d.0, d.1, length-replicate {A = ℕ} 4000 0, c.requires.0),
      record { is = d.2 ∙ ap (departures_of a.edges.rows.now a.edges.count) (to_z-of_z {w = w64} c.ranges.node) },
    )

pub slice_bounds-departures_at-end : goal.slice_bounds-departures_at-end
slice_bounds-departures_at-end c = refl

pub departures_at-n-requires : goal.departures_at-n-requires
departures_at-n-requires c = (c.requires.0, omega (arith, c.requires.0))

pub slice_bounds-listed-end : goal.slice_bounds-listed-end
slice_bounds-listed-end c = sym (length-take-le _ _ (told c.before.before).0)

pub slice_bounds-list-end : goal.slice_bounds-list-end
slice_bounds-list-end c = (told c.before).0

pub clockwise-before-requires : goal.clockwise-before-requires
clockwise-before-requires c =
    let a = c.args in
    let d = (told c.before.before.before.before.before.before.before).1 in
    let known = listed_known d a.edges.ranged a.edges.count a.c.now c.requires.1 in
    (known c.loop-p.p-index c.loop-p-test.true, known)

pub clockwise-after-requires : goal.clockwise-after-requires
clockwise-after-requires c =
    let a = c.args in
    let d = (told c.before.before.before.before.before.before.before.before.before).1 in
    let known = listed_known d a.edges.ranged a.own a.c.now c.requires.1 in
    (known c.loop-p.p-index c.loop-p-test.true, known)

-- both turns from the departure
turns : (c : After-clockwise-after) → let a = c.args in
    let e = a.edges in
    let p = get_or (take c.departures_at-n.result c.departures_at-n.new.list) c.loop-p.p-index 0 in
    same c.clockwise-before.result c.clockwise-after.result
    ≡ same (turns_at e.rows.now e.count e.count a.c.now p) (turns_at e.rows.now e.count a.own a.c.now p)
turns c =
    let a = c.args in
    let d = (told c.before.before.before.before.before.before.before.before.before).1 in
    let turn = listed-turn d c.loop-p.p-index c.loop-p-test.true in
    ap₂ same (c.clockwise-before.ensures ∙ turn a.edges.count a.c.now) (c.clockwise-after.ensures ∙ turn a.own a.c.now)

pub returns-then-before-after : goal.returns-then-before-after
returns-then-before-after c =
    let a = c.args in
    let d = (told c.before.before.before.before.before.before.before.before.before.before).1 in
    let f = changes a.edges.rows.now a.edges.count a.own a.c.now in
    sym (listed_hit d c.loop-p.p-index c.loop-p-test.true f
    (ap not (sym (turns c.before)
    ∙ same_false c.clockwise-before.result c.clockwise-after.result c.if-before-after.true)))
    ∙ c.loop-p.invariant ∙ listed_any d f

pub loop-p-preserved : goal.loop-p-preserved
loop-p-preserved c =
    let a = c.args in
    let d = (told c.before.before.before.before.before.before.before.before.before.before).1 in
    let f = changes a.edges.rows.now a.edges.count a.own a.c.now in
    sym (listed_miss d c.loop-p.p-index c.loop-p-test.true f
    (ap not (sym (turns c.before)
    ∙ same_eq c.clockwise-before.result c.clockwise-after.result c.if-before-after.false)))
    ∙ c.loop-p.invariant

pub returns : goal.returns
returns c =
    let a = c.args in
    let d = (told c.before.before.before.before).1 in
    let f = changes a.edges.rows.now a.edges.count a.own a.c.now in
    rw (drop_of_length-le _ c.loop-p-test.false) at c.loop-p.invariant ∙ listed_any d f
