-- `rings::encloses` meets its contract: what is counted, with what is left of the ring, is the ring's. Assumes nothing.
use mathlib.Core.Path.{◌≡◌, ap, ◌∙◌}
use mathlib.Core.Bool.{Bool, not, beq}
use Prim.Native.Nat.{◌+◌, ◌*◌, ◌-◌, ◌/◌}
use native.Mathlib.Omega.{arith}
use Rattle.lists.specs.Tests.{◌⊕◌}
use Rattle.curves.specs.Curves.{Curve}
use Rattle.curves.specs.Measures.{odd_below}
use Rattle.map_rows.specs.Rows.{edge_at}
use Rattle.map_rows.proofs.Rows.{edge-row_of}
use Rattle.rings.proofs.Walks.{steps}
use Rattle.rings.proofs.Sums.{odd_left, odd_start, odd_on, odd_last, odd-end}
use Rattle.rings.proofs.encloses.Goals as goal

pub overflow_mul-k-end : goal.overflow_mul-k-end
overflow_mul-k-end c = omega (arith, c.args.edges.ranged.fits)

pub loop-k-init : goal.loop-k-init
loop-k-init c = let a = c.args in (c.requires.1, odd_start a.edges.rows.now a.edges.count a.q a.p)

pub curve_of-requires : goal.curve_of-requires
curve_of-requires c = edge-row_of c.args.edges.ranged (c.loop-k.c / 2)
    (omega (arith, c.loop-k.invariant.0))

-- what the curve of the row answered
told : (c : goal.After-next_position-arg-1) → c.odd_below-odd.result
    ≡ odd_below (edge_at c.args.edges.rows.now
    (c.loop-k.c / 2)).curve c.args.q
told c = c.odd_below-odd.ensures ∙ ap (λ (k : Curve). odd_below k c.args.q)
    c.curve_of.ensures.1

pub returns-then-c-first : goal.returns-then-c-first
returns-then-c-first c =
    let b = c in
    let s = b in
    let w = b.loop-k in
    let n = c.next_position-c in
    ap (λ (o : Bool). not (beq w.odd o)) (told c.before.before)
    ∙ odd_last s.args.edges.ranged s.args.p s.requires.1 w.k w.c s.args.q w.odd w.invariant.1 w.invariant.0
    b.loop-k-test.true n.result (record { below = n.ensures.0; is = n.ensures.1 }) c.if-c-first.true

pub loop-k-preserved : goal.loop-k-preserved
loop-k-preserved c =
    let b = c in
    let s = b in
    let w = b.loop-k in
    let n = c.next_position-c in (
      n.ensures.0,
      ap (λ (o : Bool). not (beq w.odd o) ⊕ odd_left s.args.edges.rows.now s.args.edges.count s.args.q
          (steps s.args.edges.rows.now s.args.edges.count s.args.p (s.args.edges.count * 2 - (w.k + 1)) n.result))
          (told c.before.before)
          ∙ odd_on s.args.edges.ranged s.args.p s.requires.1 w.k w.c s.args.q w.odd w.invariant.1 w.invariant.0
          b.loop-k-test.true n.result (record { below = n.ensures.0; is = n.ensures.1 }) c.if-c-first.false,
    )

pub returns : goal.returns
returns c =
    let s = c in
    let w = c.loop-k in
    odd-end s.args.edges.ranged s.args.p s.requires.1 w.k w.c s.args.q w.odd w.invariant.1 c.loop-k-test.false

pub overflow_cast-first : goal.overflow_cast-first
overflow_cast-first c = omega (arith, c.requires.0, c.requires.1)

pub odd_below-odd-requires : goal.odd_below-odd-requires
odd_below-odd-requires c = (c.curve_of.ensures.0, c.requires.2)

pub next_position-c-requires : goal.next_position-c-requires
next_position-c-requires c = let s = c in (s.args.edges.ranged, s.requires.0, s.loop-k.invariant.0)
