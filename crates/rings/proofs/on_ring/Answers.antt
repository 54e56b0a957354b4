-- `rings::on_ring` meets its contract: what is left of the ring meets the position if the ring does. Assumes nothing.
use mathlib.Core.Path.{sym, ap, ◌∙◌}
use mathlib.Core.List.{List}
use native.Mathlib.Omega.{arith}
use Rattle.planar_maps.specs.Map.{Dart}
use Rattle.map.specs.Darts.{among}
use Rattle.darts.specs.Positions.{dart_at}
use Rattle.rings.proofs.Walks.{ring-steps, Follows, steps-end, met_here, met_on, met_last}
use Rattle.rings.proofs.on_ring.Lts as lts
use Rattle.rings.proofs.on_ring.Tie as tie
use Rattle.rings.proofs.on_ring.Reads as reads
use Rattle.rings.proofs.on_ring.Goals as goal

-- places in the code, by their names in what is generated
abbrev After-next_position-c : Type 0
After-next_position-c = lts.After-next_position tie.the-claims reads.Pre reads.Post goal.the-invariant-loop-k goal.the-decreases-loop-k

pub overflow_mul-k-end : goal.overflow_mul-k-end
overflow_mul-k-end c = omega (arith, c.requires.0)

pub loop-k-init : goal.loop-k-init
loop-k-init c = let a = c.args in (
  c.requires.1,
  ap (λ (r : List Dart). among r (dart_at a.edges.rows.now a.q))
      (sym (ring-steps a.edges.rows.now a.edges.count a.p)),
)

pub returns-then-c-q : goal.returns-then-c-q
returns-then-c-q c =
    let s = c in
    let w = c.loop-k in
    sym (met_here s.args.edges.ranged s.args.p s.requires.1 w.k w.c c.loop-k-test.true s.args.q
    c.if-c-q.true) ∙ w.invariant.1

follows : (c : After-next_position-c)
    → Follows c.args.edges.rows.now c.args.edges.count
    c.loop-k.c c.next_position-c.result
follows c = record { below = c.next_position-c.ensures.0; is = c.next_position-c.ensures.1 }

pub returns-then-c-first : goal.returns-then-c-first
returns-then-c-first c =
    let b = c in
    let s = b in
    let w = b.loop-k in
    sym (met_last s.args.edges.ranged s.args.p s.requires.1 w.k w.c b.loop-k-test.true
    c.next_position-c.result (follows c.before) w.invariant.0 s.args.q s.requires.2 b.if-c-q.false
    c.if-c-first.true) ∙ w.invariant.1

pub loop-k-preserved : goal.loop-k-preserved
loop-k-preserved c =
    let b = c in
    let s = b in
    let w = b.loop-k in
    let f = follows c.before in (
      f.below,
      sym (met_on s.args.edges.ranged s.args.p s.requires.1 w.k w.c b.loop-k-test.true
          c.next_position-c.result f w.invariant.0 s.args.q s.requires.2 b.if-c-q.false c.if-c-first.false)
          ∙ w.invariant.1,
    )

pub returns : goal.returns
returns c =
    let s = c in
    let w = c.loop-k in
    ap (λ (r : List Dart). among r (dart_at s.args.edges.rows.now s.args.q))
    (sym (steps-end s.args.edges.ranged s.args.p s.requires.1 w.k w.c c.loop-k-test.false)) ∙ w.invariant.1

pub overflow_cast-first : goal.overflow_cast-first
overflow_cast-first c = omega (arith, c.requires.0, c.requires.1)

pub next_position-c-requires : goal.next_position-c-requires
next_position-c-requires c = let s = c in (s.args.edges.ranged, s.requires.0, s.loop-k.invariant.0)
