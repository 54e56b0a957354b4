-- `reason_corners::drawn_next` meets its contract. Assumes nothing.
use Prim.Native.Nat.{◌+◌, ◌*◌, ◌<◌}
use native.Mathlib.Omega.{arith}
use Rattle.reason_corners.proofs.Places.{instead_below}
use Rattle.reason_corners.proofs.Walked.{follows_forward, follows_backward, follows_other}
use Rattle.reason_corners.proofs.drawn_next.Goals as goal

pub returns-then-p-own : goal.returns-then-p-own
returns-then-p-own c = let s = c in
    (s.requires.0.end, λ new m j. follows_forward s.requires.0.rows j s.args.p c.if-p-own.true)

pub returns-then-p-own-2 : goal.returns-then-p-own-2
returns-then-p-own-2 c =
    let s = c in
    let a = s.args in
    let below : c.instead.result < a.edges.count * 2 + 2 =
    rw c.instead.ensures (instead_below (a.edges.count * 2 + 2) a.k.start a.k.end (a.edges.count * 2 + 1)
    s.requires.0.start (omega arith)) in (
      below,
      λ new m j. follows_backward s.requires.0.rows j s.requires.0.start s.requires.0.end a.p c.instead.result
          c.if-p-own-2.true c.instead.ensures,
    )

pub returns : goal.returns
returns c =
    let s = c in
    let a = s.args in
    let q = c.next_position in
    let i = c.instead-q in
    let x = c.if-p-own.false in
    let y = c.if-p-own-2.false in
    let hq = q.ensures.0 in
    let hp : a.p < a.edges.count * 2 = let h = s.requires.1 in omega arith in
    let mid : i.result < a.edges.count * 2 + 2 =
    rw i.ensures (instead_below (a.edges.count * 2 + 2) q.result a.k.start (a.edges.count * 2)
    (omega arith) (omega arith)) in
    let below : c.instead-2.result < a.edges.count * 2 + 2 =
    rw c.instead-2.ensures (instead_below (a.edges.count * 2 + 2) i.result a.k.end (a.edges.count * 2 + 1) mid
    (omega arith)) in (
      below,
      λ new m j. follows_other s.requires.0.rows j s.requires.0.start s.requires.0.end a.p q.result i.result
          c.instead-2.result hp hq q.ensures.1 i.ensures c.instead-2.ensures,
    )
