-- `head::changed` meets its contract. Assumes nothing.
use borrow.Author.Rules.{rules}
use mathlib.Core.Path.{◌≡◌, ◌∙◌}
use Prim.Native.Nat.{◌+◌}
use native.Mathlib.Nat.{sub-zero}
use lib.Dec.{lit≤}
use lib.IntN.{nat_abs}
use mir.Syntax.{w64}
use mir.Val.{to_z, of_z}
use Rattle.head.specs.Heads.{changed_head}
use Rattle.integers.specs.Signs.{sent}
use Rattle.head.proofs.Heads.{wider}
use Rattle.head.proofs.changed.Goals as goal

pub shifted-requires : goal.shifted-requires
shifted-requires c =
    let s = c in
    let e : to_z w64 (of_z w64 s.args.h.nodes) ≡ s.args.h.nodes = search rules in
    rw e (wider (lit≤ tt) s.requires.counted.nodes, s.requires.few_more.nodes, s.requires.nodes)

pub shifted-requires-2 : goal.shifted-requires-2
shifted-requires-2 c =
    let s = c in
    let e : to_z w64 (of_z w64 s.args.h.edges) ≡ s.args.h.edges = search rules in
    rw e (wider (lit≤ tt) s.requires.counted.edges, s.requires.few_more.edges, s.requires.edges)

pub shifted-requires-3 : goal.shifted-requires-3
shifted-requires-3 c =
    let s = c in
    let e : to_z w64 (of_z w64 s.args.h.faces) ≡ s.args.h.faces = search rules in
    rw e (wider (lit≤ tt) s.requires.counted.faces, s.requires.few_more.faces, s.requires.faces)

pub returns : goal.returns
unfolding changed_head
returns c =
    let h = c.args.h in
    let g = c.args.given in
    let n : to_z w64 (of_z w64 h.nodes) ≡ h.nodes = search rules in
    let e : to_z w64 (of_z w64 h.edges) ≡ h.edges = search rules in
    let f : to_z w64 (of_z w64 h.faces) ≡ h.faces = search rules in
    let i : to_z w64 (of_z w64 h.next_node) ≡ h.next_node = search rules in
    let j : to_z w64 (of_z w64 h.next_edge) ≡ h.next_edge = search rules in
    let k : to_z w64 (of_z w64 h.next_face) ≡ h.next_face = search rules in
    let l : to_z w64 (of_z w64 h.points) ≡ h.points = search rules in
    let a = c.shifted in
    let b = c.shifted-2 in
    let d = c.shifted-3 in
    let p = c.shifted-4 in
    let q = c.shifted-5 in
    let r = c.shifted-6 in
    rw (
      sent a.type_inv ∙ a.ensures,
      sent b.type_inv ∙ b.ensures,
      sent d.type_inv ∙ d.ensures,
      sent p.type_inv ∙ p.ensures,
      sent q.type_inv ∙ q.ensures,
      sent r.type_inv ∙ r.ensures,
      n,
      e,
      f,
      i,
      j,
      k,
      l,
      sub-zero (nat_abs h.next_node + g.nodes),
      sub-zero (nat_abs h.next_edge + g.edges),
      sub-zero (nat_abs h.next_face + g.faces),
    )
