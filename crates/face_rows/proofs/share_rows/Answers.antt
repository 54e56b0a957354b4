-- `face_rows::share_rows` meets its contract: the nodes shared out, and then the edges. Assumes nothing.
use mathlib.Core.Path.{ap, ◌∙◌}
use Prim.Native.Nat.{ℕ, ◌*◌}
use Rattle.lists.specs.Tables.{sweep}
use Rattle.darts.proofs.Positions.{reverse_below}
use Rattle.face_relabel.specs.Sharing.{edge_shared}
use Rattle.face_rows.proofs.Shares.{shared_after, shared_nodes_lem, shared_edges}
use Rattle.face_rows.proofs.share_rows.Goals as goal

pub share_edges-requires : goal.share_edges-requires
share_edges-requires c =
    let s = c in
    let a = s.args in
    let p = s.requires in
    let after = shared_after a.nodes.now a.n a.edges.now a.count a.s p.0 p.2 _
    c.share_nodes.ensures in
    (after, p.1, rw c.reverse.ensures (reverse_below a.count a.s.ring p.0.ring))

pub returns : goal.returns
returns c m en ee =
    let s = c in
    let a = s.args in
    let p = s.requires in
    let first = c.share_nodes in
    let second = c.share_edges in
    let eq = second.ensures ∙ ap (λ (q : ℕ). sweep
    (edge_shared first.new.nodes a.n a.edges.now a.count a.s q) a.edges.now 0 (a.count * 2))
    c.reverse.ensures in (
      shared_nodes_lem a.nodes.now a.n a.edges.now a.count a.s p.0 p.2 p.3 _ _
          first.ensures eq m en ee,
      shared_edges a.nodes.now a.n a.edges.now a.count a.s p.0 p.2 p.3 _ _
          first.ensures eq m en ee,
    )
