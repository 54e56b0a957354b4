-- `reason_corners::splits_face` meets its contract. Assumes nothing.
use Rattle.std.specs.Prelude.{Option}
use Rattle.std.specs.Option.{unwrap_or}
use mathlib.Core.Path.{◌≡◌, refl, sym, ap, ap₂, ◌∙◌, subst}
use mathlib.Core.Bool.{false}
use Prim.Native.Nat.{ℕ, suc, ◌+◌, ◌*◌, ◌<◌}
use native.Mathlib.Omega.{arith}
use lib.IntN.{pos}
use Rattle.integers.specs.Signs.{sent}
use Rattle.curves.specs.Curves.{curve_of, start_way}
use Rattle.map.specs.Limits.{last_number}
use Rattle.map.specs.Links.{corner_face}
use Rattle.map.specs.Edits.{drawn, splits_face}
use Rattle.map_rows.specs.Rows.{node_at}
use Rattle.map_rows.proofs.Rows.{node_cells_lem}
use Rattle.reason_corners.specs.Drawing.{edges_numbered, start_corner, end_corner, Joined}
use Rattle.reason_corners.proofs.Ends.{corner_or, corner_below, end_below}
use Rattle.reason_corners.proofs.Drawn.{fresh-number, joined}
use Rattle.reason_corners.proofs.splits_face.Goals as goal

-- the corner at the start, which is among the positions
module _ (c : goal.After-unwrap_or-start) where
  at_start_lem : let a = c.args in
      c.unwrap_or-start.result ≡ start_corner a.edges.rows.now a.edges.count a.c.now
      (pos (node_at a.nodes.now a.u).number)
  at_start_lem =
      let a = c.args in
      c.unwrap_or-start.ensures ∙ ap (λ (r : Option ℕ). unwrap_or r (a.edges.count * 2)) c.corner.ensures
      ∙ corner_or a.edges.rows.now a.edges.count a.c.now false _ (a.edges.count * 2)
      ∙ ap (start_corner a.edges.rows.now a.edges.count a.c.now)
      (sent c.from-1.given ∙ (node_cells_lem a.nodes.now a.u c.requires.0.ranges).number)

  start-among : c.unwrap_or-start.result < c.args.edges.count * 2 + 2
  start-among =
      let a = c.args in
      rw at_start_lem (corner_below a.edges.rows.now a.edges.count a.c.now false
      (pos (node_at a.nodes.now a.u).number) (a.edges.count * 2 + 2) (a.edges.count * 2) (omega arith) (omega arith))

-- the corner at the end, which is among them too
module _ (c : goal.After-end_corner-end) where
  at_end_lem : let a = c.args in
      c.end_corner-end.result ≡ end_corner a.edges.rows.now a.edges.count a.c.now
      (pos (node_at a.nodes.now a.u).number) (pos (node_at a.nodes.now a.v).number)
  at_end_lem =
      let s = c in
      let a = s.args in
      c.end_corner-end.ensures ∙ ap₂ (end_corner a.edges.rows.now a.edges.count a.c.now)
      (sent c.from-1.given ∙ (node_cells_lem a.nodes.now a.u s.requires.0.ranges).number)
      (sent c.to-1.given ∙ (node_cells_lem a.nodes.now a.v s.requires.1.ranges).number)

  end-among : c.end_corner-end.result < c.args.edges.count * 2 + 2
  end-among =
      let a = c.args in
      rw at_end_lem (end_below a.edges.rows.now a.edges.count a.c.now (pos (node_at a.nodes.now a.u).number)
      (pos (node_at a.nodes.now a.v).number))

pub overflow_cast-start : goal.overflow_cast-start
overflow_cast-start c = omega (arith, start-among c, c.requires.2)

pub overflow_cast-end : goal.overflow_cast-end
overflow_cast-end c = omega (arith, end-among c, c.requires.2)

pub rings_differ-requires : goal.rings_differ-requires
rings_differ-requires c =
    let s = c in
    record { rows = s.args.edges.ranged; few = s.requires.2; start = start-among c.before; end = end-among c }

pub returns : goal.returns
unfolding splits_face
returns c =
    let s = c in
    let a = s.args in
    let l = a.edges.rows.now in
    let u = (node_at a.nodes.now a.u).number in
    let v = (node_at a.nodes.now a.v).number in
    let d = curve_of a.c.now in
    let m = edges_numbered l a.edges.count (suc last_number) in
    let φ = corner_face m u (start_way d) in
    let j = joined s.args.edges.ranged a.c.now m refl
    (fresh-number l a.edges.count m refl s.args.edges.ranged.rising) u v φ in
    let i = subst (λ (x : ℕ). Joined l a.edges.count x (end_corner l a.edges.count a.c.now (pos u) (pos v)) m.next.edges
    (drawn u v d φ m)) (sym (at_start_lem c.before.before)) j in
    c.rings_differ.ensures m.next.edges (drawn u v d φ m)
    (subst (λ (x : ℕ). Joined l a.edges.count c.unwrap_or-start.result x m.next.edges (drawn u v d φ m))
    (sym (at_end_lem c.before)) i)
