-- `edit_isolated::add_at_rows` meets its contract: 5 and 6 go by the points sent, and the rest by what is left of them.
-- Assumes nothing.
use mathlib.Core.Path.{◌≡◌, sym, ap, ◌∙◌}
use mathlib.Core.List.{List}
use Prim.Native.Nat.{ℕ}
use native.Mathlib.Omega.{arith}
use lib.IntN.{ℤ, pos}
use Rattle.curves.specs.Curves.{points}
use Rattle.curve_edits.specs.declared.Line.{Line}
use Rattle.curve_edits.specs.Lines.{line_of}
use Rattle.map.specs.Limits.{PointLimit, most_points, limit_of}
use Rattle.map.specs.Reasons.{first_reason, sent_reasons, curve_in}
use Rattle.map.specs.Rows.{lent}
use Rattle.map.specs.Tickets.{AddIsoEdge}
use Rattle.map_rows.specs.Rows.{node_at}
use Rattle.map.proofs.PointLimits.{most-fits}
use Rattle.reason_curves.proofs.Left.{ReadLine, read-line}
use Rattle.outcomes.proofs.Formed.{counted}
use Rattle.outcomes.proofs.Results.{number_some, edited-handed}
use Rattle.edit_isolated.specs.Isolated.{isolated_along}
use Rattle.edit_isolated.proofs.Added.{add-refused, add_left}
use Rattle.edit_isolated.proofs.add_at_rows.Goals as goal

-- what is left of the points sent, for as many as the head records
left : (k : PointLimit) (sent : List ℤ) (l : Line) {n : ℕ} → n ≡ most_points k
    → 0 ≡ first_reason (sent_reasons n sent) → l ≡ line_of (points (curve_in sent)) → ReadLine (most_points k) l sent
left k sent l en e = read-line k sent l (sym (e ∙ ap (λ (n : ℕ). first_reason (sent_reasons n sent)) en))

pub returns-in_err-line : goal.returns-in_err-line
returns-in_err-line c =
    let a = c.args in
    let p = c.requires in
    edited-handed a.nodes.now a.edges.now a.faces.now a.h _ _ c.from_residual.ensures.1
    (AddIsoEdge (pos (node_at a.nodes.now a.u).number) (pos (node_at a.nodes.now a.v).number) a.sent.now)
    (add-refused p.0 a.u a.v p.1 p.2 a.sent.now _ (number_some c.in_err-line.field-0.0)
    (sym (c.in_err-line.ensures.refused
    ∙ ap (λ (n : ℕ). first_reason (sent_reasons n a.sent.now)) c.most_points.ensures)))

pub returns : goal.returns
returns c =
    let a = c.args in
    let p = c.requires in
    let r = c.in_ok-line.ensures in
    let l = left (limit_of a.h.points) a.sent.now c.in_ok-line.line c.most_points.ensures r.refused r.read in
    c.add_along.ensures
    ∙ ap (isolated_along (lent a.nodes.now a.edges.now a.faces.now a.h)
    (node_at a.nodes.now a.u).number (node_at a.nodes.now a.v).number) l.curve
    ∙ add_left p.0 a.u a.v p.1 p.2 a.sent.now l.passed

pub overflow_mul-n : goal.overflow_mul-n
overflow_mul-n c =
    let r = c.in_ok-line.ensures in
    let l = left (limit_of c.args.h.points) c.args.sent.now c.in_ok-line.line c.most_points.ensures r.refused r.read in
    omega (arith, l.few)

pub slice_bounds-add_along-end : goal.slice_bounds-add_along-end
slice_bounds-add_along-end c =
    let r = c.in_ok-line.ensures in
    let l = left (limit_of c.args.h.points) c.args.sent.now c.in_ok-line.line c.most_points.ensures r.refused r.read in
    omega (arith, l.few, l.long)

pub add_along-requires : goal.add_along-requires
add_along-requires c =
    let p = c.requires in
    let r = c.in_ok-line.ensures in
    let l = left (limit_of c.args.h.points) c.args.sent.now c.in_ok-line.line c.most_points.ensures r.refused r.read in
    (p.0, p.1, p.2, l.left.run)

pub most_points-requires : goal.most_points-requires
most_points-requires c = (counted c.requires.0).recorded

pub read_curve-requires : goal.read_curve-requires
read_curve-requires c = rw c.most_points.ensures (most-fits (limit_of c.args.h.points))
