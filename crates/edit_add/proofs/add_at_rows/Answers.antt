-- `edit_add::add_at_rows` meets its contract: 5 or 6 is answered, and else the points left are worked on. Assumes
-- nothing.
use borrow.Author.Rules.{rules}
use mathlib.Core.Path.{◌≡◌, sym, ◌∙◌}
use mathlib.Core.List.{List}
use Prim.Native.Nat.{ℕ}
use native.Mathlib.Omega.{arith}
use lib.IntN.{ℤ, pos}
use Rattle.curves.specs.Curves.{points}
use Rattle.curve_edits.specs.declared.Line.{Line}
use Rattle.curve_edits.specs.Lines.{line_of}
use Rattle.map.specs.Limits.{PointLimit, most_points, limit_of}
use Rattle.map.specs.Reasons.{first_reason, sent_reasons, curve_in}
use Rattle.map.proofs.PointLimits.{most-fits}
use Rattle.map_rows.specs.Rows.{node_at}
use Rattle.outcomes.specs.Variants.{add_ticket}
use Rattle.outcomes.proofs.Formed.{counted}
use Rattle.outcomes.proofs.Results.{number_some, edited-handed}
use Rattle.reason_curves.proofs.Left.{ReadLine, read-line}
use Rattle.edit_add.proofs.Tickets.{add-refused, add_left}
use Rattle.edit_add.proofs.add_at_rows.Goals as goal

-- the curve as it was read, for as many points as the head records
line : (k : PointLimit) {n : ℕ} {sent : List ℤ} {l : Line} → n ≡ most_points k → 0 ≡ first_reason (sent_reasons n sent)
    → l ≡ line_of (points (curve_in sent)) → ReadLine (most_points k) l sent
line k {sent = sent} {l = l} en e = read-line k sent l (sym (rw en at e))

pub returns-in_err-line : goal.returns-in_err-line
returns-in_err-line c =
    let a = c.args in
    edited-handed a.nodes.now a.edges.now a.faces.now a.h _ _ c.from_residual.ensures.1
    (add_ticket a.how (pos (node_at a.nodes.now a.u).number) (pos (node_at a.nodes.now a.v).number) a.sent.now)
    (add-refused c.requires.0 a.how a.u a.v c.requires.1 c.requires.2 a.sent.now _ (number_some _)
    (sym (rw c.most_points.ensures at c.in_err-line.ensures).refused))

pub add_along-requires : goal.add_along-requires
add_along-requires c =
    let k = line (limit_of c.args.h.points) c.most_points.ensures c.in_ok-line.ensures.refused c.in_ok-line.ensures.read in
    (c.requires.0, c.requires.1, c.requires.2, k.left)

pub returns : goal.returns
returns c =
    let a = c.args in
    let k = line (limit_of c.args.h.points) c.most_points.ensures c.in_ok-line.ensures.refused c.in_ok-line.ensures.read in
    c.add_along.ensures ∙ add_left c.requires.0 a.how a.u a.v c.requires.1 c.requires.2 a.sent.now k.passed k.curve

pub most_points-requires : goal.most_points-requires
most_points-requires c = (counted c.requires.0).recorded

pub read_curve-requires : goal.read_curve-requires
read_curve-requires c = rw c.most_points.ensures (most-fits (limit_of c.args.h.points))

pub overflow_mul-n : goal.overflow_mul-n
overflow_mul-n c =
    let k = line (limit_of c.args.h.points) c.most_points.ensures c.in_ok-line.ensures.refused c.in_ok-line.ensures.read in
    omega (arith, k.few)

pub slice_bounds-add_along-end : goal.slice_bounds-add_along-end
slice_bounds-add_along-end c =
    let k = line (limit_of c.args.h.points) c.most_points.ensures c.in_ok-line.ensures.refused c.in_ok-line.ensures.read in
    omega (arith, k.few, k.long)
