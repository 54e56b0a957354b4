-- `edit_add::add_along` meets its contract: the first reason, or the edge drawn, and where it splits a face, that
-- split. Assumes nothing.
use borrow.Author.Rules.{rules}
use mathlib.Core.Path.{refl, sym}
use Rattle.integers.specs.Signs.{sent}
use Rattle.curves.specs.Curves.{curve_of}
use Rattle.map.specs.Rows.{map_of, sizes_of, lent}
use Rattle.map_rows.specs.Rows.{node_at}
use Rattle.map_laws.proofs.Reasons.{AddEdge}
use Rattle.outcomes.proofs.Formed.{unless-carried}
use Rattle.outcomes.proofs.Results.{unless-handed}
use Rattle.reason_curves.proofs.Left.{points-left}
use Rattle.edit_add.proofs.Added.{add-value, add_facts, add_drawable, drawn_splittable, joined-lent}
use Rattle.edit_add.proofs.Added.{parted-lent}
use Rattle.edit_add.proofs.Drawn.{drawn-table, drawn_unboxed}
use Rattle.edit_add.proofs.add_along.Goals as goal
use Rattle.edit_add.proofs.add_along.Goals.{then-judged, else-judged}

pub returns-in_err-judged : goal.returns-in_err-judged
returns-in_err-judged c =
    let a = c.args in
    unless-handed a.nodes.now a.edges.now a.faces.now a.h _ _ c.from_residual.ensures.1 _ _
    (sym c.in_err-judged.ensures.refused)

pub judge_add-requires : goal.judge_add-requires
judge_add-requires c = (c.requires.0, c.requires.1, c.requires.2, c.requires.3.run)

pub draw-head-requires : goal.draw-head-requires
draw-head-requires c =
    let a = c.args in
    let t = add_facts c.requires.0 a.how a.u a.v a.c.now c.requires.1 c.requires.2 (points-left c.requires.3)
    (sym c.in_ok-judged.ensures.refused) in
    add_drawable c.requires.0 a.u a.v a.c.now t c.in_ok-judged.ensures.judged
    (sent {z = c.in_ok-judged.judged.face} (search rules)) c.requires.1 c.requires.2 c.requires.3.run

pub split_face-head-requires : goal.split_face-head-requires
split_face-head-requires c =
    let a = c.args in
    let t = add_facts c.requires.0 a.how a.u a.v a.c.now c.requires.1 c.requires.2 (points-left c.requires.3)
    (sym c.in_ok-judged.ensures.refused) in
    drawn_splittable c.requires.0 a.u a.v a.c.now t c.in_ok-judged.ensures.judged
    (sent {z = c.in_ok-judged.judged.face} (search rules)) c.draw-head.ensures c.if-judged.true

pub returns : goal.returns
returns c =
    let a = c.args in
    let f = c.requires.0 in
    let clear = sym c.in_ok-judged.ensures.refused in
    let t = add_facts f a.how a.u a.v a.c.now c.requires.1 c.requires.2 (points-left c.requires.3) clear in
    let known = c.in_ok-judged.ensures.judged in
    let face = sent {z = c.in_ok-judged.judged.face} (search rules) in
    let drawn = c.draw-head.ensures in
    elim c.if-judged.branch [
      | then-judged w ↦ rw (w.nodes-is, w.edges-is, w.faces-is, w.head-is)
          (unless-carried a.nodes.now a.edges.now a.faces.now a.h _ _
          w.split_face-head.new.nodes w.split_face-head.new.edges w.split_face-head.new.faces w.split_face-head.result _
          refl clear
          (parted-lent f a.u a.v a.c.now t known face drawn w.if-judged.true
          (w.split_face-head.ensures _ (drawn_unboxed f drawn) (drawn-table f drawn)))
          (add-value f))
      | else-judged w ↦ rw (w.nodes-is, w.edges-is, w.faces-is, w.head-is)
          (unless-carried a.nodes.now a.edges.now a.faces.now a.h _ _
          c.draw-head.new.nodes c.draw-head.new.edges a.faces.now c.draw-head.result _
          refl clear (joined-lent f a.u a.v a.c.now t known face drawn w.if-judged.false)
          (add-value f))
    ]
