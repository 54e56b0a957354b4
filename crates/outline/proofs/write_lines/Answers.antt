use Rattle.std.proofs.Common.{arith, ◌≡◌, ℕ, subst, add-one}
use Rattle.console.specs.Wrote.{Wrote}
use Rattle.console.proofs.Wrote.{wrote_none, wrote_more}
use Rattle.outline.specs.Lines.{line_at, lines_text}
use Rattle.outline.proofs.write_lines.Goals as goal

pub loop-i-init : goal.loop-i-init
loop-i-init g c = wrote_none g.W.Write.contents c.args.streams.now

pub loop-i-preserved : goal.loop-i-preserved
loop-i-preserved g c =
    let l = c.loop-i in
    let a = c.args in
    let w = c.write_line in
    rw (add-one l.i)
    (wrote_more g.W.Write.contents a.streams.now l.streams w.new.streams (lines_text a.list.now l.i)
    (line_at a.list.now l.i) l.invariant w.ensures)

-- i has come to the count
pub returns : goal.returns
returns g c =
    let l = c.loop-i in
    let a = c.args in
    let end : l.i ≡ a.count = omega arith in
    subst (λ (n : ℕ). Wrote g.W.Write.contents a.streams.now l.streams (lines_text a.list.now n)) end l.invariant
