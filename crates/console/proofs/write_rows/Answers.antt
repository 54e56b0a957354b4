use Rattle.std.proofs.Common.{arith, ◌≡◌, ◌/◌, ◌+◌, ◌-◌, ◌*◌, ℕ, length, take, drop, ap, ◌∙◌, subst, add-one, to_z-of_z}
use Rattle.std.specs.Prelude.{ℤ}
use mir.Syntax.{w64}
use Rattle.tables.specs.Tables.{row_at}
use Rattle.console.specs.Texts.{tagged_text, rows_text, clamp_len}
use Rattle.console.specs.Wrote.{Wrote}
use Rattle.console.proofs.Wrote.{wrote_none, wrote_more}
use Rattle.console.proofs.write_rows.Goals as goal

pub loop-i-init : goal.loop-i-init
loop-i-init g c = wrote_none g.W.Write.contents c.args.streams.now

pub loop-i-preserved : goal.loop-i-preserved
loop-i-preserved g c =
    let l = c.loop-i in
    let a = c.args in
    let w = c.write_tagged in
    let at = l.i * a.width in
    let long : at + a.width - at ≡ a.width = omega arith in
    let row = subst (λ (n : ℕ). Wrote g.W.Write.contents l.streams w.new.streams (tagged_text a.tag (take n (drop at a.table.now)))) long w.ensures in
    rw (add-one l.i)
    (wrote_more g.W.Write.contents a.streams.now l.streams w.new.streams (rows_text a.tag a.width a.table.now l.i)
    (tagged_text a.tag (row_at a.width a.table.now l.i)) l.invariant row)

-- i has come to the count
pub returns : goal.returns
returns g c =
    let l = c.loop-i in
    let a = c.args in
    let most = length a.table.now / a.width in
    let end : l.i ≡ c.clamp-i-end.result = omega arith in
    let count = end ∙ c.clamp-i-end.ensures.0 ∙ ap (λ (z : ℤ). clamp_len z most) (to_z-of_z {w = w64} c.ranges.count) in
    subst (λ (n : ℕ). Wrote g.W.Write.contents a.streams.now l.streams (rows_text a.tag a.width a.table.now n)) count
    l.invariant
