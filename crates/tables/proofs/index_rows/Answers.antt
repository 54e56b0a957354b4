-- `tables::index_rows` meets its contract: row i lies in the table, the index keeps its length, and the rows that are
-- left do the rest. Assumes nothing.
use borrow.Author.Rules.{sfits_of}
use Prim.Native.Nat.{ℕ, ◌+◌, ◌*◌, ◌-◌, ◌%◌}
use mathlib.Core.Path.{◌≡◌, sym, ap, ◌∙◌}
use native.Mathlib.Omega.{arith}
use lib.IntN.{pos}
use lib.ListN.{get_or, set, length-set}
use mir.Syntax.{w64}
use mir.Facts.{to_z-of_z}
use Rattle.lists.specs.Tables.{sweep}
use Rattle.lists.proofs.Scans.{sweep_step}
use Rattle.tables.specs.Tables.{last_bits, indexed}
use Rattle.tables.proofs.index_rows.Goals as goal

pub loop-i-preserved : goal.loop-i-preserved
loop-i-preserved c =
    let l = c.loop-i in
    let a = c.args in
    let g = indexed a.w a.t.now in
    let z = get_or a.t.now (l.i * a.w) (pos 0) in
    let e : c.last_bits.result ≡ last_bits z =
    c.last_bits.ensures.0 ∙ ap last_bits (to_z-of_z {w = w64} {z = z} (sfits_of c.last_bits-arg-1.given)) in (
      omega arith,
      simp length-set l.invariant.1,
      ap (λ (k : ℕ). sweep g (set l.index k (l.i % 65536)) (l.i + 1) (a.count - (l.i + 1))) e
          ∙ sym (sweep_step g l.index l.i a.count c.loop-i-test.true) ∙ l.invariant.2,
    )
