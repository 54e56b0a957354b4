-- `tables::are_zero` meets its contract: no bit was met and those from i on are 0 if and only if all are. Assumes
-- nothing.
use Prim.Native.Nat.{◌+◌}
use mathlib.Core.Path.{ap, ◌∙◌}
use mathlib.Core.Bool.{Bool, ◌&&◌}
use lib.Dec.{eqb}
use lib.IntN.{pos}
use lib.ListN.{get_or, drop}
use mir.Syntax.{w64}
use mir.Val.{of_z}
use lib.Bits.{bit_or}
use borrow.Author.Rules.{rules}
use Rattle.std.proofs.Math.Facts.{of_z-to_z, Fits-or, Fits-of_z}
use Rattle.lists.specs.Scans.{all_of}
use Rattle.tables.specs.Tables.{is_zero}
use Rattle.tables.proofs.Tests.{bits_tested, zero_tested}
use Rattle.tables.proofs.Scans.{rest_turn}
use Rattle.tables.proofs.are_zero.Goals as goal

pub loop-z-preserved : goal.loop-z-preserved
loop-z-preserved c =
    let t = c.args.t.now in
    let l = c.loop-z in
    let z = of_z w64 (get_or t l.z-index (pos 0)) in
    let here = of_z-to_z {w = w64} {n = l.bits-bits} l.auto.bits in
    let or = bit_or l.bits-bits z in
    let there = of_z-to_z {w = w64} {n = or} (Fits-or l.auto.bits (Fits-of_z {w = w64} {z = get_or t l.z-index (pos 0)} (search rules))) in
    rw there
    (ap (λ (b : Bool). b && all_of is_zero (drop (l.z-index + 1) t)) (bits_tested l.bits-bits z)
    ∙ rest_turn is_zero t (pos 0) l.z-index (eqb l.bits-bits 0) c.loop-z-test.true
    (zero_tested (get_or t l.z-index (pos 0)) (search rules))
    ∙ rw here at l.invariant)
