-- `tables::are_zero` meets its contract: no bit was met so far, and the rest is 0, if and only if all is. Assumes nothing.
use mathlib.Core.Path.{◌≡◌}
use mathlib.Core.Bool.{◌&&◌}
use lib.Dec.{eqb}
use lib.ListN.{drop}
use mir.Syntax.{w64}
use mir.Val.{of_z}
use Rattle.lists.specs.Scans.{all_of}
use Rattle.tables.specs.Tables.{is_zero}
use Rattle.tables.proofs.are_zero.Given as goal

abbrev pub invariant-loop-z : goal.invariant-loop-z
invariant-loop-z l = (eqb (of_z w64 l.bits) 0 && all_of is_zero (drop l.z-index l.t)) ≡ all_of is_zero l.t
