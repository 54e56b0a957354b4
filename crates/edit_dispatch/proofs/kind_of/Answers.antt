-- `edit_dispatch::kind_of` meets its contract: each arm answers as its number is read, and the others are unknown.
-- Assumes nothing.
use Rattle.std.specs.Prelude.{map, Some, None, option_map}
use mathlib.Core.Path.{◌≡◌, ap, ◌∙◌}
use Prim.Native.Nat.{ℕ, suc, ◌<◌}
use lib.Dec.{lit<}
use lib.ListN.{get_or}
use mir.Syntax.{w64}
use mir.Val.{of_z}
use Rattle.edit_dispatch.specs.Shaped.{routines, kind_for, kind_sent}
use Rattle.edit_dispatch.proofs.Reading.{kind_told, kind_unknown}
use Rattle.edit_dispatch.proofs.kind_of.Lts as lts
use Rattle.edit_dispatch.proofs.kind_of.Tie as tie
use Rattle.edit_dispatch.proofs.kind_of.Reads as reads
use Rattle.edit_dispatch.proofs.kind_of.Goals as goal

-- places in the code, by their names in what is generated
abbrev Start : Type 0
Start = lts.Start tie.the-claims reads.Pre reads.Post

-- the number is a kind's
known : (s : Start) (k : ℕ) → of_z w64 s.args.z ≡ suc k → k < 14
    → option_map kind_for (get_or (map Some routines) k None) ≡ kind_sent s.args.z
known s k e l = kind_told s.ranges.z k e l

pub returns-in-1 : goal.returns-in-1
returns-in-1 c = ap Some c.numbers.ensures ∙ known c.before.before 0 c.in-1.in-1-own.keys1 (lit< tt)

pub returns-in-2 : goal.returns-in-2
returns-in-2 c = ap Some c.numbers-in-2.ensures ∙ known c.before.before 1 c.in-2.in-2-own.keys2 (lit< tt)

pub returns-in-3 : goal.returns-in-3
returns-in-3 c = ap Some c.numbers-in-3.ensures ∙ known c.before.before 2 c.in-3.in-3-own.keys3 (lit< tt)

pub returns-in-4 : goal.returns-in-4
returns-in-4 c = ap Some c.numbers_and_curve.ensures ∙ known c.before.before 3 c.in-4.in-4-own.keys4 (lit< tt)

pub returns-in-5 : goal.returns-in-5
returns-in-5 c = ap Some c.numbers-in-5.ensures ∙ known c.before.before 4 c.in-5.in-5-own.keys5 (lit< tt)

pub returns-in-6 : goal.returns-in-6
returns-in-6 c = ap Some c.numbers_and_curve-in-6.ensures ∙ known c.before.before 5 c.in-6.in-6-own.keys6 (lit< tt)

pub returns-in-7 : goal.returns-in-7
returns-in-7 c = ap Some c.numbers-in-7.ensures ∙ known c.before.before 6 c.in-7.in-7-own.keys7 (lit< tt)

pub returns-in-8 : goal.returns-in-8
returns-in-8 c = ap Some c.numbers-in-8.ensures ∙ known c.before.before 7 c.in-8.in-8-own.keys8 (lit< tt)

pub returns-in-9 : goal.returns-in-9
returns-in-9 c = ap Some c.numbers-in-9.ensures ∙ known c.before.before 8 c.in-9.in-9-own.keys9 (lit< tt)

pub returns-in-10 : goal.returns-in-10
returns-in-10 c = ap Some c.numbers-in-10.ensures ∙ known c.before.before 9 c.in-10.in-10-own.keys10 (lit< tt)

pub returns-in-11 : goal.returns-in-11
returns-in-11 c = ap Some c.numbers_and_curve-in-11.ensures ∙ known c.before.before 10 c.in-11.in-11-own.keys11 (lit< tt)

pub returns-in-12 : goal.returns-in-12
returns-in-12 c = ap Some c.numbers_and_curve-in-12.ensures ∙ known c.before.before 11 c.in-12.in-12-own.keys12 (lit< tt)

pub returns-in-13 : goal.returns-in-13
returns-in-13 c = ap Some c.numbers-in-13.ensures ∙ known c.before.before 12 c.in-13.in-13-own.keys13 (lit< tt)

pub returns-in-14 : goal.returns-in-14
returns-in-14 c = ap Some c.numbers-in-14.ensures ∙ known c.before.before 13 c.in-14.in-14-own.keys14 (lit< tt)

pub returns-in_default : goal.returns-in_default
returns-in_default c = kind_unknown c.args.z c.in_default.in_default-own.rest
