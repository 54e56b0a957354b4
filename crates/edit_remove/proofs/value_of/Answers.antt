-- `edit_remove::value_of` meets its contract. Assumes nothing.
use borrow.Author.Rules.{rules}
use mathlib.Core.Path.{refl}
use mir.Syntax.{w64}
use mir.Facts.{to_z-of_z}
use Rattle.edit_remove.proofs.value_of.Goals as goal

pub returns-in-New : goal.returns-in-New
returns-in-New c = rw c.in-New.is (to_z-of_z {w = w64} c.ranges.face)

pub returns-in-Mod : goal.returns-in-Mod
returns-in-Mod c = rw c.in-Mod.is refl
