-- `edit_heal::healed_value` meets its contract. Assumes nothing.
use borrow.Author.Rules.{rules}
use mir.Syntax.{w64}
use mir.Val.{SFits}
use mir.Facts.{to_z-of_z}
use Rattle.edit_heal.proofs.healed_value.Goals as goal

pub returns-in-New : goal.returns-in-New
returns-in-New c =
    let f : SFits w64 c.args.h.next_edge = search rules in
    rw c.in-New.is (to_z-of_z {w = w64} f)

pub returns-in-Mod : goal.returns-in-Mod
returns-in-Mod c = rw c.in-Mod.is
