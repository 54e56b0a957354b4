-- `edit_split::split_numbers` meets its contract. Assumes nothing.
use Rattle.edit_split.proofs.split_numbers.Goals as goal

pub returns-in-New : goal.returns-in-New
returns-in-New c = rw c.in-New.is

pub returns-in-Mod : goal.returns-in-Mod
returns-in-Mod c = rw c.in-Mod.is
