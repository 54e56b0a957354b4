-- `edit_split::end_number` meets its contract: a next number is small. Assumes nothing.
use Rattle.head.proofs.Words.{count_read, plus_fits, plus_is}
use Rattle.edit_split.proofs.end_number.Goals as goal

pub overflow_add-result : goal.overflow_add-result
overflow_add-result c = let s = c in let k = s.requires.next_edge in
    plus_fits s.args.h.next_edge k.natural k.most

pub returns-in-New : goal.returns-in-New
returns-in-New c = let s = c in let k = s.requires.next_edge in
    rw c.in-New.is (plus_is s.args.h.next_edge k.natural k.most)

pub returns-in-Mod : goal.returns-in-Mod
returns-in-Mod c = let s = c in let k = s.requires.next_edge in
    rw c.in-Mod.is (count_read s.args.h.next_edge k.natural k.most)
