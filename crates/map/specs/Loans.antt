-- What is lent, as the loans of a call have it: contracts read tables at entry and at exit by it.
use Rattle.std.specs.Prelude.{List, ℤ}
use Rattle.map.specs.declared.Head.{Head}
use Rattle.map.specs.Rows.{Lent, lent}

-- a table, as it is lent at the time
abbrev pub Table : Type 0
Table = List ℤ

abbrev pub lent_now : Table → Table → Table → Head → Lent
lent_now nodes edges faces h = lent nodes edges faces h
