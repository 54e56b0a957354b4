-- The kind that one function carries out in either variant, and the number of an edge in each.
use Rattle.std.specs.Prelude.{cond, List, ℕ, ℤ, nat_abs}
use Rattle.map.specs.declared.Head.{Head}
use Rattle.map.specs.declared.Variant.{Variant}
use Rattle.map.specs.declared.Variant.TheVariants.{New, Mod}
use Rattle.map.specs.Edits.{is_mod}
use Rattle.map.specs.Tickets.{Ticket, NewEdgesSplit, ModEdgeSplit, NewEdgeHeal, ModEdgeHeal}
use Rattle.map.specs.Tickets.{AddEdgeNewFaces, AddEdgeModFace, RemEdgeNewFace, RemEdgeModFace}

-- kinds 7 and 8
abbrev pub split_ticket : Variant → ℤ → ℤ → ℤ → Ticket
split_ticket New e x y = NewEdgesSplit e x y
split_ticket Mod e x y = ModEdgeSplit e x y

-- kinds 9 and 10
abbrev pub heal_ticket : Variant → ℤ → ℤ → Ticket
heal_ticket New e f = NewEdgeHeal e f
heal_ticket Mod e f = ModEdgeHeal e f

-- kinds 11 and 12
abbrev pub add_ticket : Variant → ℤ → ℤ → List ℤ → Ticket
add_ticket New u v c = AddEdgeNewFaces u v c
add_ticket Mod u v c = AddEdgeModFace u v c

-- kinds 13 and 14
abbrev pub remove_ticket : Variant → ℤ → Ticket
remove_ticket New e = RemEdgeNewFace e
remove_ticket Mod e = RemEdgeModFace e

-- the number of an edge that an edit changes: its own, or the next
abbrev pub own_or_next : Head → Variant → ℕ → ℕ
own_or_next h how own = cond (is_mod how) own (nat_abs h.next_edge)
