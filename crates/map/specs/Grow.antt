-- What a list of tickets gives, from the empty map in tables of given sizes.
use Rattle.std.specs.Prelude.{List, [], ◌∷◌, ℤ}
use Rattle.map.specs.Rows.{Lent, Sizes, empty_map, lent_of}
use Rattle.map.specs.declared.Answer.{Answer}
use Rattle.map.specs.Ticket.{ticket}

-- what is lent after all tickets, and their answers
pub record Grown : Type 0 where
  pub lent : Lent
  pub answers : List Answer

-- one answer more
abbrev pub answered : Answer → Grown → Grown
answered a g = record { lent = g.lent; answers = a ∷ g.answers }

-- one ticket after the other
unfoldable pub after : Lent → List (List ℤ) → Grown
after l [] = record { lent = l; answers = [] }
after l (t ∷ ts) = let o = ticket l t in answered o.answer (after o.lent ts)

-- from the empty map in tables of these sizes
unfoldable pub grow : Sizes → List (List ℤ) → Grown
grow s ts = after (lent_of s empty_map) ts
