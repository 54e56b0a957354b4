-- `links::clockwise` meets its contract: the choice, with what is left of the list, is the choice of all. Assumes
-- nothing.
use Rattle.std.specs.Prelude.{IfSome}
use mathlib.Core.Path.{◌≡◌}
use mathlib.Core.Bool.{Bool, not}
use Prim.Native.Nat.{ℕ}
use Rattle.lists.specs.Tests.{same}
use Rattle.lists.specs.Scans.{fold}
use Rattle.plane.specs.Directions.{way_to}
use Rattle.rotation.specs.Law.{others}
use Rattle.darts.specs.Positions.{way_with}
use Rattle.links.specs.Linking.{Known, chosen_of}
use Rattle.links.proofs.Choices.{no_choice}
use Rattle.links.proofs.Listed.{chosen_from}
use Rattle.links.proofs.clockwise.Given as goal

-- not p itself
abbrev pub but : ℕ → ℕ → Bool
but p q = not (same q p)

abbrev pub invariant-loop-d : goal.invariant-loop-d
invariant-loop-d l =
    IfSome l.h.all (Known l.edges l.own l.c) × IfSome l.h.below (Known l.edges l.own l.c)
    × (chosen_from (way_with l.edges l.own l.c) (way_to l.v.from l.v.to) (but l.p) l.list l.h l.d-index
    ≡ fold (chosen_of (way_with l.edges l.own l.c) (way_to l.v.from l.v.to)) no_choice (others same l.p l.list))
