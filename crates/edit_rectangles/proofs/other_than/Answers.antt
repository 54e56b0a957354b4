-- `edit_rectangles::other_than` meets its contract. Assumes nothing.
use mathlib.Core.Path.{◌≡◌, sym, ap, ap₂, ◌∙◌}
use mathlib.Core.Bool.{Bool, cond, ◌||◌}
use lib.Dec.{eqb}
use lib.IntN.{pos, nat_abs}
use mir.Syntax.{w64}
use mir.Val.{of_z}
use mir.Facts.{to_z-of_z}
use Rattle.lists.specs.Tests.{same}
use Rattle.outcomes.proofs.Words.{number_test}
use Rattle.edit_rectangles.proofs.other_than.Lts as lts
use Rattle.edit_rectangles.proofs.other_than.Reads as reads
use Rattle.edit_rectangles.proofs.other_than.Goals as goal

-- places in the code, by their names in what is generated
abbrev Start : Type 0
Start = lts.Start reads.Pre reads.Post

tested : (s : Start) → let a = s.args in
    eqb (of_z w64 a.f) (of_z w64 a.a) || eqb (of_z w64 a.f) (of_z w64 a.b)
    ≡ same (nat_abs a.f) (nat_abs a.a) || same (nat_abs a.f) (nat_abs a.b)
tested s = let a = s.args in ap₂ ◌||◌
    (number_test a.f a.a _ _ s.ranges.f s.ranges.a s.requires.0 s.requires.1)
    (number_test a.f a.b _ _ s.ranges.f s.ranges.b s.requires.0 s.requires.2)

pub returns-then-f-a : goal.returns-then-f-a
returns-then-f-a c = let n = nat_abs c.args.f in
    ap (λ (b : Bool). pos (cond b 0 n)) (sym c.if-f-a.true ∙ tested c.before)

pub returns-else-f-a : goal.returns-else-f-a
returns-else-f-a c = let s = c.before in let n = nat_abs s.args.f in
    to_z-of_z {w = w64} s.ranges.f ∙ s.requires.0 ∙ ap (λ (b : Bool). pos (cond b 0 n)) (sym c.if-f-a.false ∙ tested s)
