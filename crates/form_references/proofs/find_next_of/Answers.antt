-- `form_references::find_next_of` meets its contract. Assumes nothing.
use borrow.Author.Rules.{sfits_of}
use mathlib.Core.Path.{◌≡◌, refl, sym, subst, ◌∙◌}
use mathlib.Core.Bool.{true, false, false≢true}
use Prim.Native.Nat.{◌*◌, ◌<◌}
use native.Mathlib.Omega.{arith}
use lib.IntN.{ℤ}
use lib.ListN.{length-set}
use mir.Syntax.{w64}
use mir.Val.{to_z, of_z}
use mir.Facts.{to_z-of_z}
use Rattle.map.specs.Rows.{dart_of}
use Rattle.darts.specs.Positions.{dart_at, side_cell}
use Rattle.form_references.specs.Sides.{has_link}
use Rattle.form_references.proofs.Names.{one_more}
use Rattle.form_references.proofs.find_next_of.Lts as lts
use Rattle.form_references.proofs.find_next_of.Tie as tie
use Rattle.form_references.proofs.find_next_of.Reads as reads
use Rattle.form_references.proofs.find_next_of.Goals as goal

-- places in the code, by their names in what is generated
abbrev After-find_position : Type 0
After-find_position = lts.After-find_position tie.the-claims reads.Pre reads.Post

abbrev In-Some : Type 0
In-Some = lts.Past-After-known_told tie.the-claims reads.Pre reads.Post

-- the link is read
link : (c : After-find_position) → let a = c.args in
    to_z w64 (of_z w64 c.dart_cell-link.result) ≡ side_cell a.edges.now a.p 3
link c = to_z-of_z {w = w64} {z = c.dart_cell-link.result} (sfits_of c.dart_cell-link.type_inv)
    ∙ c.dart_cell-link.ensures

pub returns-in_default : goal.returns-in_default
returns-in_default c =
    let f = c.before.before in
    let a = f.args in (
      sym (subst (λ (z : ℤ). has_link a.edges.now a.count z ≡ false) (link f)
          (f.find_position.ensures.0 c.in_default.is)),
      refl,
      (λ e. absurd (false≢true e)),
    )

-- what is found
found_at : (c : In-Some) →
    let a = c.args in
    let q = c.in-Some.x in
    (q < a.count * 2) × (dart_at a.edges.now q ≡ dart_of (side_cell a.edges.now a.p 3))
    × (has_link a.edges.now a.count (side_cell a.edges.now a.p 3) ≡ true)
found_at c =
    let f = c.before in
    let a = f.args in
    let q = c.in-Some.x in
    subst (λ (z : ℤ). (q < a.count * 2) × (dart_at a.edges.now q ≡ dart_of z)
    × (has_link a.edges.now a.count z ≡ true)) (link f)
    (f.find_position.ensures.1 q c.in-Some.is)

pub overflow_cast-nexts : goal.overflow_cast-nexts
overflow_cast-nexts c = omega (arith, (found_at c.before).0, c.requires.1)

pub returns : goal.returns
returns c =
    let s = c in
    let a = s.args in
    let h = found_at c.before in
    let q = c.in-Some.x in (
      sym h.2,
      length-set a.nexts.now a.p q,
      (λ e old. one_more (λ p v. (v < a.count * 2)
          × (dart_at a.edges.now v ≡ dart_of (side_cell a.edges.now p 3))) a.nexts.now a.p q s.requires.4 old
          (h.0, h.1)),
    )
