-- `form_references::find_row_of` meets its contract. Assumes nothing.
use borrow.Author.Rules.{sfits_of}
use mathlib.Core.Path.{◌≡◌, refl, sym, ap, ◌∙◌}
use mathlib.Core.Bool.{true, false≢true}
use Prim.Native.Nat.{◌*◌, ◌<◌}
use native.Mathlib.Omega.{arith}
use lib.IntN.{ℤ, pos}
use lib.ListN.{get_or, length-set}
use mir.Syntax.{w64}
use mir.Facts.{to_z-of_z}
use Rattle.lists.specs.Tables.{place}
use Rattle.tables.specs.Tables.{same_z, column}
use Rattle.darts.specs.Positions.{side_cell}
use Rattle.form_references.specs.Sides.{has_row}
use Rattle.form_references.proofs.Names.{column_missing, found_row, one_more}
use Rattle.form_references.proofs.find_row_of.Lts as lts
use Rattle.form_references.proofs.find_row_of.Tie as tie
use Rattle.form_references.proofs.find_row_of.Reads as reads
use Rattle.form_references.proofs.find_row_of.Goals as goal

-- places in the code, by their names in what is generated
abbrev After-find_indexed : Type 0
After-find_indexed = lts.After-find_indexed tie.the-claims reads.Pre reads.Post

abbrev In-Some : Type 0
In-Some = lts.Past-After-known_told tie.the-claims reads.Pre reads.Post

-- what the search answers
sought : (c : After-find_indexed) →
    let a = c.args in
    c.find_indexed.result
    ≡ place (same_z (side_cell a.edges.now a.p a.k)) 0 (column a.w a.t.now a.n)
sought c =
    let a = c.args in
    c.find_indexed.ensures ∙ ap (λ (z : ℤ). place (same_z z) 0 (column a.w a.t.now a.n))
    (to_z-of_z {w = w64} {z = c.dart_cell-number.result} (sfits_of c.dart_cell-number.type_inv)
    ∙ c.dart_cell-number.ensures)

pub returns-in_default : goal.returns-in_default
returns-in_default c =
    let a = c.args in (
      sym (column_missing a.w a.t.now a.n (side_cell a.edges.now a.p a.k)
          (sym (sought c.before.before) ∙ c.in_default.is)),
      refl,
      (λ e. absurd (false≢true e)),
    )

-- what is found
found_at : (c : In-Some) →
    let a = c.args in
    let x = c.in-Some.x in
    let z = side_cell a.edges.now a.p a.k in
    (x < a.n) × (get_or a.t.now (x * a.w) (pos 0) ≡ z) × (has_row a.w a.t.now a.n z ≡ true)
found_at c =
    let a = c.args in
    found_row a.w a.t.now a.n (side_cell a.edges.now a.p a.k) c.in-Some.x
    (sym (sought c.before) ∙ c.in-Some.is)

pub overflow_cast-rows : goal.overflow_cast-rows
overflow_cast-rows c = omega (arith, (found_at c.before).0, c.requires.1)

pub returns : goal.returns
returns c =
    let s = c in
    let a = s.args in
    let h = found_at c.before in
    let x = c.in-Some.x in (
      sym h.2,
      length-set a.rows.now a.p x,
      (λ e old. one_more (λ p v. (v < a.n) × (get_or a.t.now (v * a.w) (pos 0) ≡ side_cell a.edges.now p a.k))
          a.rows.now a.p x s.requires.5 old (h.0, h.1)),
    )
