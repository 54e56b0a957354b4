-- `form_references::find_rows` meets its contract: the rows of the edges that are passed are written down, and those
-- from row i on tell whether all exist. Assumes nothing.
use mathlib.Core.Path.{◌≡◌, refl, sym, ap, ◌∙◌}
use mathlib.Core.Bool.{false, false≢true}
use Prim.Native.Nat.{ℕ}
use native.Mathlib.Nat.{sub-zero}
use native.Mathlib.Omega.{arith}
use Rattle.lists.specs.Scans.{all_of}
use Rattle.lists.specs.Tables.{table}
use Rattle.lists.proofs.Scans.{all_hit, all_miss, all_end}
use Rattle.form_references.specs.Sides.{has_row, both_sides, all_sides}
use Rattle.form_references.proofs.find_rows.Lts as lts
use Rattle.form_references.proofs.find_rows.Tie as tie
use Rattle.form_references.proofs.find_rows.Reads as reads
use Rattle.form_references.proofs.find_rows.Goals as goal

-- places in the code, by their names in what is generated
abbrev In-loop-i : Type 0
In-loop-i = lts.In-loop tie.the-claims reads.Pre reads.Post goal.the-invariant-loop-i goal.the-decreases-loop-i

pub loop-i-init : goal.loop-i-init
loop-i-init c =
    let a = c.args in (
      omega arith,
      refl,
      ap (λ (m : ℕ). all_of (both_sides (has_row a.w a.t.now a.n) a.edges.now a.k) (table (λ i. i) 0 m))
          (sub-zero a.count),
      (λ p h. absurd (omega arith)),
    )

-- where one of the sides of row i is missing, not all exist
missed : (g : In-loop-i) →
    let l = g.loop-i in
    let a = g.args in
    both_sides (has_row a.w a.t.now a.n) a.edges.now a.k l.i ≡ false
    → false ≡ all_sides (has_row a.w a.t.now a.n) a.edges.now a.k a.count
missed g e =
    let a = g.args in
    sym (all_miss (λ i. i) g.loop-i.i a.count
    (both_sides (has_row a.w a.t.now a.n) a.edges.now a.k) g.loop-i-test.true e)
    ∙ g.loop-i.invariant.2

pub returns-then-not-find_row_of : goal.returns-then-not-find_row_of
returns-then-not-find_row_of c =
    let f = c in (
      missed c.before.before.before.before.before.before (rw
          (sym f.find_row_of.ensures.0 ∙ c.if-not-find_row_of.true)),
      f.find_row_of.ensures.1 ∙ f.loop-i.invariant.1,
      (λ e. absurd (false≢true e)),
    )

pub find_row_of-requires-in-loop-i : goal.find_row_of-requires-in-loop-i
find_row_of-requires-in-loop-i c =
    let f = c in
    let g = f in
    let s = g in (
      s.requires.0,
      s.requires.1,
      omega (arith, g.loop-i-test.true, s.requires.2),
      s.requires.3,
      s.requires.4,
      omega (arith, g.loop-i-test.true, f.find_row_of.ensures.1, g.loop-i.invariant.1, s.requires.5),
    )

pub returns-then-not-find_row_of-2 : goal.returns-then-not-find_row_of-2
returns-then-not-find_row_of-2 c =
    let e = c in
    let f = e in
    let u = e.if-not-find_row_of.false in
    let v = c.if-not-find_row_of-2.true in (
      missed c.before.before.before.before.before.before.before.before.before.before.before (rw (sym f.find_row_of.ensures.0 ∙ u, sym e.find_row_of-in-loop-i.ensures.0 ∙ v)),
      e.find_row_of-in-loop-i.ensures.1 ∙ f.find_row_of.ensures.1 ∙ f.loop-i.invariant.1,
      (λ e. absurd (false≢true e)),
    )

pub loop-i-preserved : goal.loop-i-preserved
loop-i-preserved c =
    let e = c in
    let f = e in
    let g = f in
    let l = g.loop-i in
    let a = g.args in
    let u = e.if-not-find_row_of.false in
    let v = c.if-not-find_row_of-2.false in (
      omega (arith, g.loop-i-test.true),
      e.find_row_of-in-loop-i.ensures.1 ∙ f.find_row_of.ensures.1 ∙ l.invariant.1,
      sym (all_hit (λ i. i) l.i a.count (both_sides (has_row a.w a.t.now a.n) a.edges.now a.k)
          g.loop-i-test.true (rw (sym f.find_row_of.ensures.0 ∙ u, sym e.find_row_of-in-loop-i.ensures.0 ∙ v)))
          ∙ l.invariant.2,
      (λ p h. e.find_row_of-in-loop-i.ensures.2 v (f.find_row_of.ensures.2 u l.invariant.3) p (omega (arith, h))),
    )

pub returns : goal.returns
returns c =
    let l = c.loop-i in
    let a = c.args in (
      sym (all_end (λ i. i) l.i a.count (both_sides (has_row a.w a.t.now a.n) a.edges.now a.k)
          c.loop-i-test.false) ∙ l.invariant.2,
      l.invariant.1,
      (λ q p h. l.invariant.3 p (omega (arith, h, c.loop-i-test.false))),
    )

pub shape_of-rows-then-not-find_row_of : goal.shape_of-rows-then-not-find_row_of
shape_of-rows-then-not-find_row_of c = (returns-then-not-find_row_of c).1

pub shape_of-rows-then-not-find_row_of-2 : goal.shape_of-rows-then-not-find_row_of-2
shape_of-rows-then-not-find_row_of-2 c = (returns-then-not-find_row_of-2 c).1

pub shape_of-rows : goal.shape_of-rows
shape_of-rows c = c.loop-i.invariant.1
