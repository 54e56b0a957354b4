-- `form_links::departures_differ` meets its contract: the positions that are passed are chained, and none repeats an
-- earlier one. Assumes nothing.
use mathlib.Core.Path.{◌≡◌, refl, sym, ◌∙◌}
use mathlib.Core.Bool.{true, false}
use mathlib.Core.List.{List}
use Prim.Native.Nat.{ℕ, ◌+◌, ◌*◌, ◌/◌, ◌<◌}
use native.Mathlib.Omega.{arith}
use lib.IntN.{ℤ}
use lib.ListN.{length-replicate}
use borrow.Author.Count.{below_more}
use Rattle.map.specs.Form.{departures_differ}
use Rattle.map_rows.specs.Rows.{NodeRows, EdgeRows}
use Rattle.map_rows.proofs.Rows.{edge-row_of}
use Rattle.darts.specs.Positions.{RowsNamed}
use Rattle.form_links.specs.Chains.{slot, repeats}
use Rattle.form_links.specs.Drawn.{drawn_map}
use Rattle.form_links.proofs.Links.{zeros}
use Rattle.form_links.proofs.Chains.{chained_leads, none_chained}
use Rattle.form_links.proofs.Departures.{differ_true, differ_false}
use Rattle.form_links.proofs.departures_differ.Goals as goal

-- position p repeats an earlier one
meets : {edges : List ℤ} {count : ℕ} → EdgeRows edges count → (starts : List ℕ) (p : ℕ) → p < count * 2
    → repeats edges (slot edges starts) p ≡ true → (nodes : List ℤ) (n : ℕ) → NodeRows nodes n
    → RowsNamed 4 nodes n edges 1 starts (count * 2) → false ≡ departures_differ (drawn_map nodes n edges count)
meets t starts p h e nodes n rows named = sym (differ_false starts rows t named p h e)

pub loop-i-init : goal.loop-i-init
loop-i-init c = let a = c.args in (
  omega arith,
  length-replicate {A = ℕ} 9000 0,
  length-replicate {A = ℕ} 4000 0,
  none_chained (slot a.edges.now a.starts.now) (zeros 9000) (zeros 4000),
  (λ q h. absurd (omega arith)),
)

pub joins_alike-requires : goal.joins_alike-requires
joins_alike-requires c =
    let w = c.loop-i in
    let s = c.requires in
    let h = c.loop-i-test.true in (
      (λ q k. edge-row_of s.0 (q / 2) (omega arith)),
      s.3 (w.i * 2) (omega arith),
      omega (arith, s.1),
      omega (arith, w.invariant.1),
      omega (arith, w.invariant.2),
      chained_leads w.invariant.3,
    )

pub returns-then-joins_alike : goal.returns-then-joins_alike
returns-then-joins_alike c =
    let a = c.args in
    -- the chains after the first position of the row
    let first = c.joins_alike.ensures (slot a.edges.now a.starts.now) refl c.loop-i.invariant.3 in
    meets c.requires.0 c.args.starts.now (c.loop-i.i * 2) (omega (arith, c.loop-i-test.true)) (sym first.0 ∙ c.if-joins_alike.true)

pub joins_alike-requires-in-loop-i : goal.joins_alike-requires-in-loop-i
joins_alike-requires-in-loop-i c =
    let a = c.args in
    let w = c.loop-i in
    let s = c.requires in
    let h = c.loop-i-test.true in
    let first = c.joins_alike.ensures (slot a.edges.now a.starts.now) refl w.invariant.3 in (
      (λ q k. edge-row_of s.0 (q / 2) (omega arith)),
      s.3 (w.i * 2 + 1) (omega arith),
      omega (arith, s.1),
      omega (arith, c.joins_alike.auto.last, w.invariant.1),
      omega (arith, c.joins_alike.auto.back, w.invariant.2),
      chained_leads first.1,
    )

pub returns-then-joins_alike-2 : goal.returns-then-joins_alike-2
returns-then-joins_alike-2 c =
    let a = c.args in
    let slots = slot a.edges.now a.starts.now in
    let first = c.joins_alike.ensures slots refl c.loop-i.invariant.3 in
    let second = c.joins_alike-in-loop-i.ensures slots refl first.1 in
    meets c.requires.0 c.args.starts.now (c.loop-i.i * 2 + 1) (omega (arith, c.loop-i-test.true))
    (sym second.0 ∙ c.if-joins_alike-2.true)

pub loop-i-preserved : goal.loop-i-preserved
loop-i-preserved c =
    let a = c.args in
    let w = c.loop-i in
    let slots = slot a.edges.now a.starts.now in
    let first = c.joins_alike.ensures slots refl w.invariant.3 in
    let second = c.joins_alike-in-loop-i.ensures slots refl first.1 in
    let next : (w.i + 1) * 2 ≡ w.i * 2 + 1 + 1 = omega arith in
    let apart : ℕ → Type 0 = λ q. repeats a.edges.now slots q ≡ false in
    let one = below_more apart (w.i * 2) w.invariant.4 (sym first.0 ∙ c.if-joins_alike.false) in
    let two = below_more apart (w.i * 2 + 1) one (sym second.0 ∙ c.if-joins_alike-2.false) in (
      omega (arith, c.loop-i-test.true),
      c.joins_alike-in-loop-i.auto.last ∙ c.joins_alike.auto.last ∙ w.invariant.1,
      c.joins_alike-in-loop-i.auto.back ∙ c.joins_alike.auto.back ∙ w.invariant.2,
      rw next second.1,
      (λ q h. two q (omega arith)),
    )

pub returns : goal.returns
returns c =
    let w = c.loop-i in
    let s = c in
    λ nodes n rows named. sym (differ_true s.args.starts.now rows s.requires.0 named
    (λ p h. w.invariant.4 p (omega (arith, w.invariant.0, c.loop-i-test.false))))
