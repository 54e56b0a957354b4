-- `form_references::curves_fit` meets its contract: the curves from row i on fit if and only if all do. Assumes
-- nothing.
use Prim.Native.Nat.{ℕ}
use mathlib.Core.Path.{sym, ap, ◌∙◌}
use native.Mathlib.Nat.{sub-zero}
use native.Mathlib.Omega.{arith}
use Rattle.lists.specs.Scans.{all_of}
use Rattle.lists.specs.Tables.{table}
use Rattle.lists.proofs.Scans.{all_hit, all_miss, all_end}
use Rattle.map.specs.Form.{curve_fits}
use Rattle.map_rows.specs.Rows.{edge_at, node_map}
use Rattle.map_rows.proofs.Rows.{edges_table, edge-row_of}
use Rattle.form_references.proofs.curves_fit.Goals as goal

pub loop-i-init : goal.loop-i-init
loop-i-init c =
    let a = c.args in
    let p = curve_fits (node_map a.nodes.now a.n) in (
      omega arith,
      ap (λ (k : ℕ). all_of p (table (edge_at a.edges.now) 0 k)) (sub-zero a.count)
          ∙ ap (all_of p) (sym (edges_table a.edges.now a.count)),
    )

pub curve_fits-requires : goal.curve_fits-requires
curve_fits-requires c =
    let s = c in
    let t = c.loop-i-test.true in (
      s.requires.0,
      edge-row_of s.requires.1 c.loop-i.i t,
      omega (arith, s.requires.2),
      λ p h. s.requires.3 p (omega arith),
    )

pub returns-then-not-curve_fits : goal.returns-then-not-curve_fits
returns-then-not-curve_fits c =
    let a = c.args in
    let l = c.loop-i in
    let p = curve_fits (node_map a.nodes.now a.n) in
    sym (all_miss (edge_at a.edges.now) l.i a.count p c.loop-i-test.true
    (sym c.curve_fits.ensures ∙ c.if-not-curve_fits.true)) ∙ l.invariant.1

pub loop-i-preserved : goal.loop-i-preserved
loop-i-preserved c =
    let a = c.args in
    let l = c.loop-i in
    let p = curve_fits (node_map a.nodes.now a.n) in (
      omega arith,
      sym (all_hit (edge_at a.edges.now) l.i a.count p c.loop-i-test.true
          (sym c.curve_fits.ensures ∙ c.if-not-curve_fits.false))
          ∙ l.invariant.1,
    )

pub returns : goal.returns
returns c =
    let a = c.args in
    sym (all_end (edge_at a.edges.now) c.loop-i.i a.count (curve_fits (node_map a.nodes.now a.n))
    c.loop-i-test.false) ∙ c.loop-i.invariant.1
