-- `form_references::find_position` meets its contract: the row of the edge, twice, and one more for the reverse.
-- Assumes nothing.
use borrow.Author.Rules.{rules}
use mathlib.Core.Path.{◌≡◌, sym, ap, ◌∙◌, subst}
use mathlib.Core.Bool.{true}
use native.Mathlib.Omega.{arith}
use lib.IntN.{ℤ, pos, negsuc, nat_abs}
use lib.Signed.{lt_z}
use mir.Syntax.{w64}
use mir.Val.{to_z, of_z}
use mir.Facts.{to_z-of_z}
use Rattle.lists.specs.Tables.{place}
use Rattle.lists.proofs.Counts.{byte_bit, bit-most}
use Rattle.tables.specs.Tables.{same_z, column}
use Rattle.map.specs.Limits.{edge_width}
use Rattle.form_references.proofs.Names.{edge_more, edge_past, edges_in_order_rise}
use Rattle.form_references.proofs.Nexts.{missing_at, link_missing, link_below, link_at}
use Rattle.form_references.proofs.find_position.Goals as goal

pub returns-then-d-lt-LEAST_LINK : goal.returns-then-d-lt-LEAST_LINK
returns-then-d-lt-LEAST_LINK c =
    let d = c.args.d in
    let t : lt_z d (negsuc 999998) ≡ true =
    subst (λ (x : ℤ). lt_z x (negsuc 999998) ≡ true) (to_z-of_z {w = w64} c.ranges.d) c.if-d-lt-LEAST_LINK.true in
    ((λ e. edge_past c.requires.0 (nat_abs d) (edge_more d t)), (λ q e. absurd (missing_at e)))

pub find_indexed-requires : goal.find_indexed-requires
find_indexed-requires c = (edges_in_order_rise c.requires.0, c.requires.1)

pub returns-in_err-i : goal.returns-in_err-i
returns-in_err-i c =
    let number : to_z w64 (of_z w64 c.abs.result) ≡ pos (nat_abs c.args.d) = search rules in
    let row = ap (λ (z : ℤ). place (same_z z) 0 (column edge_width c.args.edges.now c.args.count)) (sym number)
    ∙ sym c.in_err-i.ensures in (
      (λ e. link_missing c.requires.0 c.args.d row),
      (λ q e. absurd (missing_at (sym c.from_residual.ensures ∙ e))),
    )

pub overflow_mul-result : goal.overflow_mul-result
overflow_mul-result c =
    let number : to_z w64 (of_z w64 c.abs.result) ≡ pos (nat_abs c.args.d) = search rules in
    let row = ap (λ (z : ℤ). place (same_z z) 0 (column edge_width c.args.edges.now c.args.count)) (sym number)
    ∙ sym c.in_ok-i.ensures in
    omega (arith, link_below c.requires.0 c.args.d _ row, c.requires.0.fits)

pub overflow_add-result : goal.overflow_add-result
overflow_add-result c =
    let number : to_z w64 (of_z w64 c.abs.result) ≡ pos (nat_abs c.args.d) = search rules in
    let row = ap (λ (z : ℤ). place (same_z z) 0 (column edge_width c.args.edges.now c.args.count)) (sym number)
    ∙ sym c.in_ok-i.ensures in
    let b = lt_z (to_z w64 (of_z w64 c.args.d)) (pos 0) in
    omega (arith, c.from.ensures, byte_bit b, bit-most b, link_below c.requires.0 c.args.d _ row, c.requires.0.fits)

pub returns : goal.returns
returns c =
    let number : to_z w64 (of_z w64 c.abs.result) ≡ pos (nat_abs c.args.d) = search rules in
    let row = ap (λ (z : ℤ). place (same_z z) 0 (column edge_width c.args.edges.now c.args.count)) (sym number)
    ∙ sym c.in_ok-i.ensures in
    let b = lt_z (to_z w64 (of_z w64 c.args.d)) (pos 0) in (
      (λ e. absurd (missing_at (sym e))),
      rw c.from.ensures (link_at c.requires.0 c.args.d c.in_ok-i.i b
          (ap (λ (z : ℤ). lt_z z (pos 0)) (to_z-of_z {w = w64} c.ranges.d)) row),
    )
