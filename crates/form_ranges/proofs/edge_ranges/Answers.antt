-- `form_ranges::edge_ranges` meets its contract: the points are asked for where their number is 2 to the one recorded.
-- Assumes nothing.
use borrow.Author.Rules.{rules}
use mathlib.Core.Path.{◌≡◌, sym, ap, ap₂, ◌∙◌}
use mathlib.Core.Bool.{Bool, true, false, ◌&&◌}
use mathlib.Core.List.{List, [], ◌∷◌}
use Prim.Native.Nat.{ℕ, ◌*◌}
use native.Mathlib.Omega.{arith}
use lib.IntN.{ℤ, pos, nat_abs}
use lib.ListN.{take, drop}
use lib.Signed.{le_z, non_neg}
use Rattle.lists.specs.Scans.{all_of}
use Rattle.lists.proofs.Bools.{≡→T}
use Rattle.tables.specs.Tables.{cell, within, is_zero}
use Rattle.tables.proofs.Tests.{within-pos}
use Rattle.curves.specs.Curves.{coordinate}
use Rattle.curves.proofs.Runs.{and_right}
use Rattle.map.specs.Limits.{most_points, limit_of, is_record}
use Rattle.map.specs.Form.{edge_ranges_to}
use Rattle.map.proofs.PointLimits.{most-fits, record_back}
use Rattle.head.proofs.Words.{is_natural}
use Rattle.form_ranges.proofs.edge_ranges.Goals as goal

module _ (row : List ℤ) where
  abbrev naturals : Bool
  naturals = all_of non_neg (cell row 0 ∷ cell row 1 ∷ cell row 2 ∷ cell row 5 ∷ cell row 6 ∷ [])

  abbrev points : ℕ → Bool
  points n = all_of coordinate (take (2 * n) (drop 8 row)) && all_of is_zero (drop (2 * n) (drop 8 row))

  -- 2 points or more, to the number recorded
  abbrev few : ℤ → Bool
  few k = within 2 (most_points (limit_of k)) (cell row 7)

  refused : (k : ℤ) → naturals && few k ≡ false → false ≡ edge_ranges_to (most_points (limit_of k)) row
  refused k h = rw h

  passed : (k : ℤ) → naturals && few k ≡ true → edge_ranges_to (most_points (limit_of k)) row ≡ points (nat_abs (cell row 7))
  passed k h = rw h

  -- the first two tests, as they are asked
  tested : (k : ℤ) {p q r : Bool} → is_record k ≡ true → p ≡ naturals
      → q ≡ le_z (pos 2) (cell row 7) && le_z (cell row 7) k → p && q ≡ r → naturals && few k ≡ r
  tested k h e d t =
      sym (ap₂ ◌&&◌ e (d ∙ ap (λ (y : ℤ). le_z (pos 2) (cell row 7) && le_z (cell row 7) y) (sym (record_back k h)))) ∙ t

pub returns-then-not-edge_naturals-contains : goal.returns-then-not-edge_naturals-contains
returns-then-not-edge_naturals-contains c =
    let inside : c.contains.result ≡ le_z (pos 2) (cell c.args.row.now 7) && le_z (cell c.args.row.now 7) c.args.points =
    search rules in
    refused c.args.row.now c.args.points
    (tested c.args.row.now c.args.points c.requires.1 c.edge_naturals.ensures inside c.if-not-edge_naturals-contains.true)

pub natural-n-requires : goal.natural-n-requires
natural-n-requires c =
    let inside : c.contains.result ≡ le_z (pos 2) (cell c.args.row.now 7) && le_z (cell c.args.row.now 7) c.args.points =
    search rules in
    let row = c.args.row.now in
    let k = c.args.points in
    let t = tested row c.args.points c.requires.1 c.edge_naturals.ensures inside c.if-not-edge_naturals-contains.false in
    let n = within-pos 2 (most_points (limit_of k)) (cell row 7) (and_right (naturals row) (few row k) t) in
    (omega arith, ≡→T (non_neg (cell row 7)) (is_natural (cell row 7) n.0))

pub returns-then-n-eq2 : goal.returns-then-n-eq2
returns-then-n-eq2 c =
    let inside : c.contains.result ≡ le_z (pos 2) (cell c.args.row.now 7) && le_z (cell c.args.row.now 7) c.args.points =
    search rules in
    let row = c.args.row.now in
    let t = tested row c.args.points c.requires.1 c.edge_naturals.ensures inside c.if-not-edge_naturals-contains.false in
    c.points_ranged.ensures ∙ ap (points row) (sym c.if-n-eq2.true ∙ c.natural-n.ensures)
    ∙ sym (passed row c.args.points t)

pub points_ranged-requires : goal.points_ranged-requires
points_ranged-requires c = (c.requires.0, omega arith)

pub points_ranged-requires-2 : goal.points_ranged-requires-2
points_ranged-requires-2 c =
    let inside : c.contains.result ≡ le_z (pos 2) (cell c.args.row.now 7) && le_z (cell c.args.row.now 7) c.args.points =
    search rules in
    let row = c.args.row.now in
    let k = c.args.points in
    let t = tested row c.args.points c.requires.1 c.edge_naturals.ensures inside c.if-not-edge_naturals-contains.false in
    let h = (within-pos 2 (most_points (limit_of k)) (cell row 7) (and_right (naturals row) (few row k) t)).2 in
    let e = c.natural-n.ensures in
    (c.requires.0, omega (arith, most-fits (limit_of k)))

pub returns : goal.returns
returns c =
    let inside : c.contains.result ≡ le_z (pos 2) (cell c.args.row.now 7) && le_z (cell c.args.row.now 7) c.args.points =
    search rules in
    let row = c.args.row.now in
    let t = tested row c.args.points c.requires.1 c.edge_naturals.ensures inside c.if-not-edge_naturals-contains.false in
    c.points_ranged-2.ensures ∙ ap (points row) c.natural-n.ensures ∙ sym (passed row c.args.points t)
