-- `map_rows::curve_of` meets its contract: the row has 2 to 12 points, which lie in the table. Assumes nothing.
use borrow.Author.Rules.{sfits_of}
use mathlib.Core.Path.{◌≡◌, refl, sym, ap, ◌∙◌, subst}
use Prim.Native.Nat.{ℕ, ◌+◌, ◌*◌, ◌-◌}
use native.Mathlib.Omega.{arith}
use lib.IntN.{pos, nat_abs}
use lib.ListN.{get_or, take, drop}
use mir.Syntax.{w64}
use mir.Val.{to_z, of_z}
use mir.Facts.{to_z-of_z}
use Rattle.curves.specs.Curves.{Run, curve_of}
use Rattle.map_rows.specs.Rows.{edge_at, point_count, run_at}
use Rattle.map_rows.proofs.RowCurves.{count_pos, count_most, run_at_lem, curve_at}
use Rattle.map_rows.proofs.curve_of.Goals as goal

pub overflow_cast-n : goal.overflow_cast-n
overflow_cast-n c =
    let l = c.args.edges.now in
    let i = c.args.i in
    let e : to_z w64 (of_z w64 (get_or l (i * 32 + 7) (pos 0))) ≡ pos (point_count l i) =
    to_z-of_z {w = w64} (sfits_of c.n-1.given) ∙ count_pos c.requires in
    rw e (tt, omega (arith, count_most c.requires))

-- the number of points as it is read
count : (c : goal.After-n-1)
    → nat_abs (to_z w64 (of_z w64 (get_or c.args.edges.now (c.args.i * 32 + 7) (pos 0))))
    ≡ point_count c.args.edges.now c.args.i
count c = let z = get_or c.args.edges.now (c.args.i * 32 + 7) (pos 0) in
    ap nat_abs (to_z-of_z {w = w64} {z = z} (sfits_of c.n-1.given))

pub overflow_mul-b : goal.overflow_mul-b
overflow_mul-b c = rw (count c) (omega (arith, count_most c.requires))

pub overflow_add-b : goal.overflow_add-b
overflow_add-b c = rw (count c) (omega (arith, count_most c.requires, c.requires.fits))

pub slice_bounds-result-end : goal.slice_bounds-result-end
slice_bounds-result-end c = omega (arith, count c, count_most c.requires, c.requires.fits)

pub returns : goal.returns
returns c =
    let p = c.requires in
    let l = c.args.edges.now in
    let i = c.args.i in
    let z = get_or l (i * 32 + 7) (pos 0) in
    let n : nat_abs (to_z w64 (of_z w64 z)) ≡ point_count l i =
    ap nat_abs (to_z-of_z {w = w64} {z = z} (sfits_of c.n-1.given)) in
    let e : i * 32 + 8 + 2 * nat_abs (to_z w64 (of_z w64 (get_or l (i * 32 + 7) (pos 0)))) - (i * 32 + 8)
    ≡ 2 * point_count l i = omega (arith, n) in
    subst (λ (k : ℕ). Run (take k (drop (i * 32 + 8) l))
    × (curve_of (take k (drop (i * 32 + 8) l)) ≡ (edge_at l i).curve)
    × (take k (drop (i * 32 + 8) l) ≡ run_at l i)) (sym e) (run_at_lem p, curve_at p, refl)
