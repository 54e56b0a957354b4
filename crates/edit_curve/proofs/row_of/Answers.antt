-- `edit_curve::row_of` meets its contract: a node that is there is found. Assumes nothing.
use Rattle.std.specs.Prelude.{Option, Some, None}
use Rattle.std.specs.Option.{unwrap_or}
use mathlib.Core.Path.{◌≡◌, refl, sym, ap}
use Prim.Native.Nat.{ℕ}
use mir.Syntax.{w64}
use mir.Facts.{to_z-of_z}
use Rattle.map.specs.Limits.{node_width}
use Rattle.map_rows.proofs.Rows.{node_rows_rising}
use Rattle.outcomes.proofs.Words.{place_told}
use Rattle.edit_curve.proofs.Changed.{node_placed}
use Rattle.edit_curve.proofs.row_of.Goals as goal

-- a row that is there is what was unwrapped
there : (q : Option ℕ) {r : ℕ} → r ≡ unwrap_or q 0 → (q ≡ None → ⊥) → q ≡ Some r
there (Some i) e d = ap Some (sym e)
there None e d = absurd (d refl)

pub returns : goal.returns
returns c =
    let a = c.args in
    let p = c.requires in
    let l = a.nodes.rows.now in
    let n = a.nodes.count in
    let z = to_z-of_z {w = w64} c.ranges.node in
    place_told node_width l {n = n} refl z c.find_row.ensures
    (there c.find_row.result c.unwrap_or.ensures
    (λ e. node_placed a.nodes.ranged a.node p.0 p.1 (place_told node_width l {n = n} refl z c.find_row.ensures e)))

pub find_row-requires : goal.find_row-requires
find_row-requires c = node_rows_rising c.args.nodes.ranged
