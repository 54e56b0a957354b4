-- `links::link_at` meets its contract. Assumes nothing.
use borrow.Author.Rules.{sfits_of}
use mathlib.Core.Path.{◌≡◌, ap₂, ◌∙◌}
use mathlib.Core.List.{List}
use Prim.Native.Nat.{ℕ, ◌/◌}
use native.Mathlib.Omega.{arith}
use lib.IntN.{ℤ}
use lib.ListN.{set}
use mir.Syntax.{w64}
use mir.Val.{to_z, of_z}
use mir.Facts.{to_z-of_z}
use Rattle.map.specs.Rows.{dart_cell}
use Rattle.map_rows.proofs.Rows.{edge-row_of}
use Rattle.darts.specs.Positions.{reverse_of, dart_at, side_place}
use Rattle.darts.proofs.Positions.{reverse_below}
use Rattle.links.specs.Linking.{redirected}
use Rattle.links.proofs.link_at.Goals as goal

pub dart_at-d-requires : goal.dart_at-d-requires
dart_at-d-requires c = edge-row_of c.requires.0 (c.args.p / 2)
    (let h = c.requires.1 in omega arith)

pub set_dart_cell-requires : goal.set_dart_cell-requires
set_dart_cell-requires c =
    let d = c in
    let s = d in
    let below = reverse_below s.args.count s.args.p s.requires.1 in
    let e = c.reverse.ensures in
    (omega (arith, d.redirect.auto.edges, s.requires.0.fits), omega arith)

pub returns : goal.returns
returns c =
    let b = c in
    let d = b in
    let q = d in
    let s = q in
    let a = s.args in
    let l = a.edges.now in
    let e : to_z w64 (of_z w64 q.dart_at-d.result) ≡ dart_cell (dart_at l a.p) =
    to_z-of_z {w = w64} (sfits_of q.dart_at-d.type_inv) ∙ q.dart_at-d.ensures in
    let f : to_z w64 (of_z w64 a.c) ≡ a.c = to_z-of_z {w = w64} s.ranges.c in
    b.set_dart_cell.ensures
    ∙ ap₂ (λ (t : List ℤ) (j : ℕ). set t (side_place j 3) (to_z w64 (of_z w64 a.c))) d.redirect.ensures
    b.reverse.ensures
    ∙ ap₂ (λ (z w : ℤ). set (redirected z w l a.count) (side_place (reverse_of a.p) 3) z) f e
