-- `links::unlink_edge` meets its contract. Assumes nothing.
use borrow.Author.Rules.{sfits_of}
use mathlib.Core.Path.{◌≡◌, ap, ap₂, ◌∙◌}
use mathlib.Core.List.{List}
use Prim.Native.Nat.{◌+◌, ◌*◌, ◌/◌}
use native.Mathlib.Omega.{arith}
use lib.IntN.{ℤ}
use mir.Syntax.{w64}
use mir.Val.{to_z, of_z}
use mir.Facts.{to_z-of_z}
use Rattle.map.specs.Rows.{dart_cell}
use Rattle.map_rows.proofs.Rows.{edge-row_of}
use Rattle.darts.specs.Positions.{dart_at, side_cell}
use Rattle.links.specs.Linking.{redirected}
use Rattle.links.proofs.unlink_edge.Goals as goal

pub dart_at-d-requires : goal.dart_at-d-requires
dart_at-d-requires c = edge-row_of c.requires.0 (c.args.i * 2 / 2)
    (let h = c.requires.1 in omega arith)

pub dart_at-back-requires : goal.dart_at-back-requires
dart_at-back-requires c = let s = c in
    edge-row_of s.requires.0 ((s.args.i * 2 + 1) / 2) (let h = s.requires.1 in omega arith)

pub returns : goal.returns
returns c =
    let then = c.dart_cell-then in
    let first = c in
    let to = first.dart_cell-to in
    let back = first.dart_at-back in
    let d = first.dart_at-d in
    let s = c in
    let l = s.args.edges.now in
    let n = s.args.count in
    let p = s.args.i * 2 in
    let e₁ : to_z w64 (of_z w64 d.result) ≡ dart_cell (dart_at l p) = to_z-of_z {w = w64} (sfits_of d.type_inv)
    ∙ d.ensures in
    let e₂ : to_z w64 (of_z w64 to.result) ≡ side_cell l (p + 1) 3 = to_z-of_z {w = w64} (sfits_of to.type_inv)
    ∙ to.ensures in
    let e₃ : to_z w64 (of_z w64 back.result) ≡ dart_cell (dart_at l (p + 1)) = to_z-of_z {w = w64} (sfits_of back.type_inv)
    ∙ back.ensures in
    let t = redirected (dart_cell (dart_at l p)) (side_cell l (p + 1) 3) l n in
    let f : first.redirect.new.edges ≡ t = first.redirect.ensures ∙ ap₂ (λ (x y : ℤ). redirected x y l n) e₁ e₂ in
    let e₄ : to_z w64 (of_z w64 then.result) ≡ side_cell t p 3 = to_z-of_z {w = w64} (sfits_of then.type_inv)
    ∙ then.ensures ∙ ap (λ (u : List ℤ). side_cell u p 3) f in
    c.redirect-2.ensures ∙ ap (λ (u : List ℤ). redirected (to_z w64 (of_z w64 back.result))
    (to_z w64 (of_z w64 then.result)) u n) f ∙ ap₂ (λ (x y : ℤ). redirected x y t n) e₃ e₄
