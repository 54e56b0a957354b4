-- `edit_split::lead_to_halves` meets its contract. Assumes nothing.
use mathlib.Core.Path.{◌≡◌, ap, ◌∙◌, subst}
use Prim.Native.Nat.{◌+◌, ◌*◌, ◌/◌}
use native.Mathlib.Omega.{arith}
use lib.IntN.{neg_ℤ}
use mir.Syntax.{w64}
use mir.Facts.{to_z-of_z}
use Rattle.integers.specs.Signs.{sent}
use Rattle.map_rows.specs.Rows.{EdgeRow}
use Rattle.links.specs.Linking.{redirected}
use Rattle.edit_split.proofs.lead_to_halves.Goals as goal

pub dart_at-d-requires : goal.dart_at-d-requires
dart_at-d-requires c = let s = c in let e : s.args.i ≡ s.args.i * 2 / 2 = omega arith in
    subst (EdgeRow s.args.edges.now) e s.requires.0

pub dart_at-back-requires : goal.dart_at-back-requires
dart_at-back-requires c = let s = c in let e : s.args.i ≡ (s.args.i * 2 + 1) / 2 =
    omega arith in subst (EdgeRow s.args.edges.now) e s.requires.0

pub returns : goal.returns
returns c =
    let n = c in
    let r = n in
    let d = r in
    let p = d in
    let s = p in
    let a = s.args in
    let first = sent p.dart_at-d.type_inv ∙ p.dart_at-d.ensures in
    let start = to_z-of_z {w = w64} s.ranges.a in
    let second = sent d.dart_at-back.type_inv ∙ d.dart_at-back.ensures in
    let end = sent n.negated.type_inv ∙ n.negated.ensures ∙ ap neg_ℤ (to_z-of_z {w = w64} s.ranges.b) in
    let t = r.redirect.ensures ∙ (λ j. redirected (first j) (start j) a.edges.now a.e) in
    c.redirect-2.ensures ∙ (λ j. redirected (second j) (end j) (t j) a.e)
