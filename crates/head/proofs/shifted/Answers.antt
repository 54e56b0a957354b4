-- `head::shifted` meets its contract: the number is small. Assumes nothing.
use mathlib.Core.Path.{ap, ◌∙◌}
use Prim.Native.Nat.{ℕ, ◌+◌, ◌-◌, ◌≤◌}
use native.Mathlib.Nat.{lt_of_le_of_lt}
use native.Mathlib.Omega.{arith}
use lib.Dec.{lit<}
use lib.IntN.{pos}
use mir.Syntax.{w64}
use mir.Facts.{to_z_pos}
use borrow.Author.Rules.{sfits_of}
use Rattle.head.proofs.Words.{count_natural, count_abs}
use Rattle.head.proofs.shifted.Goals as goal

pub overflow_add-result : goal.overflow_add-result
overflow_add-result c =
    let s = c in
    let e = c.to_usize.ensures ∙ count_abs s.args.z s.requires.0.natural s.requires.0.most in
    omega (arith, s.requires.0.most)

pub overflow_sub-result : goal.overflow_sub-result
overflow_sub-result c =
    let s = c in
    let e = c.to_usize.ensures ∙ count_abs s.args.z s.requires.0.natural s.requires.0.most in
    omega (arith, s.requires.0.most)

pub overflow_cast-result : goal.overflow_cast-result
overflow_cast-result c =
    let s = c in
    let e = c.to_usize.ensures ∙ count_abs s.args.z s.requires.0.natural s.requires.0.most in
    let few : c.to_usize.result + s.args.more - s.args.less ≤ 1001000 = omega (arith, s.requires.0.most) in
    sfits_of (lt_of_le_of_lt few (lit< tt))

pub returns : goal.returns
returns c =
    let s = c in
    let e = c.to_usize.ensures ∙ count_abs s.args.z s.requires.0.natural s.requires.0.most in
    let few : c.to_usize.result + s.args.more - s.args.less ≤ 1001000 = omega (arith, s.requires.0.most) in
    to_z_pos w64 (lt_of_le_of_lt few (lit< tt)) ∙ ap (λ (n : ℕ). pos (n + s.args.more - s.args.less)) e

pub to_usize-requires : goal.to_usize-requires
to_usize-requires c = count_natural c.args.z c.requires.0.natural c.requires.0.most
