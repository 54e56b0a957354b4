-- `head::exceeds` meets its contract: the number is small. Assumes nothing.
use mathlib.Core.Path.{◌∙◌}
use native.Mathlib.Omega.{arith}
use Rattle.head.proofs.Words.{count_natural, count_abs}
use Rattle.head.proofs.exceeds.Goals as goal

pub to_usize-requires : goal.to_usize-requires
to_usize-requires c = count_natural c.args.z c.requires.0.natural c.requires.0.most

pub overflow_add-result : goal.overflow_add-result
overflow_add-result c =
    let s = c in
    let e = c.to_usize.ensures ∙ count_abs s.args.z s.requires.0.natural s.requires.0.most in
    omega (arith, s.requires.0.most, s.requires.1)

pub returns : goal.returns
returns c =
    let s = c in
    let e = c.to_usize.ensures ∙ count_abs s.args.z s.requires.0.natural s.requires.0.most in
    rw e
