use Rattle.std.specs.Prelude.{◌≡◌, ℕ, ◌^◌, ◌≤◌, ◌<◌, min, ℤ, pos, negsuc, Result, Ok, Err, unsigned_abs}
use Rattle.std.proofs.Common.{refl, ap, ◌∙◌, to_z-of_z, arith}
use Rattle.std.specs.Result.{OkIff, result_unwrap_or}
use Rattle.std.specs.Int.{FitsUnsignedBits}
use mir.Syntax.{w64}
use mir.Val.{SFits}
use Rattle.console.specs.Texts.{clamp_len}
use Rattle.console.proofs.clamp.Goals as goal

nearest : {E : Type 0} (z : ℤ) (most : ℕ) (r : Result ℕ E) → SFits w64 z → OkIff r (FitsUnsignedBits 64 z) (unsigned_abs z)
    → min (result_unwrap_or r 0) most ≡ clamp_len z most
nearest (pos k) most (Ok n) f h = ap (λ (i : ℕ). min i most) h.1
nearest (pos k) most (Err e) f h = let g : k < 2 ^ 63 = f.sfits in absurd (h (omega arith))
nearest (negsuc k) most (Ok n) f h = absurd h.0
nearest (negsuc k) most (Err e) f h = omega arith

pub returns : goal.returns
returns c =
    let z = c.args.z in
    let most = c.args.most in
    let r = c.try_from.result in
    let read : OkIff r (FitsUnsignedBits 64 z) (unsigned_abs z) = rw (to_z-of_z {w = w64} c.ranges.z) at c.try_from.ensures in (
      c.min.ensures ∙ ap (λ (n : ℕ). min n most) c.unwrap_or.ensures ∙ nearest z most r c.ranges.z read,
      omega (arith, c.min.ensures),
    )
