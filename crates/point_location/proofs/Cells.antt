-- A face as a number of a row: not negative, and below 2 ^ 63. Assumes nothing.
use mathlib.Core.Path.{◌≡◌}
use mathlib.Core.Bool.{true, false≢true}
use Prim.Native.Nat.{◌<◌}
use lib.IntN.{ℤ, pos, negsuc, nat_abs}
use lib.Signed.{non_neg}
use mir.Syntax.{w64}
use mir.Val.{SFits}

pub face_small : (z : ℤ) → non_neg z ≡ true → SFits w64 z → nat_abs z < 9223372036854775808
face_small (pos n) e f = f.sfits
face_small (negsuc n) e f = absurd (false≢true e)
