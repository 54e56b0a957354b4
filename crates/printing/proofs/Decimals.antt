-- The library's decimals are the digits that are printed. Assumes nothing.
use Rattle.std.specs.Prelude.{◌≡◌, List, ◌∷◌, ℕ, suc, ◌^◌, ◌<◌, ℤ, pos, negsuc}
use Rattle.std.proofs.Common.{sym, ap, arith}
use Rattle.std.specs.Fmt.{decimal, signed_decimal}
use Rattle.std.proofs.Math.Nat.{mod-eq_of_lt}
use Rattle.std.proofs.lemmas.Bool.{lt-ltb, le-ltb}
use Rattle.std.proofs.lemmas.Fmt.{AppendsLastDigit, decimal_from_appends, length-decimal-le}
use mir.Syntax.{w64}
use mir.Val.{SFits}
use Rattle.printing.specs.Texts.{digits_of, natural_text, number_text}

appends : AppendsLastDigit digits_of
appends = record {
  one = λ k n h. rw (lt-ltb n 10 h, mod-eq_of_lt {n = n} {m = 10} h);
  more = λ k n h. rw (le-ltb n 10 h);
}

pub natural_is : (n : ℕ) → n < 2 ^ 64 → decimal n ≡ natural_text n
unfolding natural_text
natural_is n h = sym (decimal_from_appends digits_of appends 20 n h (length-decimal-le 20 n (omega arith) (omega arith) h))

pub number_is : (z : ℤ) → SFits w64 z → signed_decimal z ≡ number_text z
number_is (pos n) f = let h : n < 2 ^ 63 = f.sfits in natural_is n (omega arith)
number_is (negsuc k) f =
    let h : k < 2 ^ 63 = f.sfits in
    ap (λ (t : List ℕ). 45 ∷ t) (natural_is (suc k) (omega arith))
