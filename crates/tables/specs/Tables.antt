-- Rows in flat tables of numbers. Row i of a table of width w are the numbers i * w .. i * w + w - 1; the first n rows
-- are in use, and zeros stand behind them.
use Rattle.std.specs.Prelude.{◌≡◌, Bool, true, cond, ◌&&◌, List, [], ◌∷◌, ◌++◌, ℕ, zero, suc, ◌+◌, ◌*◌, ◌-◌, ◌/◌, ◌%◌, ◌≤◌, leb, ltb, ℤ, pos, negsuc, nat_abs, length, get_or, take, drop, replicate, set}
use Rattle.std.proofs.Math.Seq.{paste}
use Rattle.std.specs.Int.Signed.{le_z, lt_z}
use Rattle.lists.specs.Tests.{same}
use Rattle.lists.specs.Scans.{all_of, linked}
use Rattle.lists.specs.Tables.{table}

-- ---- rows

-- the first n rows of w numbers
abbrev pub rows : ℕ → ℕ → List ℤ → List (List ℤ)
rows w zero l = []
rows w (suc n) l = take w l ∷ rows w n (drop w l)

-- row i
abbrev pub row_at : ℕ → List ℤ → ℕ → List ℤ
row_at w l i = take w (drop (i * w) l)

-- number k of a row
abbrev pub cell : List ℤ → ℕ → ℤ
cell r k = get_or r k (pos 0)

-- the numbers, and zeros up to n
abbrev pub filled : ℕ → List ℤ → List ℤ
filled n l = l ++ replicate (n - length l) (pos 0)

-- whole rows of w numbers, from `least` to `most` of them
abbrev pub whole_rows : ℕ → ℕ → ℕ → List ℤ → Bool
whole_rows w least most l = same (length l % w) 0 && leb least (length l / w) && leb (length l / w) most

-- ---- numbers as they stand

-- a to b
abbrev pub within : ℕ → ℕ → ℤ → Bool
within a b z = le_z (pos a) z && le_z z (pos b)

abbrev pub is_zero : ℤ → Bool
is_zero z = same (nat_abs z) 0

-- rows past a count are all 0
abbrev pub rest_zero : ℕ → ℤ → List ℤ → Bool
rest_zero w n l = all_of is_zero (drop (nat_abs n * w) l)

-- two numbers are one
abbrev pub same_z : ℤ → ℤ → Bool
same_z a b = le_z a b && le_z b a

-- ---- the first column

-- numbers rise from the first one allowed, and those in use are below the next number
abbrev pub numbered : ℕ → ℕ → List ℕ → Bool
numbered least next ns = linked ltb ns && all_of (λ n. leb least n && ltb n next) ns

-- the numbers in the first column
abbrev pub column : ℕ → List ℤ → ℕ → List ℤ
column w l n = table (λ i. get_or l (i * w) (pos 0)) 0 n

-- they rise: what a search by halves requires
pub record Rising (w : ℕ) (l : List ℤ) (n : ℕ) : Type 0 where
  pub fits : n * w ≤ length l
  pub some : 1 ≤ w
  pub rising : linked lt_z (column w l n) ≡ true

-- a number's last 12 bits
abbrev pub last_bits : ℤ → ℕ
last_bits (pos n) = n % 4096
last_bits (negsuc n) = 4095 - n % 4096

-- row i in the index under its number's last bits
abbrev pub indexed : ℕ → List ℤ → List ℕ → ℕ → List ℕ
indexed w l index i = set index (last_bits (get_or l (i * w) (pos 0))) (i % 65536)

-- ---- rows written

-- `new` for `old` at place j
abbrev pub replace_at : ℤ → ℤ → List ℤ → ℕ → List ℤ
replace_at old new l j = cond (same_z (get_or l j (pos 0)) old) (set l j new) l

-- row i is gone: the rows after it moved down, and the last of the n is 0
abbrev pub closed : ℕ → List ℤ → ℕ → ℕ → List ℤ
closed w l n i = paste (paste l (i * w) (drop (i * w + w) l) (n * w - (i * w + w))) (n * w - w) (replicate w (pos 0)) w
