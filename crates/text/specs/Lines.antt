-- A ticket as a line of text: whole numbers that fit 64 signed bits, parted by blanks; at most 1,000 bytes.
use Rattle.std.specs.Prelude.{Bool, true, false, cond, ◌&&◌, ◌||◌, List, [], ◌∷◌, ℕ, ◌+◌, ◌*◌, ◌-◌, ◌^◌, leb, ℤ, pos, neg_ℤ, Option, Some, None, length}
use Rattle.lists.specs.Tests.{same}
use Rattle.lists.specs.Scans.{all_of, fold}

-- a blank: tab, form feed, carriage return, space
abbrev pub blank : ℕ → Bool
blank b = same b 9 || same b 12 || same b 13 || same b 32

abbrev pub digit : ℕ → Bool
digit b = leb 48 b && leb b 57

-- one byte more before the words that follow it
abbrev pub join_byte : ℕ → Bool → List (List ℕ) → List (List ℕ)
join_byte b true ws = (b ∷ []) ∷ ws
join_byte b false [] = (b ∷ []) ∷ []
join_byte b false (w ∷ ws) = (b ∷ w) ∷ ws

-- the line is at its end, or a blank follows
abbrev pub parted : List ℕ → Bool
parted [] = true
parted (b ∷ r) = blank b

-- the words of a line: what stands between blanks
abbrev pub words : List ℕ → List (List ℕ)
words [] = []
words (b ∷ r) = let rest = words r in cond (blank b) rest (join_byte b (parted r) rest)

-- the value of digits
abbrev pub value_of : List ℕ → ℕ
value_of ds = fold (λ n b. n * 10 + (b - 48)) 0 ds

-- a magnitude with its sign, where it fits 64 signed bits
abbrev pub signed_number : Bool → List ℕ → Option ℤ
signed_number minus [] = None
signed_number minus (d ∷ ds) =
    let n = value_of (d ∷ ds) in
    let most = cond minus (2 ^ 63) (2 ^ 63 - 1) in
    cond (all_of digit (d ∷ ds) && leb n most) (Some (cond minus (neg_ℤ (pos n)) (pos n))) None

-- a word as a number: an optional sign and decimal digits, leading zeros among them
abbrev pub word_number : List ℕ → Option ℤ
word_number [] = None
word_number (b ∷ r) = cond (same b 45) (signed_number true r)
    (cond (same b 43) (signed_number false r) (signed_number false (b ∷ r)))

abbrev pub cons_number : Option ℤ → Option (List ℤ) → Option (List ℤ)
cons_number (Some z) (Some zs) = Some (z ∷ zs)
cons_number (Some z) None = None
cons_number None zs = None

-- all words as numbers; none where one is no number
abbrev pub numbers_of : List (List ℕ) → Option (List ℤ)
numbers_of [] = Some []
numbers_of (w ∷ ws) = cons_number (word_number w) (numbers_of ws)

abbrev pub max_line : ℕ
max_line = 1000

-- the numbers of a line; none where the line is longer or has anything but such numbers
unfoldable pub line_numbers : List ℕ → Option (List ℤ)
line_numbers l = cond (leb (length l) max_line) (numbers_of (words l)) None
