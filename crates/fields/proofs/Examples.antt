-- Widths, fields and bytes by computation. Assumes nothing.
use mathlib.Core.Path.{◌≡◌, refl}
use mathlib.Core.Bool.{true, false}
use mathlib.Core.List.{[], ◌∷◌, ◌++◌, map, flat_map}
use lib.Count.{count_leading_zeros}
use Rattle.lists.specs.Tests.{same}
use Rattle.fields.specs.Bits.{width, bits, field, bits_of, bytes_of}

-- the largest number given so far is one less than the next: 1,023 needs 10 bits, 1,024 needs 11
pub widths : map width (2 ∷ 3 ∷ 4 ∷ 5 ∷ 1024 ∷ 1025 ∷ 1000000 ∷ []) ≡ 1 ∷ 2 ∷ 2 ∷ 3 ∷ 10 ∷ 11 ∷ 20 ∷ []
unfolding count_leading_zeros
widths = refl

-- most significant bit first
pub eleven : bits 6 11 ≡ false ∷ false ∷ true ∷ false ∷ true ∷ true ∷ []
unfolding same
eleven = refl

-- fields in the bytes 12 34: the whole, across both, and past the end
pub fields_read :
    let b = bits_of (18 ∷ 52 ∷ []) in
    field b 0 8 ∷ field b 4 8 ∷ field b 0 16 ∷ field b 12 8 ∷ [] ≡ 18 ∷ 35 ∷ 4660 ∷ 64 ∷ []
unfolding same flat_map
fields_read = refl

-- zero bits fill the last byte: AB C0
pub filled : bytes_of (bits 12 2748) ≡ 171 ∷ 192 ∷ []
unfolding same
filled = refl

-- 12 points, counts 0, 0, 1 and next numbers 1, 1, 1; the row of face 0 has no bits
pub empty_map_lem :
    bytes_of (true ∷ flat_map (bits 11) (0 ∷ 0 ∷ 1 ∷ []) ++ flat_map (bits 20) (1 ∷ 1 ∷ 1 ∷ []) ++ bits (width 1) 0)
    ≡ 128 ∷ 0 ∷ 0 ∷ 0 ∷ 64 ∷ 0 ∷ 4 ∷ 0 ∷ 0 ∷ 64 ∷ 0 ∷ 4 ∷ []
unfolding same flat_map count_leading_zeros
empty_map_lem = refl
