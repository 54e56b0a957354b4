-- What is claimed of bit fields. Proved in proofs/: Laws.antt (fields), Bytes.antt (bytes), Widths.antt (widths).
use Rattle.std.specs.Prelude.{◌≡◌, Bool, false, List, ◌++◌, ℕ, ◌+◌, ◌*◌, ◌-◌, ◌/◌, ◌^◌, ◌≤◌, ◌<◌, length, take, drop, replicate}
use Rattle.lists.specs.Members.{All}
use Rattle.fields.specs.Bits.{width, bits, field, bits_of, bytes_of}

-- ---- fields

-- a field that is written is read back, whatever stands before and behind it
abbrev pub FieldRead : Type 0
FieldRead = (before : List Bool) (w v : ℕ) (behind : List Bool) → v < 2 ^ w
    → field (before ++ bits w v ++ behind) (length before) w ≡ v

-- and one that is read is written again
abbrev pub FieldWritten : Type 0
FieldWritten = (b : List Bool) (at w : ℕ) → at + w ≤ length b → bits w (field b at w) ≡ take w (drop at b)

-- a field of w bits is below 2 ^ w
abbrev pub FieldBelow : Type 0
FieldBelow = (b : List Bool) (at w : ℕ) → field b at w < 2 ^ w

-- ---- bytes

-- bits in bytes are the bits, and zeros up to whole bytes
abbrev pub BitsFilled : Type 0
BitsFilled = (b : List Bool) → bits_of (bytes_of b) ≡ b ++ replicate ((length b + 7) / 8 * 8 - length b) false

abbrev pub BytesSmall : Type 0
BytesSmall = (b : List Bool) → All (λ x. x < 256) (bytes_of b)

-- bytes as bits are the bytes
abbrev pub BytesOfBits : Type 0
BytesOfBits = (f : List ℕ) → All (λ x. x < 256) f → bytes_of (bits_of f) ≡ f

-- ---- widths, for next numbers of 64 bits

-- every number given fits
abbrev pub WidthFits : Type 0
WidthFits = (next v : ℕ) → next ≤ 2 ^ 64 → v < next → v < 2 ^ width next

-- and the largest needs so many bits
abbrev pub WidthExact : Type 0
WidthExact = (next : ℕ) → 2 ≤ next → next ≤ 2 ^ 64
    → (2 ^ (width next - 1) ≤ next - 1) × (next - 1 < 2 ^ width next)

-- nothing wide if none was given
abbrev pub WidthNone : Type 0
WidthNone = (width 0 ≡ 0) × (width 1 ≡ 0)
