-- A relation between piece rows and face rows as a matrix of bits, held in words of 64, the lowest bit of a word first.
use Rattle.std.specs.Prelude.{◌≡◌, Bool, true, false, not, ◌&&◌, ◌||◌, ℕ, ◌+◌, ◌*◌, ◌-◌, ◌/◌, ◌%◌, ◌^◌, ◌<◌, length, get_or, Option, Some, None}
use mathlib.Core.List.{List, [], ◌∷◌, Memᴰ}
use Rattle.lists.specs.Tests.{same, bit}
use Rattle.lists.specs.Scans.{keep}
use Rattle.lists.specs.Tables.{table}

-- rows of faces and of pieces are below this
abbrev pub span : ℕ
span = 1024

-- the words of a vertex, and of the matrix
abbrev pub words : ℕ
words = 16

abbrev pub cells : ℕ
cells = 32768

-- bit y of vertex v
abbrev pub bit_at : List ℕ → ℕ → ℕ → Bool
bit_at g v y = same (get_or g (v * words + y / 64) 0 / 2 ^ (y % 64) % 2) 1

-- the vertex of a face row (false) or a piece row (true)
abbrev pub vertex_of : Bool → ℕ → ℕ
vertex_of b x = x * 2 + bit b

-- piece row p and face row f are related now; all else is as before
pub record Joined (before : List ℕ) (p f : ℕ) (after : List ℕ) : Type 0 where
  pub size : length after ≡ length before
  pub bits : (v y : ℕ) → y < span → bit_at after v y
      ≡ (bit_at before v y || same v (f * 2) && same y p || same v (p * 2 + 1) && same y f)

-- the matrix has the relation of piece rows to face rows
pub record Relates (g : List ℕ) (related : ℕ → ℕ → Bool) : Type 0 where
  pub size : length g ≡ cells
  pub pieces : (p f : ℕ) → p < span → f < span → bit_at g (vertex_of false f) p ≡ related p f
  pub faces : (p f : ℕ) → p < span → f < span → bit_at g (vertex_of true p) f ≡ related p f

-- the bits of vertex v that are set, from y on
abbrev pub bits_from : List ℕ → ℕ → ℕ → List ℕ
bits_from g v y = keep (bit_at g v) (table (λ i. i) y (span - y))

-- but one
abbrev pub related_but : List ℕ → ℕ → ℕ → ℕ → List ℕ
related_but g v y but = keep (λ i. not (same i but)) (bits_from g v y)

-- the piece rows related to a face row, the face rows related to a piece row
abbrev pub related : List ℕ → Bool → ℕ → List ℕ
related g b x = bits_from g (vertex_of b x) 0

-- what is related to a face row or a piece row is among all of them
abbrev pub Closed : List ℕ → List (Bool × ℕ) → Type 0
Closed g all = (b : Bool) (x y : ℕ) → Memᴰ y (related g b x) → Memᴰ (not b, y) all

-- the first, where there is one
abbrev pub first_of : List ℕ → Option ℕ
first_of [] = None
first_of (x ∷ xs) = Some x
