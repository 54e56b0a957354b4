-- Faces and pieces listed by rows: the lines so far, as they are noted, and what the functions leave.
use Rattle.std.specs.Prelude.{◌≡◌, Bool, true, false, not, ℕ, suc, ◌+◌, ◌*◌, ◌-◌, ◌/◌, ◌%◌, ◌<◌, ◌≤◌, length, get_or, Option as Left, Some, None, IfSome}
use mathlib.Core.List.{List, [], map, Memᴰ}
use Rattle.std.proofs.Math.Option.{Option, none, some}
use Rattle.lists.specs.Tests.{same}
use Rattle.lists.specs.Tables.{table}
use Rattle.lists.specs.Members.{Distinct}
use Rattle.map.specs.Limits.{max_nodes, max_faces}
use Rattle.piece_faces.specs.Bits.{span, cells, vertex_of, related_but, related, Closed}
use Rattle.nesting.specs.Contents.{Line, line, listed, each, lines, complete}
use Rattle.nesting.specs.Claims.{Part, part_of}

-- faces and pieces, at most
abbrev pub most_parts : ℕ
most_parts = max_faces + max_nodes

-- a note is a depth and a vertex: twice the row, and one more for a piece
abbrev pub line_at : List ℕ → ℕ → Line
line_at notes i = line (get_or notes (i * 2) 0) (same (get_or notes (i * 2 + 1) 0 % 2) 1) (get_or notes (i * 2 + 1) 0 / 2)

-- n lines, noted from the last of so many notes on
abbrev pub noted_lines : List ℕ → ℕ → ℕ → List Line
noted_lines notes total n = table (λ j. line_at notes (total - suc j)) 0 n

-- the lines so far, of all faces and pieces, where so many are left
pub record SoFar (all : List Part) (left : ℕ) (notes seen : List ℕ) (ls : List Line) : Type 0 where
  pub count : length ls + left ≡ length all
  pub noted : ls ≡ noted_lines notes (length all) (length ls)
  pub once : Distinct (map part_of ls)
  pub inside : (z : Part) → Memᴰ z (map part_of ls) → Memᴰ z all
  pub marked : (b : Bool) (x : ℕ) → x < span → same (get_or seen (vertex_of b x) 0) 0 ≡ not (listed ls b x)

-- what is listed under x from row `from` on, but the one that led to x; so many left bound the depth
abbrev pub listed_from : List ℕ → Bool → ℕ → ℕ → ℕ → ℕ → ℕ → List Line → Option (List Line)
listed_from g b x from led d left ls =
    each (λ y. lines left (related g) (not b) y (some x) d) (related_but g (vertex_of b x) from led) (some ls)

-- there is room for a line of each that is left
pub record Room (g : List ℕ) (x d left : ℕ) (notes seen : List ℕ) : Type 0 where
  pub matrix : length g ≡ cells
  pub row : x < span
  pub under : 1 ≤ d
  pub depth : d + left ≤ most_parts
  pub lines : left * 2 ≤ length notes
  pub marks : length seen ≡ span * 2

-- the lines with those that were to be listed, noted; or one would be listed twice
abbrev pub Told : List Part → List ℕ → List ℕ → Option (List Line) → Left ℕ → Type 0
Told all notes seen o (Some k) = (after : List Line) × (o ≡ some after) × SoFar all k notes seen after
Told all notes seen o None = o ≡ none

-- what a call leaves: no more than was left, and the lines from row `from` on are listed
pub record Lists (g : List ℕ) (b : Bool) (x from led d left : ℕ) (notes seen notes' seen' : List ℕ) (r : Left ℕ)
    : Type 0 where
  pub fewer : IfSome r (λ k. k ≤ left)
  pub told : (all : List Part) (ls : List Line) → Closed g all → SoFar all left notes seen ls
      → Told all notes' seen' (listed_from g b x from led d left ls) r

-- ---- all of them

-- a matrix of so many faces and pieces in all, face row 0 among them
pub record AllParts (g : List ℕ) (parts : ℕ) : Type 0 where
  pub matrix : length g ≡ cells
  pub few : parts ≤ most_parts
  pub all : List Part
  pub count : length all ≡ parts
  pub zero_in : Memᴰ (false, 0) all
  pub closed : Closed g all

-- the contents by rows
abbrev pub row_contents : List ℕ → ℕ → Option (List Line)
row_contents g n = complete n (lines (suc n) (related g) false 0 none 0 [])

-- there are contents, and their lines are noted; or there are none
pub record Outlined (g : List ℕ) (parts : ℕ) (notes : List ℕ) (r : Bool) : Type 0 where
  pub lists : r ≡ true → row_contents g parts ≡ some (noted_lines notes parts parts)
  pub none_is : r ≡ false → row_contents g parts ≡ none
