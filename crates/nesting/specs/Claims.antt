-- What is claimed of contents. Proved in proofs/Exact.antt (of every map) and proofs/Listed.antt (of grown maps).
use Rattle.std.specs.Prelude.{◌≡◌, Bool, true, false, not, ◌≢◌, ◌↔◌, ℕ, zero, suc, ◌≤◌, ℤ}
use mathlib.Core.List.{List, [], ◌∷◌, ◌++◌, map, flat_map, Permᴰ}
use Rattle.std.proofs.Math.Option.{Option, none, some}
use Rattle.map.specs.Rows.{Map, Lent, Sizes, map_of, whole}
use Rattle.map.specs.Form.{formed, in_form}
use Rattle.map.specs.Grow.{grow}
use Rattle.nesting.specs.Contents.{piece_rows, part_count, listed_under, Line, line, others, lines, contents}
use Rattle.nesting.specs.Contents.{contents_of}

-- a face (false) or a piece (true), by number
abbrev pub Part : Type 0
Part = Bool × ℕ

abbrev pub part_of : Line → Part
part_of l = (l.piece, l.number)

abbrev pub faces_and_pieces : Map → List Part
faces_and_pieces m = map (λ f. (false, f)) m.faces ++ map (λ p. (true, p)) (piece_rows m)

-- a line for each face and each piece, and no other
abbrev pub Once : Map → List Line → Type 0
Once m ls = Permᴰ (map part_of ls) (faces_and_pieces m)

-- ---- of every map

-- a greater bound on the depth changes nothing, on any rows
abbrev pub DepthEnough : Type 0
DepthEnough = (m : Map) (k : ℕ) → suc (part_count m) ≤ k
    → lines k (listed_under m) false 0 none 0 [] ≡ lines (suc (part_count m)) (listed_under m) false 0 none 0 []

-- the list by its rule alone, cut at depth k: x, and what is under it but the one that led there; one may come twice
abbrev pub unchecked : ℕ → (Bool → ℕ → List ℕ) → Bool → ℕ → Option ℕ → ℕ → List Line
unchecked zero beneath b x led d = []
unchecked (suc k) beneath b x led d =
    line d b x ∷ flat_map (λ y. unchecked k beneath (not b) y (some x) (suc d)) (others led (beneath b x))

-- from face 0 on
abbrev pub by_rule : ℕ → Map → List Line
by_rule k m = unchecked k (listed_under m) false 0 none 0

-- for every map in form, grown or not: contents are the list by its rule, where that has each face and each piece once
abbrev pub ContentsExact : Type 0
ContentsExact = (m : Map) → formed m ≡ true → (k : ℕ) → suc (part_count m) ≤ k → (ls : List Line)
    → (contents m ≡ some ls) ↔ (by_rule k m ≡ ls) × Once m ls

-- so 28 answers exactly where that would list one twice or miss one, whatever list is lent
abbrev pub Exactly28 : Type 0
Exactly28 = (l : Lent) (list : List ℤ) → whole l ≡ true → in_form l ≡ true → (k : ℕ) → suc (part_count (map_of l)) ≤ k
    → ((contents_of l list).answer.refusal ≡ 28) ↔ (Once (map_of l) (by_rule k (map_of l)) → ⊥)

-- ---- of grown maps

-- the map has contents, with each face and each piece once
pub record HasContents (m : Map) : Type 0 where
  pub lines : List Line
  pub listed : contents m ≡ some lines
  pub once : Once m lines

-- for all sizes that hold the empty map and all lists of tickets
abbrev pub ContentsListed : Type 0
ContentsListed = (s : Sizes) → 1 ≤ s.faces → (ts : List (List ℤ)) → HasContents (map_of (grow s ts).lent)

-- so 28 never answers, whatever list is lent
abbrev pub ContentsNever28 : Type 0
ContentsNever28 = (s : Sizes) → 1 ≤ s.faces → (ts : List (List ℤ)) (list : List ℤ)
    → (contents_of (grow s ts).lent list).answer.refusal ≢ 28
