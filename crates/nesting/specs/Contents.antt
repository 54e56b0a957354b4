-- Contents of a sheet: a face lists the pieces in it, and a piece lists the other faces it bounds.
use Rattle.std.specs.Prelude.{Bool, true, false, cond, not, ◌&&◌, ◌||◌, ℕ, zero, suc, ◌+◌, ltb, ℤ, pos, length}
use Rattle.std.specs.Bool.{beq}
use mathlib.Core.List.{List, [], ◌∷◌, ◌++◌, map, flat_map}
use Rattle.std.proofs.Math.Option.{Option, none, some, get_or}
use Rattle.lists.specs.Tests.{same, bit}
use Rattle.lists.specs.Scans.{any_of, keep, is_some}
use Rattle.map.specs.Rows.{Map, Lent, map_of}
use Rattle.map.specs.Darts.{directed, leaves, bears, piece_of, piece_count}
use Rattle.map.specs.Reasons.{first_reason}
use Rattle.map.specs.Ticket.{Listed, lent_reasons, list_unless}

-- ---- what is in what

-- all pieces, by lowest node number
unfoldable pub piece_rows : Map → List ℕ
piece_rows m = keep (λ n. same (piece_of m n) n) (map (λ r. r.number) m.nodes)

-- how many faces and pieces there are
abbrev pub part_count : Map → ℕ
part_count m = length m.faces + piece_count m

-- it is that number
abbrev pub is_it : ℕ → Option ℕ → Bool
is_it x none = false
is_it x (some y) = same x y

-- a ring of piece p bears face f: one of its directed edges does, and so, in form, do all of them
abbrev pub ring_bears : Map → ℕ → ℕ → Bool
ring_bears m p f = any_of (λ d. same (piece_of m (leaves m d)) p && same (bears m d) f) (directed m)

-- node p, alone in its piece, bears face f
abbrev pub node_bears : Map → ℕ → ℕ → Bool
node_bears m p f = any_of (λ r. same r.number p && is_it f r.face) m.nodes

-- a piece is in a face that one of its rings, or its lone node, bears
unfoldable pub is_in : Map → ℕ → ℕ → Bool
is_in m p f = ring_bears m p f || node_bears m p f

-- under a face (false) the pieces in it, by lowest node number; under a piece (true) the faces it is in, by number
unfoldable pub listed_under : Map → Bool → ℕ → List ℕ
listed_under m false f = keep (λ p. is_in m p f) (piece_rows m)
listed_under m true p = keep (λ f. is_in m p f) m.faces

-- ---- lines

-- a line: depth, face or piece, and the face number or the piece's lowest node number
pub record Line : Type 0 where
  pub depth : ℕ
  pub piece : Bool
  pub number : ℕ

abbrev pub line : ℕ → Bool → ℕ → Line
line d b x = record { depth = d; piece = b; number = x }

-- it is listed
abbrev pub listed : List Line → Bool → ℕ → Bool
listed ls b x = any_of (λ l. beq l.piece b && same l.number x) ls

-- its own line, unless it is listed already
abbrev pub fresh : Bool → List Line → Line → Option (List Line)
fresh true ls l = none
fresh false ls l = some (ls ++ l ∷ [])

-- all but the one that led here
abbrev pub others : Option ℕ → List ℕ → List ℕ
others led ys = keep (λ y. not (is_it y led)) ys

-- one after the other, as long as none is listed twice
abbrev pub each : (ℕ → List Line → Option (List Line)) → List ℕ → Option (List Line) → Option (List Line)
each f [] ls = ls
each f (x ∷ xs) none = none
each f (x ∷ xs) (some ls) = each f xs (f x ls)

-- the lines so far, then face (false) or piece (true) x at depth d, followed at once by what is under it; none where
-- one would be listed twice. k bounds the depth: one more than there are faces and pieces is enough (`DepthEnough`)
unfoldable pub lines : ℕ → (Bool → ℕ → List ℕ) → Bool → ℕ → Option ℕ → ℕ → List Line → Option (List Line)
lines zero beneath b x led d ls = none
lines (suc k) beneath b x led d ls =
    each (λ y. lines k beneath (not b) y (some x) (suc d)) (others led (beneath b x))
    (fresh (listed ls b x) ls (line d b x))

-- none where one is missed
abbrev pub complete : ℕ → Option (List Line) → Option (List Line)
complete n none = none
complete n (some ls) = cond (ltb (length ls) n) none (some ls)

-- from face 0 on
unfoldable pub contents : Map → Option (List Line)
contents m = complete (part_count m) (lines (suc (part_count m)) (listed_under m) false 0 none 0 [])

-- ---- the call

-- 0 for a face, 1 for a piece
abbrev pub line_cells : Line → List ℤ
line_cells l = pos l.depth ∷ pos (bit l.piece) ∷ pos l.number ∷ []

-- 28 one would be listed twice or missed; 20 the list is too short
unfoldable pub contents_of : Lent → List ℤ → Listed
contents_of l list =
    let c = contents (map_of l) in
    let written = flat_map line_cells (get_or c []) in
    list_unless list written
    (first_reason (lent_reasons l ++ (28, not (is_some c)) ∷ (20, ltb (length list) (length written)) ∷ []))
