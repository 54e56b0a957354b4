-- Contents of small sheets, by computation: grown maps, lists that are longer or too short, maps in form that no
-- tickets grow, and reasons that come before.
use mathlib.Core.Path.{◌≡◌, refl}
use mathlib.Core.List.{List, [], ◌∷◌, ◌++◌, map}
use mathlib.Core.Option.{Option, none, some}
use Prim.Native.Nat.{ℕ}
use lib.IntN.{ℤ, pos, negsuc}
use lib.ListN.{length, replicate}
use Rattle.plane.specs.declared.Point.{Point}
use Rattle.curves.specs.Curves.{through}
use Rattle.planar_maps.specs.Map.{fwd, bwd}
use Rattle.map.specs.Limits.{TwelvePoints}
use Rattle.map.specs.Rows.{Node, Edge, Map, Sizes, Lent, lent_of, counts}
use Rattle.map.specs.Grow.{grow}
use Rattle.map.specs.Ticket.{Listed}
use Rattle.nesting.specs.Contents.{contents_of}
use Rattle.nesting.proofs.Opened.{opened}

abbrev small : Sizes
small = record { nodes = 6; edges = 4; faces = 4; limit = TwelvePoints }

-- ---- tickets

abbrev well : ℕ → ℕ → List ℤ
well x y = pos 1 ∷ negsuc 0 ∷ pos x ∷ pos y ∷ []

-- from node 1 around the square
abbrev square : List ℤ
square =
    pos 12 ∷ pos 1 ∷ pos 1 ∷ pos 0 ∷ pos 0 ∷ pos 10 ∷ pos 0 ∷ pos 10 ∷ pos 10 ∷ pos 0 ∷ pos 10 ∷ pos 0 ∷ pos 0 ∷ []

-- from node 2 around a tank in it
abbrev tank : List ℤ
tank = pos 12 ∷ pos 2 ∷ pos 2 ∷ pos 2 ∷ pos 2 ∷ pos 6 ∷ pos 2 ∷ pos 6 ∷ pos 6 ∷ pos 2 ∷ pos 6 ∷ pos 2 ∷ pos 2 ∷ []

-- the square's edge cut at the far corner, and a boundary from there to node 1
abbrev corner : List ℤ
corner = pos 8 ∷ pos 1 ∷ pos 10 ∷ pos 10 ∷ []

abbrev across : List ℤ
across = pos 12 ∷ pos 1 ∷ pos 2 ∷ pos 0 ∷ pos 0 ∷ pos 10 ∷ pos 10 ∷ []

-- from the well 1 to the well 2, and around a square from there
abbrev stub : List ℤ
stub = pos 4 ∷ pos 1 ∷ pos 2 ∷ pos 20 ∷ pos 0 ∷ pos 10 ∷ pos 0 ∷ []

abbrev loop_on_stub : List ℤ
loop_on_stub =
    pos 12 ∷ pos 2 ∷ pos 2 ∷ pos 10 ∷ pos 0 ∷ pos 10 ∷ pos 10 ∷ pos 0 ∷ pos 10 ∷ pos 0 ∷ pos 0 ∷ pos 10 ∷ pos 0 ∷ []

-- between the wells 3 and 4
abbrev ditch : List ℤ
ditch = pos 4 ∷ pos 3 ∷ pos 4 ∷ pos 2 ∷ pos 2 ∷ pos 4 ∷ pos 2 ∷ []

-- ---- answers

-- a list of sevens
abbrev sevens : ℕ → List ℤ
sevens n = replicate n (pos 7)

abbrev line : ℕ → ℕ → ℕ → List ℤ → List ℤ
line d k n l = pos d ∷ pos k ∷ pos n ∷ l

abbrev written : List ℤ → List ℤ → Listed
written l rest = record { list = l ++ rest; answer = record { refusal = 0; value = pos (length l) } }

abbrev refused : List ℤ → ℕ → Listed
refused l r = record { list = l; answer = record { refusal = r; value = pos 0 } }

-- ---- grown maps, and the numbers of their lines

pub record Claim : Type 0 where
  pub tickets : List (List ℤ)
  pub lines : List ℤ

-- the empty map; wells alone; the square, in which lie a well and a ditch, and a well outside; the square cut in two, a
-- well in one part; a tank in the square; and a well in the tank; a loop on a stub, no ring of which is at the piece's
-- lowest node but the outer one
abbrev pub claims : List Claim
claims =
    record { tickets = []; lines = line 0 0 0 [] }
    ∷ record { tickets = well 0 0 ∷ well 5 5 ∷ []; lines = line 0 0 0 (line 1 1 1 (line 1 1 2 [])) }
    ∷ record {
      tickets = well 0 0 ∷ square ∷ well 5 5 ∷ well 2 2 ∷ well 4 2 ∷ ditch ∷ well 20 20 ∷ [];
      lines = line 0 0 0 (line 1 1 1 (line 2 0 1 (line 3 1 2 (line 3 1 3 (line 1 1 5 [])))));
    }
    ∷ record {
      tickets = well 0 0 ∷ square ∷ corner ∷ across ∷ well 7 2 ∷ [];
      lines = line 0 0 0 (line 1 1 1 (line 2 0 1 (line 3 1 3 (line 2 0 2 []))));
    }
    ∷ record {
      tickets = well 0 0 ∷ square ∷ well 2 2 ∷ tank ∷ [];
      lines = line 0 0 0 (line 1 1 1 (line 2 0 1 (line 3 1 2 (line 4 0 2 []))));
    }
    ∷ record {
      tickets = well 0 0 ∷ square ∷ well 2 2 ∷ tank ∷ well 4 4 ∷ [];
      lines = line 0 0 0 (line 1 1 1 (line 2 0 1 (line 3 1 2 (line 4 0 2 (line 5 1 3 [])))));
    }
    ∷ record {
      tickets = well 20 0 ∷ well 10 0 ∷ stub ∷ loop_on_stub ∷ [];
      lines = line 0 0 0 (line 1 1 1 (line 2 0 1 []));
    }
    ∷ []

pub grown_lines : map (λ c. contents_of (grow small c.tickets).lent (sevens (length c.lines))) claims
    ≡ map (λ c. written c.lines []) claims
unfolding opened
grown_lines = refl

-- the remainder is untouched; a list one number too short
pub longer : contents_of (grow small (well 0 0 ∷ [])).lent (sevens 8) ≡ written (line 0 0 0 (line 1 1 1 [])) (sevens 2)
unfolding opened
longer = refl

pub shorter : contents_of (grow small (well 0 0 ∷ [])).lent (sevens 5) ≡ refused (sevens 5) 20
unfolding opened
shorter = refl

-- ---- maps in form that no tickets grow

abbrev at : ℕ → ℕ → Point
at x y = record { x = x; y = y }

abbrev node : ℕ → Point → Option ℕ → Node
node n p f = record { number = n; at = p; face = f }

-- edge n from node n back to it: first point, the others, left face, right face
abbrev loop : ℕ → Point → List Point → ℕ → ℕ → Edge
loop n p ps l r =
    record {
      number = n;
      start = n;
      end = n;
      next_left = fwd n;
      next_right = bwd n;
      left = l;
      right = r;
      curve = through (p ∷ ps ++ p ∷ []);
    }

abbrev outer : ℕ → ℕ → Edge
outer l r = loop 1 (at 0 0) (at 10 0 ∷ at 10 10 ∷ at 0 10 ∷ []) l r

abbrev inner : ℕ → ℕ → Edge
inner l r = loop 2 (at 2 2) (at 6 2 ∷ at 6 6 ∷ at 2 6 ∷ []) l r

abbrev sheet : List Node → List Edge → List ℕ → ℕ → Map
sheet ns es fs n = record { nodes = ns; edges = es; faces = fs; next = counts 3 3 n }

-- face 1 is missed, as nothing bears it; so is face 1 with a well, as nothing leads there
abbrev bare : Map
bare = sheet [] [] (0 ∷ 1 ∷ []) 2

abbrev cut_off : Map
cut_off = sheet (node 1 (at 0 0) (some 1) ∷ []) [] (0 ∷ 1 ∷ []) 2

-- a loop in a loop, both between the faces 0 and 1: face 0 would be listed twice
abbrev around : Map
around = sheet (node 1 (at 0 0) none ∷ node 2 (at 2 2) none ∷ []) (outer 1 0 ∷ inner 0 1 ∷ []) (0 ∷ 1 ∷ []) 2

-- 28 comes before 20
pub not_grown : map (λ m. contents_of (lent_of small m) []) (bare ∷ cut_off ∷ around ∷ [])
    ≡ refused [] 28 ∷ refused [] 28 ∷ refused [] 28 ∷ []
unfolding opened
not_grown = refl

-- a loop that bears face 0 by both its rings is listed there once
pub both_sides_lem : contents_of (lent_of small (sheet (node 1 (at 0 0) none ∷ []) (outer 0 0 ∷ []) (0 ∷ []) 1)) (sevens 6)
    ≡ written (line 0 0 0 (line 1 1 1 [])) []
unfolding opened
both_sides_lem = refl

-- ---- 1 and 2 come before 28: a face table without rows, and a face number that was not given

abbrev faceless : Lent
faceless = lent_of (record { nodes = 6; edges = 4; faces = 0; limit = TwelvePoints }) (sheet [] [] [] 2)

pub before : map (λ l. contents_of l []) (faceless ∷ lent_of small (sheet [] [] (0 ∷ 1 ∷ []) 1) ∷ [])
    ≡ refused [] 1 ∷ refused [] 2 ∷ []
unfolding opened
before = refl
