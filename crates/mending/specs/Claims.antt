-- What is claimed of links mended from the drawing, for all tables and lists that are lent. Proved in proofs/:
-- Sketched.antt (`SketchedButFor`) and Mends.antt (all others).
use Rattle.std.specs.Prelude.{◌≡◌, Bool, true, ◌&&◌, List, ◌≢◌, ℤ, pos, length}
use Rattle.lists.specs.Scans.{all_of}
use Rattle.map.specs.Rows.{Edge, Map, Lent, map_of, whole, has_edge}
use Rattle.map.specs.Form.{departures_differ, links_once, links_meet, rings_bear_one, in_form}
use Rattle.map.specs.Links.{obeys_law}
use Rattle.mending.specs.Mend.{sketched, mended, Mended, mend}

-- ---- what is taken

-- the edges that a row's links name exist
abbrev pub links_named : Map → Edge → Bool
links_named m e = has_edge m e.next_left.edge && has_edge m e.next_right.edge

-- `sketched` leaves out of form the links, the faces on rings and departures in one direction, and nothing else
abbrev pub SketchedButFor : Type 0
SketchedButFor =
    (l : Lent) → let m = map_of l in
    in_form l
    ≡ sketched l
    && departures_differ m
    && all_of (links_named m) m.edges
    && links_once m
    && links_meet m
    && rings_bear_one m

-- ---- what is left

-- the call is carried out
abbrev pub Mends : Lent → List ℤ → Type 0
Mends l list = (mend l list).answer.refusal ≡ 0

-- nothing is changed and nothing listed
abbrev pub untouched : Lent → List ℤ → Mended
untouched l list = record { lent = l; list = list; answer = record { refusal = 0; value = pos 0 } }

-- mended links obey the law
abbrev pub MendedLawful : Type 0
MendedLawful = (l : Lent) (list : List ℤ) → Mends l list → obeys_law (map_of (mend l list).lent) ≡ true

-- mended tables are in form, so they take tickets
abbrev pub MendedInForm : Type 0
MendedInForm =
    (l : Lent) (list : List ℤ) → Mends l list
    → (whole (mend l list).lent ≡ true) × (in_form (mend l list).lent ≡ true)

-- the same numbers in nodes, faces and head, as many in edges, and a map whose edges differ in links alone
pub record LinksAlone (before after : Lent) : Type 0 where
  pub nodes : after.nodes ≡ before.nodes
  pub faces : after.faces ≡ before.faces
  pub head : after.head ≡ before.head
  pub size : length after.edges ≡ length before.edges
  pub edges : map_of after ≡ mended (map_of before)

-- only links change
abbrev pub MendedLinksAlone : Type 0
MendedLinksAlone = (l : Lent) (list : List ℤ) → Mends l list → LinksAlone l (mend l list).lent

-- a map in form that obeys the law stays as it is and yields an empty list, whatever the room
abbrev pub LawfulUntouched : Type 0
LawfulUntouched =
    (l : Lent) → whole l ≡ true → in_form l ≡ true → obeys_law (map_of l) ≡ true
    → (list : List ℤ) → mend l list ≡ untouched l list

-- so does a map mended before
abbrev pub MendedTwice : Type 0
MendedTwice =
    (l : Lent) (list : List ℤ) → Mends l list
    → (again : List ℤ) → mend (mend l list).lent again ≡ untouched (mend l list).lent again

-- a call that is turned down changes neither tables nor list, and its value is 0
abbrev pub RefusedUntouched : Type 0
RefusedUntouched =
    (l : Lent) (list : List ℤ) → (mend l list).answer.refusal ≢ 0
    → let r = (mend l list).answer.refusal in
    mend l list ≡ record { lent = l; list = list; answer = record { refusal = r; value = pos 0 } }
