-- The faces on the sides of edges by row, four faces whose rectangles are set, and the rectangles then.
use Rattle.std.specs.Prelude.{◌≡◌, Bool, cond, ◌||◌, List, [], ◌∷◌, ℕ, zero, suc, ℤ, pos, nat_abs, get_or, Option, Some, None}
use Rattle.lists.specs.Tests.{same}
use Rattle.lists.specs.Scans.{any_of}
use Rattle.lists.specs.Tables.{place}
use Rattle.tables.specs.Tables.{same_z, column}
use Rattle.bounding_boxes.specs.declared.Extent.{Extent}
use Rattle.map.specs.declared.Head.{Head}
use Rattle.map.specs.Limits.{edge_width}
use Rattle.map.specs.Rows.{Edge}
use Rattle.map_rows.specs.Rows.{edge_at}
use Rattle.rectangles.specs.Boxes.{set_two}
use Rattle.edit_rectangles.specs.declared.Affected.{Affected}
use Rattle.edit_rectangles.specs.declared.FacePair.{FacePair}

abbrev pub no_pair : FacePair
no_pair = record { left = pos 0; right = pos 0 }

abbrev pub pair_of : Edge → FacePair
pair_of e = record { left = pos e.left; right = pos e.right }

-- of the edge with a number; none where it is missing
abbrev pub pair_found : List ℤ → Option ℕ → FacePair
pair_found l (Some i) = pair_of (edge_at l i)
pair_found l None = no_pair

abbrev pub pair_named : List ℤ → ℕ → ℤ → FacePair
pair_named l n z = pair_found l (place (same_z z) 0 (column edge_width l n))

-- of the last of n edges
abbrev pub pair_last : List ℤ → ℕ → FacePair
pair_last l zero = no_pair
pair_last l (suc n) = pair_of (edge_at l n)

abbrev pub both : FacePair → FacePair → Affected
both s u = record { first = s.left; second = s.right; third = u.left; fourth = u.right }

-- what is affected, before the rows are edited: the sides of as many edges as a ticket names, by its first numbers
abbrev pub affected_before : ℕ → List ℤ → ℕ → List ℤ → Affected
affected_before zero l n t = both no_pair no_pair
affected_before (suc zero) l n t = both (pair_named l n (get_or t 1 (pos 0))) no_pair
affected_before (suc (suc k)) l n t = both (pair_named l n (get_or t 1 (pos 0))) (pair_named l n (get_or t 2 (pos 0)))

-- and after it, with the heads of before and after: the sides of the edge drawn; the face made; what it was before
abbrev pub affected_after : Bool → List ℤ → Head → Head → Affected → Affected
affected_after draws l h h' a =
    let made = both (record { left = h.next_face; right = pos 0 }) no_pair in
    let drawn = both (pair_last l (nat_abs h'.edges)) no_pair in
    cond draws drawn (cond (same_z h'.next_face h.next_face) a made)

-- the four are face numbers
pub record AreFaces (a : Affected) : Type 0 where
  pub first : a.first ≡ pos (nat_abs a.first)
  pub second : a.second ≡ pos (nat_abs a.second)
  pub third : a.third ≡ pos (nat_abs a.third)
  pub fourth : a.fourth ≡ pos (nat_abs a.fourth)

abbrev pub listed : Affected → List ℕ
listed a = nat_abs a.first ∷ nat_abs a.second ∷ nat_abs a.third ∷ nat_abs a.fourth ∷ []

-- a face, unless it is one of two
abbrev pub other_than : ℕ → ℕ → ℕ → ℕ
other_than a b f = cond (same f a || same f b) 0 f

-- the rectangles of the four set in n face rows: of the first two, and then of the others that are not among them
abbrev pub set_four : ℕ → (ℕ → Extent) → Affected → List ℤ → List ℤ
set_four n box a l =
    let p = nat_abs a.first in
    let q = nat_abs a.second in
    set_two n box (other_than p q (nat_abs a.third)) (other_than p q (nat_abs a.fourth)) (set_two n box p q l)

-- new rectangles for the faces of a list
abbrev pub set_all : List ℕ → (ℕ → Extent) → (ℕ → Extent) → ℕ → Extent
set_all fs new old f = cond (any_of (same f) fs) (new f) (old f)
