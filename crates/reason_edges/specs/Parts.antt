-- The reasons of kinds 11 and 12 from 7 on, and of 13 and 14, in parts, as the functions ask them.
use Rattle.std.specs.Prelude.{Bool, not, ◌&&◌, [], ◌∷◌, ◌++◌, ℕ, ◌+◌, min}
use Rattle.lists.specs.Tests.{same, bit}
use Rattle.curves.specs.Curves.{Curve, start_way}
use Rattle.map.specs.declared.Head.{Head}
use Rattle.map.specs.declared.Variant.{Variant}
use Rattle.map.specs.Rows.{Map, Sizes, Edge, counts}
use Rattle.map.specs.Links.{corner_face}
use Rattle.map.specs.Edits.{is_new, splits_face}
use Rattle.map.specs.Reasons.{Reasons, curve_reasons, meeting_reasons, direction_taken, corners_differ}
use Rattle.map.specs.Reasons.{room_reasons}
use Rattle.head.specs.Heads.{spent_at}

-- kinds 11 and 12, of nodes that exist, from 7 on: the reasons before 20
abbrev pub drawing_reasons : Map → ℕ → ℕ → Curve → Reasons
drawing_reasons m a b c = curve_reasons m c a b ++ (11, direction_taken m m.next.edges a b c)
    ∷ (12, corners_differ m a b c) ∷ meeting_reasons m m.edges c

-- the old face goes, and a second new one is made
abbrev pub makes_second : Bool → Variant → ℕ → Bool
makes_second splits how face = splits && is_new how && not (same face 0)

-- 20 and 21
abbrev pub growth_reasons : Variant → Sizes → Map → ℕ → ℕ → Curve → Reasons
growth_reasons how s m a b c =
    let splits = splits_face a b c m in
    let second = makes_second splits how (corner_face m a (start_way c)) in
    room_reasons s m (counts 0 1 (bit splits)) (counts 0 1 (bit splits + bit second))

-- a row whose removal makes a new face
abbrev pub makes_of : Variant → Edge → Bool
makes_of how e = is_new how && not (same e.left e.right) && not (same (min e.left e.right) 0)

-- 21, of so many numbers of faces
abbrev pub face_reasons : Head → ℕ → Reasons
face_reasons h numbers = (21, spent_at h (counts 0 0 numbers)) ∷ []
