-- What the tests of kinds 1 to 3 answered, in the map's terms, and the first reason from its parts. Assumes nothing.
use Rattle.std.specs.Prelude.{Some, None}
use mathlib.Core.Path.{◌≡◌, refl, sym, ap, ap₂, ◌∙◌}
use mathlib.Core.Bool.{Bool, true, false, not, ◌&&◌, ◌||◌, true≢false}
use mathlib.Core.List.{List, ◌++◌}
use Prim.Native.Nat.{ℕ, ◌≤◌, ◌<◌}
use lib.Dec.{lit<}
use lib.IntN.{ℤ, pos, nat_abs}
use lib.Signed.{non_neg, mag}
use mir.Syntax.{w64}
use mir.Val.{of_z, to_z, SFits}
use mir.Facts.{to_z-of_z}
use borrow.Author.Tests.{not-false}
use Rattle.integers.specs.Signs.{sent}
use Rattle.lists.specs.Tests.{same}
use Rattle.lists.specs.Tables.{place}
use Rattle.lists.proofs.Bools.{&&-false}
use Rattle.tables.specs.Tables.{same_z, column}
use Rattle.plane.specs.declared.Point.{Point}
use Rattle.curves.specs.Curves.{point, coordinate}
use Rattle.map.specs.declared.Head.{Head}
use Rattle.map.specs.Limits.{face_width}
use Rattle.map.specs.Rows.{Map, Sizes, map_of, sizes_of, counts, lent}
use Rattle.map.specs.Faces.{face_of_point, floors}
use Rattle.map.specs.Tickets.{AddIsoNode}
use Rattle.map.specs.Reasons.{first_reason, minus_one, no_face, outside, edge_through, any_node_at, reasons}
use Rattle.map.proofs.Reasons.{first_hit, first_miss, first_zero, first_append, first_after}
use Rattle.map_rows.specs.Rows.{edge_map}
use Rattle.map_rows.proofs.Lookups.{face_found}
use Rattle.head.specs.Heads.{sizes_in, room_at}
use Rattle.outcomes.specs.Outcomes.{Formed}
use Rattle.outcomes.proofs.Formed.{room_at_lem, face_rows_lem}
use Rattle.reason_curves.proofs.Others.{node_at_all}
use Rattle.edit_nodes.specs.Parts.{point_taken, point_reasons, add_early, add_late, move_reasons}
use Rattle.edit_nodes.proofs.Faces.{face_none}

-- a face that is not missing is none or a number
pub given_face : (a b c : Bool) → not a && not (b && c) ≡ false → a || b ≡ true
given_face true b c e = refl
given_face false true c e = refl
given_face false false c e = absurd (true≢false e)

-- the coordinates that were looked at
pub range_told : {x y : ℤ} {r t : Bool} → SFits w64 x → SFits w64 y
    → r ≡ coordinate (to_z w64 (of_z w64 x)) && coordinate (to_z w64 (of_z w64 y)) → r ≡ t → outside x y ≡ not t
range_told fx fy er et = rw (← to_z-of_z {w = w64} fx, ← to_z-of_z {w = w64} fy, ← er) (ap not et)

-- the point of coordinates that were passed
pub point_passed : {x y : ℤ} {p : Point} → SFits w64 x → SFits w64 y
    → p ≡ point (to_z w64 (of_z w64 x)) (to_z w64 (of_z w64 y)) → p ≡ point x y
point_passed fx fy e = e ∙ ap₂ point (to_z-of_z {w = w64} fx) (to_z-of_z {w = w64} fy)

-- the reasons of the point, of numbers as they were passed
pub point_told : (m : Map) {x y : ℤ} {r : ℕ} → SFits w64 x → SFits w64 y
    → r ≡ first_reason (point_reasons m (to_z w64 (of_z w64 x)) (to_z w64 (of_z w64 y)))
    → r ≡ first_reason (point_reasons m x y)
point_told m fx fy e =
    let x = to_z-of_z {w = w64} fx in
    let y = to_z-of_z {w = w64} fy in
    e ∙ (λ i. first_reason (point_reasons m (x i) (y i)))

-- the first reasons of kind 1
pub early_told : (m : Map) {face x y : ℤ} {r : ℕ} → SFits w64 face → SFits w64 x → SFits w64 y
    → r ≡ first_reason (add_early m (to_z w64 (of_z w64 face)) (to_z w64 (of_z w64 x)) (to_z w64 (of_z w64 y)))
    → r ≡ first_reason (add_early m face x y)
early_told m ff fx fy e =
    let face = to_z-of_z {w = w64} ff in
    let x = to_z-of_z {w = w64} fx in
    let y = to_z-of_z {w = w64} fy in
    e ∙ (λ i. first_reason (add_early m (face i) (x i) (y i)))

-- those of kind 2
pub move_told : (nodes edges : List ℤ) (h : Head) (i : ℕ) {x y : ℤ} {r : ℕ} → SFits w64 x → SFits w64 y
    → r ≡ first_reason (move_reasons nodes edges h i (to_z w64 (of_z w64 x)) (to_z w64 (of_z w64 y)))
    → first_reason (move_reasons nodes edges h i x y) ≡ r
move_told nodes edges h i fx fy e =
    let x = to_z-of_z {w = w64} fx in
    let y = to_z-of_z {w = w64} fy in
    sym (e ∙ (λ j. first_reason (move_reasons nodes edges h i (x j) (y j))))

-- the face around the point was compared
pub other_told : {face : ℤ} (w : ℤ) (k : ℕ) {r v : Bool} → SFits w64 face → to_z w64 (of_z w64 w) ≡ pos k
    → r ≡ not (minus_one (to_z w64 (of_z w64 face))) && not (same (nat_abs (to_z w64 (of_z w64 face)))
    (nat_abs (to_z w64 (of_z w64 w)))) → r ≡ v → not (minus_one face) && not (same (nat_abs face) k) ≡ v
other_told w k ff ew er ev =
    let face = to_z-of_z {w = w64} ff in
    sym (λ i. not (minus_one (face i)) && not (same (nat_abs (face i)) (nat_abs (ew i)))) ∙ sym er ∙ ev

module _ {nodes edges faces : List ℤ} {h : Head} (f : Formed nodes edges faces h) where
  abbrev m : Map
  m = map_of (lent nodes edges faces h)

  abbrev s : Sizes
  s = sizes_of (lent nodes edges faces h)

  -- the point that was looked for
  pub taken_told : (n k own : ℕ) (p q : Point) {r v : Bool} → n ≡ nat_abs h.nodes → k ≡ nat_abs h.edges → n ≤ own
      → p ≡ q → r ≡ point_taken nodes n edges k own p → r ≡ v → any_node_at m.nodes q || edge_through m q ≡ v
  unfolding map_of edge_through
  taken_told n k own p q en ek past ep er ev =
      rw (← en, ← ek, ← ep) (ap (λ (t : Bool). t || edge_through (edge_map edges k) p)
      (sym (node_at_all nodes n own p past)) ∙ sym er ∙ ev)

  -- the face around a point
  pub around_told : {x y a : ℤ} (k : ℕ) (p : Point) → SFits w64 x → SFits w64 y → mag a < 9223372036854775808
      → a ≡ pos (face_of_point (edge_map edges k) p) → k ≡ nat_abs h.edges
      → p ≡ point (to_z w64 (of_z w64 x)) (to_z w64 (of_z w64 y))
      → to_z w64 (of_z w64 a) ≡ pos (face_of_point m (point x y))
  unfolding map_of face_of_point floors
  around_told k p fx fy ea e ek ep = sent ea ∙ e ∙ rw (ek, point_passed fx fy ep)

  -- ---- kind 1

  module _ (face x y : ℤ) where
    -- reason 4: the face that was looked for
    pub face_not_given : minus_one face ≡ true → first_reason (point_reasons m x y) ≡ first_reason (add_early m face x y)
    face_not_given e = sym (first_miss 4 _ _ (rw e))

    pub face_there : {i : ℕ} → place (same_z face) 0 (column face_width faces (nat_abs h.faces)) ≡ Some i
        → first_reason (point_reasons m x y) ≡ first_reason (add_early m face x y)
    unfolding map_of
    face_there e =
        let r = face_found faces (nat_abs h.faces) (face_rows_lem f).ranges face _ e in
        sym (first_miss 4 _ _ (rw (ap non_neg r.1, r.2) (&&-false (not (minus_one face)))))

    pub face_missing : place (same_z face) 0 (column face_width faces (nat_abs h.faces)) ≡ None
        → minus_one face ≡ false → 4 ≡ first_reason (add_early m face x y)
    unfolding map_of
    face_missing e given =
        sym (first_hit 4 _ _ (rw (given, face_none faces (nat_abs h.faces) (face_rows_lem f).ranges face e)))

    abbrev first : ℕ
    first = first_reason (reasons s m (AddIsoNode face x y))

    abbrev other_face : Bool
    other_face = not (minus_one face) && not (same (nat_abs face) (face_of_point m (point x y)))

    in_parts : reasons s m (AddIsoNode face x y) ≡ add_early m face x y ++ add_late s m face x y
    unfolding reasons
    in_parts = refl

    pub add_early_lem : (r : ℕ) → 0 < r → r ≡ first_reason (add_early m face x y) → first ≡ r
    add_early_lem r some e =
        ap first_reason in_parts ∙ first_append (add_early m face x y) (add_late s m face x y) r some (sym e)

    module _ (early : first_reason (add_early m face x y) ≡ 0) where
      four : (not (minus_one face) && no_face m face ≡ false)
          × (first_reason (point_reasons m x y) ≡ 0)
      four = first_zero 4 _ _ (lit< tt) early

      pub early_face : minus_one face || non_neg face ≡ true
      early_face = given_face (minus_one face) (non_neg face) _ four.0

      pub early_point : coordinate x && coordinate y ≡ true
      early_point = not-false (coordinate x && coordinate y) (first_zero 5 _ _ (lit< tt) four.1).0

      late_part : first ≡ first_reason (add_late s m face x y)
      late_part = ap first_reason in_parts ∙ first_after (add_early m face x y) (add_late s m face x y) refl early

      pub add_other : other_face ≡ true → first ≡ 12
      add_other e = late_part ∙ first_hit 12 _ _ e

      pub add_room : other_face ≡ false
          → first ≡ first_reason (room_at (sizes_in nodes edges faces) h (counts 1 0 0) (counts 1 0 0))
      add_room e = late_part ∙ first_miss 12 _ _ e ∙ ap first_reason (sym (room_at_lem f (counts 1 0 0) (counts 1 0 0)))
