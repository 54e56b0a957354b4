-- Rectangles in the face table: a sweep that sets a face's row sets its rectangle alone. Assumes nothing.
use mathlib.Core.Path.{◌≡◌, refl, sym, ap, ap₂, ◌∙◌}
use mathlib.Core.Bool.{Bool, true, false, cond, ◌||◌}
use mathlib.Core.List.{List, [], ◌∷◌, ◌++◌, map, flat_map, append_assoc, Memᴰ}
use Prim.Native.Nat.{ℕ, ◌+◌, ◌*◌, ◌≤◌}
use native.Mathlib.Omega.{arith}
use lib.IntN.{ℤ, pos}
use lib.ListN.{length, get_or, length-append, length-map}
use lib.Seq.{paste, length-paste, get_or-append-add}
use Rattle.lists.specs.Tests.{same}
use Rattle.lists.specs.Tables.{sweep}
use Rattle.lists.proofs.Bools.{cond_has}
use Rattle.lists.proofs.Maps.{map_twice}
use Rattle.tables.specs.Tables.{filled, same_z}
use Rattle.tables.proofs.Filled.{Wide}
use Rattle.tables.proofs.Order.{is_same, not_same, same-pos}
use Rattle.tables.proofs.Writes.{paste_mid, swept}
use Rattle.bounding_boxes.specs.declared.Extent.{Extent}
use Rattle.map.specs.Limits.{face_width}
use Rattle.map.specs.Rows.{face_cells}
use Rattle.map_rows.specs.Rows.{faces_in}
use Rattle.rectangles.specs.Boxes.{box_cells, set_row, set_for}

flat_agree : (box box' : ℕ → Extent) (fs : List ℕ) → ((f : ℕ) → Memᴰ f fs → box f ≡ box' f)
    → flat_map (face_cells box) fs ≡ flat_map (face_cells box') fs
unfolding flat_map
flat_agree box box' [] h = refl
flat_agree box box' (f ∷ fs) h = ap₂ (λ (e : Extent) (r : List ℤ). pos f ∷ box_cells e ++ r)
    (h f (Memᴰ.head refl)) (flat_agree box box' fs (λ g k. h g (Memᴰ.tail k)))

-- boxes that agree on the faces make one table
pub faces_agree : (n : ℕ) (box box' : ℕ → Extent) (fs : List ℕ) → ((f : ℕ) → Memᴰ f fs → box f ≡ box' f)
    → faces_in n box fs ≡ faces_in n box' fs
faces_agree n box box' fs h = ap (filled n) (flat_agree box box' fs h)

-- ---- one row

module _ (face : ℤ) (e : Extent) (l : List ℤ) (k : ℕ) where
  pub set_hit : get_or l (k * face_width) (pos 0) ≡ face
      → set_row face e l k ≡ paste l (k * face_width + 1) (box_cells e) 4
  set_hit h = rw (is_same (get_or l (k * face_width) (pos 0)) face h)

  pub set_miss : (get_or l (k * face_width) (pos 0) ≡ face → ⊥) → set_row face e l k ≡ l
  set_miss h = rw (not_same (get_or l (k * face_width) (pos 0)) face h)

  pub set-length : k * face_width + face_width ≤ length l → length (set_row face e l k) ≡ length l
  set-length h = cond_has (λ (r : List ℤ). length r ≡ length l) (same_z (get_or l (k * face_width) (pos 0)) face)
      (length-paste l (k * face_width + 1) (box_cells e) 4 (omega (arith, h)) (omega arith)) refl

-- ---- a row is a face and its rectangle

record Row : Type 0 where
  face : ℕ
  box : Extent

abbrev row : (ℕ → Extent) → ℕ → Row
row box f = record { face = f; box = box f }

abbrev row_cells : Row → List ℤ
row_cells r = pos r.face ∷ box_cells r.box

flat_rows : (box : ℕ → Extent) (fs : List ℕ) → flat_map (face_cells box) fs ≡ flat_map row_cells (map (row box) fs)
unfolding flat_map
flat_rows box [] = refl
flat_rows box (f ∷ fs) = ap (λ (r : List ℤ). face_cells box f ++ r) (flat_rows box fs)

rows-wide : (rs : List Row) → Wide face_width row_cells rs
rows-wide [] = tt
rows-wide (r ∷ rs) = (refl, rows-wide rs)

module _ (m : ℕ) (e : Extent) where
  abbrev put : Row → Row
  put r = cond (same r.face m) (record { face = r.face; box = e }) r

  put-width : (r : Row) → length (row_cells r) ≡ face_width → length (row_cells (put r)) ≡ face_width
  put-width r h = refl

  -- the row's rectangle replaced
  pasted : (p rest : List ℤ) (a : ℕ) (r : Row) → length p ≡ a * face_width
      → paste (p ++ (row_cells r ++ rest)) (a * face_width + 1) (box_cells e) 4
      ≡ p ++ (pos r.face ∷ box_cells e ++ rest)
  pasted p rest a r h =
      let front : length (p ++ pos r.face ∷ []) ≡ a * face_width + 1 = length-append p (pos r.face ∷ [])
      ∙ omega (arith, h) in
      ap (λ (l : List ℤ). paste l (a * face_width + 1) (box_cells e) 4)
      (sym (append_assoc p (pos r.face ∷ []) (box_cells r.box ++ rest)))
      ∙ paste_mid (p ++ pos r.face ∷ []) (box_cells r.box) rest (box_cells e) (a * face_width + 1) 4 front refl refl
      ∙ append_assoc p (pos r.face ∷ []) (box_cells e ++ rest)

  put_step : (p rest : List ℤ) (a : ℕ) (r : Row) → length p ≡ a * face_width → length (row_cells r) ≡ face_width
      → set_row (pos m) e (p ++ (row_cells r ++ rest)) a ≡ p ++ (row_cells (put r) ++ rest)
  put_step p rest a r h w =
      let at : a * face_width ≡ length p + 0 = omega (arith, h) in
      let here : get_or (p ++ (row_cells r ++ rest)) (a * face_width) (pos 0) ≡ pos r.face =
      ap (λ (k : ℕ). get_or (p ++ (row_cells r ++ rest)) k (pos 0)) at
      ∙ get_or-append-add p (row_cells r ++ rest) 0 (pos 0) in
      let test : same_z (get_or (p ++ (row_cells r ++ rest)) (a * face_width) (pos 0)) (pos m) ≡ same r.face m =
      ap (λ (z : ℤ). same_z z (pos m)) here ∙ same-pos r.face m in
      ap (λ (t : Bool). cond t (paste (p ++ (row_cells r ++ rest)) (a * face_width + 1) (box_cells e) 4)
      (p ++ (row_cells r ++ rest))) test
      ∙ both (same r.face m)
    where
      both : (t : Bool) → cond t (paste (p ++ (row_cells r ++ rest)) (a * face_width + 1) (box_cells e) 4)
          (p ++ (row_cells r ++ rest)) ≡ p ++ (row_cells (cond t (record { face = r.face; box = e }) r) ++ rest)
      both true = pasted p rest a r h
      both false = refl

  put_is : (box : ℕ → Extent) (f : ℕ) → put (row box f) ≡ row (set_for m m (λ f. e) box) f
  put_is box f = both (same f m)
    where
      both : (t : Bool) → cond t (record { face = f; box = e }) (row box f)
          ≡ record { face = f; box = cond (t || t) e (box f) }
      both true = refl
      both false = refl

  -- the rectangle of face m in a table of n faces
  pub faces_set : (N : ℕ) (box : ℕ → Extent) (fs : List ℕ) {n : ℕ} {l : List ℤ} → length fs ≡ n
      → faces_in N box fs ≡ l → faces_in N (set_for m m (λ f. e) box) fs ≡ sweep (set_row (pos m) e) l 0 n
  faces_set N box fs {n} {l} count h =
      let rs = map (row box) fs in
      let size : length rs ≡ n = length-map fs (row box) ∙ count in
      ap (filled N) (flat_rows (set_for m m (λ f. e) box) fs)
      ∙ ap (λ (r : List Row). filled N (flat_map row_cells r))
      (sym (map_twice put (row box) (row (set_for m m (λ f. e) box)) fs (λ f k. put_is box f)))
      ∙ sym (swept face_width row_cells (set_row (pos m) e) put put_step put-width N rs (rows-wide rs))
      ∙ ap₂ (λ (r : List ℤ) (k : ℕ). sweep (set_row (pos m) e) r 0 k) (ap (filled N) (sym (flat_rows box fs)) ∙ h) size
