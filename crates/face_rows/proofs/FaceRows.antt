-- The face table after a face is removed or pushed. Assumes nothing.
use Rattle.std.specs.Prelude.{Some, None}
use mathlib.Core.Path.{◌≡◌, refl, sym, ap, ◌∙◌, subst}
use mathlib.Core.Bool.{Bool, true, false, not, true≢false}
use mathlib.Core.Logic.{inl, inr}
use mathlib.Core.List.{List, [], ◌∷◌, ◌++◌, map, flat_map, Memᴰ}
use Prim.Native.Nat.{ℕ, suc, ◌+◌, ◌*◌, ◌-◌, ◌≤◌, ◌<◌}
use native.Mathlib.Nat.{add-zero}
use native.Mathlib.Omega.{arith}
use lib.IntN.{ℤ, pos, nat_abs}
use lib.ListN.{length, set, take, drop, replicate, replicate-append-replicate}
use lib.Seq.{paste}
use Rattle.lists.specs.Tests.{same}
use Rattle.lists.specs.Scans.{any_of, all_of}
use Rattle.lists.specs.Members.{Distinct}
use Rattle.lists.specs.Tables.{place}
use Rattle.lists.proofs.Bools.{which, same_true, same_eq, same_false, differ}
use Rattle.lists.proofs.Keeps.{keep_all}
use Rattle.tables.specs.Tables.{same_z, column, closed, rows, numbered}
use Rattle.tables.proofs.Filled.{filled_long, rows_flat, flat_length}
use Rattle.tables.proofs.Numbers.{without_at}
use Rattle.tables.proofs.Writes.{pushed, removed_at, paste_mid, set_mid}
use Rattle.bounding_boxes.specs.declared.Extent.{Extent}
use Rattle.map.specs.Limits.{face_width, last_number}
use Rattle.map.specs.Rows.{face_cells, face_row_of, box_of}
use Rattle.map.specs.Form.{face_ranges}
use Rattle.map.proofs.RoundTrip.{faces_wide}
use Rattle.map_rows.specs.Rows.{FaceRows, faces_of, faces_in}
use Rattle.map_rows.proofs.Rows.{faces_get_d, faces_length}
use Rattle.map_rows.proofs.Lookups.{face_found, face_missing}
use Rattle.face_rows.specs.Holds.{FaceTable, without_face}
use Rattle.lists.proofs.Rising as scanning

-- ---- a table read

pub faces_long : (N : ℕ) (box : ℕ → Extent) (fs : List ℕ) {l : List ℤ} → length fs * face_width ≤ N → faces_in N box fs
    ≡ l → length l ≡ N
faces_long N box fs h e =
    filled_long face_width (face_cells box) N fs (length fs) (faces_wide box fs) refl e h

rows_in : (N : ℕ) (box : ℕ → Extent) (fs : List ℕ) → rows face_width (length fs) (faces_in N box fs)
    ≡ map (face_cells box) fs
rows_in N box fs = rows_flat face_width (face_cells box) fs
    (replicate (N - length (flat_map (face_cells box) fs)) (pos 0)) (faces_wide box fs)

cells-back : (box : ℕ → Extent) (fs : List ℕ) → map face_row_of (map (face_cells box) fs) ≡ fs
cells-back box [] = refl
cells-back box (f ∷ fs) = ap (λ (r : List ℕ). f ∷ r) (cells-back box fs)

cells_ranges : (box : ℕ → Extent) (fs : List ℕ) → all_of face_ranges (map (face_cells box) fs) ≡ true
cells_ranges box [] = refl
cells_ranges box (f ∷ fs) = cells_ranges box fs

pub faces_read : (N : ℕ) (box : ℕ → Extent) (fs : List ℕ) {l : List ℤ} → faces_in N box fs ≡ l → faces_of l (length fs)
    ≡ fs
faces_read N box fs e = ap (λ (r : List ℤ). faces_of r (length fs)) (sym e) ∙ ap (map face_row_of) (rows_in N box fs)
    ∙ cells-back box fs

map_self : (fs : List ℕ) → map (λ (f : ℕ). f) fs ≡ fs
map_self [] = refl
map_self (f ∷ fs) = ap (λ (r : List ℕ). f ∷ r) (map_self fs)

-- ---- one face out of the list

any_none : (f : ℕ) (fs : List ℕ) → any_of (same f) fs ≡ false → (g : ℕ) → Memᴰ g fs → not (same g f) ≡ true
any_none f fs h g i = ap not (same_false g f (λ e. true≢false (sym (any_in fs i e) ∙ h)))
  where
    any_in : (gs : List ℕ) → Memᴰ g gs → g ≡ f → any_of (same f) gs ≡ true
    any_in [] i q = elim i [ ]
    any_in (x ∷ gs) (Memᴰ.head e) q = rw (same_eq f x (sym q ∙ e))
    any_in (x ∷ gs) (Memᴰ.tail k) q = let later = any_in gs k q in
        elim (which (same f x)) [ inl t ↦ rw t | inr t ↦ rw t later ]

-- a face that is there is one of them
pub without_length : (f : ℕ) (fs : List ℕ) → Distinct fs → any_of (same f) fs ≡ true → length (without_face f fs) + 1
    ≡ length fs
without_length f [] dis h = absurd (true≢false (sym h))
without_length f (g ∷ fs) dis h = go (same g f) refl (without_length f fs dis.1)
  where
    go : (b : Bool) → same g f ≡ b → (any_of (same f) fs ≡ true → length (without_face f fs) + 1 ≡ length fs)
        → length (without_face f (g ∷ fs)) + 1 ≡ length (g ∷ fs)
    go true e rest =
        let is = same_true g f e in
        let others : without_face f fs ≡ fs =
        keep_all (λ x. not (same x f)) fs
        (λ x k. ap not (same_false x f (λ q. dis.0 (subst (λ (y : ℕ). Memᴰ y fs) (q ∙ sym is) k)))) in
        let short : without_face f (g ∷ fs) ≡ fs = rw e others in
        rw short (omega arith)
    go false e rest =
        let later = rest (rw (same_false f g (λ q. differ g f e (sym q))) at h) in
        let short : without_face f (g ∷ fs) ≡ g ∷ without_face f fs = rw e in
        rw short (omega arith)

-- another face that was there is there still
pub still_there : (f g : ℕ) (fs : List ℕ) → (f ≡ g → ⊥) → any_of (same g) fs ≡ true → any_of (same g) (without_face f fs)
    ≡ true
still_there f g [] ne h = h
still_there f g (x ∷ fs) ne h = go (same x f) (same g x) refl refl (still_there f g fs ne)
  where
    go : (a b : Bool) → same x f ≡ a → same g x ≡ b
        → (any_of (same g) fs ≡ true → any_of (same g) (without_face f fs) ≡ true)
        → any_of (same g) (without_face f (x ∷ fs)) ≡ true
    go true true e k rest = absurd (ne (sym (same_true g x k ∙ same_true x f e)))
    go true false e k rest = rw e (rest (rw k at h))
    go false true e k rest = rw (e, k)
    go false false e k rest = rw (e, k) (rest (rw k at h))

-- ---- a table that holds faces

module _ {N : ℕ} {box : ℕ → Extent} {fs : List ℕ} {l : List ℤ} (t : FaceTable N box fs l) where
  pub table_rising : scanning.Rising 0 (suc last_number) fs
  table_rising = scanning.rising 0 (suc last_number) fs t.rising

  pub table_distinct : Distinct fs
  table_distinct = scanning.rising_distinct fs table_rising.rises

  pub table_long : length l ≡ N
  table_long = faces_long N box fs t.fits t.cells

  pub less_rising : (f : ℕ) → numbered 0 (suc last_number) (without_face f fs) ≡ true
  less_rising f = scanning.rising_numbered 0 (suc last_number) (without_face f fs)
      (scanning.rising_keep 0 (suc last_number) (λ g. not (same g f)) fs table_rising)

  pub two_less : (f g : ℕ) → (f ≡ g → ⊥) → any_of (same f) fs ≡ true → any_of (same g) fs ≡ true
      → length (without_face g (without_face f fs)) + 2 ≡ length fs
  two_less f g ne hf hg =
      let a = without_length f fs table_distinct hf in
      let gs = without_face f fs in
      let d = scanning.rising_distinct gs (scanning.rising 0 (suc last_number) gs (less_rising f)).rises in
      let b = without_length g gs d (still_there f g fs ne hg) in
      omega arith

-- ---- a row gone

module _ {box : ℕ → Extent} {l : List ℤ} (n : ℕ) (t : FaceTable (length l) box (faces_of l n) l) where
  abbrev fs : List ℕ
  fs = faces_of l n

  pub face_rows_lem : FaceRows l n
  face_rows_lem =
      record {
        fits = rw (faces_length l n) at t.fits;
        ranges = sym (λ i. all_of face_ranges (rows face_width (faces_length l n i) (t.cells i)))
            ∙ ap (all_of face_ranges) (rows_in (length l) box fs) ∙ cells_ranges box fs;
        rising = t.rising;
      }

  module _ (f : ℕ) where
    -- the row that was found goes
    pub found_gone : (i : ℕ) → place (same_z (pos f)) 0 (column face_width l n) ≡ Some i → (i < n)
        × FaceTable (length l) box (without_face f (faces_of l n)) (closed face_width l n i)
    found_gone i e =
        let r = face_found l n face_rows_lem.ranges (pos f) i e in
        let long = faces_length l n in
        let below : i < length fs = rw long r.0 in
        let is : without_face f fs ≡ take i fs ++ drop (suc i) fs =
        ap (λ (k : ℕ). without_face k fs) (ap nat_abs r.1 ∙ sym (faces_get_d l n i 0 r.0))
        ∙ without_at (λ (g : ℕ). g) fs (subst Distinct (sym (map_self fs)) (table_distinct t)) i 0 below in (
          r.0,
          record {
            cells = ap (faces_in (length l) box) is
                ∙ sym (removed_at face_width (face_cells box) (length l) fs i 0 (faces_wide box fs) below t.fits)
                ∙ (λ j. closed face_width (t.cells j) (long j) i);
            rising = less_rising t f;
            fits = omega (arith, t.fits, without_length f fs (table_distinct t) r.2);
          },
        )

    -- no row is found, and none goes
    pub missing_gone : place (same_z (pos f)) 0 (column face_width l n) ≡ None
        → FaceTable (length l) box (without_face f (faces_of l n)) l
    missing_gone e = subst (λ (gs : List ℕ). FaceTable (length l) box gs l)
        (sym (keep_all (λ g. not (same g f)) fs (any_none f fs (face_missing l n face_rows_lem.ranges f e)))) t

-- ---- the table with its own length and its rows as they are read, from one call to the next

module _ (N : ℕ) (box : ℕ → Extent) (fs : List ℕ) {l : List ℤ} (e : faces_in N box fs ≡ l)
    (fits : length fs * face_width ≤ N) {n : ℕ} (len : length fs ≡ n) where
  faces_here : faces_of l n ≡ fs
  faces_here = ap (faces_of l) (sym len) ∙ faces_read N box fs e

  pub cells_here : faces_in (length l) box (faces_of l n) ≡ l
  cells_here = rw (faces_long N box fs fits e, faces_here) e

  pub pushed_here : (f : ℕ) {l' : List ℤ} → faces_in (length l) box (faces_of l n ++ f ∷ []) ≡ l'
      → faces_in N box (fs ++ f ∷ []) ≡ l'
  pushed_here f k = sym (λ i. faces_in (faces_long N box fs fits e i) box (faces_here i ++ f ∷ [])) ∙ k

module _ {N : ℕ} {box : ℕ → Extent} {fs : List ℕ} {l : List ℤ} (t : FaceTable N box fs l) {n : ℕ}
    (len : length fs ≡ n) where
  pub table_here : FaceTable (length l) box (faces_of l n) l
  table_here = rw (table_long t, faces_here N box fs t.cells t.fits len) t

  pub removed_here : (f : ℕ) {l' : List ℤ} → FaceTable (length l) box (without_face f (faces_of l n)) l'
      → FaceTable N box (without_face f fs) l'
  removed_here f k = rw (table_long t, faces_here N box fs t.cells t.fits len) at k

-- ---- a face after the last

-- a face without a rectangle is its number and zeros
blank : (box : ℕ → Extent) (f : ℕ) → box f ≡ box_of [] → face_cells box f ≡ set (replicate face_width (pos 0)) 0 (pos f)
blank box f e = ap (λ (b : Extent). pos f ∷ pos b.left ∷ pos b.low ∷ pos b.right ∷ pos b.high ∷ []) e

pub face_pushed : (l : List ℤ) (n f : ℕ) (box : ℕ → Extent) → n * face_width + face_width ≤ length l → box f ≡ box_of []
    → faces_in (length l) box (faces_of l n) ≡ l
    → faces_in (length l) box (faces_of l n ++ f ∷ []) ≡ set l (n * face_width) (pos f)
face_pushed l n f box room none cells =
    let fs = faces_of l n in
    let at = n * face_width in
    let count = faces_length l n in
    let used = flat_map (face_cells box) fs in
    let long : length used ≡ at = flat_length face_width (face_cells box) fs (faces_wide box fs)
    ∙ ap (λ (k : ℕ). k * face_width) count in
    let row = replicate face_width (pos 0) in
    let rest = replicate (length l - at - face_width) (pos 0) in
    let zeros : length l - length used ≡ face_width + (length l - at - face_width) = omega arith in
    let is : l ≡ used ++ (row ++ rest) = sym cells
    ∙ ap (λ (k : ℕ). used ++ replicate k (pos 0)) zeros
    ∙ ap (λ (r : List ℤ). used ++ r) (sym (replicate-append-replicate face_width (length l - at - face_width) (pos 0))) in
    sym (pushed face_width (face_cells box) (length l) fs f (faces_wide box fs) refl (rw count room))
    ∙ (λ i. paste ((cells ∙ is) i) (count i * face_width) (blank box f none i) face_width)
    ∙ paste_mid used row rest (set row 0 (pos f)) at face_width long refl refl
    ∙ sym (set_mid used row rest at 0 (pos f) long (omega arith))
    ∙ (λ i. set (sym is i) (add-zero at i) (pos f))
