-- The face above the highest of the floors is that of the fold over the segments of all edges. Assumes nothing.
use mathlib.Core.Path.{◌≡◌, refl, sym, ap, ◌∙◌}
use mathlib.Core.Bool.{Bool, cond}
use mathlib.Core.Logic.{inl, inr}
use mathlib.Core.List.{List, [], ◌∷◌, map, flat_map}
use Rattle.std.specs.Prelude.{Option, Some, None}
use Prim.Native.Nat.{ℕ}
use Rattle.lists.specs.Scans.{keep, fold}
use Rattle.lists.proofs.Appends.{fold-append}
use Rattle.lists.proofs.Bools.{which}
use Rattle.plane.specs.declared.Point.{Point}
use Rattle.plane.specs.Below.{passes_below, higher}
use Rattle.curves.specs.Curves.{segments}
use Rattle.map.specs.Rows.{Map}
use Rattle.map.specs.Faces.{Floor, floor_of, floors, highest, face_above, face_of_point}
use Rattle.point_location.specs.Highest.{over, rowed}

module _ {A S : Type 0} (g : S → A → S) where
  fold_flat : {B : Type 0} (f : B → List A) (s : S) (l : List B) → fold g s (flat_map f l)
      ≡ fold (λ t b. fold g t (f b)) s l
  unfolding flat_map
  fold_flat f s [] = refl
  fold_flat f s (b ∷ l) = fold-append g s (f b) (flat_map f l) ∙ fold_flat f (fold g s (f b)) l

  -- a fold over the images of the elements that are kept
  fold_kept : {B : Type 0} (f : B → A) (k : B → Bool) (s : S) (l : List B) → fold g s (map f (keep k l))
      ≡ fold (λ t b. cond (k b) (g t (f b)) t) s l
  fold_kept f k s [] = refl
  fold_kept f k s (b ∷ l) =
      let taken = fold_kept f k (g s (f b)) l in
      let left = fold_kept f k s l in
      elim (which (k b)) [ inl e ↦ rw e taken | inr e ↦ rw e left ]

  fold_same : (h : S → A → S) → ((s : S) (a : A) → g s a ≡ h s a) → (s : S) (l : List A) → fold g s l ≡ fold h s l
  fold_same h e s [] = refl
  fold_same h e s (a ∷ l) = ap (λ (t : S). fold g t l) (e s a) ∙ fold_same h e (h s a) l

-- the face of the highest; 0 where there is none
abbrev pub upper : Option Floor → ℕ
upper None = 0
upper (Some f) = f.upper

highest-fold : (x : ℕ) (f : Floor) (r : List Floor) → fold (over x) (Some f) r ≡ Some (highest x f r)
unfolding highest
highest-fold x f [] = refl
highest-fold x f (g ∷ r) = highest-fold x (cond (higher x g.segment f.segment) g f) r

above_fold : (x : ℕ) (r : List Floor) → face_above x r ≡ upper (fold (over x) None r)
above_fold x [] = refl
above_fold x (f ∷ r) = sym (ap upper (highest-fold x f r))

pub face_fold : (m : Map) (p : Point) → face_of_point m p ≡ upper (fold (rowed p) None m.edges)
unfolding face_of_point floors
face_fold m p =
    above_fold p.x (floors m p)
    ∙ ap upper
    (fold_flat (over p.x) (λ e. map (floor_of e) (keep (passes_below p) (segments e.curve))) None m.edges
    ∙ fold_same (λ t e. fold (over p.x) t (map (floor_of e) (keep (passes_below p) (segments e.curve)))) (rowed p)
    (λ t e. fold_kept (over p.x) (floor_of e) (passes_below p) t (segments e.curve)) None m.edges)
