-- Laws of lines: one point more. Assumes nothing.
use mathlib.Core.Path.{◌≡◌, refl, sym, ap, ◌∙◌}
use mathlib.Core.List.{List, [], ◌∷◌, ◌++◌, append_assoc}
use Prim.Native.Nat.{ℕ, zero, suc, ◌+◌, ◌*◌, ◌-◌, ◌≤◌, ◌<◌}
use native.Mathlib.Omega.{arith}
use lib.IntN.{ℤ, pos}
use lib.ListN.{length, take, set, replicate, length-append}
use lib.Seq.{take-append-add, take-append-le, set-append_seam, set_at}
use Rattle.plane.specs.declared.Point.{Point}
use Rattle.curves.specs.Curves.{coordinates}
use Rattle.curve_edits.specs.declared.Line.{Line}
use Rattle.curve_edits.specs.Lines.{line_of}

-- ---- a list filled up with z to w elements

module _ {A : Type 0} (z : A) where
  take-replicate : (k m : ℕ) → k ≤ m → take k (replicate m z) ≡ replicate k z
  take-replicate zero m h = refl
  take-replicate (suc k) zero h = absurd (omega arith)
  take-replicate (suc k) (suc m) h = ap (λ (l : List A). z ∷ l) (take-replicate k m (omega arith))

  abbrev pad : ℕ → List A → List A
  pad w c = take w (c ++ replicate w z)

  pad_short : (w k : ℕ) (c : List A) → length c + k ≡ w → pad w c ≡ c ++ replicate k z
  pad_short w k c e =
      ap (λ (n : ℕ). take n (c ++ replicate w z)) (sym e) ∙ take-append-add c (replicate w z) k
      ∙ ap (λ (l : List A). c ++ l) (take-replicate k w (omega arith))

  pad_long : (w : ℕ) (c d : List A) → w ≤ length c → pad w (c ++ d) ≡ pad w c
  pad_long w c d h = rw (append_assoc, take-append-le w c (d ++ replicate w z) h, take-append-le w c (replicate w z) h)

  pad_set : (w k : ℕ) (c : List A) (x y : A) → length c + suc (suc k) ≡ w
      → set (set (pad w c) (length c) x) (length c + 1) y ≡ pad w (c ++ x ∷ y ∷ [])
  pad_set w k c x y e =
      ap (λ (l : List A). set (set l (length c) x) (length c + 1) y) (pad_short w (suc (suc k)) c e)
      ∙ ap (λ (l : List A). set l (length c + 1) y)
      (set-append_seam c z (z ∷ replicate k z) x ∙ sym (append_assoc c (x ∷ []) (z ∷ replicate k z)))
      ∙ set_at (c ++ x ∷ []) z (replicate k z) y (length c + 1) (length-append c (x ∷ []))
      ∙ append_assoc c (x ∷ []) (y ∷ replicate k z)
      ∙ sym (append_assoc c (x ∷ y ∷ []) (replicate k z))
      ∙ sym (pad_short w k (c ++ x ∷ y ∷ []) (omega (arith, length-append c (x ∷ y ∷ []))))

-- ---- the numbers of points

pub coordinates-append : (ps qs : List Point) → coordinates (ps ++ qs) ≡ coordinates ps ++ coordinates qs
coordinates-append [] qs = refl
coordinates-append (p ∷ ps) qs = ap (λ (l : List ℤ). pos p.x ∷ pos p.y ∷ l) (coordinates-append ps qs)

pub length-coordinates : (ps : List Point) → length (coordinates ps) ≡ length ps * 2
length-coordinates [] = refl
length-coordinates (p ∷ ps) = let e : length (coordinates ps) ≡ length ps * 2 = length-coordinates ps in omega arith

pub empty_count : (line : Line) → line ≡ line_of [] → line.count ≡ 0
unfolding line_of
empty_count line e = ap (λ (l : Line). l.count) e

-- ---- one point more

module _ (line : Line) (p : Point) (cells : List ℤ) (ps : List Point) (e : line ≡ line_of ps) where
  counted : line.count ≡ length ps
  unfolding line_of
  counted = ap (λ (l : Line). l.count) e

  filled : line.cells ≡ pad (pos 0) 24 (coordinates ps)
  unfolding line_of
  filled = ap (λ (l : Line). l.cells) e

  more : cells ≡ pad (pos 0) 24 (coordinates ps ++ pos p.x ∷ pos p.y ∷ [])
      → record { count = line.count + 1; cells = cells } ≡ line_of (ps ++ p ∷ [])
  unfolding line_of
  more f =
      let n : line.count + 1 ≡ length (ps ++ p ∷ []) = omega (arith, counted, length-append ps (p ∷ [])) in
      let l : cells ≡ pad (pos 0) 24 (coordinates (ps ++ p ∷ [])) = f
      ∙ ap (pad (pos 0) 24) (sym (coordinates-append ps (p ∷ []))) in
      λ i. record { count = n i; cells = l i }

  -- a point that the row has room for
  pub point_stored : {x y : ℤ} → line.count < 12 → x ≡ pos p.x → y ≡ pos p.y → cells
      ≡ set (set line.cells (line.count * 2) x) (line.count * 2 + 1) y
      → record { count = line.count + 1; cells = cells } ≡ line_of (ps ++ p ∷ [])
  point_stored h ex ey f =
      let k : line.count * 2 ≡ length (coordinates ps) = omega (arith, counted, length-coordinates ps) in
      let g : length (coordinates ps) + suc (suc (22 - length (coordinates ps))) ≡ 24 =
      omega (arith, counted, length-coordinates ps) in
      more (f ∙ (λ i. set (set (filled i) (k i) (ex i)) (k i + 1) (ey i))
      ∙ pad_set (pos 0) 24 (22 - length (coordinates ps)) (coordinates ps) (pos p.x) (pos p.y) g)

  -- a point beyond the row
  pub point_counted : 12 ≤ line.count → cells ≡ line.cells → record { count = line.count + 1; cells = cells }
      ≡ line_of (ps ++ p ∷ [])
  point_counted h f =
      more (f ∙ filled ∙ sym (pad_long (pos 0) 24 (coordinates ps) (pos p.x ∷ pos p.y ∷ [])
      (omega (arith, counted, length-coordinates ps))))
