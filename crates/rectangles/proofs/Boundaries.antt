-- The box around a face's boundary is the face's rectangle once it has a point. Assumes nothing.
use mathlib.Core.Path.{◌≡◌, refl, sym, ap, ◌∙◌, subst}
use mathlib.Core.Bool.{Bool, true, false, cond}
use mathlib.Core.List.{List, [], ◌∷◌, flat_map, append-nil, Memᴰ}
use Prim.Native.Nat.{ℕ, zero, suc, ◌+◌, ◌-◌, ◌≤◌, ◌<◌, min, max}
use native.Mathlib.Omega.{arith}
use lib.Dec.{ltb}
use lib.IntN.{ℤ}
use borrow.Author.Tests.{le-ltb}
use Rattle.lists.specs.Scans.{fold, keep}
use Rattle.lists.specs.Members.{All}
use Rattle.lists.specs.Tables.{table}
use Rattle.lists.proofs.Bools.{cond_has}
use Rattle.lists.proofs.Appends.{fold-append}
use Rattle.lists.proofs.Keeps.{keep_in}
use Rattle.lists.proofs.Members.{all_of_lem, each_of, in_flat_map}
use Rattle.lists.proofs.Scans.{table_step, table-end}
use Rattle.tables.proofs.Rows.{each-table}
use Rattle.plane.specs.declared.Point.{Point}
use Rattle.plane.specs.Points.{max_coordinate, InRange}
use Rattle.curves.specs.Curves.{points}
use Rattle.bounding_boxes.specs.declared.Extent.{Extent}
use Rattle.bounding_boxes.specs.Extents.{extent_at, widen}
use Rattle.map.specs.Rows.{Edge, borders, boundary, box_of, rectangle}
use Rattle.map.proofs.RoundTrip.{Stored, run_stored}
use Rattle.map_rows.specs.Rows.{EdgesInRange, edges_of, edge_at, run_at}
use Rattle.map_rows.proofs.Rows.{edge_row_lem, edges_table}
use Rattle.map_rows.proofs.RowCurves.{run_at_lem, curve_at}
use Rattle.rectangles.specs.Boxes.{no_point, boundary_box, settled_box, Bounded}

-- ---- an edge at a time

module _ (x : Extent) (e : Edge) where
  parts : (rest : List Edge) (b : Bool) → fold widen x (flat_map (λ e. points e.curve) (cond b (e ∷ rest) rest))
      ≡ fold widen (fold widen x (flat_map (λ e. points e.curve) (cond b (e ∷ []) [])))
      (flat_map (λ e. points e.curve) rest)
  unfolding flat_map
  parts rest true = fold-append widen x (points e.curve) (flat_map (λ e. points e.curve) rest)
      ∙ ap (λ (ps : List Point). fold widen (fold widen x ps) (flat_map (λ e. points e.curve) rest))
      (sym (append-nil (points e.curve)))
  parts rest false = refl

  -- the points of the first edge, then those of the rest
  pub boundary-cons : (es : List Edge) (f : ℕ) → fold widen x (boundary (e ∷ es) f)
      ≡ fold widen (fold widen x (boundary (e ∷ []) f)) (boundary es f)
  boundary-cons es f = parts (keep (borders f) es) (borders f e)

-- an edge with the face on a side, and one without
pub boundary_hit : (e : Edge) (f : ℕ) → borders f e ≡ true → boundary (e ∷ []) f ≡ points e.curve
unfolding flat_map
boundary_hit e f h = rw h (append-nil (points e.curve))

pub boundary_miss : (e : Edge) (f : ℕ) → borders f e ≡ false → boundary (e ∷ []) f ≡ []
unfolding flat_map
boundary_miss e f h = rw h

-- ---- edge rows in turn

-- the box with the points of the edges from row i on is that of all
abbrev pub Rest : List ℤ → ℕ → ℕ → ℕ → Extent → Type 0
Rest l n f i e = fold widen e (boundary (table (edge_at l) i (n - i)) f) ≡ boundary_box (edges_of l n) f

module _ (l : List ℤ) (n f : ℕ) where
  pub rest_start : Rest l n f 0 no_point
  rest_start = let e : n - 0 ≡ n = omega arith in
      ap (λ (es : List Edge). boundary_box es f) (ap (table (edge_at l) 0) e ∙ sym (edges_table l n))

  module _ (i : ℕ) (e : Extent) (h : Rest l n f i e) where
    pub rest_turn : {r : Extent} → i < n → r ≡ fold widen e (boundary (edge_at l i ∷ []) f) → Rest l n f (i + 1) r
    rest_turn {r} t q =
        let later = table (edge_at l) (i + 1) (n - (i + 1)) in
        ap (λ (x : Extent). fold widen x (boundary later f)) q
        ∙ sym (boundary-cons e (edge_at l i) later f)
        ∙ ap (λ (es : List Edge). fold widen e (boundary es f)) (sym (table_step (edge_at l) i n t)) ∙ h

    pub rest_end : n ≤ i → e ≡ boundary_box (edges_of l n) f
    unfolding flat_map
    rest_end t = ap (λ (es : List Edge). fold widen e (boundary es f)) (sym (table-end (edge_at l) i n t)) ∙ h

-- ---- points in range

widen_bounded : (e : Extent) (p : Point) → Bounded e → InRange p → Bounded (widen e p)
widen_bounded e p b h = record {
  left = omega (arith, b.left);
  right = omega (arith, b.right, h.x);
  low = omega (arith, b.low);
  high = omega (arith, b.high, h.y);
}

fold_bounded : (e : Extent) (ps : List Point) → Bounded e → All InRange ps → Bounded (fold widen e ps)
fold_bounded e [] b h = b
fold_bounded e (p ∷ ps) b h = fold_bounded (widen e p) ps (widen_bounded e p b h.0) h.1

fold-ordered : (e : Extent) (ps : List Point) → e.left ≤ e.right → (fold widen e ps).left ≤ (fold widen e ps).right
fold-ordered e [] h = h
fold-ordered e (p ∷ ps) h = fold-ordered (widen e p) ps (omega arith)

-- the first point is a box by itself
first_point : (p : Point) → InRange p → widen no_point p ≡ extent_at p
first_point p h =
    let l : min (suc max_coordinate) p.x ≡ p.x = omega (arith, h.x) in
    let r : max 0 p.x ≡ p.x = omega arith in
    let b : min (suc max_coordinate) p.y ≡ p.y = omega (arith, h.y) in
    let t : max 0 p.y ≡ p.y = omega arith in
    λ i. record { left = l i; right = r i; low = b i; high = t i }

-- four zeros where it has no point
settled-points : (ps : List Point) → All InRange ps → settled_box (fold widen no_point ps) ≡ box_of ps
settled-points [] h = refl
settled-points (p ∷ ps) h =
    let b = fold widen (extent_at p) ps in
    let k : p.x ≤ p.x = omega arith in
    ap (λ (e : Extent). settled_box (fold widen e ps)) (first_point p h.0)
    ∙ ap (λ (t : Bool). cond t (box_of []) b) (le-ltb b.right b.left (fold-ordered (extent_at p) ps k))

pub settled_bounded : (e : Extent) → Bounded e → Bounded (settled_box e)
settled_bounded e b = cond_has Bounded (ltb e.right e.left)
    (record { left = omega arith; right = omega arith; low = omega arith; high = omega arith }) b

-- ---- the boundary of a face

module _ (es : List Edge) (f : ℕ) (h : (p : Point) → Memᴰ p (boundary es f) → InRange p) where
  pub settled_box_lem : cond (ltb (boundary_box es f).right (boundary_box es f).left) (box_of []) (boundary_box es f)
      ≡ box_of (boundary es f)
  settled_box_lem = settled-points (boundary es f) (all_of_lem (boundary es f) h)

  pub box_bounded : Bounded (boundary_box es f)
  box_bounded = fold_bounded no_point (boundary es f)
      (record { left = omega arith; right = omega arith; low = omega arith; high = omega arith })
      (all_of_lem (boundary es f) h)

-- its points are points of edges
pub boundary_in : (es : List Edge) (f : ℕ) (p : Point) → Memᴰ p (boundary es f)
    → (e : Edge) × Memᴰ e es × Memᴰ p (points e.curve)
boundary_in es f p k =
    let r = in_flat_map (λ e. points e.curve) (keep (borders f) es) p k in
    (r.0, (keep_in (borders f) es r.1).0, r.2)

-- ---- edges read from rows in range

module _ {l : List ℤ} {n : ℕ} (h : EdgesInRange l n) where
  edges_stored : (e : Edge) → Memᴰ e (edges_of l n) → Stored e.curve
  edges_stored = each_of (λ e. Stored e.curve) (edges_of l n)
      (subst (All (λ e. Stored e.curve)) (sym (edges_table l n))
      (each-table (λ e. Stored e.curve) (edge_at l) n
      (λ i t. let row = edge_row_lem l n i h.fits h.ranges t in
      subst Stored (curve_at row) (run_stored (run_at l i) (run_at_lem row).is))))

  pub boundary-ranged : (f : ℕ) (p : Point) → Memᴰ p (boundary (edges_of l n) f) → InRange p
  boundary-ranged f p k = let r = boundary_in (edges_of l n) f p k in (edges_stored r.0 r.1).in_range p r.2

  -- the rectangle of a face that is not face 0
  pub settled_is : (f : ℕ) → ((f ≡ 0) → ⊥) → settled_box (boundary_box (edges_of l n) f) ≡ rectangle (edges_of l n) f
  unfolding rectangle
  settled_is zero k = absurd (k refl)
  settled_is (suc f) k = settled_box_lem (edges_of l n) (suc f) (boundary-ranged (suc f))

  pub rows_bounded : (f : ℕ) → Bounded (boundary_box (edges_of l n) f)
  rows_bounded f = box_bounded (edges_of l n) f (boundary-ranged f)
