-- Rectangles do not depend on the order of the edge rows, nor on numbers and links: an edge with another number leaves
-- them as they were. Assumes nothing.
use mathlib.Core.Path.{◌≡◌, refl, sym, ap, ap₂, ◌∙◌, subst}
use mathlib.Core.Bool.{Bool, true, false, cond}
use mathlib.Core.List.Permᴰ
use mathlib.Core.List.{List, [], ◌∷◌, ◌++◌, map, flat_map, Permᴰ}
use Prim.Native.Nat.{ℕ, zero, suc, min, max}
use native.Mathlib.Omega.{arith}
use Rattle.lists.specs.Members.{Distinct}
use Rattle.lists.specs.Scans.{keep, fold}
use Rattle.lists.proofs.Perms.{one_last}
use Rattle.plane.specs.declared.Point.{Point}
use Rattle.curves.specs.Curves.{points}
use Rattle.bounding_boxes.specs.declared.Extent.{Extent}
use Rattle.bounding_boxes.specs.Extents.{extent_at, widen}
use Rattle.map.specs.Rows.{Edge, Map, borders, boundary, box_of, rectangle, edge, has_edge, without_edge}
use Rattle.map_laws.proofs.Readings.{number_of}
use Rattle.grown.specs.Claims.{links_renamed, with_number, renumbered}
use Rattle.grown.proofs.SplitsRows.{rows_m}

-- ---- lists in another order

swap_front : {A : Type 0} (xs ys r : List A) → Permᴰ (xs ++ (ys ++ r)) (ys ++ (xs ++ r))
swap_front [] ys r = Permᴰ.refl (ys ++ r)
swap_front (x ∷ xs) ys r = Permᴰ.trans (Permᴰ.cons refl (swap_front xs ys r))
    (Permᴰ.symm (Permᴰ.middle x ys (xs ++ r)))

flat_perm : {A B : Type 0} (f : A → List B) {l k : List A} → Permᴰ l k → Permᴰ (flat_map f l) (flat_map f k)
unfolding flat_map
flat_perm f Permᴰ.nil = Permᴰ.nil
flat_perm {A} f (Permᴰ.cons {a = a} {l₁ = l} {l₂ = k} e d) =
    subst (λ (b : A). Permᴰ (f a ++ flat_map f l) (f b ++ flat_map f k)) e
    (Permᴰ.append_left (f a) (flat_perm f d))
flat_perm {A} f (Permᴰ.swap {a = a} {b = b} {b' = b'} {l = l} p q) =
    subst (λ (x : A). Permᴰ (f a ++ (f b ++ flat_map f l)) (f x ++ (f b' ++ flat_map f l))) q
    (subst (λ (x : A). Permᴰ (f a ++ (f b ++ flat_map f l)) (f b ++ (f x ++ flat_map f l))) p
    (swap_front (f a) (f b) (flat_map f l)))
flat_perm f (Permᴰ.trans c d) = Permᴰ.trans (flat_perm f c) (flat_perm f d)

keep_perm : {A : Type 0} (p : A → Bool) {l k : List A} → Permᴰ l k → Permᴰ (keep p l) (keep p k)
keep_perm p Permᴰ.nil = Permᴰ.nil
keep_perm {A} p (Permᴰ.cons {a = a} {l₁ = l} {l₂ = k} e d) =
    subst (λ (b : A). Permᴰ (keep p (a ∷ l)) (keep p (b ∷ k))) e (go (p a) (keep_perm p d))
  where
    go : {u v : List A} (b : Bool) → Permᴰ u v → Permᴰ (cond b (a ∷ u) u) (cond b (a ∷ v) v)
    go true h = Permᴰ.cons refl h
    go false h = h
keep_perm {A} p (Permᴰ.swap {a = a} {b = b} {a' = a'} {b' = b'} {l = l} h k) =
    subst (λ (x : A). Permᴰ (keep p (a ∷ b ∷ l)) (keep p (x ∷ b' ∷ l))) k
    (subst (λ (x : A). Permᴰ (keep p (a ∷ b ∷ l)) (keep p (b ∷ x ∷ l))) h (go (p a) (p b) (keep p l)))
  where
    go : (c d : Bool) (r : List A)
        → Permᴰ (cond c (a ∷ cond d (b ∷ r) r) (cond d (b ∷ r) r))
        (cond d (b ∷ cond c (a ∷ r) r) (cond c (a ∷ r) r))
    go true true r = Permᴰ.swap refl refl
    go true false r = Permᴰ.refl (a ∷ r)
    go false true r = Permᴰ.refl (b ∷ r)
    go false false r = Permᴰ.refl r
keep_perm p (Permᴰ.trans c d) = Permᴰ.trans (keep_perm p c) (keep_perm p d)

-- ---- boxes

min_swap : (a b c : ℕ) → min (min a b) c ≡ min (min a c) b
min_swap a b c = omega arith

max_swap : (a b c : ℕ) → max (max a b) c ≡ max (max a c) b
max_swap a b c = omega arith

widen_swap : (e : Extent) (p q : Point) → widen (widen e p) q ≡ widen (widen e q) p
widen_swap e p q = λ i. record {
  left = min_swap e.left p.x q.x i;
  right = max_swap e.right p.x q.x i;
  low = min_swap e.low p.y q.y i;
  high = max_swap e.high p.y q.y i;
}

min_turn : (a b : ℕ) → min a b ≡ min b a
min_turn a b = omega arith

max_turn : (a b : ℕ) → max a b ≡ max b a
max_turn a b = omega arith

widen-turn : (p q : Point) → widen (extent_at p) q ≡ widen (extent_at q) p
widen-turn p q = λ i. record {
  left = min_turn p.x q.x i;
  right = max_turn p.x q.x i;
  low = min_turn p.y q.y i;
  high = max_turn p.y q.y i;
}

fold_perm : (e : Extent) {ps qs : List Point} → Permᴰ ps qs → fold widen e ps ≡ fold widen e qs
fold_perm e Permᴰ.nil = refl
fold_perm e (Permᴰ.cons {b = b} {l₁ = l} h d) =
    ap (λ (p : Point). fold widen (widen e p) l) h ∙ fold_perm (widen e b) d
fold_perm e (Permᴰ.swap {a = a} {b = b} {l = l} h k) =
    ap (λ (x : Extent). fold widen x l) (widen_swap e a b)
    ∙ ap₂ (λ (p q : Point). fold widen (widen (widen e p) q) l) k h
fold_perm e (Permᴰ.trans c d) = fold_perm e c ∙ fold_perm e d

box_perm : {ps qs : List Point} → Permᴰ ps qs → box_of ps ≡ box_of qs
box_perm Permᴰ.nil = refl
box_perm (Permᴰ.cons {b = b} {l₁ = l} h d) =
    ap (λ (p : Point). fold widen (extent_at p) l) h ∙ fold_perm (extent_at b) d
box_perm (Permᴰ.swap {a = a} {b = b} {l = l} h k) =
    ap (λ (x : Extent). fold widen x l) (widen-turn a b)
    ∙ ap₂ (λ (p q : Point). fold widen (widen (extent_at p) q) l) k h
box_perm (Permᴰ.trans c d) = box_perm c ∙ box_perm d

-- ---- edge rows

boundary_perm : (f : ℕ) {es ks : List Edge} → Permᴰ es ks → box_of (boundary es f) ≡ box_of (boundary ks f)
boundary_perm f h = box_perm (flat_perm (λ e. points e.curve) (keep_perm (borders f) h))

-- sides and curve alone are seen
boundary-cons : (f : ℕ) (x y : Edge) (es ks : List Edge) → borders f x ≡ borders f y → x.curve ≡ y.curve
    → boundary es f ≡ boundary ks f → boundary (x ∷ es) f ≡ boundary (y ∷ ks) f
unfolding flat_map
boundary-cons f x y es ks side curve rest =
    ap (λ (b : Bool). points_of_lem (cond b (x ∷ keep (borders f) es) (keep (borders f) es))) side ∙ go (borders f y)
  where
    points_of_lem : List Edge → List Point
    points_of_lem rs = flat_map (λ e. points e.curve) rs

    go : (b : Bool) → points_of_lem (cond b (x ∷ keep (borders f) es) (keep (borders f) es))
        ≡ points_of_lem (cond b (y ∷ keep (borders f) ks) (keep (borders f) ks))
    go true = ap₂ (λ c (r : List Point). points c ++ r) curve rest
    go false = rest

renamed-boundary : (f e h : ℕ) (es : List Edge) → boundary (map (links_renamed e h) es) f ≡ boundary es f
renamed-boundary f e h [] = refl
renamed-boundary f e h (r ∷ es) =
    boundary-cons f (links_renamed e h r) r (map (links_renamed e h) es) es refl refl (renamed-boundary f e h es)

-- an edge with another number, its row the last
module _ (m : Map) (e h : ℕ) (once : Distinct (map number_of m.edges)) (has : has_edge m e ≡ true) where
  renumbered_box : (f : ℕ) → box_of (boundary (renumbered e h m).edges f) ≡ box_of (boundary m.edges f)
  unfolding renumbered
  renumbered_box f =
      let rest = without_edge e m.edges in
      let others = map (links_renamed e h) rest in
      let row = with_number h (links_renamed e h (edge m e)) in
      boundary_perm f (one_last others row)
      ∙ ap box_of (boundary-cons f row (edge m e) others rest refl refl (renamed-boundary f e h rest))
      ∙ sym (boundary_perm f (rows_m m e (λ r. r) (λ r. refl) once has))

  pub renumbered-rectangle : (f : ℕ) → rectangle (renumbered e h m).edges f ≡ rectangle m.edges f
  unfolding rectangle
  renumbered-rectangle zero = refl
  renumbered-rectangle (suc f) = renumbered_box (suc f)
