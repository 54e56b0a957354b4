-- A map in which an edge has another curve: links, nodes and faces are read as before, and so are the curves of all
-- other edges and the measures of rings without it. A ring's measures do not depend on its order. Assumes nothing.
use mathlib.Core.Path.{◌≡◌, refl, sym, ap, ap₂, ◌∙◌, subst}
use mathlib.Core.Logic.{◌≢◌}
use mathlib.Core.Bool.{Bool, true, false, cond}
use mathlib.Core.List.{List, [], ◌∷◌, Memᴰ, Permᴰ}
use Prim.Native.Nat.{ℕ}
use lib.IntN.{ℤ, ◌+ℤ◌}
use lib.ListN.{length-map}
use Rattle.integers.specs.Solver.{◌⊕◌ as ◌⊞◌, ◌≐◌, solve}
use Rattle.lists.specs.Tests.{same}
use Rattle.lists.proofs.Bools.{same_refl}
use Rattle.lists.proofs.Sums.{sum_cong, sum_perm}
use Rattle.plane.specs.declared.Point.{Point}
use Rattle.curves.specs.Curves.{Curve}
use Rattle.curves.specs.Edits as edits
use Rattle.curves.specs.Measures.{curve_area, odd_below}
use Rattle.planar_maps.specs.Map.{Dart}
use Rattle.map.specs.Rows.{Edge, Map, edge, has_edge, at_edge}
use Rattle.map.specs.Darts.{arcs, leaves, next, bears, course, ring}
use Rattle.map.specs.Faces.{encloses, ring_area}
use Rattle.map.specs.Edits.{with_curve, change_edge_geom}
use Rattle.map.proofs.Laws.{edge_there_lem}
use Rattle.map_laws.proofs.Readings.{tail_in, next_in, face_in, course_in, leaves_row, next_row, bears_row}
use Rattle.map_laws.proofs.Readings.{course_row, mapped_kept, mapped_arcs, mapped_edge}
use Rattle.map_laws.proofs.RowChanges.{at_other}
use Rattle.map_laws.proofs.Rings.{ring-same}

-- ---- measures and order

pub area_perm : (m : Map) {r s : List Dart} → Permᴰ r s → ring_area m r ≡ ring_area m s
unfolding ring_area
area_perm m Permᴰ.nil = refl
area_perm m (Permᴰ.cons e p) = ap₂ (λ (d : Dart) (z : ℤ). curve_area (course m d) +ℤ z) e (area_perm m p)
area_perm m (Permᴰ.swap {a' = a} {b' = b} {l = l} e d) =
    ap₂ (λ (x y : Dart). curve_area (course m x) +ℤ (curve_area (course m y) +ℤ ring_area m l)) e d
    ∙ solve 3 (λ x y z. x ⊞ (y ⊞ z) ≐ y ⊞ (x ⊞ z)) tt (curve_area (course m b)) (curve_area (course m a)) (ring_area m l)
area_perm m (Permᴰ.trans p q) = area_perm m p ∙ area_perm m q

pub odd_perm : (m : Map) (p : Point) {r s : List Dart} → Permᴰ r s → encloses m r p ≡ encloses m s p
unfolding encloses
odd_perm m p q = sum_perm (λ d. odd_below (course m d) p) q

-- ---- the edge e has the curve c

module _ (m : Map) (e : ℕ) (c : Curve) where
  abbrev pub redrawn : Map
  redrawn = change_edge_geom e c m

  abbrev recurved : Edge → Edge
  recurved r = cond (same r.number e) (with_curve c r) r

  by_case : {B : Type 0} (g : Edge → B) → ((r : Edge) → g (with_curve c r) ≡ g r) → (r : Edge) → g (recurved r) ≡ g r
  by_case {B} g h r = go (same r.number e)
    where
      go : (b : Bool) → g (cond b (with_curve c r) r) ≡ g r
      go true = h r
      go false = refl

  kept : {B : Type 0} (g : Edge → B) → ((r : Edge) → g (with_curve c r) ≡ g r) → (x : ℕ) → g (edge redrawn x)
      ≡ g (edge m x)
  unfolding change_edge_geom at_edge
  kept g h = mapped_kept m (change_edge_geom e c m) recurved refl (λ r k. by_case (λ r. r.number) (λ r. refl) r) g
      (by_case g h)

  pub same-arcs : arcs redrawn ≡ arcs m
  unfolding change_edge_geom at_edge
  same-arcs = mapped_arcs m (change_edge_geom e c m) recurved refl (λ r k. by_case (λ r. r.number) (λ r. refl) r)
      (λ r k. by_case (λ r. record { num = r.number; from = r.start; to = r.end }) (λ r. refl) r)

  pub same-leaves : (d : Dart) → leaves redrawn d ≡ leaves m d
  same-leaves d = leaves_row redrawn d ∙ kept (tail_in d.back) (λ r. refl) d.edge ∙ sym (leaves_row m d)

  pub same_next : (d : Dart) → next redrawn d ≡ next m d
  same_next d = next_row redrawn d ∙ kept (next_in d.back) (λ r. refl) d.edge ∙ sym (next_row m d)

  pub same-bears : (d : Dart) → bears redrawn d ≡ bears m d
  same-bears d = bears_row redrawn d ∙ kept (face_in d.back) (λ r. refl) d.edge ∙ sym (bears_row m d)

  pub same-ring : (d : Dart) → ring redrawn d ≡ ring m d
  unfolding change_edge_geom at_edge
  same-ring = ring-same (change_edge_geom e c m) m same_next (length-map m.edges recurved)

  -- ---- courses

  pub other_course : (d : Dart) → d.edge ≢ e → course redrawn d ≡ course m d
  unfolding change_edge_geom
  other_course d ne = rw (course_row, course_row, at_other e (with_curve c) m (λ r k q. q) d.edge ne)

  pub new_course : has_edge m e ≡ true → (b : Bool) → course redrawn (record { edge = e; back = b }) ≡ edits.course b c
  unfolding change_edge_geom at_edge
  new_course has b =
      course_row (change_edge_geom e c m) (record { edge = e; back = b })
      ∙ ap (course_in b)
      (mapped_edge m (change_edge_geom e c m) recurved refl (λ r k. by_case (λ r. r.number) (λ r. refl) r) e has)
      ∙ ap (λ (x : Bool). course_in b (cond x (with_curve c (edge m e)) (edge m e)))
      (ap (λ (x : ℕ). same x e) (edge_there_lem m e has).1 ∙ same_refl e)

  -- ---- directed edges of which none is of e

  abbrev pub Free : List Dart → Type 0
  Free r = (b : Bool) → Memᴰ (record { edge = e; back = b }) r → ⊥

  free_other : {r : List Dart} → Free r → (d : Dart) → Memᴰ d r → course redrawn d ≡ course m d
  free_other {r} h d i = other_course d
      (λ q. h d.back (subst (λ (x : ℕ). Memᴰ (record { edge = x; back = d.back }) r) q i))

  pub area_kept : (r : List Dart) → Free r → ring_area redrawn r ≡ ring_area m r
  unfolding ring_area
  area_kept [] h = refl
  area_kept (d ∷ r) h = ap₂ (λ (x : Curve) (z : ℤ). curve_area x +ℤ z) (free_other h d (Memᴰ.head refl))
      (area_kept r (λ b i. h b (Memᴰ.tail i)))

  pub odd_kept : (r : List Dart) → Free r → (p : Point) → encloses redrawn r p ≡ encloses m r p
  unfolding encloses
  odd_kept r h p = sum_cong r _ _ (λ d i. ap (λ (x : Curve). odd_below x p) (free_other h d i))
