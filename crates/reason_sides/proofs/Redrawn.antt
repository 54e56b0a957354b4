-- What a new curve for an edge changes of the rings on its two sides: nothing where e and -e share a ring; else each
-- ring loses what its curve has more than the new one, and both pass over the same points. Assumes nothing.
use mathlib.Core.Path.{◌≡◌, refl, sym, ap, ap₂, ◌∙◌}
use mathlib.Core.Bool.{Bool, true, false, not, true≢false, ◌||◌}
use mathlib.Core.List.{List, ◌∷◌, Memᴰ, Permᴰ}
use mathlib.Core.List.Permᴰ
use Prim.Native.Nat.{ℕ}
use lib.IntN.{ℤ, ◌+ℤ◌, ◌-ℤ◌}
use Rattle.integers.specs.Order.{sgn}
use Rattle.integers.specs.Solver.{⊝◌, ◌⊕◌ as ◌⊞◌, ◌⊖◌, ◌≐◌, solve}
use Rattle.lists.specs.Tests.{◌⊕◌}
use Rattle.lists.specs.Scans.{any_of}
use Rattle.lists.specs.Members.{Distinct}
use Rattle.lists.proofs.Bools.{eq2, eq3, ⊕-self, or_no}
use Rattle.lists.proofs.Members.{any_none, in_rest}
use Rattle.lists.proofs.Perms.{extract, perm_in, perm_distinct}
use Rattle.plane.specs.declared.Point.{Point}
use Rattle.plane.specs.Areas.{is_positive}
use Rattle.curves.specs.Curves.{Curve}
use Rattle.curves.specs.Edits as edits
use Rattle.curves.specs.Measures.{curve_area, odd_below}
use Rattle.planar_maps.specs.Map.{Dart, fwd, bwd, Linked}
use Rattle.planar_maps.specs.Pieces.{nums}
use Rattle.planar_maps.proofs.Hooks.{fwd≢bwd}
use Rattle.map.specs.Rows.{Edge, Map, edge}
use Rattle.map.specs.Darts.{arcs, directed, leaves, next, bears, course, ring, among}
use Rattle.map.specs.Faces.{encloses, ring_area}
use Rattle.map.specs.Edits.{change_edge_geom}
use Rattle.map.specs.Reasons.{side_points, ring_changes, sides_change}
use Rattle.map_laws.proofs.Readings.{row_has, has_dart, edge_at, course_row, course_in}
use Rattle.map_laws.proofs.Redrawn.{Free, new_course, area_perm, odd_perm, area_kept, odd_kept}
use Rattle.map_laws.proofs.Rings.{among_has, among_in, ring_here, ring_has, ring_leads, ring_once, leads_back}
use Rattle.rings.proofs.Reversed.{area-reversed}
use Rattle.rings.proofs.Sums.{below_course}
use Rattle.reason_sides.specs.Passing.{sign_changes, passes_over}

module _ (m : Map) (l : Linked (arcs m) (leaves m) (next m) (bears m)) (dis : Distinct (nums (arcs m))) (o : Edge)
    (k : Memᴰ o m.edges) (c : Curve) where
  -- the edge's two directed edges, and the map with the new curve
  abbrev side : Bool → Dart
  side b = record { edge = o.number; back = b }

  abbrev redrawn : Map
  redrawn = change_edge_geom o.number c m

  -- ---- curves

  old_course : (b : Bool) → course m (side b) ≡ edits.course b o.curve
  old_course b = course_row m (side b) ∙ ap (course_in b) (edge_at m dis k)

  drawn-course : (b : Bool) → course redrawn (side b) ≡ edits.course b c
  drawn-course = new_course m o.number c (row_has m k)

  abbrev Without : List Dart → Type 0
  Without = Free m o.number c

  -- what is neither of them
  free_of : (r : List Dart) (b : Bool) → (Memᴰ (side b) r → ⊥) → (Memᴰ (side (not b)) r → ⊥) → Without r
  free_of r true h g true = h
  free_of r true h g false = g
  free_of r false h g true = g
  free_of r false h g false = h

  -- ---- one of them in front

  area_first : (n : Map) (b : Bool) (x : Curve) → course n (side b) ≡ edits.course b x → (r : List Dart)
      → ring_area n (side b ∷ r) ≡ curve_area (edits.course b x) +ℤ ring_area n r
  unfolding ring_area
  area_first n b x e r = ap (λ (y : Curve). curve_area y +ℤ ring_area n r) e

  odd_first : (n : Map) (b : Bool) (x : Curve) → course n (side b) ≡ edits.course b x → (r : List Dart) (p : Point)
      → encloses n (side b ∷ r) p ≡ odd_below x p ⊕ encloses n r p
  unfolding encloses
  odd_first n b x e r p = ap (λ (y : Bool). y ⊕ encloses n r p)
      (ap (λ (y : Curve). odd_below y p) e ∙ below_course b x p)

  -- ---- a ring that has one of them, and one that has both

  module _ (r : List Dart) (once : Distinct r) where
    module _ (b : Bool) (i : Memᴰ (side b) r) (out : Memᴰ (side (not b)) r → ⊥) where
      abbrev lost : ℤ
      lost = curve_area (edits.course b o.curve) -ℤ curve_area (edits.course b c)

      abbrev rest : List Dart
      rest = (extract i).0

      rest_free : Without rest
      rest_free = free_of rest b (perm_distinct (extract i).1 once).0
          (λ j. out (perm_in (Permᴰ.symm (extract i).1) (Memᴰ.tail j)))

      area_alone : ring_area redrawn r ≡ ring_area m r -ℤ lost
      area_alone =
          area_perm redrawn (extract i).1
          ∙ area_first redrawn b c (drawn-course b) rest
          ∙ ap (λ (z : ℤ). curve_area (edits.course b c) +ℤ z) (area_kept m o.number c rest rest_free)
          ∙ solve 3 (λ x y z. y ⊞ z ≐ (x ⊞ z) ⊖ (x ⊖ y)) tt (curve_area (edits.course b o.curve))
          (curve_area (edits.course b c)) (ring_area m rest)
          ∙ ap (λ (z : ℤ). z -ℤ lost)
          (sym (area_perm m (extract i).1 ∙ area_first m b o.curve (old_course b) rest))

      odd_alone : (p : Point) → encloses m r p ⊕ encloses redrawn r p ≡ passes_over o.curve c p
      odd_alone p =
          ap₂ ◌⊕◌ (odd_perm m p (extract i).1 ∙ odd_first m b o.curve (old_course b) rest p)
          (odd_perm redrawn p (extract i).1 ∙ odd_first redrawn b c (drawn-course b) rest p
          ∙ ap (λ (z : Bool). odd_below c p ⊕ z) (odd_kept m o.number c rest rest_free p))
          ∙ eq3 (λ x y z. (x ⊕ z) ⊕ (y ⊕ z)) (λ x y z. x ⊕ y) tt (odd_below o.curve p) (odd_below c p)
          (encloses m rest p)

      changes_alone : (ps : List Point) → ring_changes m redrawn ps r
          ≡ sign_changes (ring_area m r) lost || any_of (passes_over o.curve c) ps
      changes_alone ps = ap₂ (λ (z : ℤ) (q : Point → Bool). is_positive (sgn (ring_area m r)) ⊕ is_positive (sgn z)
          || any_of q ps) area_alone (λ i p. odd_alone p i)

    module _ (i : Memᴰ (side false) r) (j : Memᴰ (side true) r) where
      -- the list that is left, and how the ring is made of it
      both : (s : List Dart) × Permᴰ r (side false ∷ side true ∷ s)
      both =
          let x = extract i in
          let y = extract (in_rest (λ q. fwd≢bwd (sym q)) (perm_in x.1 j)) in
          (y.0, Permᴰ.trans x.1 (Permᴰ.cons refl y.1))

      both-free : Without both.0
      both-free = let d = perm_distinct both.1 once in
          free_of both.0 false (λ k. d.0 (Memᴰ.tail k)) d.1.0

      -- the two cancel, whatever the curve
      area_cancels : (n : Map) (x : Curve) → ((b : Bool) → course n (side b) ≡ edits.course b x)
          → ring_area n r ≡ ring_area n both.0
      area_cancels n x e =
          area_perm n both.1
          ∙ area_first n false x (e false) (side true ∷ both.0)
          ∙ ap (λ (z : ℤ). curve_area x +ℤ z) (area_first n true x (e true) both.0
          ∙ ap (λ (z : ℤ). z +ℤ ring_area n both.0) (area-reversed x))
          ∙ solve 2 (λ y z. y ⊞ (⊝ y ⊞ z) ≐ z) tt (curve_area x) (ring_area n both.0)

      odd_cancels : (n : Map) (x : Curve) → ((b : Bool) → course n (side b) ≡ edits.course b x) → (p : Point)
          → encloses n r p ≡ encloses n both.0 p
      odd_cancels n x e p =
          odd_perm n p both.1
          ∙ odd_first n false x (e false) (side true ∷ both.0) p
          ∙ ap (λ (z : Bool). odd_below x p ⊕ z) (odd_first n true x (e true) both.0 p)
          ∙ eq2 (λ y z. y ⊕ (y ⊕ z)) (λ y z. z) tt (odd_below x p) (encloses n both.0 p)

      changes-both : (ps : List Point) → ring_changes m redrawn ps r ≡ false
      changes-both ps =
          or_no (ap (λ (z : ℤ). is_positive (sgn (ring_area m r)) ⊕ is_positive (sgn z))
          (area_cancels redrawn c drawn-course ∙ area_kept m o.number c both.0 both-free
          ∙ sym (area_cancels m o.curve old_course)) ∙ ⊕-self (is_positive (sgn (ring_area m r))))
          (any_none (λ p. encloses m r p ⊕ encloses redrawn r p) ps (λ p k. ap (λ (z : Bool). encloses m r p ⊕ z)
          (odd_cancels redrawn c drawn-course p ∙ odd_kept m o.number c both.0 both-free p
          ∙ sym (odd_cancels m o.curve old_course p)) ∙ ⊕-self (encloses m r p)))

  -- ---- the rings on the two sides

  here : (b : Bool) → Memᴰ (side b) (directed m)
  here b = has_dart m (side b) (row_has m k)

  abbrev ring_of : Bool → List Dart
  ring_of b = ring m (side b)

  once : (b : Bool) → Distinct (ring_of b)
  once b = ring_once m l dis (side b) (here b)

  first : (b : Bool) → Memᴰ (side b) (ring_of b)
  first b = ring_here m l dis (side b) (here b)

  -- one has the other where the other has the one
  across : {a b : Bool} → Memᴰ (side b) (ring_of a) → Memᴰ (side a) (ring_of b)
  across {a} {b} i = ring_has m l dis (side b) (here b) (leads_back m l dis (here a)
      (ring_leads m l dis (side a) (here a) i))

  -- whether one of the points is passed over, for an edge that starts at n
  abbrev passed : ℕ → Bool
  passed n = any_of (passes_over o.curve c) (side_points m n)

  -- whether the area changes between positive and not positive on a side that loses z
  abbrev turns : Bool → ℤ → Bool
  turns b z = sign_changes (ring_area m (ring_of b)) z

  pub one-ring : among (ring m (fwd o.number)) (bwd o.number) ≡ true → sides_change m o.number c ≡ false
  unfolding sides_change
  one-ring e =
      let i = among_in (ring_of false) (side true) e in
      or_no (changes-both (ring_of false) (once false) (first false) i (side_points m (edge m o.number).start))
      (changes-both (ring_of true) (once true) (across i) (first true) (side_points m (edge m o.number).start))

  pub two_rings : among (ring m (fwd o.number)) (bwd o.number) ≡ false → sides_change m o.number c
      ≡ sign_changes (ring_area m (ring m (fwd o.number))) (curve_area o.curve -ℤ curve_area c)
      || sign_changes (ring_area m (ring m (bwd o.number))) (curve_area c -ℤ curve_area o.curve)
      || any_of (passes_over o.curve c) (side_points m o.start)
  unfolding sides_change
  two_rings e =
      ap₂ ◌||◌ (alone false out) (alone true (λ i. out (across i)))
      ∙ ap₂ (λ (z : ℤ) (n : ℕ). (turns false less || passed n) || (turns true z || passed n))
      (ap₂ ◌-ℤ◌ (area-reversed o.curve) (area-reversed c)
      ∙ solve 2 (λ x y. ⊝ x ⊖ ⊝ y ≐ y ⊖ x) tt (curve_area o.curve) (curve_area c))
      (ap (λ (r : Edge). r.start) (edge_at m dis k))
      ∙ eq3 (λ x y z. (x || z) || (y || z)) (λ x y z. x || y || z) tt (turns false less)
      (turns true (curve_area c -ℤ curve_area o.curve)) (passed o.start)
    where
      less : ℤ
      less = curve_area o.curve -ℤ curve_area c

      out : Memᴰ (side true) (ring_of false) → ⊥
      out i = true≢false (sym (among_has (ring_of false) i) ∙ e)

      alone : (b : Bool) → (Memᴰ (side (not b)) (ring_of b) → ⊥)
          → ring_changes m redrawn (side_points m (edge m o.number).start) (ring_of b)
          ≡ turns b (curve_area (edits.course b o.curve) -ℤ curve_area (edits.course b c))
          || passed (edge m o.number).start
      alone b h = changes_alone (ring_of b) (once b) b (first b) h (side_points m (edge m o.number).start)
