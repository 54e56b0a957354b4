-- Departures from one node of a surveyed map differ in direction. Assumes nothing.
use mathlib.Core.Path.{◌≡◌, refl, sym, ap, ◌∙◌, subst}
use mathlib.Core.Logic.{◌⊎◌, inl, inr, ◌≢◌}
use mathlib.Core.Bool.{Bool, true, false, true≢false}
use mathlib.Core.List.Memᴰ
use mathlib.Core.List.{List, [], ◌∷◌, map, Memᴰ}
use Prim.Native.Nat.{ℕ, suc, ◌≤◌}
use native.Mathlib.Omega.{arith}
use lib.ListN.{length}
use Rattle.lists.proofs.Bools.{equal?}
use Rattle.lists.proofs.Members.{each_of, pairs_in}
use Rattle.plane.specs.declared.Point.{Point}
use Rattle.plane.specs.Directions.{Way, same_way}
use Rattle.curves.specs.Curves.{points, start_way}
use Rattle.planar_maps.specs.Map.{Dart}
use Rattle.rotation.specs.Law.{Apart}
use Rattle.rotation.proofs.Ways.{alike_is}
use Rattle.rotation.proofs.Order.{same_way_sym}
use Rattle.geometry.specs.Drawing.{ClearCurves, GoodCurve}
use Rattle.geometry.specs.Meaning.{Some}
use Rattle.geometry.proofs.Drawing.{clear_sym}
use Rattle.geometry.proofs.Theorems.{departures_differ_lem, closed_differ, reverse_ways}
use Rattle.map.specs.Rows.{Edge, Map, node, edge}
use Rattle.map.specs.Darts.{directed, leaves, way, departures}
use Rattle.map.proofs.Laws.{edge_there_lem}
use Rattle.map_laws.proofs.Readings.{tail_in, course_in, leaves_row, course_row, way_row, dart_has, departs}
use Rattle.grown.specs.Good.{Surveyed}

module _ (m : Map) (s : Surveyed m) where
  pub curve_good : (r : Edge) → Memᴰ r m.edges → GoodCurve r.curve
  curve_good r k = each_of GoodCurve (map (λ (e : Edge). e.curve) m.edges) s.drawn.good r.curve
      (Memᴰ.map (λ (e : Edge). e.curve) k)

  pub curve_long : (r : Edge) → Memᴰ r m.edges → 2 ≤ length (points r.curve)
  curve_long r k = go r.curve.rest (curve_good r k).some
    where
      go : (l : List Point) → Some l → 2 ≤ suc (length l)
      go [] h = absurd h
      go (p ∷ l) h = omega arith

  pub curves_clear_lem : (r q : Edge) → Memᴰ r m.edges → Memᴰ q m.edges → r ≢ q
      → ClearCurves r.curve q.curve
  curves_clear_lem r q k j ne = pairs_in ClearCurves clear_sym (λ (e : Edge). e.curve) m.edges
      s.drawn.clear r q k j ne

  -- a course starts on the point of the node that it leaves
  starts : (b : Bool) (r : Edge) → Memᴰ r m.edges → (course_in b r).first ≡ (node m (tail_in b r)).at
  starts true r k = (s.anchored r k).end
  starts false r k = (s.anchored r k).start

  -- two ways of leaving one node
  differ : (b c : Bool) (r q : Edge) → Memᴰ r m.edges → Memᴰ q m.edges → r ≢ q → tail_in b r
      ≡ tail_in c q → same_way (start_way (course_in b r)) (start_way (course_in c q)) ≡ false
  differ b c r q k j ne e = departures_differ_lem b c r.curve q.curve (curve_good r k) (curve_good q j)
      (curves_clear_lem r q k j ne) (starts b r k ∙ ap (λ (n : ℕ). (node m n).at) e ∙ sym (starts c q j))

  -- the two ends of one edge
  ends_differ_lem : (r : Edge) → Memᴰ r m.edges → r.start ≡ r.end
      → same_way (start_way (course_in false r)) (start_way (course_in true r)) ≡ true → ⊥
  ends_differ_lem r k e w = true≢false (sym w
      ∙ ap (λ (v : Way). same_way (start_way r.curve) v) (reverse_ways r.curve (curve_good r k)).0
      ∙ closed_differ r.curve (curve_good r k)
      (starts true r k ∙ ap (λ (n : ℕ). (node m n).at) (sym e) ∙ sym (starts false r k)))

  loop : (b c : Bool) (r : Edge) → Memᴰ r m.edges → tail_in b r ≡ tail_in c r
      → same_way (start_way (course_in b r)) (start_way (course_in c r)) ≡ true → b ≡ c
  loop true true r k e w = refl
  loop false false r k e w = refl
  loop false true r k e w = absurd (ends_differ_lem r k e w)
  loop true false r k e w = absurd (ends_differ_lem r k (sym e)
      (same_way_sym (start_way (course_in true r)) (start_way (course_in false r)) w))

  pub apart : Apart (leaves m) (way m) (directed m)
  unfolding departures
  apart n d c j k alike = go (equal? d.edge c.edge)
    where
      x : Memᴰ d (directed m) × (leaves m d ≡ n)
      x = departs m n j

      y : Memᴰ c (directed m) × (leaves m c ≡ n)
      y = departs m n k

      same_way_lem : same_way (start_way (course_in d.back (edge m d.edge)))
          (start_way (course_in c.back (edge m c.edge))) ≡ true
      same_way_lem = rw (← course_row m d, ← course_row m c, ← way_row m d, ← way_row m c)
          (alike_is (way m d) (way m c) alike)

      same-node : tail_in d.back (edge m d.edge) ≡ tail_in c.back (edge m c.edge)
      same-node = sym (leaves_row m d) ∙ x.1 ∙ sym y.1 ∙ leaves_row m c

      go : (d.edge ≡ c.edge) ⊎ ((d.edge ≡ c.edge) → ⊥) → d ≡ c
      go (inl e) = λ i. record { edge = e i; back = sides i }
        where
          sides : d.back ≡ c.back
          sides = loop d.back c.back (edge m d.edge) (edge_there_lem m d.edge (dart_has m x.0)).0
              (same-node ∙ ap (λ (n : ℕ). tail_in c.back (edge m n)) (sym e))
              (subst (λ (n : ℕ). same_way (start_way (course_in d.back (edge m d.edge)))
              (start_way (course_in c.back (edge m n))) ≡ true) (sym e) same_way_lem)
      go (inr ne) = absurd (true≢false (sym same_way_lem
          ∙ differ d.back c.back (edge m d.edge) (edge m c.edge) (row x.0) (row y.0)
          (λ e. ne (sym (number x.0) ∙ ap (λ (r : Edge). r.number) e ∙ number y.0)) same-node))
        where
          row : {d : Dart} → Memᴰ d (directed m) → Memᴰ (edge m d.edge) m.edges
          row {d} k = (edge_there_lem m d.edge (dart_has m k)).0

          number : {d : Dart} → Memᴰ d (directed m) → (edge m d.edge).number ≡ d.edge
          number {d} k = (edge_there_lem m d.edge (dart_has m k)).1
