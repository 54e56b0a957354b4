-- The tests of a map's curves and places, and what they say. Assumes nothing.
use mathlib.Core.Path.{◌≡◌, refl, sym, ap, ◌∙◌, subst}
use mathlib.Core.Bool.{Bool, true, false, not, ◌&&◌, true≢false}
use mathlib.Core.List.Memᴰ
use mathlib.Core.List.{List, [], ◌∷◌, map, Memᴰ}
use Prim.Native.Nat.{◌≤◌}
use borrow.Author.Tests.{leb-true, le-leb}
use borrow.Author.Tests as tests
use lib.Dec.{leb}
use lib.ListN.{length}
use Rattle.lists.specs.Scans.{all_of}
use Rattle.lists.specs.Members.{Pairs, Distinct}
use Rattle.lists.proofs.Bools.{and-true, and_is, not-true}
use Rattle.lists.proofs.Members.{all_of_lem, each_of, all_each, each_all}
use Rattle.plane.specs.declared.Point.{Point}
use Rattle.plane.specs.Points.{InRange, max_coordinate, same_point}
use Rattle.curves.specs.Curves.{Curve, points, last_point, max_points}
use Rattle.curves.specs.Tests.{neighbours_differ, is_simple, meet_wrongly, straight_inside}
use Rattle.geometry.specs.Drawing.{ClearCurves, GoodCurve}
use Rattle.geometry.proofs.Theorems.{same_point_iff, meet_wrongly_iff, good_iff}
use Rattle.map.specs.Rows.{Edge, Map, node}
use Rattle.map.specs.Form.{curve_fits, formed}
use Rattle.map.proofs.Laws.{formed_is}
use Rattle.grown.specs.Good.{Kept, Surveyed}
use Rattle.grown.proofs.Law.Lawful.{Lawful}
use Rattle.grown.proofs.Curves.Apart.{curve_good, curve_long}
use Rattle.certified.specs.Certified.{in_range, count_fits, curve_kept, no_two, curves_clear, places_differ}

-- ---- points

range_says : (p : Point) → in_range p ≡ true → InRange p
range_says p h = let k = and-true (leb p.x max_coordinate) (leb p.y max_coordinate) h in
    record { x = leb-true _ _ k.0; y = leb-true _ _ k.1 }

range_is : (p : Point) → InRange p → in_range p ≡ true
range_is p h = and_is (le-leb _ _ h.x) (le-leb _ _ h.y)

-- ---- pairs

module _ {A : Type 0} (r : A → A → Bool) (R : A → A → Type 0) where
  no_two_says : ((x y : A) → r x y ≡ false → R x y) → (l : List A) → no_two r l ≡ true → Pairs R l
  no_two_says f [] h = tt
  no_two_says f (x ∷ l) h = let k = and-true (all_of (λ y. not (r x y)) l) (no_two r l) h in (
    all_of_lem l (λ y m. f x y (tests.not-true (r x y) (all_each (λ y. not (r x y)) l k.0 y m))),
    no_two_says f l k.1,
  )

  no_two_is : ((x y : A) → R x y → r x y ≡ false) → (l : List A) → Pairs R l → no_two r l ≡ true
  no_two_is f [] h = refl
  no_two_is f (x ∷ l) h =
      and_is (each_all (λ y. not (r x y)) l (λ y m. ap not (f x y (each_of (R x) l h.0 y m)))) (no_two_is f l h.1)

-- no two points are one
places_says : (l : List Point) → no_two same_point l ≡ true → Distinct l
places_says [] h = tt
places_says (p ∷ l) h = let k = and-true (all_of (λ q. not (same_point p q)) l) (no_two same_point l) h in (
  λ m. true≢false (sym (all_each (λ q. not (same_point p q)) l k.0 p m) ∙ ap not ((same_point_iff p p).1 refl)),
  places_says l k.1,
)

places_is : (l : List Point) → Distinct l → no_two same_point l ≡ true
places_is [] d = refl
places_is (p ∷ l) d = and_is (each_all (λ q. not (same_point p q)) l (λ q m. ap not
    (not-true (same_point p q) (λ e. d.0 (Memᴰ.cast ((same_point_iff p q).0 e) m))))) (places_is l d.1)

-- ---- curves

-- what `curve_kept` says, one by one
record Parts (c : Curve) : Type 0 where
  least : 2 ≤ length (points c)
  kept : Kept c
  simple : is_simple c ≡ true

kept_says : (c : Curve) → curve_kept c ≡ true → Parts c
kept_says c h =
    let h₁ = and-true _ (not (straight_inside c)) h in
    let h₂ = and-true _ (is_simple c) h₁.0 in
    let h₃ = and-true (count_fits c) (all_of in_range (points c)) h₂.0 in
    let h₄ = and-true (leb 2 (length (points c))) (leb (length (points c)) max_points) h₃.0 in
    record {
      least = leb-true _ _ h₄.0;
      kept = record {
        most = leb-true _ _ h₄.1;
        in_range = λ p m. range_says p (all_each in_range (points c) h₃.1 p m);
        bent = tests.not-true (straight_inside c) h₁.1;
      };
      simple = h₂.1;
    }

kept_is : (c : Curve) → Parts c → curve_kept c ≡ true
kept_is c k = and_is (and_is (and_is (and_is (le-leb _ _ k.least) (le-leb _ _ k.kept.most))
    (each_all in_range (points c) (λ p m. range_is p (k.kept.in_range p m)))) k.simple) (ap not k.kept.bent)

-- ---- the map

module _ (m : Map) where
  abbrev curves : List Curve
  curves = map (λ e. e.curve) m.edges

  abbrev places : List Point
  places = map (λ n. n.at) m.nodes

  -- the two halves of both tests
  curves_halves : curves_clear m ≡ true
      → (all_of (λ e. curve_kept e.curve) m.edges ≡ true) × (no_two meet_wrongly curves ≡ true)
  unfolding curves_clear
  curves_halves h = and-true (all_of (λ e. curve_kept e.curve) m.edges) (no_two meet_wrongly curves) h

  places_halves : places_differ m ≡ true
      → (all_of (λ n. in_range n.at) m.nodes ≡ true) × (no_two same_point places ≡ true)
  unfolding places_differ
  places_halves h = and-true (all_of (λ n. in_range n.at) m.nodes) (no_two same_point places) h

  part : curves_clear m ≡ true → (e : Edge) → Memᴰ e m.edges → Parts e.curve
  part h e k =
      kept_says e.curve (all_each (λ e. curve_kept e.curve) m.edges (curves_halves h).0 e k)

  pub curves_long : curves_clear m ≡ true → (e : Edge) → Memᴰ e m.edges → 2 ≤ length (points e.curve)
  curves_long h e k = (part h e k).least

  pub surveys_says : formed m ≡ true → Lawful m → curves_clear m ≡ true → places_differ m ≡ true → Surveyed m
  surveys_says form l h j = record {
    drawn = record {
      good = all_of_lem curves (λ c k. let r = Memᴰ.of_map (λ (e : Edge). e.curve) m.edges k in
          subst GoodCurve r.2 (good r.0 r.1));
      clear = no_two_says meet_wrongly ClearCurves (λ c d. (meet_wrongly_iff c d).0) curves (curves_halves h).1;
    };
    kept = λ e k. (part h e k).kept;
    anchored = l.anchored;
    nodes_in_range = λ n k. range_says n.at (all_each (λ n. in_range n.at) m.nodes (places_halves j).0 n k);
    places = places_says places (places_halves j).1;
  }
    where
      good : (e : Edge) → Memᴰ e m.edges → GoodCurve e.curve
      good e k = (good_iff e.curve).1 (
        l.some e k,
        (and-true (same_point e.curve.first (node m e.start).at
            && same_point (last_point e.curve) (node m e.end).at) (neighbours_differ e.curve)
            (all_each (curve_fits m) m.edges (formed_is m form).curves e k)).1,
        (part h e k).simple,
      )

  module _ (s : Surveyed m) where
    pub curves_are : curves_clear m ≡ true
    unfolding curves_clear
    curves_are = and_is
        (each_all (λ e. curve_kept e.curve) m.edges (λ e k. kept_is e.curve (record {
          least = curve_long m s e k;
          kept = s.kept e k;
          simple = ((good_iff e.curve).0 (curve_good m s e k)).2;
        })))
        (no_two_is meet_wrongly ClearCurves (λ c d. (meet_wrongly_iff c d).1) curves s.drawn.clear)

    pub places_are : places_differ m ≡ true
    unfolding places_differ
    places_are = and_is
        (each_all (λ n. in_range n.at) m.nodes (λ n k. range_is n.at (s.nodes_in_range n k)))
        (places_is places s.places)
