-- A good map is as condition 2 asks. Assumes nothing.
use mathlib.Core.Path.{◌≡◌, refl, sym, ap, ◌∙◌}
use mathlib.Core.Bool.{true, false, not}
use mathlib.Core.List.Memᴰ
use mathlib.Core.List.{List, [], ◌∷◌, map, Memᴰ}
use Rattle.lists.specs.Scans.{any_of}
use Rattle.lists.specs.Members.{Distinct}
use Rattle.lists.proofs.Bools.{not-true, and_is}
use Rattle.lists.proofs.Keeps.{distinct_keep}
use Rattle.lists.proofs.Members.{each_all, any_some}
use Rattle.planar_maps.specs.Map.{Dart, Linked}
use Rattle.planar_maps.proofs.Hooks.{distinct_darts}
use Rattle.plane.specs.Points.{same_point}
use Rattle.plane.specs.Directions.{Way, same_way}
use Rattle.curves.specs.Curves.{last_point}
use Rattle.geometry.proofs.Meeting.{same_point_refl}
use Rattle.geometry.proofs.Theorems.{neighbours_differ_iff}
use Rattle.rotation.proofs.Ways.{alike_says}
use Rattle.map.specs.Rows.{Edge, Map}
use Rattle.map.specs.Darts.{arcs, directed, leaves, next, bears, departures, way}
use Rattle.map.specs.Form.{numbers, named, curve_fits, ways_differ, departures_differ, formed}
use Rattle.map_laws.proofs.Form.{linked_once, linked_meet, linked_bear}
use Rattle.grown.specs.Good.{Good}
use Rattle.grown.proofs.Curves.Apart.{curve_good, apart}

-- departures that are one where their directions are have different directions
ways_differ_lem : (way : Dart → Way) (ds : List Dart) → Distinct ds
    → ((d c : Dart) → Memᴰ d ds → Memᴰ c ds → same_way (way d) (way c) ≡ true → d ≡ c)
    → ways_differ (map way ds) ≡ true
ways_differ_lem way [] dis h = refl
ways_differ_lem way (d ∷ ds) dis h = and_is (ap not none)
    (ways_differ_lem way ds dis.1 (λ x y j k. h x y (Memᴰ.tail j) (Memᴰ.tail k)))
  where
    taken : (v : Way) × Memᴰ v (map way ds) × (same_way (way d) v ≡ true) → ⊥
    taken x =
        let c = Memᴰ.of_map way ds x.1 in
        dis.0 (Memᴰ.cast (h d c.0 (Memᴰ.head refl) (Memᴰ.tail c.1)
        (ap (same_way (way d)) c.2 ∙ x.2)) c.1)

    none : any_of (same_way (way d)) (map way ds) ≡ false
    none = not-true (any_of (same_way (way d)) (map way ds)) (λ e. taken (any_some (same_way (way d)) (map way ds) e))

module _ (m : Map) (g : Good m) where
  fits-curve : (e : Edge) → Memᴰ e m.edges → curve_fits m e ≡ true
  fits-curve e k =
      let a = g.surveyed.anchored e k in
      and_is (and_is (ap (same_point e.curve.first) (sym a.start) ∙ same_point_refl e.curve.first)
      (ap (same_point (last_point e.curve)) (sym a.end) ∙ same_point_refl (last_point e.curve)))
      ((neighbours_differ_iff e.curve).1 (curve_good m g.surveyed e k).differ)

  differ : departures_differ m ≡ true
  unfolding departures_differ departures
  differ = each_all _ m.nodes (λ n k. ways_differ_lem (way m) (departures m n.number)
      (distinct_keep _ (directed m) (distinct_darts (arcs m) g.woven.planar.edges_once))
      (λ d c i j e. apart m g.surveyed n.number d c i j (alike_says (way m d) (way m c) e)))

  abbrev linked : Linked (arcs m) (leaves m) (next m) (bears m)
  linked = g.woven.planar.linked

  pub good_formed : formed m ≡ true
  unfolding formed
  good_formed =
      and_is (and_is (and_is (and_is (and_is
      (and_is (and_is g.numbered.numbers g.numbered.named)
      (each_all (curve_fits m) m.edges fits-curve)) differ) g.numbered.marked)
      (linked_once m linked g.woven.planar.edges_once)) (linked_meet m linked)) (linked_bear m linked)
