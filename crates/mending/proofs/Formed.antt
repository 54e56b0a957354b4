-- A mended map is in form, where departures differ in direction and a mended ring bears one face: by the law the links
-- about a node make one turn, so they name each departure once. Assumes nothing.
use mathlib.Core.Path.{◌≡◌, refl, sym, ap, subst, fun_ext, ◌∙◌}
use mathlib.Core.Bool.{Bool, true, false, beq, cond, ◌&&◌}
use mathlib.Core.List.Memᴰ
use mathlib.Core.List.Permᴰ
use mathlib.Core.List.{List, map, map-map, Memᴰ, Permᴰ}
use mathlib.Core.Option.{Option, none, some}
use Prim.Native.Nat.{ℕ}
use native.Mathlib.Omega.{arith}
use lib.ListN.{length, length-map}
use Rattle.lists.specs.Tests.{same}
use Rattle.lists.specs.Scans.{all_of, first_or, is_some}
use Rattle.lists.specs.Members.{Distinct}
use Rattle.lists.proofs.Bools.{same_eq, and-true, and_is}
use Rattle.lists.proofs.Maps.{all_mapped}
use Rattle.lists.proofs.Perms.{perm_of_distinct}
use Rattle.lists.proofs.Members.{all_each, each_all}
use Rattle.planar_maps.specs.Map.{Arc, Dart, rev, Linked}
use Rattle.planar_maps.specs.Pieces.{nums}
use Rattle.planar_maps.specs.Rings.{same_dart}
use Rattle.planar_maps.proofs.Cycles.{fwd_in, bwd_in}
use Rattle.planar_maps.proofs.Hooks.{distinct_darts}
use Rattle.planar_maps.proofs.Rings.{rev_in}
use Rattle.planar_maps.proofs.Turns.{rev-rev}
use Rattle.tables.specs.Tables.{numbered}
use Rattle.plane.specs.Directions.{Way}
use Rattle.rotation.specs.Law.{Apart}
use Rattle.rotation.proofs.Node.{lawful_in}
use Rattle.rotation.proofs.Ties.{tells}
use Rattle.rotation.proofs.Whole.{law_onto}
use Rattle.map.specs.Rows.{Edge, Map, edge, node, has_node, has_edge}
use Rattle.map.specs.Darts.{arcs, directed, leaves, arrives, next, bears, way, departures}
use Rattle.map.specs.Form.{numbers, in_face, curve_fits, ways_differ, departures_differ, bare_marked, links_meet}
use Rattle.map.specs.Form.{rings_bear_one, formed}
use Rattle.map.specs.Links.{clockwise}
use Rattle.map.proofs.Laws.{numbers_are, edge_there_lem, node_there_lem}
use Rattle.map.proofs.Linked.{nums-rows, starts, ends, links_keep}
use Rattle.map_laws.proofs.Readings.{leaves_row, arc_at, dart_has, departs, departing}
use Rattle.map_laws.proofs.Departures.{from_in}
use Rattle.map_laws.proofs.Form.{linked_once, differ_says}
use Rattle.mending.specs.Mend.{sides_named, mended}
use Rattle.mending.specs.Claims.{links_named}
use Rattle.mending.proofs.Sketched.{Sketch, parts-formed}
use Rattle.mending.proofs.Mended.{relinked, mended_relinked, directed_kept, next_now, law_now}

-- ---- what does not look at links stays

module _ (m : Map) (s : Sketch m) where
  rising_now : numbers (mended m) ≡ true
  unfolding numbers mended
  rising_now =
      ap (λ (ns : List ℕ).
      numbered 1 m.next.nodes (map (λ n. n.number) m.nodes) && numbered 1 m.next.edges ns
      && numbered 0 m.next.faces m.faces && same (first_or 1 m.faces) 0)
      (map-map (λ (e : Edge). e.number) (relinked m) m.edges) ∙ s.rising

  faces_now : all_of (λ n. in_face (mended m) n.face) m.nodes ≡ true
  unfolding mended
  faces_now = ap (λ (f : Option ℕ → Bool). all_of (λ n. f n.face) m.nodes) (fun_ext go) ∙ s.faces
    where
      go : (o : Option ℕ) → in_face (mended m) o ≡ in_face m o
      go none = refl
      go (some f) = refl

  bare_now : bare_marked (mended m) ≡ true
  unfolding bare_marked mended
  bare_now =
      ap (λ (f : ℕ → List Dart). all_of (λ n. beq (is_some n.face) (same (length (f n.number)) 0)) m.nodes)
      (fun_ext (mended_relinked m).departures) ∙ s.bare

  mended_sketch : Sketch (mended m)
  unfolding mended node
  mended_sketch =
      record {
        rising = rising_now;
        faces = faces_now;
        sides = all_mapped (sides_named (mended m)) (relinked m) m.edges ∙ s.sides;
        curves = all_mapped (curve_fits (mended m)) (relinked m) m.edges ∙ s.curves;
        bare = bare_now;
      }

differ_now : (m : Map) → departures_differ m ≡ true → departures_differ (mended m) ≡ true
unfolding departures_differ mended
differ_now m h =
    ap (λ (f : ℕ → List Dart). all_of (λ n. ways_differ (map (way (mended m)) (f n.number))) m.nodes)
    (fun_ext (mended_relinked m).departures)
    ∙ ap (λ (w : Dart → Way). all_of (λ n. ways_differ (map w (departures m n.number))) m.nodes)
    (fun_ext (mended_relinked m).way) ∙ h

-- ---- the links

module _ (m : Map) where
  -- clockwise from a departure, another of its node is met
  clockwise_in : {d : Dart} → Memᴰ d (directed m) → Memᴰ (clockwise m d) (departures m (leaves m d))
  unfolding clockwise
  clockwise_in {d} k = lawful_in (way m) same_dart (departures m (leaves m d)) d (departing m (leaves m d) k refl)

  meets_now : (d : Dart) → Memᴰ d (directed m) → leaves m (next (mended m) d) ≡ leaves m (rev d)
  meets_now d k = ap (leaves m) (next_now m d k) ∙ (departs m (leaves m (rev d)) (clockwise_in (rev_in (arcs m) k))).1

  links_now : all_of (links_named (mended m)) (mended m).edges ≡ true
  unfolding mended
  links_now = all_mapped (links_named (mended m)) (relinked m) m.edges ∙ each_all _ m.edges row
    where
      there : {d : Dart} → Memᴰ d (directed m) → has_edge (mended m) (clockwise m d).edge ≡ true
      there {d} k = (mended_relinked m).has _ ∙ dart_has m (departs m (leaves m d) (clockwise_in k)).0

      row : (e : Edge) → Memᴰ e m.edges → links_named (mended m) (relinked m e) ≡ true
      row e k = and_is (there (bwd_in (arc_at m k))) (there (fwd_in (arc_at m k)))

  module _ (s : Sketch m) (differ : departures_differ m ≡ true) where
    -- a departure leaves a node
    at_node : (d : Dart) → Memᴰ d (directed m) → has_node m (leaves m d) ≡ true
    at_node d k = rw leaves_row (go d.back)
      where
        e : Edge
        e = edge m d.edge

        named : sides_named m e ≡ true
        named = all_each (sides_named m) m.edges s.sides e (edge_there_lem m d.edge (dart_has m k)).0

        ends_named_lem : (has_node m e.start ≡ true) × (has_node m e.end ≡ true)
        ends_named_lem = and-true _ _ (and-true _ _ (and-true _ _ named).0).0

        go : (b : Bool) → has_node m (cond b e.end e.start) ≡ true
        go true = ends_named_lem.1
        go false = ends_named_lem.0

    apart : Apart (leaves m) (way m) (directed m)
    unfolding departures_differ departures
    apart n d c i j e =
        let x = from_in (leaves m) (directed m) n i in
        let row = node_there_lem m n (subst (λ (k : ℕ). has_node m k ≡ true) x.1 (at_node d x.0)) in
        differ_says (way m) (departures m n)
        (subst (λ (k : ℕ). ways_differ (map (way m) (departures m k)) ≡ true) row.1
        (all_each (λ r. ways_differ (map (way m) (departures m r.number))) m.nodes differ (node m n) row.0))
        d c i j e

    once : Distinct (nums (arcs m))
    once = rw (nums-rows m) (numbers_are m s.rising).edges.distinct

    -- mended links name every directed edge once
    perm_now : Permᴰ (map (next (mended m)) (directed m)) (directed m)
    perm_now =
        Permᴰ.symm (perm_of_distinct (directed m) (map (next (mended m)) (directed m))
        (distinct_darts (arcs m) once) named
        (omega (arith, length-map (directed m) (next (mended m)))))
      where
        named : (d : Dart) → Memᴰ d (directed m) → Memᴰ d (map (next (mended m)) (directed m))
        named d k =
            let r = law_onto same_dart rev (leaves m) (way m) tells rev-rev (directed m) (next (mended m))
            (law_now m) apart d k in
            Memᴰ.cast (sym r.2) (Memᴰ.map (next (mended m)) (rev_in (arcs m) r.1))

    module _ (rings : rings_bear_one (mended m) ≡ true) where
      once_now : Distinct (nums (arcs (mended m)))
      once_now = subst (λ (es : List Arc). Distinct (nums es)) (sym (mended_relinked m).arcs) once

      meet_now : (d : Dart) → Memᴰ d (directed (mended m))
          → leaves (mended m) (next (mended m) d) ≡ arrives (mended m) d
      meet_now d k =
          (mended_relinked m).leaves (next (mended m) d)
          ∙ meets_now d (subst (Memᴰ d) (directed_kept m) k)
          ∙ sym ((mended_relinked m).leaves (rev d))

      linked : Linked (arcs (mended m)) (leaves (mended m)) (next (mended m)) (bears (mended m))
      linked =
          record {
            starts = starts (mended m) once_now;
            ends = ends (mended m) once_now;
            perm = subst (λ (ds : List Dart). Permᴰ (map (next (mended m)) ds) ds)
                (sym (directed_kept m)) perm_now;
            meets = meet_now;
            keeps = links_keep (mended m) rings;
          }

      pub mended-formed : formed (mended m) ≡ true
      unfolding links_meet
      mended-formed =
          parts-formed (mended m) (mended_sketch m s)
          (record {
            departures = differ_now m differ;
            links = links_now;
            once = linked_once (mended m) linked once_now;
            meet = each_all _ (directed (mended m)) (λ d k. same_eq _ _ (meet_now d k));
            rings = rings;
          })
