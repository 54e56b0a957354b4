-- Condition 2 on links and directions, from tests to facts and back: a linked map passes its tests on links; in a map
-- in form departures from one node differ in direction. Assumes nothing.
use mathlib.Core.Path.{◌≡◌, sym, ◌∙◌, subst}
use mathlib.Core.Bool.{true, not, true≢false}
use mathlib.Core.List.Memᴰ
use mathlib.Core.List.{List, [], ◌∷◌, map, Memᴰ}
use mathlib.Core.Logic.{◌⊎◌, inl, inr}
use Prim.Native.Nat.{ℕ, ◌<◌}
use native.Mathlib.Omega.{arith}
use borrow.Author.Tests.{not-true}
use Rattle.lists.specs.Scans.{any_of, count_of}
use Rattle.lists.specs.Members.{Distinct}
use Rattle.lists.proofs.Bools.{same_eq, and-true}
use Rattle.lists.proofs.Counts.{count_perm}
use Rattle.lists.proofs.Members.{each_all, all_each, none_has}
use Rattle.plane.specs.Directions.{Way, same_way}
use Rattle.planar_maps.specs.Map.{Linked}
use Rattle.planar_maps.specs.Pieces.{nums}
use Rattle.planar_maps.specs.Rings.{same_dart}
use Rattle.planar_maps.proofs.Rings.{dart_once}
use Rattle.planar_maps.proofs.Hooks.{distinct_darts}
use Rattle.planar_maps.proofs.Splitting.{tail_in_lem}
use Rattle.rotation.specs.Ways.{Alike}
use Rattle.rotation.specs.Law.{Differ, from, Apart}
use Rattle.rotation.proofs.Ways.{alike_is, alike_sym}
use Rattle.map.specs.Rows.{Map, Node}
use Rattle.map.specs.Darts.{arcs, directed, leaves, next, bears, departures, way}
use Rattle.map.specs.Form.{ways_differ, departures_differ, links_once, links_meet, rings_bear_one, formed}
use Rattle.map.proofs.Laws.{formed_is}
use Rattle.map.proofs.Linked as formedLinks
use Rattle.map_laws.proofs.Readings.{number_of, nums-rows}
use Rattle.map_laws.proofs.RowChanges.{node_number}
use Rattle.map_laws.proofs.Departures.{from_in}

-- ---- a linked map passes the tests of form on its links

module _ (m : Map) (l : Linked (arcs m) (leaves m) (next m) (bears m)) where
  pub linked_once : Distinct (nums (arcs m)) → links_once m ≡ true
  unfolding links_once
  linked_once dis = each_all _ (directed m) (λ d k. same_eq (count_of (same_dart d) (map (next m) (directed m))) 1
      (count_perm (same_dart d) l.perm ∙ dart_once (directed m) (distinct_darts (arcs m) dis) k))

  pub linked_meet : links_meet m ≡ true
  unfolding links_meet
  linked_meet = each_all _ (directed m) (λ d k. same_eq _ _ (l.meets d k))

  pub linked_bear : rings_bear_one m ≡ true
  unfolding rings_bear_one
  linked_bear = each_all _ (directed m) (λ d k. same_eq _ _ (l.keeps d k))

-- ---- directions

-- what differs in direction, by the test
pub differ_says : {D : Type 0} (way : D → Way) (ds : List D) → ways_differ (map way ds) ≡ true → Differ way ds
differ_says way [] h d c i j e = absurd (Memᴰ.not-nil i)
differ_says {D} way (x ∷ ds) h d c i j e =
    go (differ_says way ds k.1 d c) (Memᴰ.cases_cons i) (Memᴰ.cases_cons j)
  where
    k : (not (any_of (same_way (way x)) (map way ds)) ≡ true) × (ways_differ (map way ds) ≡ true)
    k = and-true (not (any_of (same_way (way x)) (map way ds))) (ways_differ (map way ds)) h

    free : (y : D) → Memᴰ y ds → Alike (way x) (way y) → ⊥
    free y m a = true≢false (sym (alike_is (way x) (way y) a)
        ∙ none_has (same_way (way x)) (map way ds) (not-true (any_of (same_way (way x)) (map way ds)) k.0) (way y)
        (Memᴰ.map way m))

    go : (Memᴰ d ds → Memᴰ c ds → Alike (way d) (way c) → d ≡ c) → (d ≡ x) ⊎ Memᴰ d ds → (c ≡ x)
        ⊎ Memᴰ c ds → d ≡ c
    go ih (inl p) (inl q) = p ∙ sym q
    go ih (inl p) (inr q) = absurd (free c q (subst (λ (z : D). Alike (way z) (way c)) p e))
    go ih (inr p) (inl q) = absurd (free d p (alike_sym (way d) (way x) (subst (λ (z : D). Alike (way d) (way z)) q e)))
    go ih (inr p) (inr q) = ih p q e

-- ---- a map in form

-- the next number is new
pub edge_new : (m : Map) → ((e : ℕ) → Memᴰ e (map number_of m.edges) → e < m.next.edges)
    → Memᴰ m.next.edges (nums (arcs m)) → ⊥
edge_new m below k = let h = below m.next.edges (subst (Memᴰ m.next.edges) (nums-rows m) k) in omega arith

module _ (m : Map) (h : formed m ≡ true) where
  -- directions differ at each node, and nothing departs elsewhere
  pub formed-apart : Apart (leaves m) (way m) (directed m)
  unfolding departures_differ departures
  formed-apart n d c i j e = differ_says (way m) (from (leaves m) (directed m) n) differ d c i j e
    where
      x : Memᴰ d (directed m) × (leaves m d ≡ n)
      x = from_in (leaves m) (directed m) n i

      row : (r : Node) × Memᴰ r m.nodes × (node_number r ≡ n)
      row = Memᴰ.of_map node_number m.nodes
          (subst (λ (k : ℕ). Memᴰ k (map node_number m.nodes)) x.1
          (tail_in_lem (formedLinks.linked m h) (formedLinks.within_nodes m h) x.0))

      differ : ways_differ (map (way m) (from (leaves m) (directed m) n)) ≡ true
      differ = subst (λ (k : ℕ). ways_differ (map (way m) (departures m k)) ≡ true) row.2
          (all_each (λ r. ways_differ (map (way m) (departures m r.number))) m.nodes (formed_is m h).departures
          row.0 row.1)
