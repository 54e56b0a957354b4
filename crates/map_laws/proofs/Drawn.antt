-- Kinds 4, 11 and 12: what a map with an edge drawn in reads, where the edge departs in directions of its own. Curves
-- may cross. Assumes nothing.
use mathlib.Core.Path.{◌≡◌, refl, sym, ap, ◌∙◌, subst}
use mathlib.Core.Logic.{◌⊎◌, inl, inr}
use mathlib.Core.Bool.{Bool, true, false, cond, not, ◌&&◌, true≢false}
use mathlib.Core.List.Memᴰ
use mathlib.Core.List.Permᴰ
use mathlib.Core.List.{List, [], ◌∷◌, map, Memᴰ, Permᴰ}
use mathlib.Core.Option.{none}
use Prim.Native.Nat.{ℕ, ◌≤◌}
use native.Mathlib.Omega.{arith}
use lib.ListN.{length}
use Rattle.lists.specs.Tests.{same}
use Rattle.lists.proofs.Bools.{same_false, or-false}
use Rattle.lists.proofs.Members.{each-cons, none_has}
use Rattle.planar_maps.specs.Map.{Arc, Dart, fwd, bwd, rev, darts}
use Rattle.planar_maps.specs.Pieces.{nums}
use Rattle.planar_maps.specs.Rings.{same_dart}
use Rattle.planar_maps.specs.Weave.{with_edge, lone_edge}
use Rattle.planar_maps.proofs.Rings.{same_dart_refl}
use Rattle.planar_maps.proofs.Hooks.{fresh_dart, with_fwd, with_bwd, with_other}
use Rattle.plane.specs.declared.Point.{Point}
use Rattle.plane.specs.Directions.{Way, same_way}
use Rattle.curves.specs.Curves.{Curve, start_way, end_way}
use Rattle.geometry.specs.Meaning.{Some}
use Rattle.geometry.proofs.Theorems.{good_iff, reverse_ways, closed_differ}
use Rattle.rotation.specs.Ways.{Alike}
use Rattle.rotation.specs.Law.{first_clockwise, from, Apart}
use Rattle.rotation.proofs.Ways.{alike_is, alike_sym}
use Rattle.rotation.proofs.Node.{first_none}
use Rattle.map.specs.declared.Variant.{Variant}
use Rattle.map.specs.Rows.{Node, Map, Sizes, node, at_nodes}
use Rattle.map.specs.Darts.{arcs, directed, leaves, next, bears, way, departures}
use Rattle.map.specs.Links.{link_edge}
use Rattle.map.specs.Edits.{with_face, is_either, drawn}
use Rattle.map.specs.Reasons.{way_taken, direction_taken}
use Rattle.map_laws.proofs.Readings.{Relinked, arc_of, departs, departing, leaves_by, next_by, bears_by, way_by}
use Rattle.map_laws.proofs.RowChanges.{more_perm, node_numbers, numbers_kept}
use Rattle.map_laws.proofs.RowDarts.{dart_move}
use Rattle.map_laws.proofs.Reasons.{Sent, AddLone, AddEdge}
use Rattle.map_laws.proofs.Departures.{from_in, from_has}
use Rattle.map_laws.proofs.LinkedIn.{drawn_row, appended, leaves₁, bears₁, way₁, way_f, way_b, link_edge-next}
use Rattle.map_laws.proofs.LinkedIn.{link_edge_relinked}
use Rattle.curves.specs.Edits as edits
use Rattle.rotation.specs.Law as rotation
use Rattle.geometry.specs.Drawing.{GoodCurve}

-- an edge with the next number from u to v along c departs in directions of its own, as others do
pub record Free (m : Map) (u v : ℕ) (c : Curve) : Type 0 where
  pub apart : Apart (leaves m) (way m) (directed m)
  pub fresh : Memᴰ m.next.edges (nums (arcs m)) → ⊥
  pub ends : start_way (edits.course true c) ≡ end_way c
  pub start : (d : Dart) → Memᴰ d (departures m u) → same_way (way m d) (start_way c) ≡ false
  pub end : (d : Dart) → Memᴰ d (departures m v) → same_way (way m d) (end_way c) ≡ false
  pub loop : u ≡ v → same_way (start_way c) (end_way c) ≡ false

-- a departure more, in a direction of its own
apart_more : (T : Dart → ℕ) (W : Dart → Way) (p : Dart) (ds : List Dart)
    → ((d : Dart) → Memᴰ d ds → T d ≡ T p → Alike (W d) (W p) → ⊥) → Apart T W ds → Apart T W (p ∷ ds)
apart_more T W p ds own apart n d x i j alike = go (Memᴰ.cases_cons k.0) (Memᴰ.cases_cons l.0)
  where
    k : Memᴰ d (p ∷ ds) × (T d ≡ n)
    k = from_in T (p ∷ ds) n i

    l : Memᴰ x (p ∷ ds) × (T x ≡ n)
    l = from_in T (p ∷ ds) n j

    go : (d ≡ p) ⊎ Memᴰ d ds → (x ≡ p) ⊎ Memᴰ x ds → d ≡ x
    go (inl e) (inl q) = e ∙ sym q
    go (inl e) (inr q) = absurd (own x q (l.1 ∙ sym k.1 ∙ ap T e)
        (alike_sym (W p) (W x) (subst (λ (z : Dart). Alike (W z) (W x)) e alike)))
    go (inr q) (inl e) = absurd (own d q (k.1 ∙ sym l.1 ∙ ap T e) (subst (λ (z : Dart). Alike (W d) (W z)) e alike))
    go (inr q) (inr r) = apart n d x (from_has T ds n q k.1) (from_has T ds n r l.1) alike

module _ (m : Map) (u v : ℕ) (c : Curve) (φ : ℕ) (free : Free m u v c) where
  abbrev e : ℕ
  e = m.next.edges

  abbrev f : Dart
  f = fwd m.next.edges

  abbrev b : Dart
  b = bwd m.next.edges

  abbrev a : Arc
  a = arc_of (drawn_row m u v c φ)

  abbrev m₁ : Map
  m₁ = appended m u v c φ

  abbrev D : Map
  D = drawn u v c φ m

  abbrev W : Dart → Way
  W = way m₁

  abbrev T : Dart → ℕ
  T = with_edge m.next.edges u v (leaves m)

  -- all directed edges, the new ones first
  abbrev all : List Dart
  all = darts (arc_of (drawn_row m u v c φ) ∷ arcs m)

  other : {d : Dart} → Memᴰ d (directed m) → (d.edge ≡ e) → ⊥
  other k = fresh_dart a (arcs m) free.fresh k

  pub old : {B : Type 0} (x y : B) (g : Dart → B) (d : Dart) → Memᴰ d (directed m) → with_edge e x y g d ≡ g d
  old x y g d k = with_other e x y g d (other k)

  pub T-f : T f ≡ u
  T-f = with_fwd e u v (leaves m)

  pub T-b : T b ≡ v
  T-b = with_bwd e u v (leaves m)

  pub W-f : W f ≡ start_way c
  W-f = way_f m u v c φ free.fresh

  pub W-b : W b ≡ end_way c
  W-b = way_b m u v c φ free.fresh ∙ free.ends

  pub W-old : (d : Dart) → Memᴰ d (directed m) → W d ≡ way m d
  W-old = way₁ m u v c φ free.fresh

  -- ---- directions

  old_free : (p : Dart) (n : ℕ) (w : Way) → T p ≡ n → W p ≡ w
      → ((d : Dart) → Memᴰ d (departures m n) → same_way (way m d) w ≡ false) → (d : Dart)
      → Memᴰ d (directed m) → T d ≡ T p → Alike (W d) (W p) → ⊥
  old_free p n w tp ep clear d k t alike =
      true≢false (sym (rw (W-old d k, ep) at (alike_is (W d) (W p) alike))
      ∙ clear d (departing m n k (sym (old u v (leaves m) d k) ∙ t ∙ tp)))

  f_b : T f ≡ T b → Alike (W f) (W b) → ⊥
  f_b t h = true≢false (sym (rw (W-f, W-b) at (alike_is (W f) (W b) h)) ∙ free.loop (sym T-f ∙ t ∙ T-b))

  old_apart : Apart T W (directed m)
  old_apart n d x i j alike =
      let k = from_in T (directed m) n i in
      let l = from_in T (directed m) n j in
      free.apart n d x (from_has (leaves m) (directed m) n k.0 (sym (old u v (leaves m) d k.0) ∙ k.1))
      (from_has (leaves m) (directed m) n l.0 (sym (old u v (leaves m) x l.0) ∙ l.1))
      (rw (W-old d k.0, W-old x l.0) at alike)

  pub drawn-apart : Apart T W (b ∷ f ∷ directed m)
  drawn-apart = apart_more T W b (f ∷ directed m)
      (each-cons {p = λ d. T d ≡ T b → Alike (W d) (W b) → ⊥} f_b (old_free b v (end_way c) T-b W-b free.end))
      (apart_more T W f (directed m) (old_free f u (start_way c) T-f W-f free.start) old_apart)

  -- ---- what the map drawn in reads: only nodes change after the links

  relinked : Relinked m₁ (link_edge e m₁)
  relinked = link_edge_relinked e m₁

  pub D-perm : Permᴰ (arcs D) (a ∷ arcs m)
  unfolding drawn at_nodes
  D-perm = subst (λ (l : List Arc). Permᴰ l (a ∷ arcs m)) (sym relinked.arcs)
      (more_perm m m₁ (drawn_row m u v c φ) refl)

  pub D-all : {d : Dart} → Memᴰ d (directed D) → Memᴰ d all
  D-all {d} k = dart_move D-perm d k

  pub all_D : {d : Dart} → Memᴰ d all → Memᴰ d (directed D)
  all_D {d} k = dart_move (Permᴰ.symm D-perm) d k

  pub D-leaves : (d : Dart) → Memᴰ d all → leaves D d ≡ T d
  unfolding drawn at_nodes
  D-leaves d k = leaves_by (link_edge e m₁) D refl d ∙ relinked.leaves d ∙ leaves₁ m u v c φ free.fresh d k

  pub D-bears : (d : Dart) → Memᴰ d all → bears D d ≡ with_edge e φ φ (bears m) d
  unfolding drawn at_nodes
  D-bears d k = bears_by (link_edge e m₁) D refl d ∙ relinked.bears d ∙ bears₁ m u v c φ free.fresh d k

  pub D-way : (d : Dart) → way D d ≡ W d
  unfolding drawn at_nodes
  D-way d = way_by (link_edge e m₁) D refl d ∙ relinked.way d

  pub D-links : (d : Dart) → Memᴰ d all → next D d
      ≡ rotation.link_edge same_dart rev W T f (directed m) (lone_edge e (next m)) d
  unfolding drawn at_nodes
  D-links d k = next_by (link_edge e m₁) D refl d ∙ link_edge-next m u v c φ free.fresh drawn-apart d k

  pub D-nodes : node_numbers D ≡ node_numbers m
  unfolding drawn at_nodes
  D-nodes = numbers_kept (is_either u v) (with_face none) (link_edge e m₁).nodes (λ n. refl)
      ∙ ap (map (λ (n : Node). n.number)) relinked.nodes

  pub D-faces : D.faces ≡ m.faces
  unfolding drawn at_nodes
  D-faces = relinked.faces

  -- with nothing at its end, the edge turns back there
  pub D-alone : ((d : Dart) → Memᴰ d (from T (f ∷ directed m) (T b)) → ⊥) → next D f ≡ b
  D-alone bare = D-links f (Memᴰ.head refl)
      ∙ ap (λ (x : Bool). cond x c₂ (cond (same_dart (N₁ f) c₂) b (N₁ f))) (same_dart_refl f)
      ∙ first_none W (W b) b (from T (f ∷ directed m) (T b)) bare
    where
      c₂ : Dart
      c₂ = first_clockwise W (W b) b (from T (f ∷ directed m) (T b))

      N₁ : Dart → Dart
      N₁ = rotation.link same_dart rev W f (from T (directed m) (T f)) (lone_edge e (next m))

-- ---- what a ticket's facts give

pub some_rest : (p : Point) (r : List Point) → 2 ≤ length (p ∷ r) → Some r
some_rest p [] h = absurd (omega arith)
some_rest p (q ∷ r) h = tt

sent_good : (m : Map) (c : Curve) (u v : ℕ) → Sent m c u v → GoodCurve c
sent_good m c u v h = (good_iff c).1 (some_rest c.first c.rest h.least, h.differ, h.simple)

-- kind 4: nothing departs from either node
pub lone-free : {s : Sizes} {m : Map} {u v : ℕ} {c : Curve} → AddLone s m u v c → Apart (leaves m) (way m) (directed m)
    → (Memᴰ m.next.edges (nums (arcs m)) → ⊥) → ((d : Dart) → Memᴰ d (departures m u) → ⊥)
    → ((d : Dart) → Memᴰ d (departures m v) → ⊥) → Free m u v c
lone-free {m = m} {u} {v} {c} h apart fresh none-u none-v =
    record {
      apart = apart;
      fresh = fresh;
      ends = (reverse_ways c (sent_good m c u v h.sent)).0;
      start = λ d k. absurd (none-u d k);
      end = λ d k. absurd (none-v d k);
      loop = λ p. absurd (h.differ p);
    }

-- kinds 11 and 12: no departure has its directions
pub edge-free : {how : Variant} {s : Sizes} {m : Map} {u v : ℕ} {c : Curve} → AddEdge how s m u v c
    → Apart (leaves m) (way m) (directed m) → (Memᴰ m.next.edges (nums (arcs m)) → ⊥) → Free m u v c
unfolding direction_taken
edge-free {m = m} {u} {v} {c} h apart fresh = record {
  apart = apart;
  fresh = fresh;
  ends = (reverse_ways c good).0;
  start = way-free u (start_way c) ways.0;
  end = way-free v (end_way c) ways.1;
  loop = λ p. closed_differ c good (h.sent.end ∙ ap (λ (n : ℕ). (node m n).at) (sym p) ∙ sym h.sent.start);
}
  where
    good : GoodCurve c
    good = sent_good m c u v h.sent

    ways : (way_taken m m.next.edges u (start_way c) ≡ false) × (way_taken m m.next.edges v (end_way c) ≡ false)
    ways = let e = m.next.edges in or-false (way_taken m e u (start_way c)) (way_taken m e v (end_way c)) h.ways_free

    way-free : (n : ℕ) (w : Way) → way_taken m m.next.edges n w ≡ false → (d : Dart) → Memᴰ d (departures m n)
        → same_way (way m d) w ≡ false
    way-free n w clear d k =
        sym (ap (λ (x : Bool). not x && same_way (way m d) w)
        (same_false d.edge m.next.edges
        (fresh_dart (record { num = m.next.edges; from = n; to = n }) (arcs m) fresh (departs m n k).0)))
        ∙ none_has (λ d. not (same d.edge m.next.edges) && same_way (way m d) w) (departures m n) clear d k
