-- What the map reads with the new edge linked in: it is joined at the corners that are found among the rows. Assumes
-- nothing.
use mathlib.Core.Path.{◌≡◌, refl, sym, ap, ap₂, ◌∙◌, subst}
use mathlib.Core.Logic.{◌⊎◌, inl, inr}
use mathlib.Core.Bool.{Bool, true, false, cond, not}
use mathlib.Core.List.Memᴰ
use mathlib.Core.List.{List, [], ◌∷◌, ◌++◌, map, map-append, append-nil, Memᴰ}
use Prim.Native.Nat.{ℕ, ◌+◌, ◌*◌, ◌/◌, ◌<◌}
use native.Mathlib.Omega.{arith}
use lib.IntN.{ℤ, pos}
use lib.ListN.{length, length-map, length-append}
use Rattle.lists.specs.Tests.{same}
use Rattle.lists.specs.Scans.{find, is_some, keep}
use Rattle.lists.proofs.Bools.{equal?, same_eq, same_refl, same_false, not-true}
use Rattle.lists.proofs.Keeps.{keep_swap, keep_all, keep_append, keep_cong}
use Rattle.lists.proofs.Members.{map_cong}
use Rattle.planar_maps.specs.Map.{Dart, fwd, bwd, darts}
use Rattle.planar_maps.specs.Rings.{same_dart}
use Rattle.planar_maps.proofs.Bridges.{Fresh}
use Rattle.planar_maps.proofs.Rings.{same_dart_refl}
use Rattle.planar_maps.proofs.Hooks.{fwd≢bwd, same_dart-false}
use Rattle.tables.specs.Tables.{same_z, numbered}
use Rattle.tables.proofs.Rows.{number_in}
use Rattle.tables.proofs.Order.{same-pos}
use Rattle.plane.specs.Directions.{Way}
use Rattle.curves.specs.Curves.{Curve, curve_of, start_way}
use Rattle.rotation.specs.Law.{first_clockwise}
use Rattle.rotation.proofs.Rename.{first_map}
use Rattle.map.specs.Rows.{Edge, Map, edge, has_edge, at_nodes}
use Rattle.map.specs.Darts.{arcs, directed, leaves, next, way, departures}
use Rattle.map.specs.Links.{instead, link_in, link_edge}
use Rattle.map.specs.Edits.{drawn}
use Rattle.map.proofs.Laws.{edge_there_lem}
use Rattle.map_laws.proofs.Readings.{Relinked, number_of, arc_of, has_number, nums-rows, row_has, dart_has, departs}
use Rattle.map_laws.proofs.Readings.{edge_by, tail_in, next_in, leaves_row, next_row, course_row, way_row, next_by}
use Rattle.map_laws.proofs.RowChanges.{more_old, more_new, more_directed}
use Rattle.map_laws.proofs.LinkedIn.{drawn_row, appended, link_in_relinked, link_in-next, link_edge_relinked}
use Rattle.map_rows.specs.Rows.{edges_of, edge_at, edge_map, EdgeRows}
use Rattle.map_rows.proofs.Rows.{edges_length, edge_numbers_lem}
use Rattle.darts.specs.Positions.{odd, dart_at, way_with}
use Rattle.darts.proofs.Positions.{edge_of, row_there}
use Rattle.links.proofs.Darts.{dart_named, row_named}
use Rattle.links.proofs.Departures.{departures-map}
use Rattle.reason_corners.specs.Drawing.{drawn_dart, departing, at_end, start_corner, end_corner, Joined}
use Rattle.reason_corners.proofs.Ends.{departing_below, at_end_below, start_way_lem, end_way_lem}
use Rattle.reason_corners.proofs.Places.{place_old, place_forward, place_backward}
use Rattle.curves.specs.Edits as edits

-- the next number is that of no row
pub fresh-number : (l : List ℤ) (e : ℕ) (m : Map) → m.edges ≡ edges_of l e
    → numbered 1 m.next.edges (map (λ x. x.number) m.edges) ≡ true → (i : ℕ) → i < e
    → ((edge_at l i).number ≡ m.next.edges) → ⊥
fresh-number l e m E ok i h q =
    let k = (number_in 1 m.next.edges (λ i. (edge_at l i).number) e
    (ap (numbered 1 m.next.edges) (sym (ap (map (λ x. x.number)) E ∙ edge_numbers_lem l e)) ∙ ok) i h).1 in
    omega arith

module _ {l : List ℤ} {e : ℕ} (t : EdgeRows l e) (c : List ℤ) (m : Map) (E : m.edges ≡ edges_of l e)
    (fresh : (i : ℕ) → i < e → ((edge_at l i).number ≡ m.next.edges) → ⊥) (u v φ : ℕ) where
  abbrev N : ℕ
  N = m.next.edges

  abbrev f : Dart
  f = fwd m.next.edges

  abbrev b : Dart
  b = bwd m.next.edges

  -- the rows alone, and with the new one
  abbrev m₀ : Map
  m₀ = edge_map l e

  abbrev row : Edge
  row = drawn_row m u v (curve_of c) φ

  abbrev m₁ : Map
  m₁ = appended m u v (curve_of c) φ

  abbrev D : ℕ → Dart
  D = drawn_dart l e m.next.edges

  abbrev W : ℕ → Way
  W = way_with l e c

  -- ---- rows

  has_alone : (x : ℕ) → has_edge m x ≡ has_edge m₀ x
  has_alone x = ap (λ (es : List Edge). is_some (find (λ r. same r.number x) es)) E

  other : (x : ℕ) → has_edge m₀ x ≡ true → (x ≡ N) → ⊥
  other x h q = let r = row_there t x h in fresh r.0 r.1 (r.2 ∙ q)

  none : Fresh (arc_of row) (arcs m)
  none k = other N (sym (has_alone N) ∙ has_number number_of m.edges N
      (subst (λ (ns : List ℕ). Memᴰ N ns) (nums-rows m) k)) refl

  missing_new : has_edge m N ≡ false
  missing_new = not-true (has_edge m N) (λ h. other N (sym (has_alone N) ∙ h) refl)

  edge_old : (x : ℕ) → has_edge m₀ x ≡ true → edge m₁ x ≡ edge m₀ x
  edge_old x h = more_old m m₁ row refl x (has_alone x ∙ h) ∙ edge_by m₀ m E x

  edge_new : edge m₁ N ≡ row
  edge_new = more_new m m₁ row refl missing_new

  has_old : (x : ℕ) → has_edge m₀ x ≡ true → has_edge m₁ x ≡ true
  has_old x h =
      let r = edge_there_lem m x (has_alone x ∙ h) in
      ap (has_edge m₁) (sym r.1) ∙ row_has m₁ (Memᴰ.append_left (row ∷ []) r.0)

  has_new : has_edge m₁ N ≡ true
  has_new = row_has m₁ {r = row} (Memᴰ.append_right m.edges (Memᴰ.head refl))

  leaves_old : (d : Dart) → has_edge m₀ d.edge ≡ true → leaves m₁ d ≡ leaves m₀ d
  leaves_old d h = leaves_row m₁ d ∙ ap (tail_in d.back) (edge_old d.edge h) ∙ sym (leaves_row m₀ d)

  next_old : (d : Dart) → has_edge m₀ d.edge ≡ true → next m₁ d ≡ next m₀ d
  next_old d h = next_row m₁ d ∙ ap (next_in d.back) (edge_old d.edge h) ∙ sym (next_row m₀ d)

  leaves_f : leaves m₁ f ≡ u
  leaves_f = leaves_row m₁ f ∙ ap (tail_in false) edge_new

  leaves_b : leaves m₁ b ≡ v
  leaves_b = leaves_row m₁ b ∙ ap (tail_in true) edge_new

  -- the direction at each position
  ways : (p : ℕ) → p < e * 2 + 2 → way m₁ (D p) ≡ W p
  ways p h = way_row m₁ (D p) ∙ ap start_way (course_row m₁ (D p))
      ∙ ap (λ (k : Curve). start_way (edits.course (odd p) k)) (curve_at (equal? (p / 2) e))
    where
      curve_at : (p / 2 ≡ e) ⊎ ((p / 2 ≡ e) → ⊥) → (edge m₁ (cond (same (p / 2) e) N (edge_at l (p / 2)).number)).curve
          ≡ cond (same (p / 2) e) (curve_of c) (edge_at l (p / 2)).curve
      curve_at (inl q) = rw (same_eq (p / 2) e q) (ap (λ (r : Edge). r.curve) edge_new)
      curve_at (inr q) =
          let i : p / 2 < e = omega arith in
          rw (same_false (p / 2) e q) (ap (λ (r : Edge). r.curve)
          (edge_old (edge_at l (p / 2)).number (row_named t (p / 2) i) ∙ edge_of t (p / 2) i))

  -- ---- departures

  abbrev olds : ℕ → List ℕ
  olds n = departing l e (pos n)

  abbrev leaves_at : ℕ → Dart → Bool
  leaves_at n d = same (leaves m₁ d) n

  there : (n : ℕ) → departures m₁ n ≡ departures m₀ n ++ keep (leaves_at n) (f ∷ b ∷ [])
  unfolding departures
  there n =
      ap (keep (leaves_at n)) (more_directed m m₁ row refl)
      ∙ keep_append (leaves_at n) (directed m) (f ∷ b ∷ [])
      ∙ ap (λ (ds : List Dart). ds ++ keep (leaves_at n) (f ∷ b ∷ []))
      (ap (λ (es : List Edge). keep (leaves_at n) (darts (map arc_of es))) E
      ∙ keep_cong (leaves_at n) (λ d. same (leaves m₀ d) n) (directed m₀)
      (λ d k. ap (λ (x : ℕ). same x n) (leaves_old d (dart_has m₀ k))))

  -- those that a test takes that takes all the rows'
  kept : (g : Dart → Bool) → ((d : Dart) → has_edge m₀ d.edge ≡ true → g d ≡ true) → (n : ℕ)
      → keep g (departures m₁ n) ≡ map D (olds n) ++ keep (leaves_at n) (keep g (f ∷ b ∷ []))
  kept g h n =
      ap (keep g) (there n)
      ∙ keep_append g (departures m₀ n) (keep (leaves_at n) (f ∷ b ∷ []))
      ∙ ap₂ (λ (x y : List Dart). x ++ y)
      (keep_all g (departures m₀ n) (λ d k. h d (dart_has m₀ (departs m₀ n k).0)) ∙ departures-map t n
      ∙ map_cong (dart_at l) D (olds n) (λ p k. sym (place_old l e N p (departing_below l e (pos n) p k))))
      (keep_swap g (leaves_at n) (f ∷ b ∷ []))

  abbrev is_old : Dart → Bool
  is_old d = not (same d.edge N)

  abbrev not_back : Dart → Bool
  not_back d = not (same_dart d b)

  at_start_lem : keep is_old (departures m₁ (leaves m₁ f)) ≡ map D (olds u)
  at_start_lem =
      ap (λ (n : ℕ). keep is_old (departures m₁ n)) leaves_f
      ∙ kept is_old (λ d h. ap not (same_false d.edge N (other d.edge h))) u
      ∙ ap (λ (ds : List Dart). map D (olds u) ++ keep (leaves_at u) ds) only
      ∙ append-nil (map D (olds u))
    where
      only : keep is_old (f ∷ b ∷ []) ≡ []
      only = rw (same_refl N)

  abbrev ends : List ℕ
  ends = at_end l e (pos u) (pos v)

  at_end_lem : keep not_back (departures m₁ (leaves m₁ b)) ≡ map D ends
  at_end_lem =
      ap (λ (n : ℕ). keep not_back (departures m₁ n)) leaves_b
      ∙ kept not_back (λ d h. ap not (same_dart-false d b (λ q. other d.edge h (ap (λ (x : Dart). x.edge) q)))) v
      ∙ ap (λ (ds : List Dart). map D (olds v) ++ keep (leaves_at v) ds) only
      ∙ ap (λ (s : Bool). map D (olds v) ++ cond s (f ∷ []) []) (ap (λ (n : ℕ). same n v) leaves_f ∙ sym (same-pos u v))
      ∙ ap (λ (ds : List Dart). map D (olds v) ++ ds) (go (same_z (pos u) (pos v)))
      ∙ sym (map-append D (olds v) (cond (same_z (pos u) (pos v)) (e * 2 ∷ []) []))
    where
      only : keep not_back (f ∷ b ∷ []) ≡ f ∷ []
      only = rw (same_dart-false f b fwd≢bwd, same_dart_refl b)

      go : (s : Bool) → cond s (f ∷ []) [] ≡ map D (cond s (e * 2 ∷ []) [])
      go true = ap (λ (d : Dart). d ∷ []) (sym (place_forward l e N))
      go false = refl

  -- ---- the corners

  abbrev start : ℕ
  start = start_corner l e c (pos u)

  abbrev end : ℕ
  end = end_corner l e c (pos u) (pos v)

  found : (p : ℕ) → p < e * 2 + 2 → (w : Way) → W p ≡ w → (ds : List ℕ) → ((q : ℕ) → Memᴰ q ds → q < e * 2 + 2)
      → first_clockwise (way m₁) (way m₁ (D p)) (D p) (map D ds) ≡ D (first_clockwise W w p ds)
  found p h w q ds below = ap (λ (x : Way). first_clockwise (way m₁) x (D p) (map D ds)) (ways p h ∙ q)
      ∙ first_map D W (way m₁) w p ds (λ d k. ways d (below d k))

  start_is : first_clockwise (way m₁) (way m₁ f) f (keep is_old (departures m₁ (leaves m₁ f))) ≡ D start
  start_is =
      ap (first_clockwise (way m₁) (way m₁ f) f) at_start_lem
      ∙ ap (λ (d : Dart). first_clockwise (way m₁) (way m₁ d) d (map D (olds u))) (sym (place_forward l e N))
      ∙ found (e * 2) (omega arith) (start_way (edits.course false (curve_of c))) (start_way_lem l e c) (olds u)
      (λ q k. let h = departing_below l e (pos u) q k in omega arith)

  end_is : first_clockwise (way m₁) (way m₁ b) b (keep not_back (departures m₁ (leaves m₁ b))) ≡ D end
  end_is =
      ap (first_clockwise (way m₁) (way m₁ b) b) at_end_lem
      ∙ ap (λ (d : Dart). first_clockwise (way m₁) (way m₁ d) d (map D ends)) (sym (place_backward l e N))
      ∙ found (e * 2 + 1) (omega arith) (start_way (edits.course true (curve_of c))) (end_way_lem l e c) ends
      (at_end_below l e (pos u) (pos v))

  -- ---- the links

  abbrev m₂ : Map
  m₂ = link_in f (keep is_old (departures m₁ (leaves m₁ f))) m₁

  R : Relinked m₁ m₂
  R = link_in_relinked f (keep is_old (departures m₁ (leaves m₁ f))) m₁

  next₂ : (d : Dart) → has_edge m₁ d.edge ≡ true → next m₂ d
      ≡ cond (same_dart d b) (D start) (instead (D start) f (next m₁ d))
  next₂ d h = link_in-next f (keep is_old (departures m₁ (leaves m₁ f))) m₁ d h
      ∙ ap (λ (x : Dart). cond (same_dart d b) x (instead x f (next m₁ d))) start_is

  next₃ : (d : Dart) → has_edge m₁ d.edge ≡ true → next (link_edge N m₁) d
      ≡ cond (same_dart d f) (D end) (instead (D end) b (next m₂ d))
  unfolding link_edge
  next₃ d h =
      link_in-next b (keep not_back (departures m₁ (leaves m₁ b))) m₂ d (R.has d.edge ∙ h)
      ∙ ap (λ (w : Dart → Way). let x = first_clockwise w (w b) b (keep not_back (departures m₁ (leaves m₁ b))) in
      cond (same_dart d f) x (instead x b (next m₂ d))) (λ i x. R.way x i)
      ∙ ap (λ (x : Dart). cond (same_dart d f) x (instead x b (next m₂ d))) end_is

  abbrev M : Map
  M = drawn u v (curve_of c) φ m

  next_drawn : (d : Dart) → next M d ≡ next (link_edge N m₁) d
  unfolding drawn at_nodes
  next_drawn d = next_by (link_edge N m₁) M refl d

  rows-drawn : length M.edges ≡ e + 1
  unfolding drawn at_nodes
  rows-drawn =
      sym (length-map (link_edge N m₁).edges arc_of)
      ∙ ap length (link_edge_relinked m.next.edges (appended m u v (curve_of c) φ)).arcs
      ∙ length-map m₁.edges arc_of
      ∙ length-append m.edges (row ∷ [])
      ∙ ap (λ (n : ℕ). n + 1) (ap length E ∙ edges_length l e)

  pub joined : Joined l e start end N M
  joined = record {
    fresh = fresh;
    rows = rows-drawn;
    forward = next_drawn f ∙ next₃ f has_new ∙ rw (same_dart_refl f);
    backward = next_drawn b ∙ next₃ b has_new
        ∙ ap (λ (s : Bool). cond s (D end) (instead (D end) b (next m₂ b))) (same_dart-false b f (λ q. fwd≢bwd (sym q)))
        ∙ ap (instead (D end) b) (next₂ b has_new
        ∙ ap (λ (s : Bool). cond s (D start) (instead (D start) f (next m₁ b))) (same_dart_refl b));
    others = λ p h.
        let d = dart_at l p in
        let k = dart_named t p h in
        let g = has_old d.edge k in
        let ne = other d.edge k in
        next_drawn d ∙ next₃ d g
        ∙ ap (λ (s : Bool). cond s (D end) (instead (D end) b (next m₂ d)))
        (same_dart-false d f (λ q. ne (ap (λ (x : Dart). x.edge) q)))
        ∙ ap (instead (D end) b) (next₂ d g
        ∙ ap (λ (s : Bool). cond s (D start) (instead (D start) f (next m₁ d)))
        (same_dart-false d b (λ q. ne (ap (λ (x : Dart). x.edge) q)))
        ∙ ap (instead (D start) f) (next_old d k));
  }
