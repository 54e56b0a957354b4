-- Rings by position: they part the directed edges, each bears one face, and the first member of a ring has the lowest
-- position. Assumes nothing.
use mathlib.Core.Path.{◌≡◌, refl, ap, ◌∙◌}
use mathlib.Core.Bool.{true, false, not}
use mathlib.Core.List.{List, Memᴰ}
use Prim.Native.Nat.{ℕ, ◌*◌, ◌<◌}
use native.Mathlib.Omega.{arith}
use lib.IntN.{ℤ}
use Rattle.lists.proofs.Bools.{not-true}
use Rattle.lists.proofs.Members.{any_none, some_any}
use Rattle.planar_maps.specs.Map.{Dart}
use Rattle.planar_maps.specs.Rings.{Leads}
use Rattle.planar_maps.proofs.Rings.{next_in_lem}
use Rattle.planar_maps.proofs.Leads.{leads_join, leads_keep}
use Rattle.map.specs.Rows.{Map}
use Rattle.map.specs.Darts.{directed, next, bears, ring, among, lower}
use Rattle.map_laws.proofs.Rings.{among_has, among_in, ring_has, ring_leads, leads_back}
use Rattle.map_rows.specs.Rows.{edge_map}
use Rattle.darts.specs.Positions.{dart_at}
use Rattle.darts.proofs.Positions.{position_in}
use Rattle.rings.proofs.Lowest.{lower-before, before-lower}
use Rattle.form_links.proofs.Links.{has_position}
use Rattle.face_edges.specs.Listing.{Rings, on_ring, is_first}

module _ {l : List ℤ} {n : ℕ} (g : Rings l n) where
  module _ (p : ℕ) (h : p < n * 2) where
    here : Memᴰ (dart_at l p) (directed (edge_map l n))
    here = has_position g.rows p h

    leads_to : (q : ℕ) → on_ring l n p q ≡ true → Leads (next (edge_map l n)) (dart_at l p) (dart_at l q)
    leads_to q e = ring_leads (edge_map l n) g.linked g.once (dart_at l p) here
        (among_in (ring (edge_map l n) (dart_at l p)) (dart_at l q) e)

    led_to : (q : ℕ) → Leads (next (edge_map l n)) (dart_at l p) (dart_at l q) → on_ring l n p q ≡ true
    led_to q r = among_has (ring (edge_map l n) (dart_at l p))
        (ring_has (edge_map l n) g.linked g.once (dart_at l p) here r)

  pub on_back : (p q : ℕ) → p < n * 2 → q < n * 2 → on_ring l n p q ≡ true → on_ring l n q p ≡ true
  on_back p q h k e = led_to q k p (leads_back (edge_map l n) g.linked g.once (here p h) (leads_to p h q e))

  pub on_join : (p q r : ℕ) → p < n * 2 → q < n * 2 → on_ring l n p q ≡ true → on_ring l n q r ≡ true → on_ring l n p r
      ≡ true
  on_join p q r h k d e = led_to p h r (leads_join (leads_to p h q d) (leads_to q k r e))

  -- a ring bears one face
  pub on_bears : (p q : ℕ) → p < n * 2 → on_ring l n p q ≡ true → bears (edge_map l n) (dart_at l q)
      ≡ bears (edge_map l n) (dart_at l p)
  on_bears p q h e =
      let m = edge_map l n in
      (leads_keep (λ d. Memᴰ d (directed m) × (bears m d ≡ bears m (dart_at l p))) (next m)
      (λ d w. (next_in_lem g.linked w.0, g.linked.keeps d w.0 ∙ w.1)) (here p h, refl) (leads_to p h q e)).1

  -- ---- first members

  pub first_true : (p : ℕ) → p < n * 2 → ((k : ℕ) → k < p → on_ring l n p k ≡ true → ⊥) → is_first l n (dart_at l p) ≡ true
  first_true p h none = ap not (any_none (λ c. lower c (dart_at l p)) (ring m d)
      (λ c i. not-true (lower c d) (λ e. no c i e)))
    where
      m : Map
      m = edge_map l n

      d : Dart
      d = dart_at l p

      no : (c : Dart) → Memᴰ c (ring m d) → lower c d ≡ true → ⊥
      no c i e =
          let led = ring_leads m g.linked g.once d (here p h) i in
          let q = position_in g.rows c
          (leads_keep (λ x. Memᴰ x (directed m)) (next m) (λ x k. next_in_lem g.linked k) (here p h) led) in
          let s = before-lower g.rows q.0 p q.1 h (ap (λ (x : Dart). lower x d) q.2 ∙ e) in
          none q.0 s (ap (among (ring m d)) q.2 ∙ among_has (ring m d) i)

  pub first_false : (p k : ℕ) → p < n * 2 → k < p → on_ring l n p k ≡ true → is_first l n (dart_at l p) ≡ false
  first_false p k h s e =
      let m = edge_map l n in
      let d = dart_at l p in
      ap not (some_any (λ c. lower c d) (ring m d) (among_in (ring m d) (dart_at l k) e)
      (lower-before g.rows k p (omega arith) h s))
