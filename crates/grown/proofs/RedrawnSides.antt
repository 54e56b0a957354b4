-- After a kind 6 that nothing turns down every ring has kept its sides: a ring without the edge has its curves, and one
-- with it is that of e or of -e. Assumes nothing.
use mathlib.Core.Path.{◌≡◌, sym, ap, ◌∙◌}
use mathlib.Core.Logic.{inl, inr}
use mathlib.Core.Bool.{Bool, true, false, true≢false}
use mathlib.Core.List.Permᴰ
use mathlib.Core.List.{List, Memᴰ, Permᴰ}
use Prim.Native.Nat.{ℕ}
use lib.IntN.{ℤ, nat_abs}
use Rattle.integers.specs.Order.{sgn}
use Rattle.lists.specs.Tests.{◌⊕◌}
use Rattle.lists.proofs.Bools.{which, or-false, ⊕-equal}
use Rattle.lists.proofs.Members.{none_has}
use Rattle.lists.proofs.Perms.{perm_of_distinct, distinct_length}
use Rattle.plane.specs.declared.Point.{Point}
use Rattle.plane.specs.Areas.{is_positive}
use Rattle.curves.specs.Curves.{Curve}
use Rattle.planar_maps.specs.Map.{Dart}
use Rattle.planar_maps.proofs.Leads.{leads_join}
use Rattle.map.specs.Rows.{Map, edge, has_edge}
use Rattle.map.specs.Darts.{directed, ring, among}
use Rattle.map.specs.Faces.{encloses, ring_area}
use Rattle.map.specs.Form.{formed}
use Rattle.map.specs.Edits.{change_edge_geom}
use Rattle.map.specs.Reasons.{side_points, ring_changes, sides_change, curve_in}
use Rattle.map.specs.Ticket.{carried}
use Rattle.map.proofs.Linked.{linked, edges_once}
use Rattle.map_laws.proofs.Readings.{has_dart}
use Rattle.map_laws.proofs.Reasons as facts
use Rattle.map_laws.proofs.Rings.{among_has, among_in, ring_has, ring_leads, ring_once, leads_back}
use Rattle.map_laws.proofs.Redrawn.{Free, area_perm, odd_perm, area_kept, odd_kept, same-ring}
use Rattle.grown.specs.Claims.{RedrawKeepsSides}

module _ (m : Map) (h : formed m ≡ true) (e : ℕ) (has : has_edge m e ≡ true) (c : Curve)
    (none : sides_change m e c ≡ false) where
  abbrev side : Bool → Dart
  side b = record { edge = e; back = b }

  abbrev redrawn : Map
  redrawn = change_edge_geom e c m

  abbrev looked : List Point
  looked = side_points m (edge m e).start

  -- the directed edges of a list keep the sign of their area, and what they enclose of the points
  record Kept (r : List Dart) : Type 0 where
    area : is_positive (sgn (ring_area redrawn r)) ≡ is_positive (sgn (ring_area m r))
    points : (p : Point) → Memᴰ p looked → encloses redrawn r p ≡ encloses m r p

  kept_free : (r : List Dart) → Free m e c r → Kept r
  kept_free r f = record {
    area = ap (λ (z : ℤ). is_positive (sgn z)) (area_kept m e c r f);
    points = λ p k. odd_kept m e c r f p;
  }

  kept_perm : {r s : List Dart} → Permᴰ r s → Kept s → Kept r
  kept_perm q k = record {
    area = ap (λ (z : ℤ). is_positive (sgn z)) (area_perm redrawn q) ∙ k.area
        ∙ sym (ap (λ (z : ℤ). is_positive (sgn z)) (area_perm m q));
    points = λ p i. odd_perm redrawn p q ∙ k.points p i ∙ sym (odd_perm m p q);
  }

  unchanged : (r : List Dart) → ring_changes m redrawn looked r ≡ false → Kept r
  unchanged r q = let k = or-false _ _ q in record {
    area = sym (⊕-equal _ _ k.0);
    points = λ p i. sym (⊕-equal _ _ (none_has (λ p. encloses m r p ⊕ encloses redrawn r p) looked k.1 p i));
  }

  -- the rings on the two sides of the edge
  abbrev changes : Bool → Bool
  changes b = ring_changes m redrawn looked (ring m (side b))

  beside : (b : Bool) → Kept (ring m (side b))
  unfolding sides_change
  beside false = unchanged (ring m (side false)) (or-false (changes false) (changes true) none).0
  beside true = unchanged (ring m (side true)) (or-false (changes false) (changes true) none).1

  -- any ring: it has the edge, and is one of these two in another order, or it has not
  module _ (d : Dart) (i : Memᴰ d (directed m)) where
    turned : (b : Bool) → Memᴰ (side b) (ring m d) → Permᴰ (ring m d) (ring m (side b))
    turned b j =
        let l = linked m h in
        let dis = edges_once m h in
        let k = has_dart m (side b) has in
        let there = ring_leads m l dis d i j in
        let back = leads_back m l dis i there in
        Permᴰ.symm (perm_of_distinct (ring m (side b)) (ring m d) (ring_once m l dis (side b) k)
        (λ x u. ring_has m l dis d i (leads_join there (ring_leads m l dis (side b) k u)))
        (distinct_length (ring m d) (ring m (side b)) (ring_once m l dis d i)
        (λ x u. ring_has m l dis (side b) k (leads_join back (ring_leads m l dis d i u)))))

    kept_ring : Kept (ring m d)
    kept_ring = elim (which (among (ring m d) (side false))) [
      | inl q ↦ kept_perm (turned false (among_in (ring m d) (side false) q)) (beside false)
      | inr p ↦ elim (which (among (ring m d) (side true))) [
        | inl q ↦ kept_perm (turned true (among_in (ring m d) (side true) q)) (beside true)
        | inr q ↦ kept_free (ring m d) (free p q)
      ]
    ]
      where
        free : among (ring m d) (side false) ≡ false → among (ring m d) (side true) ≡ false → Free m e c (ring m d)
        free p q false j = true≢false (sym (among_has (ring m d) j) ∙ p)
        free p q true j = true≢false (sym (among_has (ring m d) j) ∙ q)

pub redraw_keeps_sides : RedrawKeepsSides
unfolding carried
redraw_keeps_sides s m e c h none =
    let k = facts.change s m e c none in
    let kept = kept_ring m h (nat_abs e) k.has (curve_in c) k.sides in
    record {
      areas = λ d i. rw (same-ring m (nat_abs e) (curve_in c) d) (kept d i).area;
      points = λ d i p j. rw (same-ring m (nat_abs e) (curve_in c) d) ((kept d i).points p j);
    }
