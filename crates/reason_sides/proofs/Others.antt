-- The points of rings on other pieces that a new curve for an edge passes over, by the edges that start there. Assumes
-- nothing.
use mathlib.Core.Path.{◌≡◌, refl, sym, ap, ◌∙◌}
use mathlib.Core.Logic.{inl, inr}
use mathlib.Core.Bool.{Bool, true, false, not, ◌&&◌, ◌||◌}
use mathlib.Core.List.Memᴰ
use mathlib.Core.List.{List, map, Memᴰ}
use Prim.Native.Nat.{ℕ}
use Rattle.lists.specs.Tests.{same}
use Rattle.lists.specs.Scans.{any_of, keep}
use Rattle.lists.proofs.Bools.{eq2, agree, same_true, same_eq, and_is, and-true, and_left, or-true, or_left, or_right}
use Rattle.lists.proofs.Keeps.{keep_in, keep_has}
use Rattle.lists.proofs.Members.{all_each, any_some, some_any, none_has, any_none}
use Rattle.plane.specs.declared.Point.{Point}
use Rattle.plane.proofs.Laws.{same_point-true}
use Rattle.curves.specs.Curves.{Curve}
use Rattle.planar_maps.specs.Map.{Dart, fwd, bwd}
use Rattle.planar_maps.specs.Pieces.{stay, against}
use Rattle.planar_maps.proofs.Chains.{label_of_chain}
use Rattle.map.specs.Rows.{Edge, Map, node, edge}
use Rattle.map.specs.Darts.{directed, leaves, is_lowest, firsts, piece_of}
use Rattle.map.specs.Form.{curve_fits, formed}
use Rattle.map.specs.Reasons.{other_piece_points}
use Rattle.map.proofs.Laws.{formed_is}
use Rattle.map.proofs.Linked.{arc_of, edges_once}
use Rattle.map_laws.proofs.Readings.{tail_in, row_has, has_dart, arc_at, edge_at}
use Rattle.map_laws.proofs.RowDarts.{dart_row, leaves_of}
use Rattle.reason_sides.specs.Passing.{passes_over, start_passed, ring_passed}

-- both ends of an edge lie on one piece
ends_alike : (m : Map) {e : Edge} → Memᴰ e m.edges → (b : Bool) → piece_of m (tail_in b e) ≡ piece_of m e.start
ends_alike m k false = refl
ends_alike m {e} k true = label_of_chain (against (arc_of e) (arc_at m k) stay)

module _ (m : Map) (o : Edge) (c : Curve) where
  -- where no start is passed over but those at the edge's own nodes, no ring of another piece is
  pub none_passed : Memᴰ o m.edges → any_of (start_passed o c) m.edges ≡ false
      → any_of (ring_passed m o c) m.edges ≡ false
  none_passed k h = any_none (ring_passed m o c) m.edges
      (λ e i. go e (same e.start o.start) refl (same e.start o.end) refl
      (none_has (start_passed o c) m.edges h e i))
    where
      own : (e : Edge) → piece_of m e.start ≡ piece_of m o.start → ring_passed m o c e ≡ false
      own e q = rw (same_eq (piece_of m e.start) (piece_of m o.start) q)
          (eq2 (λ p w. p && not true && w) (λ p w. false) tt (passes_over o.curve c e.curve.first)
          (is_lowest m (fwd e.number) || is_lowest m (bwd e.number)))

      go : (e : Edge) (a : Bool) → same e.start o.start ≡ a → (b : Bool) → same e.start o.end ≡ b
          → not (a || b) && passes_over o.curve c e.curve.first ≡ false → ring_passed m o c e ≡ false
      go e true s b t p = own e (ap (piece_of m) (same_true e.start o.start s))
      go e false s true t p = own e (ap (piece_of m) (same_true e.start o.end t) ∙ ends_alike m k true)
      go e false s false t p = rw p

  -- what is looked at: the lowest directed edges of the rings, those on other pieces, and where their edges start
  abbrev apart : ℕ → Bool
  apart n = not (same (piece_of m n) (piece_of m o.start))

  abbrev lowest : List Dart
  lowest = keep (is_lowest m) (directed m)

  abbrev others : List Dart
  others = keep (λ d. apart (leaves m d)) lowest

  abbrev starts : Dart → Point
  starts d = (node m (edge m d.edge).start).at

  abbrev passed : Point → Bool
  passed = passes_over o.curve c

  module _ (h : formed m ≡ true) where
    -- the point and the piece of a directed edge, by its row
    module _ (d : Dart) (e : Edge) (i : Memᴰ e m.edges) (q : d.edge ≡ e.number) where
      point_of_lem : starts d ≡ e.curve.first
      point_of_lem =
          ap (λ (r : Edge). (node m r.start).at) (ap (edge m) q ∙ edge_at m (edges_once m h) i)
          ∙ sym (same_point-true e.curve.first (node m e.start).at
          (and_left _ _ (and_left _ _ (all_each (curve_fits m) m.edges (formed_is m h).curves e i))))

      piece_of_lem : piece_of m (leaves m d) ≡ piece_of m e.start
      piece_of_lem = ap (piece_of m) (leaves_of m (edges_once m h) e i d q) ∙ ends_alike m i d.back

    -- a ring on another piece has its lowest edge among the rows, and such a row is the lowest of a ring
    forth : any_of passed (map starts others) ≡ true → any_of (ring_passed m o c) m.edges ≡ true
    forth t =
        let s = any_some passed (map starts others) t in
        let w = Memᴰ.of_map starts others s.1 in
        let u = keep_in (λ d. apart (leaves m d)) lowest w.1 in
        let v = keep_in (is_lowest m) (directed m) u.0 in
        let r = dart_row m.edges w.0 v.0 in
        let low : is_lowest m (record { edge = r.0.number; back = w.0.back }) ≡ true = rw r.2 at v.1 in
        some_any (ring_passed m o c) m.edges r.1
        (and_is (and_is (ap passed (sym (point_of_lem w.0 r.0 r.1 r.2) ∙ w.2) ∙ s.2)
        (rw (piece_of_lem w.0 r.0 r.1 r.2) at u.1)) (either_way r.0.number w.0.back low))
      where
        either_way : (n : ℕ) (b : Bool) → is_lowest m (record { edge = n; back = b }) ≡ true
            → is_lowest m (fwd n) || is_lowest m (bwd n) ≡ true
        either_way n false e = or_left (is_lowest m (bwd n)) e
        either_way n true e = or_right (is_lowest m (fwd n)) (is_lowest m (bwd n)) e

    back : any_of (ring_passed m o c) m.edges ≡ true → any_of passed (map starts others) ≡ true
    back t =
        let s = any_some (ring_passed m o c) m.edges t in
        let n = s.0.number in
        let u = and-true _ (is_lowest m (fwd n) || is_lowest m (bwd n)) s.2 in
        let v = and-true (passed s.0.curve.first) (apart s.0.start) u.0 in
        elim (or-true (is_lowest m (fwd n)) (is_lowest m (bwd n)) u.1) [
          | inl e ↦ at (fwd n) s.0 s.1 refl v.0 v.1 e
          | inr e ↦ at (bwd n) s.0 s.1 refl v.0 v.1 e
        ]
      where
        at : (d : Dart) (e : Edge) (i : Memᴰ e m.edges) → d.edge ≡ e.number
            → passed e.curve.first ≡ true → apart e.start ≡ true → is_lowest m d ≡ true
            → any_of passed (map starts others) ≡ true
        at d e i q p a low =
            some_any passed (map starts others)
            (Memᴰ.map starts (keep_has (λ d. apart (leaves m d)) lowest
            (keep_has (is_lowest m) (directed m) (has_dart m d (rw q (row_has m i))) low) (rw (piece_of_lem d e i q) a)))
            (rw (point_of_lem d e i q) p)

    pub others-passed : any_of (passes_over o.curve c) (other_piece_points m o.start)
        ≡ any_of (ring_passed m o c) m.edges
    unfolding other_piece_points firsts
    others-passed = agree (any_of passed (map starts others)) (any_of (ring_passed m o c) m.edges) forth back
