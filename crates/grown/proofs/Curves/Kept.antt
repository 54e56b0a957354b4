-- `Kept` of the new curves: halves, joins, reverses and curves that a ticket sends. Assumes nothing.
use mathlib.Core.Path.{◌≡◌, refl, subst}
use mathlib.Core.Bool.{Bool, true, false}
use mathlib.Core.List.Memᴰ
use mathlib.Core.List.{List, [], ◌∷◌, Memᴰ}
use mathlib.Core.Logic.{inl, inr, ◌≢◌}
use Prim.Native.Nat.{ℕ, ◌≤◌}
use native.Mathlib.Omega.{arith}
use lib.ListN.{length}
use Rattle.lists.proofs.Members.{each-cons}
use Rattle.plane.specs.declared.Point.{Point}
use Rattle.plane.specs.Points.{InRange, same_point}
use Rattle.plane.specs.Segments.{on_segment}
use Rattle.curves.specs.Curves.{Curve, last_of, points, last_point, max_points}
use Rattle.curves.specs.Tests.{straight_in}
use Rattle.curves.specs.Edits.{cut_here, cut, front, back, join, joined, turned, course}
use Rattle.geometry.specs.Spots.{spot}
use Rattle.geometry.specs.Meaning.{Some}
use Rattle.geometry.specs.Drawing.{OnCurve}
use Rattle.geometry.proofs.Chains.{length_some}
use Rattle.geometry.proofs.Joining.{join-given}
use Rattle.geometry.proofs.Turning.{turned-given}
use Rattle.geometry.proofs.Theorems.{on_curve_iff, reverse_count}
use Rattle.map.specs.Rows.{Map}
use Rattle.map_laws.proofs.Reasons.{Sent}
use Rattle.grown.specs.Good.{Kept}
use Rattle.grown.proofs.Curves.Ends.{halves_few}
use Rattle.grown.proofs.Curves.Bent.{cut_bent, join_bent, turned_bent}

-- ---- points of the new curves are points of the old ones

module _ (R : Point → Type 0) where
  abbrev pub Each : List Point → Type 0
  Each l = (p : Point) → Memᴰ p l → R p

  each_nil : Each []
  each_nil p m = absurd (Memᴰ.not-nil m)

  each_head : {a : Point} {l : List Point} → Each (a ∷ l) → R a
  each_head h = h _ (Memᴰ.head refl)

  each_tail : {a : Point} {l : List Point} → Each (a ∷ l) → Each l
  each_tail h p m = h p (Memᴰ.tail m)

  each-cut : (m a : Point) (r : List Point) → R m → Each r → Each (cut m a r).front × Each (cut m a r).back
  each-cut m a [] k h = (each_nil, each_nil)
  each-cut m a (b ∷ r) k h = go (on_segment m a b) (same_point m b) (each-cut m b r k (each_tail h))
    where
      go : (p q : Bool) → Each (cut m b r).front × Each (cut m b r).back
          → Each (cut_here p q m b r (cut m b r)).front × Each (cut_here p q m b r (cut m b r)).back
      go true true f = (each-cons (each_head h) each_nil, each_tail h)
      go true false f = (each-cons k each_nil, h)
      go false q f = (each-cons (each_head h) f.0, f.1)

  pub each_halves : (m : Point) (c : Curve) → R m → Each (points c)
      → Each (points (front m c)) × Each (points (back m c))
  each_halves m c k h =
      let parts = each-cut m c.first c.rest k (each_tail h) in
      (each-cons (each_head h) parts.0, each-cons k parts.1)

  each-join : (a : Point) (r s : List Point) → Each r → Each s → Each (join a r s)
  each-join a r s h k p m = elim (join-given a r s m) [ inl j ↦ h p j | inr j ↦ k p j ]

  each-turned : (a : Point) (r : List Point) → R a → Each r → Each (last_of a r ∷ turned a r)
  each-turned a r k h p m = each-cons k h p (turned-given a r m)

-- ---- the cut at a point inside

module _ (m : Point) (c : Curve) (n : c.first ≢ m) (l : last_point c ≢ m) (o : OnCurve (spot m) c)
    (k : Kept c) (i : InRange m) where
  few : (length (points (front m c)) ≤ length (points c)) × (length (points (back m c)) ≤ length (points c))
  few = halves_few m c n l ((on_curve_iff c m).1 o)

  pub kept_front : Kept (front m c)
  kept_front =
      record {
        most = omega (arith, few.0, k.most);
        in_range = (each_halves InRange m c i k.in_range).0;
        bent = (cut_bent m c.first c.rest n o k.bent).front;
      }

  pub kept_back : Kept (back m c)
  kept_back =
      record {
        most = omega (arith, few.1, k.most);
        in_range = (each_halves InRange m c i k.in_range).1;
        bent = (cut_bent m c.first c.rest n o k.bent).back;
      }

-- ---- the join, of curves taken either way round

pub kept_course : (b : Bool) (c : Curve) → Kept c → Kept (course b c)
kept_course false c k = k
kept_course true c k =
    record {
      most = omega (arith, reverse_count c, k.most);
      in_range = each-turned InRange c.first c.rest (each_head InRange k.in_range)
          (each_tail InRange k.in_range);
      bent = turned_bent c.first c.rest k.bent;
    }

pub kept_joined : (c d : Curve) → Some c.rest → Some d.rest → d.first ≡ last_point c
    → length (points (joined c d)) ≤ max_points → Kept c → Kept d → Kept (joined c d)
kept_joined c d s t e l k h =
    record {
      most = l;
      in_range = each-cons (each_head InRange k.in_range)
          (each-join InRange c.first c.rest d.rest (each_tail InRange k.in_range)
          (each_tail InRange h.in_range));
      bent = (join_bent c.first c.rest d.rest s t k.bent
          (subst (λ (z : Point). straight_in z d.rest ≡ false) e h.bent)).bent;
    }

-- ---- a curve as it was sent

pub sent_kept : {m : Map} {c : Curve} {u v : ℕ} → Sent m c u v → Kept c
sent_kept s = record { most = s.most; in_range = s.in_range; bent = s.bent }

pub sent_some : {m : Map} (c : Curve) {u v : ℕ} → Sent m c u v → Some c.rest
sent_some c s = length_some c.rest (omega (arith, s.least))
