-- The directions in which a curve's ends depart, when it is turned round, cut or joined. The curve need not be simple.
-- Assumes nothing.
use mathlib.Core.Path.{◌≡◌, sym, ap, subst}
use mathlib.Core.Bool.{true}
use mathlib.Core.List.{List, [], ◌∷◌, ◌++◌}
use mathlib.Core.Logic.{◌⊎◌, inl, inr, ◌≢◌}
use Prim.Native.Nat.{suc, ◌≤◌}
use native.Mathlib.Omega.{arith}
use lib.ListN.{length, length-append}
use Rattle.plane.specs.declared.Point.{Point}
use Rattle.plane.specs.Directions.{way_to, same_way}
use Rattle.curves.specs.Curves.{Curve, points, last_of, second_of, before_last, last_point, start_way, end_way}
use Rattle.curves.specs.Tests.{on_curve}
use Rattle.curves.specs.Edits.{cut, join, front, back, joined, reversed}
use Rattle.geometry.specs.Spots.{SameWay}
use Rattle.geometry.specs.Meaning.{Some}
use Rattle.geometry.proofs.Alike.{Alike}
use Rattle.geometry.proofs.Chains.{last_append}
use Rattle.geometry.proofs.Cutting.{Place, cut-place, second_append, before-append}
use Rattle.geometry.proofs.Joining.{join_alike}
use Rattle.geometry.proofs.Turning.{second_turned, some_turned}
use Rattle.geometry.proofs.Ways.{same_way_is}
use Rattle.geometry.proofs.Theorems.{on_curve_iff}

pub reverse_some : (c : Curve) → Some c.rest → Some (reversed c).rest
reverse_some c s = some_turned c.first c.rest s

pub reverse-way : (c : Curve) → Some c.rest → start_way (reversed c) ≡ end_way c
reverse-way c s = ap (way_to (last_point c)) (second_turned c.first c.rest s)

-- the cut at a point of the curve that is no end of it
module _ (p : Point) (c : Curve) (n : c.first ≢ p) (l : last_point c ≢ p) (o : on_curve c p ≡ true) where
  place : Place p c.first c.rest (cut p c.first c.rest)
  place = cut-place p c.first c.rest n l ((on_curve_iff c p).0 o)

  pub front-way : same_way (start_way c) (start_way (front p c)) ≡ true
  front-way = same_way_is (subst (λ (z : Point). SameWay c.first (second_of c.first c.rest) c.first z)
      (second_append c.first (front p c).rest (back p c).rest place.some_front) place.alike.start)

  pub back_some : Some (back p c).rest
  back_some = place.some_back

  pub back-way : same_way (end_way c) (end_way (back p c)) ≡ true
  back-way = same_way_is (subst (λ (z : Point). SameWay (last_point c) (before_last c.first c.rest)
      (last_of z (back p c).rest) (before_last z (back p c).rest)) place.joint
      (rw (
        last_append c.first (front p c).rest (back p c).rest,
        before-append c.first (front p c).rest (back p c).rest place.some_back,
      ) at place.alike.finish))

  -- neither half has more points than the curve
  pub halves_few : (length (points (front p c)) ≤ length (points c)) × (length (points (back p c)) ≤ length (points c))
  halves_few = go (front p c).rest (back p c).rest place.some_front place.some_back place.count
    where
      go : (f b : List Point) → Some f → Some b → (length (f ++ b) ≡ length c.rest)
          ⊎ (length (f ++ b) ≡ suc (length c.rest)) → (suc (length f) ≤ suc (length c.rest))
          × (suc (length b) ≤ suc (length c.rest))
      go [] b h k e = absurd h
      go (x ∷ f) [] h k e = absurd k
      go (x ∷ f) (y ∷ b) h k e = let n = length-append (x ∷ f) (y ∷ b) in
          elim e [ inl q ↦ (omega arith, omega arith) | inr q ↦ (omega arith, omega arith) ]

-- the join of two curves
module _ (c d : Curve) (joint : d.first ≡ last_point c) (sc : Some c.rest) (sd : Some d.rest) where
  alike : Alike c.first (c.rest ++ d.rest) (join c.first c.rest d.rest)
  alike = join_alike c.first c.rest d.rest sc sd

  pub joined_some : Some (joined c d).rest
  joined_some = alike.some'

  pub joined_start : same_way (start_way c) (start_way (joined c d)) ≡ true
  joined_start = same_way_is (subst (λ (z : Point). SameWay c.first z c.first
      (second_of c.first (joined c d).rest)) (second_append c.first c.rest d.rest sc) alike.start)

  pub joined_end : same_way (end_way d) (end_way (joined c d)) ≡ true
  joined_end = same_way_is (subst (λ (z : Point). SameWay (last_of z d.rest) (before_last z d.rest)
      (last_point (joined c d)) (before_last c.first (joined c d).rest)) (sym joint)
      (rw (last_append c.first c.rest d.rest, before-append c.first c.rest d.rest sd) at
      alike.finish))
