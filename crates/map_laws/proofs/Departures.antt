-- The link law depends on nodes, directions and links only at the departures that there are. Assumes nothing.
use mathlib.Core.Path.{◌≡◌, refl, sym, ap, subst}
use mathlib.Core.List.{List, ◌∷◌, map-id, Memᴰ}
use Prim.Native.Nat.{ℕ}
use Rattle.lists.specs.Tests.{same}
use Rattle.lists.proofs.Bools.{same_eq, same_true}
use Rattle.lists.proofs.Keeps.{keep_in, keep_has, keep_cong}
use Rattle.planar_maps.specs.Map.{Dart, rev}
use Rattle.planar_maps.specs.Rings.{same_dart}
use Rattle.plane.specs.Directions.{Way}
use Rattle.rotation.specs.Law.{first_clockwise, Differ, Lawful, from, reverse_leads, Law}
use Rattle.rotation.proofs.Clock.{First, first_one}
use Rattle.rotation.proofs.Node.{first_first, place, placed, size_of}
use Rattle.rotation.proofs.Rename.{renamed-lawful}
use Rattle.map.specs.Rows.{Map}
use Rattle.map.specs.Darts.{directed, leaves, departures}

-- departures from a node, and back
pub from_in : (tail : Dart → ℕ) (ds : List Dart) (n : ℕ) {d : Dart} → Memᴰ d (from tail ds n) → Memᴰ d ds
    × (tail d ≡ n)
from_in tail ds n {d} k = let i = keep_in (λ (d : Dart). same (tail d) n) ds k in (i.0, same_true (tail d) n i.1)

pub from_has : (tail : Dart → ℕ) (ds : List Dart) (n : ℕ) {d : Dart} → Memᴰ d ds → tail d ≡ n
    → Memᴰ d (from tail ds n)
from_has tail ds n {d} k e = keep_has (λ (d : Dart). same (tail d) n) ds k (same_eq (tail d) n e)

pub departures-from : (m : Map) (n : ℕ) → departures m n ≡ from (leaves m) (directed m) n
unfolding departures
departures-from m n = refl

-- what departs from one node
pub from_alike : (ds : List Dart) (tail tail' : Dart → ℕ) → ((d : Dart) → Memᴰ d ds → tail' d ≡ tail d) → (n : ℕ)
    → from tail' ds n ≡ from tail ds n
from_alike ds tail tail' h n = keep_cong (λ d. same (tail' d) n) (λ d. same (tail d) n) ds
    (λ d k. ap (λ x. same x n) (h d k))

module _ (ds : List Dart) {tail tail' : Dart → ℕ} {way way' : Dart → Way}
    (ht : (d : Dart) → Memᴰ d ds → tail' d ≡ tail d) (hw : (d : Dart) → Memᴰ d ds → way' d ≡ way d) where
  pub law_agree : (next next' : Dart → Dart) → ((d : Dart) → Memᴰ d ds → next' (rev d) ≡ next (rev d))
      → Law same_dart rev tail way ds next → Law same_dart rev tail' way' ds next'
  law_agree next next' hn l n = subst (λ (k : List Dart). Lawful way' same_dart k (reverse_leads rev next'))
      (sym (from_alike ds tail tail' ht n))
      (subst (λ (k : List Dart). Lawful way' same_dart k (reverse_leads rev next')) (map-id (from tail ds n))
      (renamed-lawful (λ d. d) way way' same_dart same_dart (from tail ds n) (reverse_leads rev next)
      (reverse_leads rev next')
      (record { ways = λ d k. hw d (inside k); tests = λ d c k i. refl }) (λ d k. hn d (inside k)) (l n)))
    where
      inside : {d : Dart} → Memᴰ d (from tail ds n) → Memᴰ d ds
      inside {d} k = (keep_in (λ (d : Dart). same (tail d) n) ds k).0

-- no two have one direction, of a part of the list
pub differ_part : {D : Type 0} {way : D → Way} {ds ds' : List D} → ((d : D) → Memᴰ d ds → Memᴰ d ds')
    → Differ way ds' → Differ way ds
differ_part h f d c i k e = f d c (h d i) (h c k) e

-- the first of more departures is the first of fewer, where it is one of these
pub first_fewer : (way : Dart → Way) (x p u w : Dart) (ds : List Dart) → Differ way (x ∷ p ∷ ds)
    → Memᴰ (first_clockwise way (way x) u (p ∷ ds)) ds → first_clockwise way (way x) u (p ∷ ds)
    ≡ first_clockwise way (way x) w ds
first_fewer way x p u w ds differ k =
    first_one (place way all) (size_of way all differ) (placed way all differ) {ds = ds} x
    (first_clockwise way (way x) u (p ∷ ds)) (first_clockwise way (way x) w ds)
    (λ d i. Memᴰ.tail (Memᴰ.tail i)) (Memᴰ.head refl)
    (record { among = k; soonest = λ y i. more.soonest y (Memᴰ.tail i) })
    (first_first way all differ x w ds (Memᴰ.head refl) (λ d i. Memᴰ.tail (Memᴰ.tail i)) k)
  where
    all : List Dart
    all = x ∷ p ∷ ds

    more : First (place way all) (size_of way all differ) x (first_clockwise way (way x) u (p ∷ ds)) (p ∷ ds)
    more = first_first way all differ x u (p ∷ ds) (Memᴰ.head refl) (λ d i. Memᴰ.tail i) {d = p}
        (Memᴰ.head refl)
