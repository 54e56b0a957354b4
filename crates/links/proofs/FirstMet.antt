-- The first departure met clockwise: under other names, whichever stands in for none, and what the answer tells.
-- Assumes nothing.
use Rattle.std.specs.Prelude.{Some, None}
use mathlib.Core.Path.{◌≡◌, refl, sym, ap, ◌∙◌}
use mathlib.Core.List.{List, [], ◌∷◌, map-id, Memᴰ}
use Prim.Native.Nat.{ℕ, ◌*◌, ◌/◌, ◌<◌}
use native.Mathlib.Omega.{arith}
use lib.IntN.{ℤ}
use Rattle.lists.proofs.Keeps.{keep_in}
use Rattle.lists.proofs.Scans.{table_has, table_in}
use Rattle.lists.proofs.Bools.{same_false}
use Rattle.plane.specs.Directions.{Way}
use Rattle.rotation.specs.Law.{pick, first_clockwise}
use Rattle.rotation.proofs.Node.{first_in}
use Rattle.rotation.proofs.Rename.{first_map}
use Rattle.darts.specs.Positions.{way_at, way_with}
use Rattle.links.specs.Linking.{positions, departures_but, first_met}

-- directions that are the same
pub met-same : (way way' : ℕ → Way) (v : Way) (ds : List ℕ) → ((d : ℕ) → Memᴰ d ds → way' d ≡ way d)
    → first_met way' v ds ≡ first_met way v ds
met-same way way' v [] h = refl
met-same way way' v (d ∷ ds) h = ap Some (ap (first_clockwise way' v d) (sym (map-id (d ∷ ds)))
    ∙ first_map (λ x. x) way way' v d (d ∷ ds) h)

-- ---- what the answer tells

module _ {D : Type 0} (way : D → Way) (v : Way) where
  -- whatever stands in for none plays no part where there is one
  pub first_any : (d : D) (ds : List D) (u w : D) → first_clockwise way v u (d ∷ ds) ≡ first_clockwise way v w (d ∷ ds)
  unfolding first_clockwise pick
  first_any d ds u w = refl

  pub first_none : (u : D) → first_clockwise way v u [] ≡ u
  unfolding first_clockwise pick
  first_none u = refl

module _ (way : ℕ → Way) (v : Way) where
  pub met_at : (ds : List ℕ) (q : ℕ) → first_met way v ds ≡ Some q → (u : ℕ) → first_clockwise way v u ds ≡ q
  met_at [] q e u = let z : ◌≡◌ {A = ℕ} 0 1 = cc in absurd (omega arith)
  met_at (d ∷ ds) q e u = let k : first_clockwise way v d (d ∷ ds) ≡ q = cc in first_any way v d ds u d ∙ k

  pub met_in : (ds : List ℕ) (q : ℕ) → first_met way v ds ≡ Some q → Memᴰ q ds
  met_in [] q e = let z : ◌≡◌ {A = ℕ} 0 1 = cc in absurd (omega arith)
  met_in (d ∷ ds) q e = let k : first_clockwise way v d (d ∷ ds) ≡ q = cc in
      rw (← k) (first_in way v d (d ∷ ds) {d = d} (Memᴰ.head refl))

  pub met_none : (ds : List ℕ) → first_met way v ds ≡ None → ds ≡ []
  met_none [] e = refl
  met_none (d ∷ ds) e = let z : ◌≡◌ {A = ℕ} 0 1 = cc in absurd (omega arith)

-- ---- positions

pub position_below : (n p : ℕ) → Memᴰ p (positions n) → p < n * 2
position_below n p m = let r = table_in (λ q. q) 0 (n * 2) m in omega (arith, r.2, r.3)

pub position_has : (n p : ℕ) → p < n * 2 → Memᴰ p (positions n)
position_has n p h = table_has (λ q. q) 0 (n * 2) p (omega arith) (omega arith)

pub leaving_below : (l : List ℤ) (n : ℕ) (node : ℤ) (a b p : ℕ) → Memᴰ p (departures_but l n node a b) → p < n * 2
leaving_below l n node a b p m = position_below n p (keep_in _ (positions n) m).0

-- where no row has another curve
pub with_none : (l : List ℤ) (n : ℕ) (c : List ℤ) (p : ℕ) → p / 2 < n → way_with l n c p ≡ way_at l p
with_none l n c p h = let e = same_false (p / 2) n (λ q. omega arith) in rw e
