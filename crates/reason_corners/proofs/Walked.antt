-- What follows each position with the new edge linked in, and the ring of the new edge, turn by turn: what is left of
-- it from a position on, with the steps that are left. Assumes nothing.
use mathlib.Core.Path.{◌≡◌, sym, ap, ◌∙◌}
use mathlib.Core.Bool.{Bool, true, false, cond}
use mathlib.Core.List.{List}
use Prim.Native.Nat.{ℕ, suc, ◌+◌, ◌*◌, ◌-◌, ◌<◌, ◌≤◌}
use native.Mathlib.Omega.{arith}
use lib.IntN.{ℤ}
use lib.ListN.{length}
use Rattle.lists.specs.Tests.{same}
use Rattle.lists.proofs.Bools.{same_eq, same_false}
use Rattle.planar_maps.specs.Map.{Dart, fwd, bwd}
use Rattle.planar_maps.specs.Rings.{same_dart}
use Rattle.planar_maps.proofs.Rings.{same_dart_refl}
use Rattle.map.specs.Rows.{Map}
use Rattle.map.specs.Darts.{next, steps_to, ring, among}
use Rattle.map.specs.Links.{instead}
use Rattle.map_rows.specs.Rows.{edge_map, EdgeRows}
use Rattle.darts.specs.Positions.{dart_at}
use Rattle.reason_corners.specs.Drawing.{drawn_dart, Joined}
use Rattle.reason_corners.proofs.Places.{place_old, place_forward, place_backward, place_test, place-instead}
use Rattle.reason_corners.proofs.Places.{instead_below}

-- whether the reverse is met from position p on, in at most k steps
abbrev pub meets : List ℤ → ℕ → ℕ → Map → ℕ → ℕ → Bool
meets l e new m k p = among (steps_to m (fwd new) k (drawn_dart l e new p)) (bwd new)

module _ {l : List ℤ} {e start end new : ℕ} {m : Map} (t : EdgeRows l e) (j : Joined l e start end new m) where
  -- ---- what follows

  abbrev D : ℕ → Dart
  D = drawn_dart l e new

  pub follows_forward : (p : ℕ) → p ≡ e * 2 → D end ≡ next m (D p)
  follows_forward p q = sym (ap (next m) (ap D q ∙ place_forward l e new) ∙ j.forward)

  module _ (hs : start < e * 2 + 2) (he : end < e * 2 + 2) where
    pub follows_backward : (p r : ℕ) → p ≡ e * 2 + 1 → r ≡ cond (same start end) (e * 2 + 1) start → D r ≡ next m (D p)
    follows_backward p r q is =
        ap D is
        ∙ place-instead t new j.fresh start end (e * 2 + 1) (bwd new) hs he (place_backward l e new)
        ∙ sym (ap (next m) (ap D q ∙ place_backward l e new) ∙ j.backward)

    pub follows_other : (p q s r : ℕ) → p < e * 2 → q < e * 2 → dart_at l q ≡ next (edge_map l e) (dart_at l p) → s
        ≡ cond (same q start) (e * 2) q → r ≡ cond (same s end) (e * 2 + 1) s → D r ≡ next m (D p)
    follows_other p q s r hp hq link is then =
        let below : s < e * 2 + 2 = rw is (instead_below (e * 2 + 2) q start (e * 2) (omega arith) (omega arith)) in
        ap D then
        ∙ place-instead t new j.fresh s end (e * 2 + 1) (bwd new) below he (place_backward l e new)
        ∙ ap (instead (D end) (bwd new))
        (ap D is ∙ place-instead t new j.fresh q start (e * 2) (fwd new) (omega arith) hs (place_forward l e new)
        ∙ ap (instead (D start) (fwd new)) (place_old l e new q hq ∙ link))
        ∙ sym (ap (next m) (place_old l e new p hp) ∙ j.others p hp)

  -- ---- the ring

  pub ring-meets : among (ring m (fwd new)) (bwd new) ≡ meets l e new m (e * 2 + 2 - 0) (e * 2)
  unfolding ring
  ring-meets =
      let k : 2 * length m.edges ≡ e * 2 + 2 - 0 = let r = j.rows in omega arith in
      rw (k, place_forward l e new)

  module _ (k p : ℕ) where
    pub meets-end : e * 2 + 2 ≤ k → meets l e new m (e * 2 + 2 - k) p ≡ false
    unfolding steps_to
    meets-end h = let r : e * 2 + 2 - k ≡ 0 = omega arith in rw r

    module _ (h : k < e * 2 + 2) where
      one_more : e * 2 + 2 - k ≡ suc (e * 2 + 2 - (k + 1))
      one_more = omega arith

      -- it is at the reverse
      pub meets_here : p ≡ e * 2 + 1 → meets l e new m (e * 2 + 2 - k) p ≡ true
      unfolding steps_to
      meets_here q = rw (one_more, q, place_backward l e new, same_dart_refl (bwd new))

      module _ (hp : p < e * 2 + 2) (apart : (p ≡ e * 2 + 1) → ⊥) (s : ℕ) (hs : s < e * 2 + 2)
          (follows : drawn_dart l e new s ≡ next m (drawn_dart l e new p)) where
        off : same_dart (bwd new) (drawn_dart l e new p) ≡ false
        off = rw (← place_backward l e new)
            (place_test t new j.fresh (e * 2 + 1) p (omega arith) hp ∙ same_false (e * 2 + 1) p (λ q. apart (sym q)))

        back : same_dart (next m (drawn_dart l e new p)) (fwd new) ≡ same s (e * 2)
        back = rw (← follows, ← place_forward l e new) (place_test t new j.fresh s (e * 2) hs (omega arith))

        -- the walk goes on
        pub meets_on : ((s ≡ e * 2) → ⊥) → meets l e new m (e * 2 + 2 - k) p ≡ meets l e new m (e * 2 + 2 - (k + 1)) s
        unfolding steps_to
        meets_on d = let r = back ∙ same_false s (e * 2) d in rw (one_more, off, r, ← follows)

        -- it is back at the start
        pub meets_last : s ≡ e * 2 → meets l e new m (e * 2 + 2 - k) p ≡ false
        unfolding steps_to
        meets_last d = let r = back ∙ same_eq s (e * 2) d in rw (one_more, off, r)
