-- Routes on what is lent: the claims. Assumes nothing.
use mathlib.Core.Path.{◌≡◌, refl, sym}
use mathlib.Core.Logic.{◌⊎◌, inl, inr}
use mathlib.Core.Bool.{Bool, true, false, not, true≢false, ◌&&◌, ◌||◌}
use mathlib.Core.List.{List, []}
use Prim.Native.Nat.{ℕ, zero, suc, ◌+◌, ◌≤◌}
use native.Mathlib.Omega.{arith}
use borrow.Author.Tests.{ltb-false, le-ltb, not-false}
use lib.Dec.{ltb}
use lib.IntN.{ℤ, pos, nat_abs}
use lib.ListN.{length, length-map, length-append, length-drop}
use Rattle.lists.specs.Scans.{is_some}
use Rattle.lists.proofs.Bools.{which, &&-false}
use Rattle.map.specs.declared.Answer.{Answer}
use Rattle.map.specs.Reasons.{first_reason}
use Rattle.map.proofs.Reasons.{first_zero}
use Rattle.network.specs.Rows.{Lent, network_of, whole}
use Rattle.network.specs.Form.{in_form}
use Rattle.network.specs.Reasons.{no_node}
use Rattle.paths.specs.Walks.{hops}
use Rattle.paths.specs.Nearest.{is_examined, steps, next_nearest}
use Rattle.paths.specs.Route.{to_goal, examined, all_curved, route_reasons, refusal_of, route_written, Routed}
use Rattle.paths.specs.Claims.{Reaches, RoutesSound, RouteFits, RoutedExists, RouteShorter}
use Rattle.paths.proofs.Lengths.{positive}
use Rattle.paths.proofs.Routes.{next_some, sound, fits}

pub routes_sound : RoutesSound
routes_sound l formed curved start = sound (positive l formed curved)

-- ---- a call against which nothing stands

record Clear (l : Lent) (start goal k : ℤ) (room : ℕ) : Type 0 where
  whole : not (whole l) ≡ false
  formed : not (in_form l) ≡ false
  named : no_node (network_of l) start || no_node (network_of l) goal ≡ false
  curved : not (all_curved (network_of l)) ≡ false
  reaches : Reaches (hops (network_of l)) (examined l start k) (nat_abs goal)
  roomy : length (examined l start k) + 2 ≤ room

-- 33 as the claims have it
reaches_is : (a b : Bool) → not a && not b ≡ false → (a ≡ true) ⊎ (b ≡ true)
reaches_is true b e = inl refl
reaches_is false true e = inr refl
reaches_is false false e = absurd (true≢false e)

not_33 : (a b : Bool) → (a ≡ true) ⊎ (b ≡ true) → not a && not b ≡ false
not_33 a b (inl e) = rw e
not_33 a b (inr e) = rw e (&&-false (not a))

module _ (l : Lent) (start goal k : ℤ) (room : ℕ) where
  clear : refusal_of l start goal k room ≡ 0 → Clear l start goal k room
  unfolding route_reasons
  clear e =
      let hs = hops (network_of l) in
      let es = examined l start k in
      let g = nat_abs goal in
      let e₁ = first_zero 1 (not (whole l)) _ (omega arith) e in
      let e₂ = first_zero 2 (not (in_form l)) _ (omega arith) e₁.1 in
      let e₄ = first_zero 4 (no_node (network_of l) start || no_node (network_of l) goal) _ (omega arith) e₂.1 in
      let e₂₇ = first_zero 27 (not (all_curved (network_of l))) _ (omega arith) e₄.1 in
      let e₃₂ = first_zero 32 (not (is_examined es g) && ltb 0 (length es) && not (is_some (next_nearest hs es))) _
      (omega arith) e₂₇.1 in
      let e₃₃ = first_zero 33 (not (is_examined es g) && not (is_some (to_goal g (steps hs es)))) _ (omega arith)
      e₃₂.1 in
      let e₂₀ = first_zero 20 (ltb room (length es + 2)) [] (omega arith) e₃₃.1 in
      record {
        whole = e₁.0;
        formed = e₂.0;
        named = e₄.0;
        curved = e₂₇.0;
        reaches = reaches_is (is_examined es g) (is_some (to_goal g (steps hs es))) e₃₃.0;
        roomy = ltb-false room (length es + 2) e₂₀.0;
      }

  none_stands : Clear l start goal k room → refusal_of l start goal k room ≡ 0
  unfolding route_reasons first_reason
  none_stands c =
      let hs = hops (network_of l) in
      let es = examined l start k in
      let g = nat_abs goal in
      let e₃₂ : (not (is_examined es g) && ltb 0 (length es) && not (is_some (next_nearest hs es))) ≡ false =
      elim (which (is_examined es g)) [
        | inl t ↦ rw t
        | inr f ↦ rw (next_some hs es g c.reaches f) (&&-false (not (is_examined es g) && ltb 0 (length es)))
      ] in
      let e₃₃ = not_33 (is_examined es g) (is_some (to_goal g (steps hs es))) c.reaches in
      let e₂₀ = le-ltb room (length es + 2) c.roomy in
      rw (c.whole, c.formed, c.named, c.curved, e₃₂, e₃₃, e₂₀)

pub route_fits : RouteFits
route_fits l start goal k room e =
    let c = clear l start goal k room e in
    let enough = c.roomy in
    let w = fits {hs = hops (network_of l)} {start = nat_abs start} _ (nat_abs goal) c.reaches in
    let few : length w.0 ≤ length (examined l start k) = w.3 in
    (record { walk = w.0; leads = w.1; long = w.2; fits = omega arith }, few)

pub routed_exists : RoutedExists
routed_exists l start goal k list = go (refusal_of l start goal k (length list)) refl
  where
    go : (r : ℕ) → refusal_of l start goal k (length list) ≡ r
        → (list' : List ℤ) × (a : Answer) × Routed l start goal k list list' a × (length list' ≡ length list)
    go zero e =
        let r = (route_fits l start goal k (length list) e).0 in
        let f = r.fits in (
          route_written l start goal k r.walk list,
          record { refusal = 0; value = pos (length r.walk + 2) },
          record { refusal = sym e; refused = λ h. absurd (h refl); routed = λ h. (r, refl, refl) },
          simp (length-append, length-map, length-drop) (omega arith),
        )
    go (suc r) e = (
      list,
      record { refusal = suc r; value = pos 0 },
      record { refusal = sym e; refused = λ h. (refl, refl); routed = λ h. absurd (omega arith) },
      refl,
    )

pub route_shorter : RouteShorter
route_shorter l start goal k i room room' more e enough =
    let c = clear l start goal k room e in
    let s = routes_sound l (not-false (in_form l) c.formed) (not-false (all_curved (network_of l)) c.curved)
    (nat_abs start) in
    let r = s.shorter _ _ (nat_abs goal) more c.reaches in (
      none_stands l start goal i room' (record {
        whole = c.whole;
        formed = c.formed;
        named = c.named;
        curved = c.curved;
        reaches = r.0;
        roomy = enough;
      }),
      r.1,
    )
