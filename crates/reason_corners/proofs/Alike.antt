-- Whether a new edge splits a face depends on the rows alone, not on its number: the walks of two maps pass the same
-- positions. Assumes nothing.
use mathlib.Core.Path.{◌≡◌, refl, sym, ap, ◌∙◌}
use mathlib.Core.Logic.{◌⊎◌, inl, inr}
use mathlib.Core.Bool.{true, false, cond, not}
use mathlib.Core.List.{List, map}
use Prim.Native.Nat.{ℕ, zero, suc, ◌+◌, ◌*◌, ◌-◌, ◌<◌}
use native.Mathlib.Omega.{arith}
use lib.IntN.{ℤ, pos}
use Rattle.lists.specs.Tests.{same}
use Rattle.lists.proofs.Bools.{equal?}
use Rattle.planar_maps.specs.Map.{fwd, bwd}
use Rattle.tables.specs.Tables.{numbered}
use Rattle.curves.specs.Curves.{curve_of, start_way}
use Rattle.map.specs.Limits.{last_number}
use Rattle.map.specs.Rows.{Map}
use Rattle.map.specs.Darts.{next, ring, among}
use Rattle.map.specs.Links.{corner_face}
use Rattle.map.specs.Edits.{splits_face}
use Rattle.map_rows.specs.Rows.{edges_of, EdgeRows}
use Rattle.darts.proofs.Positions.{next_there}
use Rattle.reason_corners.specs.Drawing.{drawn_dart, edges_numbered, Joined}
use Rattle.reason_corners.proofs.Ends.{corner_below, end_below}
use Rattle.reason_corners.proofs.Places.{which_place, instead_below}
use Rattle.reason_corners.proofs.Walked.{meets, follows_forward, follows_backward, follows_other, ring-meets}
use Rattle.reason_corners.proofs.Walked.{meets-end, meets_here, meets_on, meets_last}
use Rattle.reason_corners.proofs.Drawn.{fresh-number, joined}

module _ {l : List ℤ} {e start end : ℕ} (t : EdgeRows l e) (hs : start < e * 2 + 2) (he : end < e * 2 + 2) {a b : ℕ}
    {m n : Map} (j : Joined l e start end a m) (k : Joined l e start end b n) where
  -- what follows a position in both
  follows : (p : ℕ) → p < e * 2 + 2 → (q : ℕ) × (q < e * 2 + 2) × (drawn_dart l e a q ≡ next m (drawn_dart l e a p))
      × (drawn_dart l e b q ≡ next n (drawn_dart l e b p))
  follows p h = go (which_place e p h)
    where
      go : (p < e * 2) ⊎ ((p ≡ e * 2) ⊎ (p ≡ e * 2 + 1)) → (q : ℕ) × (q < e * 2 + 2)
          × (drawn_dart l e a q ≡ next m (drawn_dart l e a p)) × (drawn_dart l e b q ≡ next n (drawn_dart l e b p))
      go (inl o) =
          let r = next_there t p o in
          let x = r.1 in
          let s = cond (same r.0 start) (e * 2) r.0 in
          let q = cond (same s end) (e * 2 + 1) s in
          let low = instead_below (e * 2 + 2) r.0 start (e * 2) (omega arith) (omega arith) in (
            q,
            instead_below (e * 2 + 2) s end (e * 2 + 1) low (omega arith),
            follows_other t j hs he p r.0 s q o x r.2 refl refl,
            follows_other t k hs he p r.0 s q o x r.2 refl refl,
          )
      go (inr (inl o)) = (end, he, follows_forward t j p o, follows_forward t k p o)
      go (inr (inr o)) =
          let q = cond (same start end) (e * 2 + 1) start in (
            q,
            instead_below (e * 2 + 2) start end (e * 2 + 1) hs (omega arith),
            follows_backward t j hs he p q o refl,
            follows_backward t k hs he p q o refl,
          )

  -- with c steps left
  walks : (c i p : ℕ) → i + c ≡ e * 2 + 2 → p < e * 2 + 2 → meets l e a m (e * 2 + 2 - i) p
      ≡ meets l e b n (e * 2 + 2 - i) p
  walks zero i p q h = meets-end t j i p (omega arith) ∙ sym (meets-end t k i p (omega arith))
  walks (suc c) i p q h = go (follows p h) (equal? p (e * 2 + 1)) (walks c (i + 1))
    where
      low : i < e * 2 + 2
      low = omega arith

      go : (r : (q : ℕ) × (q < e * 2 + 2) × (drawn_dart l e a q ≡ next m (drawn_dart l e a p))
          × (drawn_dart l e b q ≡ next n (drawn_dart l e b p))) → (p ≡ e * 2 + 1) ⊎ ((p ≡ e * 2 + 1) → ⊥)
          → ((s : ℕ) → i + 1 + c ≡ e * 2 + 2 → s < e * 2 + 2 → meets l e a m (e * 2 + 2 - (i + 1)) s
          ≡ meets l e b n (e * 2 + 2 - (i + 1)) s)
          → meets l e a m (e * 2 + 2 - i) p ≡ meets l e b n (e * 2 + 2 - i) p
      go r (inl here) rest = meets_here t j i p low here ∙ sym (meets_here t k i p low here)
      go r (inr off) rest =
          elim (equal? r.0 (e * 2)) [
            | inl y ↦ meets_last t j i p low h off r.0 r.1 r.2 y
                ∙ sym (meets_last t k i p low h off r.0 r.1 r.3 y)
            | inr y ↦ meets_on t j i p low h off r.0 r.1 r.2 y
                ∙ rest r.0 (omega arith) r.1
                ∙ sym (meets_on t k i p low h off r.0 r.1 r.3 y)
          ]

  rings_alike : among (ring m (fwd a)) (bwd a) ≡ among (ring n (fwd b)) (bwd b)
  rings_alike = ring-meets t j ∙ walks (e * 2 + 2) 0 (e * 2) (omega arith) (omega arith) ∙ sym (ring-meets t k)

-- in every map of these rows, whose next number is past theirs
pub splits_alike : {l : List ℤ} {e : ℕ} → EdgeRows l e → (c : List ℤ) (m : Map) → m.edges ≡ edges_of l e
    → numbered 1 m.next.edges (map (λ x. x.number) m.edges) ≡ true → (u v : ℕ)
    → splits_face u v (curve_of c) (edges_numbered l e (suc last_number)) ≡ splits_face u v (curve_of c) m
unfolding splits_face
splits_alike {l} {e} t c m E ok u v =
    let x = edges_numbered l e (suc last_number) in
    ap not (rings_alike t
    (corner_below l e c false (pos u) (e * 2 + 2) (e * 2) (omega arith) (omega arith))
    (end_below l e c (pos u) (pos v))
    (joined t c x refl (fresh-number l e x refl t.rising) u v (corner_face x u (start_way (curve_of c))))
    (joined t c m E (fresh-number l e m E ok) u v (corner_face m u (start_way (curve_of c)))))
