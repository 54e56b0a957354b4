-- Where the new edge is linked in: corners are positions, and the end of a loop finds the new edge's start at its node.
-- Assumes nothing.
use Rattle.std.specs.Prelude.{Option, Some, None}
use Rattle.std.specs.Option.{unwrap_or}
use mathlib.Core.Path.{◌≡◌, refl, sym, ap, ◌∙◌}
use mathlib.Core.Logic.{inl, inr}
use mathlib.Core.Bool.{Bool, true, false, cond}
use mathlib.Core.List.Memᴰ
use mathlib.Core.List.{List, [], ◌∷◌, ◌++◌, append-nil, Memᴰ}
use Prim.Native.Nat.{ℕ, ◌+◌, ◌*◌, ◌/◌, ◌<◌}
use native.Mathlib.Omega.{arith}
use lib.IntN.{ℤ}
use Rattle.lists.proofs.Bools.{same_eq}
use Rattle.lists.proofs.Keeps.{keep_in}
use Rattle.plane.specs.Directions.{Way}
use Rattle.curves.specs.Curves.{curve_of, start_way}
use Rattle.curves.specs.Edits.{course}
use Rattle.rotation.specs.Law.{first_clockwise}
use Rattle.rotation.proofs.Node.{first_in}
use Rattle.tables.specs.Tables.{same_z}
use Rattle.darts.specs.Positions.{way_with}
use Rattle.darts.proofs.Positions.{even_of, odd_of}
use Rattle.links.specs.Linking.{positions, leaves_node, first_met}
use Rattle.links.proofs.FirstMet.{first_none, met_at, met_none, position_below}
use Rattle.reason_corners.specs.Drawing.{departing, at_end, corner_at, end_corner, first_of}
use Rattle.reason_corners.proofs.Choosing.{first_more, first_below}

module _ (l : List ℤ) (e : ℕ) where
  pub departing_below : (z : ℤ) (p : ℕ) → Memᴰ p (departing l e z) → p < e * 2
  departing_below z p k = position_below e p (keep_in (leaves_node l z) (positions e) k).0

  pub at_end_below : (from to : ℤ) (p : ℕ) → Memᴰ p (at_end l e from to) → p < e * 2 + 2
  at_end_below from to p i =
      elim (Memᴰ.append_cases (departing l e to) i) [
        | inl k ↦ let b = departing_below to p k in omega arith
        | inr k ↦ own (same_z from to) k
      ]
    where
      own : (s : Bool) → Memᴰ p (cond s (e * 2 ∷ []) []) → p < e * 2 + 2
      own true i = let q = Memᴰ.eq_of_singleton i in omega arith
      own false i = absurd (Memᴰ.not-nil i)

module _ (l : List ℤ) (e : ℕ) (c : List ℤ) where
  abbrev W : ℕ → Way
  W = way_with l e c

  -- the new edge's directions
  pub start_way_lem : W (e * 2) ≡ start_way (course false (curve_of c))
  start_way_lem = let o = even_of (e * 2) (omega arith) in rw (o.test, same_eq (e * 2 / 2) e (omega arith))

  pub end_way_lem : W (e * 2 + 1) ≡ start_way (course true (curve_of c))
  end_way_lem = let o = odd_of (e * 2 + 1) (omega arith) in rw (o.test, same_eq ((e * 2 + 1) / 2) e (omega arith))

  pub corner_below : (back : Bool) (z : ℤ) (n u : ℕ) → u < n → e * 2 < n + 1 → corner_at l e c back z u < n
  corner_below back z n u h k = first_below W (start_way (course back (curve_of c))) n u (departing l e z) h
      (λ p i. let b = departing_below l e z p i in omega arith)

  -- the first one met, or what stands in for none
  pub corner_or : (back : Bool) (z : ℤ) (u : ℕ)
      → unwrap_or (first_met W (start_way (course back (curve_of c))) (departing l e z)) u ≡ corner_at l e c back z u
  corner_or back z u = go (first_met W v ds) refl
    where
      v : Way
      v = start_way (course back (curve_of c))

      ds : List ℕ
      ds = departing l e z

      go : (r : Option ℕ) → first_met W v ds ≡ r → unwrap_or r u ≡ first_clockwise W v u ds
      go (Some p) e = sym (met_at W v ds p e u)
      go None e = sym (ap (first_clockwise W v u) (met_none W v ds e) ∙ first_none W v u)

  pub end_below : (from to : ℤ) → end_corner l e c from to < e * 2 + 2
  end_below from to = first_below W (start_way (course true (curve_of c))) (e * 2 + 2) (e * 2 + 1) (at_end l e from to)
      (omega arith) (at_end_below l e from to)

  module _ (from to : ℤ) where
    -- the ends are at two nodes
    pub end-apart : same_z from to ≡ false → corner_at l e c true to (e * 2 + 1) ≡ end_corner l e c from to
    end-apart d = rw d (ap (first_clockwise W (start_way (course true (curve_of c))) (e * 2 + 1))
        (sym (append-nil (departing l e to))))

    module _ (loop : same_z from to ≡ true) where
      abbrev v : Way
      v = start_way (course true (curve_of c))

      -- nothing else is there
      pub end_alone : first_met W v (departing l e to) ≡ None → e * 2 ≡ end_corner l e c from to
      end_alone h = rw (loop, met_none W v (departing l e to) h)
          (sym (Memᴰ.eq_of_singleton (first_in W v (e * 2 + 1) (e * 2 ∷ []) {d = e * 2} (Memᴰ.head refl))))

      -- the new edge besides
      pub end_besides : (q : ℕ) → first_met W v (departing l e to) ≡ Some q → first_of W v q (e * 2)
          ≡ end_corner l e c from to
      end_besides q h = rw loop (go (departing l e to) h)
        where
          go : (ds : List ℕ) → first_met W v ds ≡ Some q → first_of W v q (e * 2)
              ≡ first_clockwise W v (e * 2 + 1) (ds ++ e * 2 ∷ [])
          go [] r = cc
          go (d ∷ ds) r = sym (first_more W v (e * 2 + 1) (e * 2) d ds
              ∙ ap (λ (x : ℕ). first_of W v x (e * 2)) (met_at W v (d ∷ ds) q r (e * 2 + 1)))
