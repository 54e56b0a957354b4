-- Where labels lead: to a root, the row of the lowest node in the piece, however many steps are allowed past enough.
-- Assumes nothing.
use mathlib.Core.Path.{◌≡◌, refl, sym, ◌∙◌}
use mathlib.Core.Logic.{◌⊎◌, inl, inr}
use mathlib.Core.List.{List}
use Prim.Native.Nat.{ℕ, zero, suc, ◌≤◌, ◌<◌}
use native.Mathlib.Omega.{arith}
use borrow.Author.Tests.{lt-ltb, le-ltb}
use lib.IntN.{ℤ}
use lib.ListN.{get_or}
use Rattle.planar_maps.specs.Map.{Arc}
use Rattle.tables.proofs.Order.{lt_or_ge}
use Rattle.map_rows.specs.Rows.{node_at}
use Rattle.piece_labels.specs.Labels.{Leading, piece_at, root_from}

module _ (labels : List ℕ) where
  root_step : (k i : ℕ) → get_or labels i 0 < i → root_from labels (suc k) i ≡ root_from labels k (get_or labels i 0)
  unfolding root_from
  root_step k i h = rw (lt-ltb (get_or labels i 0) i h)

  pub root_end : (k i : ℕ) → i ≤ get_or labels i 0 → root_from labels k i ≡ i
  unfolding root_from
  root_end zero i h = refl
  root_end (suc k) i h = rw (le-ltb (get_or labels i 0) i h)

  -- as many steps as the row are enough
  root_enough : (k m i : ℕ) → i ≤ k → i ≤ m → root_from labels k i ≡ root_from labels m i
  root_enough zero m i s t = let h : i ≤ get_or labels i 0 = omega arith in root_end 0 i h ∙ sym (root_end m i h)
  root_enough (suc k) zero i s t = let h : i ≤ get_or labels i 0 = omega arith in
      root_end (suc k) i h ∙ sym (root_end 0 i h)
  root_enough (suc k) (suc m) i s t = go (root_enough k m (get_or labels i 0)) (lt_or_ge (get_or labels i 0) i)
    where
      go : let j = get_or labels i 0 in (j ≤ k → j ≤ m → root_from labels k j ≡ root_from labels m j) → (j < i) ⊎ (i ≤ j)
          → root_from labels (suc k) i ≡ root_from labels (suc m) i
      go rest (inl h) = root_step k i h ∙ rest (omega arith) (omega arith) ∙ sym (root_step m i h)
      go rest (inr h) = root_end (suc k) i h ∙ sym (root_end (suc m) i h)

  pub root_turn : (i : ℕ) → get_or labels i 0 < i → root_from labels (get_or labels i 0) (get_or labels i 0)
      ≡ root_from labels i i
  root_turn zero h = absurd (omega arith)
  root_turn (suc i) h = let j = get_or labels (suc i) 0 in
      root_enough j i j (omega arith) (omega arith) ∙ sym (root_step i (suc i) h)

-- r is the root of row i
pub record Root (arcs : List Arc) (nodes : List ℤ) (labels : List ℕ) (i r : ℕ) : Type 0 where
  pub below : r ≤ i
  pub self : get_or labels r 0 ≡ r
  pub lowest : piece_at arcs nodes i ≡ (node_at nodes r).number

module _ {arcs : List Arc} {nodes : List ℤ} {n : ℕ} {labels : List ℕ} (g : Leading arcs nodes n labels) where
  stays : (k i : ℕ) → i < n → i ≤ get_or labels i 0 → Root arcs nodes labels i (root_from labels k i)
  stays k i t h =
      let e : get_or labels i 0 ≡ i = omega (arith, g.falls i t) in
      rw (root_end labels k i h) (record { below = omega arith; self = e; lowest = g.ends i t e })

  root_from_lem : (k i : ℕ) → i ≤ k → i < n → Root arcs nodes labels i (root_from labels k i)
  root_from_lem zero i s t = stays 0 i t (omega arith)
  root_from_lem (suc k) i s t = go (root_from_lem k (get_or labels i 0)) (lt_or_ge (get_or labels i 0) i)
    where
      go : let j = get_or labels i 0 in (j ≤ k → j < n → Root arcs nodes labels j (root_from labels k j))
          → (j < i) ⊎ (i ≤ j) → Root arcs nodes labels i (root_from labels (suc k) i)
      go rest (inl h) =
          let w = rest (omega arith) (omega arith) in
          rw (root_step labels k i h) (record {
            below = omega (arith, w.below);
            self = w.self;
            lowest = sym (g.within i t) ∙ w.lowest;
          })
      go rest (inr h) = stays (suc k) i t h

  pub root_is : (i : ℕ) → i < n → Root arcs nodes labels i (root_from labels i i)
  root_is i t = root_from_lem i i (omega arith) t
