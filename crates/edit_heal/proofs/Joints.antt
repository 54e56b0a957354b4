-- The joint of two edges, and the two directed edges that are joined there, by position. Assumes nothing.
use mathlib.Core.Path.{◌≡◌, refl, sym, ap, ◌∙◌}
use mathlib.Core.Logic.{◌⊎◌, inl, inr}
use mathlib.Core.Bool.{Bool, true, false, cond, ◌&&◌, ◌||◌, false≢true, true≢false}
use mathlib.Core.List.{List, [], ◌∷◌}
use mathlib.Core.Option
use mathlib.Core.Option.{Option, some}
use Prim.Native.Nat.{ℕ, ◌+◌, ◌*◌, ◌<◌}
use native.Mathlib.Omega.{arith}
use lib.IntN.{ℤ, pos}
use lib.ListN.{get_or}
use Rattle.lists.specs.Tests.{same}
use Rattle.lists.specs.Scans.{keep, find, is_some}
use Rattle.lists.proofs.Bools.{which, same_refl, same_true, not-true, cond_has}
use Rattle.curves.proofs.Runs.{and_left, and_right}
use Rattle.planar_maps.specs.Map.{Dart, fwd, bwd}
use Rattle.map.specs.Limits.{edge_width}
use Rattle.map.specs.Rows.{Edge, Map, edge}
use Rattle.map.specs.Darts.{leaves, arrives, edge_ends}
use Rattle.map.specs.Edits.{shared_nodes, joint, parts}
use Rattle.tables.specs.Tables.{same_z}
use Rattle.map_rows.specs.Rows.{edge_at, edge_map, EdgeRows}
use Rattle.tables.proofs.Order.{same-pos}
use Rattle.darts.specs.Positions.{dart_at}
use Rattle.darts.proofs.Positions.{dart_even, dart_odd, edge_of}
use Rattle.reason_departures.specs.Turning.{joins_at}
use Rattle.reason_departures.proofs.Ends.{start_cell, end-cell}
use Rattle.edit_heal.specs.Heals.{dart_leaving, dart_arriving, PartsOf}

-- ---- the first of two nodes that both tests take

module _ (s t : ℕ → Bool) (x y : ℕ) where
  first_taken : s x && t x ≡ true → find t (keep s (x ∷ y ∷ [])) ≡ some x
  first_taken e = rw (and_left (s x) (t x) e, and_right (s x) (t x) e)

  -- else the second, which both take
  second_taken : s x && t x ≡ false → is_some (find t (keep s (x ∷ y ∷ []))) ≡ true
      → (find t (keep s (x ∷ y ∷ [])) ≡ some y) × (s y && t y ≡ true)
  second_taken e h = go (s x) refl (s y) refl (t x) refl (t y) refl
    where
      go : (a : Bool) → s x ≡ a → (b : Bool) → s y ≡ b → (c : Bool) → t x ≡ c → (d : Bool) → t y ≡ d
          → (find t (keep s (x ∷ y ∷ [])) ≡ some y) × (s y && t y ≡ true)
      go true p b q true r d u = absurd (true≢false (rw (p, r) at e))
      go true p true q false r true u = (rw (p, q, r, u), rw (q, u))
      go true p true q false r false u = absurd (false≢true (rw (p, q, r, u) at h))
      go true p false q false r d u = absurd (false≢true (rw (p, q, r) at h))
      go false p true q c r true u = (rw (p, q, u), rw (q, u))
      go false p true q c r false u = absurd (false≢true (rw (p, q, u) at h))
      go false p false q c r d u = absurd (false≢true (rw (p, q) at h))

-- ---- the joint is the first edge's end, else its start

module _ (m : Map) (a b : ℕ) where
  joint-end : joins_at m b (edge m a).end ≡ true → joint m a b ≡ some (edge m a).end
  unfolding joint shared_nodes
  joint-end e = first_taken (λ n. same n (edge m b).start || same n (edge m b).end) (λ n. same (edge_ends m n) 2)
      (edge m a).end (edge m a).start e

  joint_start : joins_at m b (edge m a).end ≡ false → is_some (joint m a b) ≡ true
      → (joint m a b ≡ some (edge m a).start) × (joins_at m b (edge m a).start ≡ true)
  unfolding joint shared_nodes
  joint_start e h =
      second_taken (λ n. same n (edge m b).start || same n (edge m b).end) (λ n. same (edge_ends m n) 2)
      (edge m a).end (edge m a).start e h

  parts-end : joint m a b ≡ some (edge m a).end → parts m a b
      ≡ (fwd a, cond (same (leaves m (fwd b)) (edge m a).end) (fwd b) (bwd b))
  unfolding parts
  parts-end e = rw (e, same_refl (edge m a).end)

  parts_start : joint m a b ≡ some (edge m a).start → same (edge m a).start (edge m a).end ≡ false → parts m a b
      ≡ (cond (same (arrives m (fwd b)) (edge m a).start) (fwd b) (bwd b), fwd a)
  unfolding parts
  parts_start e d = rw (e, d)

  -- the start, where the first edge is not joined at its end, is another node
  apart : joins_at m b (edge m a).end ≡ false → joins_at m b (edge m a).start ≡ true
      → same (edge m a).start (edge m a).end ≡ false
  apart e h = not-true (same (edge m a).start (edge m a).end)
      (λ q. true≢false (sym h ∙ ap (joins_at m b) (same_true (edge m a).start (edge m a).end q) ∙ e))

-- ---- by position

module _ {l : List ℤ} {n : ℕ} (t : EdgeRows l n) (i j : ℕ) (hi : i < n) (hj : j < n) where
  abbrev m : Map
  m = edge_map l n

  abbrev a : ℕ
  a = (edge_at l i).number

  abbrev b : ℕ
  b = (edge_at l j).number

  -- one of the two directed edges of row j
  either : (x : Bool) → dart_at l (cond x (j * 2) (j * 2 + 1)) ≡ cond x (fwd b) (bwd b)
  either true = dart_even l j
  either false = dart_odd l j

  either_below : (x : Bool) → cond x (j * 2) (j * 2 + 1) < n * 2
  either_below x = cond_has (λ (p : ℕ). p < n * 2) x (omega arith) (omega arith)

  leaving_is : (k : ℕ) → dart_at l (dart_leaving l j (pos k)) ≡ cond (same (leaves m (fwd b)) k) (fwd b) (bwd b)
  unfolding leaves
  leaving_is k = ap (λ (z : ℤ). dart_at l (cond (same_z z (pos k)) (j * 2) (j * 2 + 1))) (start_cell t j hj)
      ∙ ap (λ (x : Bool). dart_at l (cond x (j * 2) (j * 2 + 1))) (same-pos (edge m b).start k)
      ∙ either (same (edge m b).start k)

  arriving_is : (k : ℕ) → dart_at l (dart_arriving l j (pos k)) ≡ cond (same (arrives m (fwd b)) k) (fwd b) (bwd b)
  unfolding leaves
  arriving_is k = ap (λ (z : ℤ). dart_at l (cond (same_z z (pos k)) (j * 2) (j * 2 + 1))) (end-cell t j hj)
      ∙ ap (λ (x : Bool). dart_at l (cond x (j * 2) (j * 2 + 1))) (same-pos (edge m b).end k)
      ∙ either (same (edge m b).end k)

  pub parts-at_end : (v : ℤ) → v ≡ get_or l (i * edge_width + 2) (pos 0) → joins_at m b (edge m a).end ≡ true
      → PartsOf l n i j (record { first = i * 2; second = dart_leaving l j v; joint = v })
  parts-at_end v ev e =
      let z : v ≡ pos (edge m a).end = ev ∙ end-cell t i hi in
      let q = joint-end m a b e in
      record {
        first_below = omega arith;
        second_below = either_below (same_z (get_or l (j * edge_width + 1) (pos 0)) v);
        first = dart_even l i ∙ sym (ap (λ (x : Dart × Dart). x.0) (parts-end m a b q));
        second = ap (λ (x : ℤ). dart_at l (dart_leaving l j x)) z ∙ leaving_is (edge m a).end
            ∙ sym (ap (λ (x : Dart × Dart). x.1) (parts-end m a b q));
        joint = z ∙ sym (ap (λ (x : Option ℕ). pos (Option.get_or x 0)) q);
      }

  pub parts_at_start : (u : ℤ) → u ≡ get_or l (i * edge_width + 1) (pos 0) → joins_at m b (edge m a).end ≡ false
      → is_some (joint m a b) ≡ true → PartsOf l n i j (record { first = dart_arriving l j u; second = i * 2; joint = u })
  parts_at_start u eu e h =
      let z : u ≡ pos (edge m a).start = eu ∙ start_cell t i hi in
      let q = joint_start m a b e h in
      let p = parts_start m a b q.0 (apart m a b e q.1) in
      record {
        first_below = either_below (same_z (get_or l (j * edge_width + 2) (pos 0)) u);
        second_below = omega arith;
        first = ap (λ (x : ℤ). dart_at l (dart_arriving l j x)) z ∙ arriving_is (edge m a).start
            ∙ sym (ap (λ (x : Dart × Dart). x.0) p);
        second = dart_even l i ∙ sym (ap (λ (x : Dart × Dart). x.1) p);
        joint = z ∙ sym (ap (λ (x : Option ℕ). pos (Option.get_or x 0)) q.0);
      }

  -- it is one of the two nodes of the first edge
  pub joint_is : is_some (joint m a b) ≡ true → (joint m a b ≡ some (edge_at l i).end)
      ⊎ (joint m a b ≡ some (edge_at l i).start)
  joint_is h =
      elim (which (joins_at m b (edge m a).end)) [
        | inl e ↦ inl (joint-end m a b e ∙ ap (λ (r : Edge). some r.end) (edge_of t i hi))
        | inr e ↦ inr ((joint_start m a b e h).0 ∙ ap (λ (r : Edge). some r.start) (edge_of t i hi))
      ]
