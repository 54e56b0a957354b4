-- Cut, join and reverse of the curve through f i, f (i + 1), .. in terms of places. Assumes nothing.
use Rattle.std.specs.Prelude.{Some, None}
use mathlib.Core.Path.{◌≡◌, refl, sym, ap, ◌∙◌, subst}
use mathlib.Core.Logic.{◌⊎◌, inl, inr}
use mathlib.Core.Bool.{Bool, true, false}
use mathlib.Core.List.{List, [], ◌∷◌, ◌++◌, append_assoc, append-nil}
use Prim.Native.Nat.{ℕ, zero, suc, ◌+◌, ◌-◌, ◌≤◌, ◌<◌}
use native.Mathlib.Nat.{add-zero}
use native.Mathlib.Omega.{arith}
use Rattle.lists.specs.Tables.{table, place}
use Rattle.lists.proofs.Bools.{which}
use Rattle.lists.proofs.Scans.{table_last}
use Rattle.plane.specs.declared.Point.{Point}
use Rattle.plane.specs.Points.{same_point}
use Rattle.plane.specs.Segments.{on_segment}
use Rattle.plane.proofs.Laws.{same_point-true}
use Rattle.curves.specs.Curves.{last_of, segments_of}
use Rattle.curves.specs.Edits.{Halves, cut, cut_here, join, join_here, dropped, turned}
use Rattle.curves.proofs.Turns.{on}

-- the points from one place up to another, and one more
pub points_more : (f : ℕ → Point) (from i : ℕ) (ps : List Point) {p : Point} → from ≤ i → p ≡ f i
    → ps ++ table f from (i - from) ++ p ∷ [] ≡ ps ++ table f from (i + 1 - from)
points_more f from i ps {p} h e =
    let n : i + 1 - from ≡ suc (i - from) = omega arith in
    let k : from + (i - from) ≡ i = omega arith in
    append_assoc ps (table f from (i - from)) (p ∷ [])
    ∙ ap (λ q. ps ++ (table f from (i - from) ++ q ∷ [])) (e ∙ ap f (sym k))
    ∙ ap (λ l. ps ++ l) (sym (table_last f from (i - from)) ∙ ap (table f from) (sym n))

pub points_none : (f : ℕ → Point) (from : ℕ) (ps : List Point) → ps ++ table f from (from - from) ≡ ps
points_none f from ps = let e : from - from ≡ 0 = omega arith in rw e (append-nil ps)

module _ (f : ℕ → Point) where
  -- ---- reversed

  pub turned-table : (k i : ℕ) → last_of (f i) (table f (i + 1) k) ∷ turned (f i) (table f (i + 1) k)
      ≡ table (λ j. f (i + k - j)) 0 (suc k)
  turned-table zero i = let e : i ≡ i + 0 - 0 = omega arith in ap (λ n. f n ∷ []) e
  turned-table (suc k) i =
      let e : i + 1 + k ≡ i + suc k = omega arith in
      let g : i ≡ i + suc k - (0 + suc k) = omega arith in
      ap (λ l. l ++ f i ∷ []) (turned-table k (i + 1))
      ∙ ap (λ n. table (λ j. f (n - j)) 0 (suc k) ++ f i ∷ []) e
      ∙ ap (λ n. table (λ j. f (i + suc k - j)) 0 (suc k) ++ f n ∷ []) g
      ∙ sym (table_last (λ j. f (i + suc k - j)) 0 (suc k))

  -- ---- joined

  pub join-table : (s : List Point) (k i : ℕ)
      → join (f i) (table f (i + 1) (suc k)) s ≡ table f (i + 1) k
      ++ join_here (dropped (f (i + k)) (f (i + k + 1)) s) (f (i + k + 1)) s
  join-table s zero i = rw (add-zero i)
  join-table s (suc k) i =
      let e : i + 1 + k ≡ i + suc k = omega arith in
      ap (λ l. f (i + 1) ∷ l)
      (join-table s k (i + 1) ∙ ap (λ n. table f (i + 1 + 1) k
      ++ join_here (dropped (f n) (f (n + 1)) s) (f (n + 1)) s) e)

  -- ---- cut

  module _ (m : Point) where
    -- what a cut of f i, .. f (i + k) at m gives where its first place is segment j
    pub record Found_at (i k j : ℕ) : Type 0 where
      pub low : i ≤ j
      pub high : j < i + k
      pub front : (cut m (f i) (table f (i + 1) k)).front ≡ table f (i + 1) (j - i) ++ m ∷ []
      pub back_at : same_point m (f (j + 1)) ≡ true → (cut m (f i) (table f (i + 1) k)).back
          ≡ table f (j + 2) (i + k - (j + 1))
      pub back_in : same_point m (f (j + 1)) ≡ false → (cut m (f i) (table f (i + 1) k)).back
          ≡ table f (j + 1) (i + k - j)

    at_vertex : (t : Bool) (b : Point) (r : List Point) (h : Halves) → same_point m b ≡ t
        → (cut_here true t m b r h).front ≡ m ∷ []
    at_vertex true b r h e = ap (λ q. q ∷ []) (sym (same_point-true m b e))
    at_vertex false b r h e = refl

    pub cut_found_lem : (k i j : ℕ) → place (on m) i (segments_of (f i) (table f (i + 1) k)) ≡ Some j → Found_at i k j
    cut_found_lem zero i j e = let z : ◌≡◌ {A = ℕ} 0 1 = cc in absurd (omega arith)
    cut_found_lem (suc k) i j e = pick (which (on_segment m (f i) (f (i + 1)))) (λ q. cut_found_lem k (i + 1) j q)
      where
        here : on_segment m (f i) (f (i + 1)) ≡ true → Found_at i (suc k) i
        here q =
            let none : i - i ≡ 0 = omega arith in
            let two : i + 1 + 1 ≡ i + 2 = omega arith in
            let left : i + suc k - (i + 1) ≡ k = omega arith in
            let left' : i + suc k - i ≡ suc k = omega arith in
            record {
              low = omega arith;
              high = omega arith;
              front = rw (none, q) (at_vertex (same_point m (f (i + 1))) (f (i + 1)) (table f (i + 1 + 1) k)
                  (cut m (f (i + 1)) (table f (i + 1 + 1) k)) refl);
              back_at = λ t. rw (q, t, left, two);
              back_in = λ t. rw (q, t, left');
            }

        there : on_segment m (f i) (f (i + 1)) ≡ false → Found_at (i + 1) k j → Found_at i (suc k) j
        there q r =
            let one : j - i ≡ suc (j - (i + 1)) = omega (arith, r.low) in
            let same_end : i + 1 + k ≡ i + suc k = omega arith in
            record {
              low = omega (arith, r.low);
              high = omega (arith, r.high);
              front = rw (one, q) (ap (λ l. f (i + 1) ∷ l) r.front);
              back_at = λ t. rw q (r.back_at t ∙ ap (λ n. table f (j + 2) (n - (j + 1))) same_end);
              back_in = λ t. rw q (r.back_in t ∙ ap (λ n. table f (j + 1) (n - j)) same_end);
            }

        pick : (on_segment m (f i) (f (i + 1)) ≡ true) ⊎ (on_segment m (f i) (f (i + 1)) ≡ false)
            → (place (on m) (i + 1) (segments_of (f (i + 1)) (table f (i + 1 + 1) k)) ≡ Some j → Found_at (i + 1) k j)
            → Found_at i (suc k) j
        pick (inl q) rest =
            let g : Some i ≡ Some j = rw q at e in
            let h : i ≡ j = cc in
            subst (Found_at i (suc k)) h (here q)
        pick (inr q) rest = there q (rest (rw q at e))

    -- a curve that does not pass through m
    pub cut_missing : (k i : ℕ) → place (on m) i (segments_of (f i) (table f (i + 1) k)) ≡ None
        → cut m (f i) (table f (i + 1) k) ≡ record { front = table f (i + 1) k; back = [] }
    cut_missing zero i e = refl
    cut_missing (suc k) i e = pick (which (on_segment m (f i) (f (i + 1)))) (λ q. cut_missing k (i + 1) q)
      where
        pick : (on_segment m (f i) (f (i + 1)) ≡ true) ⊎ (on_segment m (f i) (f (i + 1)) ≡ false)
            → (place (on m) (i + 1) (segments_of (f (i + 1)) (table f (i + 1 + 1) k)) ≡ None
            → cut m (f (i + 1)) (table f (i + 1 + 1) k) ≡ record { front = table f (i + 1 + 1) k; back = [] })
            → cut m (f i) (table f (i + 1) (suc k)) ≡ record { front = table f (i + 1) (suc k); back = [] }
        pick (inl q) rest =
            let g : Some i ≡ None = rw q at e in
            let z : ◌≡◌ {A = ℕ} 0 1 = cc in
            absurd (omega arith)
        pick (inr q) rest = rw q (ap (λ (h : Halves). record { front = f (i + 1) ∷ h.front; back = h.back })
            (rest (rw q at e)))
