-- An edge put in at two corners of one face: where both its sides lie on one ring, its ends were not connected. Assumes
-- nothing.
use mathlib.Core.Path.{◌≡◌, refl, sym, ap, ◌∙◌, subst}
use mathlib.Core.Logic.{◌⊎◌, inl, inr}
use mathlib.Core.Bool.{Bool, true, true≢false}
use mathlib.Core.List.Memᴰ
use mathlib.Core.List.{List, [], ◌∷◌, Memᴰ}
use Prim.Native.Nat.{ℕ, zero, suc, ◌≤◌, ◌<◌}
use native.Mathlib.Omega.{arith}
use Rattle.lists.specs.Tests.{iterate}
use Rattle.lists.specs.Members.{Distinct}
use Rattle.lists.proofs.Bools.{which}
use Rattle.lists.proofs.Perms.{injective_of_perm}
use Rattle.planar_maps.specs.Map.{Arc, Dart, fwd, bwd, rev, darts, Linked, Colouring}
use Rattle.planar_maps.specs.Pieces.{Chain, stay, along, against, nums, Isolated}
use Rattle.planar_maps.specs.Rings.{Leads, OneTurn}
use Rattle.planar_maps.specs.Weave.{exchange, hook, Corner, alone, after, tie, CornerFits}
use Rattle.planar_maps.proofs.Cycles.{fwd_in, bwd_in, each_dart}
use Rattle.planar_maps.proofs.Leads.{leads_keep}
use Rattle.planar_maps.proofs.Chains.{chain_join, chain_back, isolated_chain}
use Rattle.planar_maps.proofs.Rings.{rev_in, next_in_lem, ring, rings_unconnected}
use Rattle.planar_maps.proofs.Hooks.{sameDart?, fwd≢bwd, fresh_dart, distinct_darts, exchange-left}
use Rattle.planar_maps.proofs.Hooks.{exchange_right, exchange_other}
use Rattle.planar_maps.proofs.Turns.{rev-rev}

leads? : {es : List Arc} {tail : Dart → ℕ} {next : Dart → Dart} {face : Dart → ℕ} → Linked es tail next face
    → (c d : Dart) → Memᴰ c (darts es) → Leads next c d ⊎ (Leads next c d → ⊥)
leads? {es} {next = next} l c d m = elim
    (which (r.0 d)) [
      | inl e ↦ inl (r.3 d e)
      | inr e ↦ inr
          (λ p. true≢false (sym (leads_keep (λ x. r.0 x ≡ true) next r.2 r.1 p) ∙ e))
    ]
  where
    r : (g : Dart → Bool) × (g c ≡ true) × ((d : Dart) → g d ≡ true → g (next d) ≡ true)
        × ((d : Dart) → g d ≡ true → Leads next c d)
    r = ring next (darts es) (λ d m. next_in_lem l m) c m

dart_chain : {es : List Arc} {tail : Dart → ℕ} {next : Dart → Dart} {face : Dart → ℕ} → Linked es tail next face
    → {d : Dart} → Memᴰ d (darts es) → Chain es (tail d) (tail (rev d))
dart_chain {es} {tail} l {d} m = each_dart (λ d. Chain es (tail d) (tail (rev d))) es
    (λ a k. rw (l.starts a k, l.ends a k) (along a k stay))
    (λ a k. rw (l.starts a k, l.ends a k) (against a k stay)) d m

iterate-front : (f : Dart → Dart) (k : ℕ) (d : Dart) → iterate (suc k) f d ≡ iterate k f (f d)
iterate-front f zero d = refl
iterate-front f (suc k) d = ap f (iterate-front f k d)

-- ---- a walk along f that comes to p, and never to p'

module _ (f : Dart → Dart) (p p' : Dart) where
  data Run : Dart → List Dart → Type 0 where
    stop : {z : Dart} → z ≡ p → Run z (z ∷ [])
    go : {z : Dart} {R : List Dart} → ((z ≡ p) → ⊥) → ((z ≡ p') → ⊥) → Run (f z) R → Run z (z ∷ R)

  run_head : {z : Dart} {R : List Dart} → Run z R → Memᴰ z R
  run_head (stop e) = Memᴰ.head refl
  run_head (go n k r) = Memᴰ.head refl

  run_in : {ds : List Dart} → ((d : Dart) → Memᴰ d ds → Memᴰ (f d) ds) → {z : Dart} {R : List Dart} → Run z R
      → Memᴰ z ds → (d : Dart) → Memᴰ d R → Memᴰ d ds
  run_in into (stop e) m d k = Memᴰ.cast (Memᴰ.eq_of_singleton k) m
  run_in into (go {z = z} n k r) m d i =
      elim (Memᴰ.cases_cons i) [ inl e ↦ Memᴰ.cast e m | inr j ↦ run_in into r (into z m) d j ]

  -- it goes on along the run, or is at its end
  run-next : {z : Dart} {R : List Dart} → Run z R → (d : Dart) → Memᴰ d R → (d ≡ p)
      ⊎ (((d ≡ p) → ⊥) × ((d ≡ p') → ⊥) × Memᴰ (f d) R)
  run-next (stop e) d k = inl (Memᴰ.eq_of_singleton k ∙ e)
  run-next (go {z = z} {R = R} n k r) d i = step (run-next r d) (Memᴰ.cases_cons i)
    where
      step : (Memᴰ d R → (d ≡ p) ⊎ (((d ≡ p) → ⊥) × ((d ≡ p') → ⊥) × Memᴰ (f d) R)) → (d ≡ z) ⊎ Memᴰ d R
          → (d ≡ p) ⊎ (((d ≡ p) → ⊥) × ((d ≡ p') → ⊥) × Memᴰ (f d) (z ∷ R))
      step ih (inl e) = inr (λ q. n (sym e ∙ q), λ q. k (sym e ∙ q), Memᴰ.tail (Memᴰ.cast (ap f e) (run_head r)))
      step ih (inr j) = elim (ih j) [ inl q ↦ inl q | inr q ↦ inr (q.0, q.1, Memᴰ.tail q.2) ]

  Found : Dart → Type 0
  Found z = (R : List Dart) × Run z R

  -- from z the walk comes to p first, or to p' first and then by fewer steps to p
  first : (j : ℕ) (z : Dart) → iterate j f z ≡ p → Found z ⊎ ((i : ℕ) × (i < j) × (iterate i f (f p') ≡ p))
  unfolding Found
  first zero z e = inl (z ∷ [], stop e)
  first (suc j) z e = step (first j (f z) (sym (iterate-front f j z) ∙ e)) (sameDart? z p) (sameDart? z p')
    where
      step : Found (f z) ⊎ ((i : ℕ) × (i < j) × (iterate i f (f p') ≡ p)) → (z ≡ p) ⊎ ((z ≡ p) → ⊥) → (z ≡ p')
          ⊎ ((z ≡ p') → ⊥) → Found z ⊎ ((i : ℕ) × (i < suc j) × (iterate i f (f p') ≡ p))
      step r (inl a) b = inl (z ∷ [], stop a)
      step r (inr a) (inl b) = inr (
        j,
        omega arith,
        subst (λ x. iterate j f (f x) ≡ p) b (sym (iterate-front f j z) ∙ e),
      )
      step r (inr a) (inr b) = elim r [
        | inl q ↦ inl (z ∷ q.0, go a b q.1)
        | inr q ↦ inr
            (q.0, omega (arith, q.1), q.2)
      ]

  found : (n j : ℕ) → j ≤ n → iterate j f (f p') ≡ p → (R : List Dart) × Run (f p') R
  unfolding Found
  found zero j le e = elim (first j (f p') e) [ inl r ↦ r | inr r ↦ absurd (omega (arith, r.1)) ]
  found (suc n) j le e = step (first j (f p') e) (found n)
    where
      step : Found (f p') ⊎ ((i : ℕ) × (i < j) × (iterate i f (f p') ≡ p))
          → ((j : ℕ) → j ≤ n → iterate j f (f p') ≡ p → Found (f p')) → Found (f p')
      step (inl r) ih = r
      step (inr r) ih = ih r.0 (omega (arith, r.1)) r.2

-- ---- the edge a is put in; N already takes each of its ways to the other

module _ (a : Arc) (es : List Arc) (tail : Dart → ℕ) (N : Dart → Dart) (face : Dart → ℕ) (φ : ℕ)
    (l : Linked es tail N face) (P : Colouring es face) (one : OneTurn es tail N) (dis : Distinct (nums (a ∷ es)))
    (nf : N (fwd a.num) ≡ bwd a.num) (nb : N (bwd a.num) ≡ fwd a.num)
    (ts : tail (fwd a.num) ≡ a.from) where
  f₀ : Dart
  f₀ = fwd a.num

  b₀ : Dart
  b₀ = bwd a.num

  not_f : {d : Dart} → Memᴰ d (darts es) → (f₀ ≡ d) → ⊥
  unfolding f₀
  not_f m e = fresh_dart a es dis.0 m (ap (λ (d : Dart). d.edge) (sym e))

  not_b : {d : Dart} → Memᴰ d (darts es) → (b₀ ≡ d) → ⊥
  unfolding b₀
  not_b m e = fresh_dart a es dis.0 m (ap (λ (d : Dart). d.edge) (sym e))

  fixed_start : (N' : Dart → Dart) → N' f₀ ≡ f₀ → Leads N' f₀ b₀ → ⊥
  unfolding f₀ b₀
  fixed_start N' e r = fwd≢bwd (sym (leads_keep (λ d. d ≡ f₀) N' (λ d q. ap N' q ∙ e) refl r))

  fixed_end : (N' : Dart → Dart) → Linked (a ∷ es) tail N' face → N' b₀ ≡ b₀ → Leads N' f₀ b₀ → ⊥
  unfolding f₀ b₀
  fixed_end N' l' e r = (leads_keep (λ d. Memᴰ d (darts (a ∷ es)) × ((d ≡ b₀) → ⊥)) N' kept
      (Memᴰ.head refl, λ q. fwd≢bwd q) r).1 refl
    where
      kept : (d : Dart) → Memᴰ d (darts (a ∷ es)) × ((d ≡ b₀) → ⊥) → Memᴰ (N' d) (darts (a ∷ es))
          × ((N' d ≡ b₀) → ⊥)
      kept d q = (
        next_in_lem l' q.0,
        λ p. q.1
            (injective_of_perm N' (darts (a ∷ es)) (distinct_darts (a ∷ es) dis) l'.perm d b₀ q.0
            (Memᴰ.tail (Memᴰ.head refl)) (p ∙ sym e)),
      )

  isolated : {n : ℕ} → ((d : Dart) → Memᴰ d (darts es) → tail d ≡ n → ⊥) → Isolated n es
  isolated none = record {
    starts = λ b m p. none (fwd b.num) (fwd_in m) (l.starts b m ∙ p);
    ends = λ b m p. none (bwd b.num) (bwd_in m) (l.ends b m ∙ p);
  }

  back_in : {p : Dart} → Memᴰ (rev p) (darts es) → Memᴰ p (darts es)
  back_in {p} m = Memᴰ.cast (sym (rev-rev p)) (rev_in es m)

  two_corners : (p p' : Dart) → Memᴰ p (darts es) → Memᴰ p' (darts es) → ((p ≡ p') → ⊥) → tail (rev p)
      ≡ a.from → tail (rev p') ≡ a.to → face p ≡ face p'
      → Leads (hook p' f₀ (hook p b₀ N)) f₀ b₀ → Chain es a.from a.to → ⊥
  unfolding f₀ b₀
  two_corners p p' m m' ne at at' f r c = elim (leads? l (N p') p (next_in_lem l m')) [
    | inl q ↦ closed (found N p p' q.0 q.0 (omega arith) q.1)
    | inr q ↦ rings_unconnected l P one (next_in_lem l m') m (l.keeps p' m' ∙ sym f) q
        (subst (λ x. Chain es x (tail p)) (sym (l.meets p' m' ∙ at'))
        (chain_join (chain_back c) (subst (λ x. Chain es x (tail p)) at (chain_back (dart_chain l m)))))
  ]
    where
      N' : Dart → Dart
      N' = hook p' f₀ (hook p b₀ N)

      at_p : N' p ≡ f₀
      at_p = ap (hook p b₀ N) (exchange_other p' f₀ p ne (λ e. not_f m (sym e))) ∙ ap N (exchange-left p b₀) ∙ nb

      at_f : N' f₀ ≡ N p'
      at_f = ap (hook p b₀ N) (exchange_right p' f₀)
          ∙ ap N (exchange_other p b₀ p' (λ e. ne (sym e)) (λ e. not_b m' (sym e)))

      at_z : (z : Dart) → Memᴰ z (darts es) → ((z ≡ p) → ⊥) → ((z ≡ p') → ⊥) → N' z ≡ N z
      at_z z k n n' = ap (hook p b₀ N) (exchange_other p' f₀ z n' (λ e. not_f k (sym e)))
          ∙ ap N (exchange_other p b₀ z n (λ e. not_b k (sym e)))

      closed : (R : List Dart) × Run N p p' (N p') R → ⊥
      closed s = elim (leads_keep G N' kept (inr refl) r) [ inl k ↦ not_b (inside b₀ k) refl | inr e ↦ fwd≢bwd (sym e) ]
        where
          G : Dart → Type 0
          G d = Memᴰ d s.0 ⊎ (d ≡ f₀)

          inside : (d : Dart) → Memᴰ d s.0 → Memᴰ d (darts es)
          inside = run_in N p p' (λ d m. next_in_lem l m) s.1 (next_in_lem l m')

          kept : (d : Dart) → G d → G (N' d)
          kept d (inr e) = inl (Memᴰ.cast (ap N' e ∙ at_f) (run_head N p p' s.1))
          kept d (inl k) = elim (run-next N p p' s.1 d k) [
            | inl e ↦ inr (ap N' e ∙ at_p)
            | inr q ↦ inl
                (Memᴰ.cast (at_z d (inside d k) q.0 q.1) q.2)
          ]

  pub join_apart : (k k' : Corner) → CornerFits (darts es) tail face a.from φ k
      → CornerFits (fwd a.num ∷ darts es) tail face a.to φ k'
      → Linked (a ∷ es) tail (tie k' (fwd a.num) (tie k (bwd a.num) N)) face
      → Leads (tie k' (fwd a.num) (tie k (bwd a.num) N)) (fwd a.num) (bwd a.num)
      → Chain es a.from a.to → ⊥
  unfolding f₀ b₀
  join_apart alone alone fits fits' l' r c =
      fits' f₀ (Memᴰ.head refl) (ts ∙ sym (isolated_chain (isolated fits) c))
  join_apart alone (after p') fits fits' l' r c = elim (Memᴰ.cases_cons fits'.0) [
    | inl e ↦ fixed_start (hook p' f₀ N) (ap N (exchange_right p' f₀ ∙ sym (rev-rev p') ∙ ap rev e) ∙ nb) r
    | inr m ↦ fits (rev p') m (fits'.1 ∙ isolated_chain (isolated fits) c)
  ]
  join_apart (after p) alone fits fits' l' r c =
      fits' f₀ (Memᴰ.head refl) (ts ∙ isolated_chain (isolated (λ d m. fits' d (Memᴰ.tail m))) (chain_back c))
  join_apart (after p) (after p') fits fits' l' r c = elim (Memᴰ.cases_cons fits'.0) [
    | inl e ↦ fixed_end (hook p' f₀ (hook p b₀ N)) l' (loop (sym (rev-rev p') ∙ ap rev e)) r
    | inr m' ↦ elim (sameDart? p p') [
      | inl e ↦ fixed_start (hook p' f₀ (hook p b₀ N))
          (ap (hook p b₀ N) (exchange_right p' f₀ ∙ sym e) ∙ ap N (exchange-left p b₀) ∙ nb) r
      | inr ne ↦ two_corners p p' (back_in fits.0) (back_in m') ne fits.1 fits'.1
          (fits.2 ∙ sym fits'.2) r c
    ]
  ]
    where
      loop : p' ≡ b₀ → hook p' f₀ (hook p b₀ N) b₀ ≡ b₀
      loop e = ap (λ x. hook p b₀ N (exchange p' f₀ x)) (sym e) ∙ ap (hook p b₀ N) (exchange-left p' f₀)
          ∙ ap N (exchange_other p b₀ f₀ (not_f (back_in fits.0)) fwd≢bwd) ∙ nf
