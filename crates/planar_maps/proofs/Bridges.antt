-- An edge whose ends nothing else connects, and an edge with one face on both sides. Assumes nothing.
use mathlib.Core.Path.{◌≡◌, refl, sym, ap, ap₂, ◌∙◌}
use mathlib.Core.Logic.{◌⊎◌, inl, inr}
use mathlib.Core.Bool.{Bool, true, false, not, ◌&&◌, true≢false}
use mathlib.Core.List.Memᴰ
use mathlib.Core.List.{List, [], ◌∷◌, Memᴰ}
use Prim.Native.Nat.{ℕ}
use Rattle.lists.specs.Tests.{◌⊕◌, same}
use Rattle.lists.specs.Scans.{odd_count}
use Rattle.lists.specs.Members.{Distinct}
use Rattle.lists.proofs.Bools.{eq1, eq3, ⊕-self, ⊕-false, ⊕-equal, same_refl, same_false}
use Rattle.lists.proofs.Sums.{sum_cong, sum-⊕, sum-zero}
use Rattle.planar_maps.specs.Map.{Arc, Dart, fwd, bwd, darts, across, crossings, Cycle, Divides, Colouring}
use Rattle.planar_maps.specs.Map.{Linked}
use Rattle.planar_maps.specs.Pieces.{Chain, stay, along, against, label, nums}
use Rattle.planar_maps.proofs.Cycles.{fwd_in, bwd_in, rim, face_cycle, Grown, extend}
use Rattle.planar_maps.proofs.Chains.{label_of_chain, chain_of_label, connected?}

-- ---- L3: no cycle has an edge whose ends nothing else connects

bridge_out : (a : Arc) (es : List Arc) → (Chain es a.from a.to → ⊥) → (c : ℕ → Bool) → Cycle (a ∷ es) c
    → c a.num ≡ false
bridge_out a es apart c cycle = eq1 (λ x. x) (λ x. x && true ⊕ false) tt (c a.num)
    ∙ sym (ap₂ (λ x y. c a.num && x ⊕ y) here there) ∙ cycle X
  where
    X : ℕ → Bool
    X n = same (label es n) (label es a.from)

    here : across X a ≡ true
    here = rw (
      same_refl (label es a.from),
      same_false (label es a.to) (label es a.from) (λ e. apart (chain_of_label es a.from a.to (sym e))),
    )

    there : odd_count es (λ b. c b.num && across X b) ≡ false
    there = sum-zero es _ (λ b m. rw (label_of_chain (along b m stay), ⊕-self (X b.to))
        (eq1 (λ x. x && false) (λ x. false) tt (c b.num)))

pub bridge_keeps : {a : Arc} {es : List Arc} {old new : Dart → ℕ} {m : ℕ → ℕ} → Grown a es old new m → Colouring es old
    → (Chain es a.from a.to → ⊥) → Colouring (a ∷ es) new
bridge_keeps {a} {es} grown P apart c cycle = extend grown P c cycle (bridge_out a es apart c cycle)

-- L6: an edge between two faces has its ends connected without it
pub sides_connect : {a : Arc} {es : List Arc} {tail : Dart → ℕ} {next : Dart → Dart} {face : Dart → ℕ}
    → Linked (a ∷ es) tail next face → ((face (fwd a.num) ≡ face (bwd a.num)) → ⊥) → Chain es a.from a.to
sides_connect {a} {es} {face = face} l apart = elim (connected? es a.from a.to) [
  | inl p ↦ p
  | inr n ↦ absurd (true≢false (sym on ∙ bridge_out a es n δ (face_cycle l (λ f. same f L))))
]
  where
    L : ℕ
    L = face (fwd a.num)

    δ : ℕ → Bool
    δ = rim (λ d. same (face d) L)

    on : δ a.num ≡ true
    on = rw (same_refl L, same_false (face (bwd a.num)) L (λ p. apart (sym p)))

-- ---- an edge is removed

-- of the labels l and r, one or the other
abbrev pub Either : ℕ → ℕ → ℕ → Type 0
Either l r x = (x ≡ l) ⊎ (x ≡ r)

-- m sends a face that there is now to one before: the same, but that the two sides of the edge are one
pub record Shrunk (a : Arc) (es : List Arc) (old new : Dart → ℕ) (m : ℕ → ℕ) : Type 0 where
  pub others : (d : Dart) → Memᴰ d (darts es) → (m (new d) ≡ old d)
      ⊎ (Either (old (fwd a.num)) (old (bwd a.num)) (m (new d))
      × Either (old (fwd a.num)) (old (bwd a.num)) (old d))

abbrev pub Fresh : Arc → List Arc → Type 0
Fresh a es = Memᴰ a.num (nums es) → ⊥

fresh-same : (a : Arc) {b : Arc} {es : List Arc} → Fresh a es → Memᴰ b es → same b.num a.num ≡ false
fresh-same a {b} new m = same_false b.num a.num (λ e. new (Memᴰ.cast (sym e) (Memᴰ.map (λ a. a.num) m)))

either : {l r x : ℕ} (S : ℕ → Bool) → S l ≡ S r → Either l r x → S x ≡ S l
either S e (inl p) = ap S p
either S e (inr p) = ap S p ∙ sym e

pub shrunk_keeps : {a : Arc} {es : List Arc} {old new : Dart → ℕ} {m : ℕ → ℕ} → Shrunk a es old new m → Fresh a es
    → Colouring (a ∷ es) old → Colouring es new
shrunk_keeps {a} {es} {old} {new} {m} shrunk fresh P c cycle = (λ f. S (m f), divides)
  where
    c₀ : ℕ → Bool
    c₀ e = c e && not (same e a.num)

    kept : (b : Arc) → Memᴰ b es → c₀ b.num ≡ c b.num
    kept b k = rw (fresh-same a fresh k) (eq1 (λ x. x && true) (λ x. x) tt (c b.num))

    out : c₀ a.num ≡ false
    out = rw (same_refl a.num) (eq1 (λ x. x && false) (λ x. false) tt (c a.num))

    cycle₀ : Cycle (a ∷ es) c₀
    cycle₀ X = ap₂ (λ x y. x && across X a ⊕ y) out (sum_cong es _ _ (λ b k. ap (λ x. x && across X b) (kept b k)))
        ∙ cycle X

    S : ℕ → Bool
    S = (P c₀ cycle₀).0

    sides : S (old (fwd a.num)) ≡ S (old (bwd a.num))
    sides = ⊕-equal _ _ (sym ((P c₀ cycle₀).1 a (Memᴰ.head refl)) ∙ out)

    alike : (d : Dart) → Memᴰ d (darts es) → S (m (new d)) ≡ S (old d)
    alike d k = elim (shrunk.others d k) [
      | inl e ↦ ap S e
      | inr e ↦ either S sides e.0
          ∙ sym (either S sides e.1)
    ]

    divides : Divides es new c (λ f. S (m f))
    divides b k = sym (kept b k) ∙ (P c₀ cycle₀).1 b (Memᴰ.tail k)
        ∙ sym (ap₂ ◌⊕◌ (alike (fwd b.num) (fwd_in k)) (alike (bwd b.num) (bwd_in k)))

-- ---- L5: one face on both sides

sum_one : (es : List Arc) (a : Arc) (f : Arc → Bool) → Distinct (nums es) → Memᴰ a es
    → odd_count es (λ b. same b.num a.num && f b) ≡ f a
sum_one [] a f dis m = absurd (Memᴰ.not-nil m)
sum_one (b ∷ es) a f dis m = step (λ k. sum_one es a f dis.1 k) (Memᴰ.cases_cons m)
  where
    step : (Memᴰ a es → odd_count es (λ b. same b.num a.num && f b) ≡ f a) → (a ≡ b) ⊎ Memᴰ a es
        → odd_count (b ∷ es) (λ b. same b.num a.num && f b) ≡ f a
    step ih (inl e) = rw (
      e,
      same_refl b.num,
      sum-zero es (λ x. same x.num b.num && f x) (λ x k. rw (fresh-same b dis.0 k)),
    ) (⊕-false (f b))
    step ih (inr k) = rw (same_false b.num a.num (λ e. dis.0 (Memᴰ.cast e (Memᴰ.map (λ a. a.num) k)))) (ih k)

-- the edges of a chain, mod 2
trace : {es : List Arc} {x y : ℕ} → Chain es x y → ℕ → Bool
trace stay e = false
trace (along a m p) e = same e a.num ⊕ trace p e
trace (against a m p) e = same e a.num ⊕ trace p e

trace_step : (es : List Arc) (X : ℕ → Bool) (a : Arc) → Distinct (nums es) → Memᴰ a es → (c : ℕ → Bool)
    → crossings es (λ e. same e a.num ⊕ c e) X ≡ across X a ⊕ crossings es c X
trace_step es X a dis m c =
    sum_cong es _ _ (λ b k. eq3 (λ x y z. (x ⊕ y) && z) (λ x y z. x && z ⊕ (y && z)) tt (same b.num a.num)
    (c b.num) (across X b))
    ∙ sum-⊕ es (λ b. same b.num a.num && across X b) (λ b. c b.num && across X b)
    ∙ ap (λ s. s ⊕ crossings es c X) (sum_one es a (across X) dis m)

trace_crossings : {es : List Arc} {x y : ℕ} (X : ℕ → Bool) → Distinct (nums es) → (p : Chain es x y)
    → crossings es (trace p) X ≡ X x ⊕ X y
unfolding trace
trace_crossings {es} X dis (stay {n = n}) = sum-zero es _ (λ b m. refl) ∙ sym (⊕-self (X n))
trace_crossings {es} X dis (along {n = n} a m p) = trace_step es X a dis m (trace p)
    ∙ ap (λ s. across X a ⊕ s) (trace_crossings X dis p)
    ∙ eq3 (λ x y z. x ⊕ y ⊕ (y ⊕ z)) (λ x y z. x ⊕ z) tt (X a.from) (X a.to) (X n)
trace_crossings {es} X dis (against {n = n} a m p) = trace_step es X a dis m (trace p)
    ∙ ap (λ s. across X a ⊕ s) (trace_crossings X dis p)
    ∙ eq3 (λ x y z. x ⊕ y ⊕ (x ⊕ z)) (λ x y z. y ⊕ z) tt (X a.from) (X a.to) (X n)

trace_fresh : {es : List Arc} {x y : ℕ} (a : Arc) → Fresh a es → (p : Chain es x y) → trace p a.num ≡ false
unfolding trace
trace_fresh a new stay = refl
trace_fresh a new (along b m p) = rw (same_false a.num b.num (λ e. new (Memᴰ.cast e (Memᴰ.map (λ a. a.num) m))))
    (trace_fresh a new p)
trace_fresh a new (against b m p) = rw (same_false a.num b.num
    (λ e. new (Memᴰ.cast e (Memᴰ.map (λ a. a.num) m)))) (trace_fresh a new p)

pub one_face-apart : (a : Arc) (es : List Arc) (face : Dart → ℕ) → Distinct (nums (a ∷ es)) → Colouring (a ∷ es) face
    → face (fwd a.num) ≡ face (bwd a.num) → Chain es a.from a.to → ⊥
one_face-apart a es face dis P one p = true≢false
    (sym on ∙ (P c cycle).1 a (Memᴰ.head refl) ∙ ap (λ x. (P c cycle).0 x ⊕ (P c cycle).0 (face (bwd a.num))) one
    ∙ ⊕-self ((P c cycle).0 (face (bwd a.num))))
  where
    c : ℕ → Bool
    c e = same e a.num ⊕ trace p e

    on : c a.num ≡ true
    on = rw (same_refl a.num, trace_fresh a dis.0 p)

    rest : (X : ℕ → Bool) → crossings es c X ≡ across X a
    rest X = sum_cong es (λ b. c b.num && across X b) (λ b. trace p b.num && across X b)
        (λ b k. rw (fresh-same a dis.0 k)) ∙ trace_crossings X dis.1 p

    cycle : Cycle (a ∷ es) c
    cycle X = ap₂ (λ x y. x && across X a ⊕ y) on (rest X) ∙ ⊕-self (across X a)
