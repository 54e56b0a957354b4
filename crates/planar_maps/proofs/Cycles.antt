-- Cycles from what is constant along `next`, and colourings kept as an edge is added or removed. Assumes nothing.
use mathlib.Core.Path.{◌≡◌, refl, sym, ap, ap₂, ◌∙◌}
use mathlib.Core.Logic.{inl, inr}
use mathlib.Core.Bool.{Bool, true, false, ◌&&◌}
use mathlib.Core.List.Memᴰ
use mathlib.Core.List.{List, [], ◌∷◌, Memᴰ}
use Prim.Native.Nat.{ℕ}
use Rattle.lists.specs.Tests.{◌⊕◌, same}
use Rattle.lists.specs.Scans.{odd_count}
use Rattle.lists.proofs.Bools.{eq2, eq3, eq4, ⊕-self, which, same_refl, same_false}
use Rattle.lists.proofs.Members.{each-cons, each_two}
use Rattle.lists.proofs.Sums.{sum_cong, sum-⊕, sum_perm, sum-map}
use Rattle.planar_maps.specs.Map.{Arc, Dart, fwd, bwd, rev, darts, across, Cycle, Divides, Colouring, Linked}

pub fwd_in : {a : Arc} {es : List Arc} → Memᴰ a es → Memᴰ (fwd a.num) (darts es)
fwd_in (Memᴰ.head e) = Memᴰ.head (ap (λ (a : Arc). fwd a.num) e)
fwd_in (Memᴰ.tail m) = Memᴰ.tail (Memᴰ.tail (fwd_in m))

pub bwd_in : {a : Arc} {es : List Arc} → Memᴰ a es → Memᴰ (bwd a.num) (darts es)
bwd_in (Memᴰ.head e) = Memᴰ.tail (Memᴰ.head (ap (λ (a : Arc). bwd a.num) e))
bwd_in (Memᴰ.tail m) = Memᴰ.tail (Memᴰ.tail (bwd_in m))

-- both ways of each edge
pub each_dart : (P : Dart → Type 0) (es : List Arc) → ((a : Arc) → Memᴰ a es → P (fwd a.num))
    → ((a : Arc) → Memᴰ a es → P (bwd a.num)) → (d : Dart) → Memᴰ d (darts es) → P d
each_dart P [] f b d m = absurd (Memᴰ.not-nil m)
each_dart P (a ∷ es) f b d m = each_two P (f a (Memᴰ.head refl)) (b a (Memᴰ.head refl))
    (each_dart P es (λ c k. f c (Memᴰ.tail k)) (λ c k. b c (Memᴰ.tail k))) d m

sum-darts : (es : List Arc) (h : Dart → Bool) → odd_count (darts es) h
    ≡ odd_count es (λ a. h (fwd a.num) ⊕ h (bwd a.num))
sum-darts [] h = refl
sum-darts (a ∷ es) h = rw (sum-darts es h)
    (eq3 (λ x y s. x ⊕ (y ⊕ s)) (λ x y s. x ⊕ y ⊕ s) tt (h (fwd a.num)) (h (bwd a.num))
    (odd_count es (λ a. h (fwd a.num) ⊕ h (bwd a.num))))

-- the edges of which g holds on one side only
abbrev pub rim : (Dart → Bool) → ℕ → Bool
rim g e = g (fwd e) ⊕ g (bwd e)

-- L1
module _ {es : List Arc} {tail : Dart → ℕ} {next : Dart → Dart} {face : Dart → ℕ} (l : Linked es tail next face) where
  pub rim_cycle : (g : Dart → Bool) → ((d : Dart) → Memᴰ d (darts es) → g (next d) ≡ g d) → Cycle es (rim g)
  rim_cycle g k X = sum_cong es _ _ term ∙ sym (sum-darts es (λ d. out d ⊕ come d)) ∙ sum-⊕ (darts es) out come
      ∙ ap (λ s. odd_count (darts es) out ⊕ s) turned ∙ ⊕-self (odd_count (darts es) out)
    where
      out : Dart → Bool
      out d = g d && X (tail d)

      come : Dart → Bool
      come d = g d && X (tail (rev d))

      turned : odd_count (darts es) come ≡ odd_count (darts es) out
      turned = sum_cong (darts es) come (λ d. out (next d)) (λ d m. rw (k d m, l.meets d m))
          ∙ sym (sum-map next (darts es) out) ∙ sum_perm out l.perm

      term : (a : Arc) → Memᴰ a es → rim g a.num && across X a
          ≡ out (fwd a.num) ⊕ come (fwd a.num) ⊕ (out (bwd a.num) ⊕ come (bwd a.num))
      term a m = rw (l.starts a m, l.ends a m)
          (eq4 (λ p q x y. (p ⊕ q) && (x ⊕ y)) (λ p q x y. p && x ⊕ (p && y) ⊕ (q && y ⊕ (q && x))) tt
          (g (fwd a.num)) (g (bwd a.num)) (X a.from) (X a.to))

  pub face_cycle : (S : ℕ → Bool) → Cycle es (rim (λ d. S (face d)))
  face_cycle S = rim_cycle (λ d. S (face d)) (λ d m. ap S (l.keeps d m))

pub cycle-⊕ : (es : List Arc) (b c : ℕ → Bool) → Cycle es b → Cycle es c → Cycle es (λ e. b e ⊕ c e)
cycle-⊕ es b c p q X =
    sum_cong es _ _ (λ a m. eq3 (λ x y z. (x ⊕ y) && z) (λ x y z. x && z ⊕ (y && z)) tt (b a.num) (c a.num)
    (across X a))
    ∙ sum-⊕ es (λ a. b a.num && across X a) (λ a. c a.num && across X a) ∙ ap₂ ◌⊕◌ (p X) (q X)

-- an edge is added: m sends the faces that there are now to those before
pub record Grown (a : Arc) (es : List Arc) (old new : Dart → ℕ) (m : ℕ → ℕ) : Type 0 where
  pub others : (d : Dart) → Memᴰ d (darts es) → m (new d) ≡ old d
  pub sides : m (new (fwd a.num)) ≡ m (new (bwd a.num))

module _ {a : Arc} {es : List Arc} {old new : Dart → ℕ} {m : ℕ → ℕ} (grown : Grown a es old new m)
    (P : Colouring es old) where
  -- a cycle that leaves the added edge out is divided as it was
  pub extend : (c : ℕ → Bool) → Cycle (a ∷ es) c → c a.num ≡ false → (S : ℕ → Bool) × Divides (a ∷ es) new c S
  extend c cycle out = (
    λ f. (P c before).0 (m f),
    each-cons {p = λ b. c b.num ≡ (P c before).0 (m (new (fwd b.num))) ⊕ (P c before).0
        (m (new (bwd b.num)))} here there,
  )
    where
      before : Cycle es c
      before X = rw out at (cycle X)

      S : ℕ → Bool
      S = (P c before).0

      here : c a.num ≡ S (m (new (fwd a.num))) ⊕ S (m (new (bwd a.num)))
      here = rw (out, grown.sides) (sym (⊕-self (S (m (new (bwd a.num))))))

      there : (b : Arc) → Memᴰ b es → c b.num ≡ S (m (new (fwd b.num))) ⊕ S (m (new (bwd b.num)))
      there b k = rw (grown.others (fwd b.num) (fwd_in k), grown.others (bwd b.num) (bwd_in k))
          ((P c before).1 b k)

  -- L2: the edge splits a face
  pub split_keeps : {tail : Dart → ℕ} {next : Dart → Dart} → Linked (a ∷ es) tail next new
      → ((new (fwd a.num) ≡ new (bwd a.num)) → ⊥) → Colouring (a ∷ es) new
  split_keeps l apart c cycle = elim (which (c a.num)) [
    | inr e ↦ extend c cycle e
    | inl e ↦
        (λ f. S e f ⊕ same f L, λ b k. divides e b k)
  ]
    where
      L : ℕ
      L = new (fwd a.num)

      δ : ℕ → Bool
      δ = rim (λ d. same (new d) L)

      sum_out : c a.num ≡ true → c a.num ⊕ δ a.num ≡ false
      sum_out e = rw (e, same_refl L, same_false (new (bwd a.num)) L (λ p. apart (sym p)))

      r : c a.num ≡ true → (S : ℕ → Bool) × Divides (a ∷ es) new (λ e. c e ⊕ δ e) S
      r e = extend (λ e. c e ⊕ δ e) (cycle-⊕ (a ∷ es) c δ cycle (face_cycle l (λ f. same f L))) (sum_out e)

      S : c a.num ≡ true → ℕ → Bool
      S e = (r e).0

      divides : (e : c a.num ≡ true) → Divides (a ∷ es) new c (λ f. S e f ⊕ same f L)
      divides e b k = eq2 (λ x y. x) (λ x y. x ⊕ y ⊕ y) tt (c b.num) (δ b.num)
          ∙ ap (λ x. x ⊕ δ b.num) ((r e).1 b k)
          ∙ eq4 (λ s t x y. s ⊕ t ⊕ (x ⊕ y)) (λ s t x y. s ⊕ x ⊕ (t ⊕ y)) tt (S e (new (fwd b.num)))
          (S e (new (bwd b.num))) (same (new (fwd b.num)) L) (same (new (bwd b.num)) L)
