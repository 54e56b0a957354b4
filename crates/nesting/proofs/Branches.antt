-- A graph of two kinds of vertices, each kind a list of numbers: an edge joins a vertex of the kind false and one of
-- the kind true. What is beyond a bridge. Assumes nothing.
use mathlib.Core.Path.{◌≡◌, sym, ap, ap₂, ◌∙◌}
use mathlib.Core.Logic.{◌⊎◌, inl, inr, ◌≢◌}
use mathlib.Core.Bool.{Bool, true, false, not, ◌&&◌, true≢false}
use mathlib.Core.List.{List, Memᴰ}
use Prim.Native.Nat.{ℕ, ◌+◌, ◌<◌, ◌≤◌}
use native.Mathlib.Omega.{arith}
use Rattle.lists.specs.Tests.{◌⊕◌}
use Rattle.lists.specs.Scans.{count_of}
use Rattle.lists.proofs.Bools.{⊕-self, ⊕-differ, &&-false}
use Rattle.lists.proofs.Counts.{count_mono, count_tight}

-- a set of vertices, by kind and number
abbrev pub Set : Type 0
Set = Bool → ℕ → Bool

-- the ends of the edge between v, of the kind b, and w, of the other: that of the kind false, that of the kind true
abbrev pub end_false : Bool → ℕ → ℕ → ℕ
end_false false v w = v
end_false true v w = w

abbrev pub end_true : Bool → ℕ → ℕ → ℕ
end_true false v w = w
end_true true v w = v

-- the vertices, and whether there is an edge between x of the kind false and y of the kind true
pub record Graph : Type 0 where
  pub vertices : Bool → List ℕ
  pub joined : ℕ → ℕ → Bool

-- the edge between x and y
pub record Edge (G : Graph) (x y : ℕ) : Type 0 where
  pub left : Memᴰ x (G.vertices false)
  pub right : Memᴰ y (G.vertices true)
  pub holds : G.joined x y ≡ true

-- no edge crosses the set
abbrev pub Even : Graph → Set → Type 0
Even G T = (x y : ℕ) → Edge G x y → T false x ≡ T true y

-- no edge but the one between u and v crosses the set
abbrev pub Only : Graph → ℕ → ℕ → Set → Type 0
Only G u v T = (x y : ℕ) → Edge G x y → ((x ≡ u) × (y ≡ v)) ⊎ (T false x ≡ T true y)

-- a set that no edge crosses has everything or nothing; 0 of the kind false is a vertex
abbrev pub Connected : Graph → Type 0
Connected G = (T : Set) → Even G T → (b : Bool) (x : ℕ) → Memᴰ x (G.vertices b) → T b x ≡ T false 0

-- each edge is a bridge: it crosses a set that no other edge crosses
abbrev pub Bridges : Graph → Type 0
Bridges G = (u v : ℕ) → Edge G u v → (T : Set) × ((T false u ≡ T true v) → ⊥) × Only G u v T

-- T is what lies beyond the bridge from v, of the kind b, to w
pub record Branch (G : Graph) (b : Bool) (v w : ℕ) (T : Set) : Type 0 where
  pub off : T b v ≡ false
  pub on : T (not b) w ≡ true
  pub only : Only G (end_false b v w) (end_true b v w) T

-- how many vertices the set has
abbrev pub size : Graph → Set → ℕ
size G T = count_of (T false) (G.vertices false) + count_of (T true) (G.vertices true)

module _ (G : Graph) where
  -- there is a branch over each edge
  pub branch : Bridges G → (b : Bool) (v w : ℕ) → Edge G (end_false b v w) (end_true b v w) → (T : Set) × Branch G b v w T
  branch B b v w e = (λ c x. r.0 c x ⊕ r.0 b v, record { off = ⊕-self (r.0 b v); on = far b r.1; only = only })
    where
      r : (T : Set) × ((T false (end_false b v w) ≡ T true (end_true b v w)) → ⊥)
          × Only G (end_false b v w) (end_true b v w) T
      r = B (end_false b v w) (end_true b v w) e

      far : (b : Bool) → ((r.0 false (end_false b v w) ≡ r.0 true (end_true b v w)) → ⊥)
          → r.0 (not b) w ⊕ r.0 b v ≡ true
      far false h = ⊕-differ (r.0 true w) (r.0 false v) (λ k. h (sym k))
      far true h = ⊕-differ (r.0 false w) (r.0 true v) h

      only : Only G (end_false b v w) (end_true b v w) (λ c x. r.0 c x ⊕ r.0 b v)
      only x y k = elim (r.2 x y k) [ inl q ↦ inl q | inr q ↦ inr (ap (λ z. z ⊕ r.0 b v) q) ]

  -- the bridge the other way
  pub opposite : {v w : ℕ} {T : Set} (b : Bool) → Branch G b v w T → Branch G (not b) w v (λ c x. not (T c x))
  opposite {v} {w} {T} false h = record {
    off = ap not h.on;
    on = ap not h.off;
    only = λ x y k. elim (h.only x y k) [ inl q ↦ inl q | inr q ↦ inr (ap not q) ];
  }
  opposite {v} {w} {T} true h = record {
    off = ap not h.on;
    on = ap not h.off;
    only = λ x y k. elim (h.only x y k) [ inl q ↦ inl q | inr q ↦ inr (ap not q) ];
  }

  -- another edge at v has nothing of the branch
  dark : {v w : ℕ} {S : Set} (b : Bool) → Branch G b v w S → (w' x y : ℕ) → (x ≡ end_false b v w') × (y ≡ end_true b v w')
      → S false x ≡ S true y → (S false x ≡ false) × (S true y ≡ false)
  dark {S = S} false h w' x y q e = let k = ap (S false) q.0 ∙ h.off in (k, sym e ∙ k)
  dark {S = S} true h w' x y q e = let k = ap (S true) q.1 ∙ h.off in (e ∙ k, k)

  one-edge : (v w w' : ℕ) {x y : ℕ} (b : Bool) → (x ≡ end_false b v w) × (y ≡ end_true b v w)
      → (x ≡ end_false b v w') × (y ≡ end_true b v w') → w ≡ w'
  one-edge v w w' false p q = sym p.1 ∙ q.1
  one-edge v w w' true p q = sym p.0 ∙ q.0

  -- two branches at one vertex have nothing in common
  pub disjoint : Connected G → {v w w' : ℕ} {S S' : Set} (b : Bool) → Memᴰ v (G.vertices b) → Branch G b v w S
      → Branch G b v w' S' → w ≢ w' → (c : Bool) (x : ℕ) → Memᴰ x (G.vertices c) → S c x ≡ true → S' c x ≡ false
  disjoint C {v} {w} {w'} {S} {S'} b m h h' ne c x k on =
      sym (ap (λ z. z && S' c x) on) ∙ C X even c x k ∙ sym (C X even b v m) ∙ ap (λ z. z && S' b v) h.off
    where
      X : Set
      X c x = S c x && S' c x

      even : Even G X
      even x y e = go (h.only x y e) (h'.only x y e)
        where
          go : ((x ≡ end_false b v w) × (y ≡ end_true b v w)) ⊎ (S false x ≡ S true y)
              → ((x ≡ end_false b v w') × (y ≡ end_true b v w')) ⊎ (S' false x ≡ S' true y) → X false x ≡ X true y
          go (inl p) (inl q) = absurd (ne (one-edge v w w' b p q))
          go (inl p) (inr q) = let d = dark b h' w x y p q in
              rw (d.0, d.1) (&&-false (S false x) ∙ sym (&&-false (S true y)))
          go (inr p) (inl q) = let d = dark b h w' x y q p in rw (d.0, d.1)
          go (inr p) (inr q) = ap₂ ◌&&◌ p q

  -- a set within another that has one vertex more is smaller
  pub smaller : (S T : Set) → ((c : Bool) (x : ℕ) → Memᴰ x (G.vertices c) → S c x ≡ true → T c x ≡ true)
      → (b : Bool) (v : ℕ) → Memᴰ v (G.vertices b) → S b v ≡ false → T b v ≡ true → size G S < size G T
  smaller S T h b v m off on = go b m off on
    where
      within : (c : Bool) → count_of (S c) (G.vertices c) ≤ count_of (T c) (G.vertices c)
      within c = count_mono (S c) (T c) (G.vertices c) (h c)

      apart : (c : Bool) → Memᴰ v (G.vertices c) → S c v ≡ false → T c v ≡ true
          → count_of (T c) (G.vertices c) ≤ count_of (S c) (G.vertices c) → ⊥
      apart c k off on le = true≢false (sym on ∙ count_tight (S c) (T c) (G.vertices c) (h c) le v k ∙ off)

      go : (b : Bool) → Memᴰ v (G.vertices b) → S b v ≡ false → T b v ≡ true → size G S < size G T
      go false k off on = omega (arith, within true, apart false k off on)
      go true k off on = omega (arith, within false, apart true k off on)
