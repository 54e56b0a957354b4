-- `Linked` under the changes of `next`. Assumes nothing.
use mathlib.Core.Path.{◌≡◌, refl, sym, ap, ◌∙◌, subst}
use mathlib.Core.Logic.{◌⊎◌, inl, inr}
use mathlib.Core.Bool.{false, true≢false, false≢true}
use mathlib.Core.List.Memᴰ
use mathlib.Core.List.{List, [], ◌∷◌, map, map-map, Memᴰ, Permᴰ}
use mathlib.Core.List.Permᴰ
use Prim.Native.Nat.{ℕ}
use Rattle.lists.specs.Members.{Distinct}
use Rattle.lists.proofs.Bools.{which, same_refl, same_false}
use Rattle.lists.proofs.Members.{each-cons, each_two, map_cong}
use Rattle.lists.proofs.Perms.{perm_of_injective}
use Rattle.planar_maps.specs.Map.{Arc, Dart, fwd, bwd, rev, darts, Linked}
use Rattle.planar_maps.specs.Pieces.{nums}
use Rattle.planar_maps.specs.Rings.{same_dart}
use Rattle.planar_maps.specs.Weave.{exchange, hook, with_edge, lone_edge}
use Rattle.planar_maps.proofs.Cycles.{fwd_in, bwd_in, each_dart}
use Rattle.planar_maps.proofs.Bridges.{Fresh}
use Rattle.planar_maps.proofs.Rings.{same_dart_refl, same_dart-true, rev_in, next_in_lem}

-- ---- darts

pub sameDart? : (c d : Dart) → (c ≡ d) ⊎ ((c ≡ d) → ⊥)
sameDart? c d = elim (which (same_dart c d)) [
  | inl e ↦ inl (same_dart-true c d e)
  | inr e ↦ inr
      (λ p. true≢false (sym (same_dart_refl c) ∙ ap (same_dart c) p ∙ e))
]

pub same_dart-false : (c d : Dart) → ((c ≡ d) → ⊥) → same_dart c d ≡ false
same_dart-false c d h = elim (which (same_dart c d)) [ inl e ↦ absurd (h (same_dart-true c d e)) | inr e ↦ e ]

pub fwd≢bwd : {e f : ℕ} → (fwd e ≡ bwd f) → ⊥
fwd≢bwd p = false≢true (ap (λ (d : Dart). d.back) p)

pub fresh_dart : (a : Arc) (es : List Arc) {d : Dart} → Fresh a es → Memᴰ d (darts es) → (d.edge ≡ a.num) → ⊥
fresh_dart a es {d} fresh m = each_dart (λ d. (d.edge ≡ a.num) → ⊥) es other other d m
  where
    other : (b : Arc) → Memᴰ b es → (b.num ≡ a.num) → ⊥
    other b k p = fresh (Memᴰ.cast (sym p) (Memᴰ.map (λ c. c.num) k))

pub distinct_darts : (es : List Arc) → Distinct (nums es) → Distinct (darts es)
distinct_darts [] dis = tt
distinct_darts (a ∷ es) dis = (
  λ m. elim (Memᴰ.cases_cons m) [ inl e ↦ fwd≢bwd e | inr n ↦ fresh_dart a es dis.0 n refl ],
  (λ m. fresh_dart a es dis.0 m refl, distinct_darts es dis.1),
)

-- ---- exchange

pub exchange-left : (x y : Dart) → exchange x y x ≡ y
unfolding exchange
exchange-left x y = rw (same_dart_refl x)

pub exchange_right : (x y : Dart) → exchange x y y ≡ x
unfolding exchange
exchange_right x y = elim (which (same_dart y x)) [
  | inl e ↦ rw e (same_dart-true y x e)
  | inr e ↦ rw
      (e, same_dart_refl y)
]

pub exchange_other : (x y d : Dart) → ((d ≡ x) → ⊥) → ((d ≡ y) → ⊥) → exchange x y d ≡ d
unfolding exchange
exchange_other x y d p q = rw (same_dart-false d x p, same_dart-false d y q)

-- the three cases, as one rule
pub exchange_by : (P : Dart → Dart → Type 0) (x y : Dart) → P x y → P y x
    → ((d : Dart) → ((d ≡ x) → ⊥) → ((d ≡ y) → ⊥) → P d d) → (d : Dart) → P d (exchange x y d)
exchange_by P x y px py po d = elim (sameDart? d x) [
  | inl e ↦ rw (e, exchange-left x y) px
  | inr n ↦ elim (sameDart? d y) [
    | inl e ↦ rw (e, exchange_right x y) py
    | inr k ↦ rw (exchange_other x y d n k)
        (po d n k)
  ]
]

pub exchange_alike : {B : Type 0} (f : Dart → B) (x y : Dart) → f x ≡ f y → (d : Dart) → f (exchange x y d) ≡ f d
exchange_alike f x y e = exchange_by (λ d c. f c ≡ f d) x y (sym e) e (λ d p q. refl)

pub exchange_in : {ds : List Dart} (x y : Dart) → Memᴰ x ds → Memᴰ y ds → (d : Dart) → Memᴰ d ds
    → Memᴰ (exchange x y d) ds
exchange_in {ds} x y mx my = exchange_by (λ d c. Memᴰ d ds → Memᴰ c ds) x y (λ m. my) (λ m. mx) (λ d p q m. m)

exchange_twice : (x y d : Dart) → exchange x y (exchange x y d) ≡ d
exchange_twice x y = exchange_by (λ d c. exchange x y c ≡ d) x y (exchange_right x y) (exchange-left x y)
    (λ d p q. exchange_other x y d p q)

-- ---- L: `hook` keeps Linked where both darts arrive at one node and bear one face

module _ {es : List Arc} {tail : Dart → ℕ} {next : Dart → Dart} {face : Dart → ℕ} (l : Linked es tail next face)
    (dis : Distinct (nums es)) where
  pub hook-linked : (x y : Dart) → Memᴰ x (darts es) → Memᴰ y (darts es) → tail (rev x) ≡ tail (rev y)
      → face x ≡ face y → Linked es tail (hook x y next) face
  hook-linked x y mx my t f = record {
    starts = l.starts;
    ends = l.ends;
    perm = Permᴰ.trans (subst (λ k. Permᴰ (map (hook x y next) (darts es)) k)
        (sym (map-map next (exchange x y) (darts es))) (refl_perm (darts es)))
        (Permᴰ.trans (Permᴰ.map next exchanged) l.perm);
    meets = λ d m. l.meets (exchange x y d) (exchange_in x y mx my d m) ∙ exchange_alike (λ d. tail (rev d)) x y t d;
    keeps = λ d m. l.keeps (exchange x y d) (exchange_in x y mx my d m) ∙ exchange_alike face x y f d;
  }
    where
      refl_perm : (ds : List Dart) → Permᴰ (map (hook x y next) ds) (map (hook x y next) ds)
      refl_perm ds = mathlib.Core.List.Permᴰ.refl (map (hook x y next) ds)

      exchanged : Permᴰ (map (exchange x y) (darts es)) (darts es)
      exchanged = perm_of_injective (exchange x y) (darts es) (distinct_darts es dis) (exchange_in x y mx my)
          (λ c d m n e. sym (exchange_twice x y c) ∙ ap (exchange x y) e ∙ exchange_twice x y d)

-- ---- a lone edge is added

pub with_fwd : {B : Type 0} (e : ℕ) (u v : B) (f : Dart → B) → with_edge e u v f (fwd e) ≡ u
unfolding with_edge
with_fwd e u v f = rw (same_refl e)

pub with_bwd : {B : Type 0} (e : ℕ) (u v : B) (f : Dart → B) → with_edge e u v f (bwd e) ≡ v
unfolding with_edge
with_bwd e u v f = rw (same_refl e)

pub with_other : {B : Type 0} (e : ℕ) (u v : B) (f : Dart → B) (d : Dart) → ((d.edge ≡ e) → ⊥) → with_edge e u v f d
    ≡ f d
unfolding with_edge
with_other e u v f d h = rw (same_false d.edge e h)

module _ {a : Arc} {es : List Arc} (fresh : Fresh a es) {tail : Dart → ℕ} {next : Dart → Dart} {face : Dart → ℕ}
    (φ : ℕ) (l : Linked es tail next face) where
  pub lone-linked : Linked (a ∷ es) (with_edge a.num a.from a.to tail) (lone_edge a.num next)
      (with_edge a.num φ φ face)
  lone-linked = record {
    starts = each-cons {p = λ b. tail⁺ (fwd b.num) ≡ b.from} (with_fwd e a.from a.to tail)
        (λ b m. old a.from a.to tail (fwd b.num) (fwd_in m) ∙ l.starts b m);
    ends = each-cons {p = λ b. tail⁺ (bwd b.num) ≡ b.to} (with_bwd e a.from a.to tail)
        (λ b m. old a.from a.to tail (bwd b.num) (bwd_in m) ∙ l.ends b m);
    perm = Permᴰ.trans (Permᴰ.swap to_bwd to_fwd)
        (Permᴰ.cons refl (Permᴰ.cons refl
        (subst (λ k. Permᴰ k (darts es)) (sym (map_cong next⁺ next (darts es) (old (bwd e) (fwd e) next)))
        l.perm)));
    meets = each_two (λ d. tail⁺ (next⁺ d) ≡ tail⁺ (rev d)) (ap tail⁺ to_bwd) (ap tail⁺ to_fwd)
        (λ d m. ap tail⁺ (old (bwd e) (fwd e) next d m) ∙ old a.from a.to tail (next d) (next_in_lem l m)
        ∙ l.meets d m ∙ sym (old a.from a.to tail (rev d) (rev_in es m)));
    keeps = each_two (λ d. face⁺ (next⁺ d) ≡ face⁺ d)
        (ap face⁺ to_bwd ∙ with_bwd e φ φ face ∙ sym (with_fwd e φ φ face))
        (ap face⁺ to_fwd ∙ with_fwd e φ φ face ∙ sym (with_bwd e φ φ face))
        (λ d m. ap face⁺ (old (bwd e) (fwd e) next d m) ∙ old φ φ face (next d) (next_in_lem l m) ∙ l.keeps d m
        ∙ sym (old φ φ face d m));
  }
    where
      e : ℕ
      e = a.num

      tail⁺ : Dart → ℕ
      tail⁺ = with_edge e a.from a.to tail

      next⁺ : Dart → Dart
      next⁺ = lone_edge e next

      face⁺ : Dart → ℕ
      face⁺ = with_edge e φ φ face

      to_bwd : next⁺ (fwd e) ≡ bwd e
      to_bwd = with_fwd e (bwd e) (fwd e) next

      to_fwd : next⁺ (bwd e) ≡ fwd e
      to_fwd = with_bwd e (bwd e) (fwd e) next

      old : {B : Type 0} (u v : B) (f : Dart → B) (d : Dart) → Memᴰ d (darts es) → with_edge e u v f d ≡ f d
      old u v f d m = with_other e u v f d (fresh_dart a es fresh m)
