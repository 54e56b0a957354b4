-- A split and a heal keep the link law at all nodes. f names each departure of the whole edge as one of the halves; x
-- and y are the departures of the joint, the node n. Assumes nothing.
use mathlib.Core.Path.{◌≡◌, sym, ap, ◌∙◌, subst}
use mathlib.Core.Logic.{inl, inr}
use mathlib.Core.Bool.{Bool, true}
use mathlib.Core.List.{List, [], ◌∷◌, map, Memᴰ}
use Prim.Native.Nat.{ℕ}
use Rattle.lists.specs.Tests.{same}
use Rattle.lists.proofs.Bools.{same_true, same_eq, same_false, equal?}
use Rattle.lists.proofs.Keeps.{keep_in, keep-map, keep_none}
use Rattle.plane.specs.Directions.{Way}
use Rattle.rotation.specs.Law.{Tells, Lawful, from, AllLawful}
use Rattle.rotation.proofs.Rename.{Renames, renamed-lawful, unnamed_lawful, pair_lawful}

module _ {D : Type 0} (is : D → D → Bool) (tells : Tells is) where
  -- the whole edge is `all`'s, the halves are those of `map f all` with x and y; `lead d` is the next of the reverse of
  -- d
  pub record Halves (f : D → D) (tail tail' : D → ℕ) (way way' : D → Way) (lead lead' : D → D) (all : List D) (n : ℕ)
      (x y : D) : Type 0 where
    pub tails : (d : D) → Memᴰ d all → tail' (f d) ≡ tail d
    pub ways : (d : D) → Memᴰ d all → way' (f d) ≡ way d
    pub tests : (d c : D) → Memᴰ d all → Memᴰ c all → is (f d) (f c) ≡ is d c
    pub leads : (d : D) → Memᴰ d all → lead' (f d) ≡ f (lead d)
    pub only : (d : D) → Memᴰ d all → (tail d ≡ n) → ⊥
    pub x_there : tail' x ≡ n
    pub y_there : tail' y ≡ n
    pub differ : (x ≡ y) → ⊥
    pub x_leads : lead' x ≡ y
    pub y_leads : lead' y ≡ x

  module _ (f : D → D) (tail tail' : D → ℕ) (way way' : D → Way) (lead lead' : D → D) (all : List D) (n : ℕ) (x y : D)
      (h : Halves f tail tail' way way' lead lead' all n x y) where
    abbrev at : ℕ → List D
    at m = from tail all m

    at_in_lem : (m : ℕ) (d : D) → Memᴰ d (at m) → Memᴰ d all
    at_in_lem m d k = (keep_in (λ d. same (tail d) m) all k).0

    names : (m : ℕ) → Renames f way way' is is (at m)
    names m = record {
      ways = λ d k. h.ways d (at_in_lem m d k);
      tests = λ d c k l. h.tests d c (at_in_lem m d k) (at_in_lem m c l);
    }

    mapped : (m : ℕ) → from tail' (map f all) m ≡ map f (at m)
    mapped m = keep-map f (λ d. same (tail d) m) (λ d. same (tail' d) m) all
        (λ d k. ap (λ (t : ℕ). same t m) (h.tails d k))

    -- the departures of the joint, and of any other node
    at_joint : from tail' (x ∷ y ∷ map f all) n ≡ x ∷ y ∷ []
    at_joint = rw (
      same_eq (tail' x) n h.x_there,
      same_eq (tail' y) n h.y_there,
      mapped n,
      keep_none (λ d. same (tail d) n) all (λ d k. same_false (tail d) n (h.only d k)),
    )

    at_other : (m : ℕ) → ((m ≡ n) → ⊥) → from tail' (x ∷ y ∷ map f all) m ≡ map f (at m)
    at_other m ne = rw (
      same_false (tail' x) m (λ e. ne (sym e ∙ h.x_there)),
      same_false (tail' y) m (λ e. ne (sym e ∙ h.y_there)),
    ) (mapped m)

    pub split_law : AllLawful is tail way all lead → AllLawful is tail' way' (x ∷ y ∷ map f all) lead'
    split_law l m = elim (equal? m n) [
      | inl e ↦ subst (λ (k : ℕ). Lawful way' is (from tail' (x ∷ y ∷ map f all) k) lead') (sym e)
          (subst (λ (ds : List D). Lawful way' is ds lead') (sym at_joint)
          (pair_lawful way' is tells x y lead' h.differ h.x_leads h.y_leads))
      | inr ne ↦ subst (λ (ds : List D). Lawful way' is ds lead') (sym (at_other m ne))
          (renamed-lawful f way way' is is (at m) lead lead' (names m) (λ d k. h.leads d (at_in_lem m d k)) (l m))
    ]

    pub heal_law : ((d : D) → Memᴰ d all → Memᴰ (lead d) all)
        → AllLawful is tail' way' (x ∷ y ∷ map f all) lead' → AllLawful is tail way all lead
    heal_law into l m = elim (equal? m n) [
      | inl e ↦ λ d k. absurd (h.only d (at_in_lem m d k)
          (same_true (tail d) m (keep_in (λ d. same (tail d) m) all k).1 ∙ e))
      | inr ne ↦ unnamed_lawful f way way' is is (at m) lead lead' (names m)
          (λ d c k j e. one (lead d) c (into d (at_in_lem m d k)) (at_in_lem m c j) e) (λ d k. h.leads d (at_in_lem m d k))
          (subst (λ (ds : List D). Lawful way' is ds lead') (at_other m ne) (l m))
    ]
      where
        one : (d c : D) → Memᴰ d all → Memᴰ c all → f d ≡ f c → d ≡ c
        one d c md mc e = tells.yes d c
            (sym (h.tests d c md mc) ∙ subst (λ (z : D). is (f d) z ≡ true) e (tells.self (f d)))
