-- What a count of numbers is read as: a ticket where it is the kind's, and none for any other. Assumes nothing.
use mathlib.Core.Path.{◌≡◌, refl, sym, ap, ◌∙◌}
use mathlib.Core.Bool.{true, false, ◌&&◌, true≢false}
use mathlib.Core.List.{List, [], ◌∷◌}
use mathlib.Core.Option.{none, some}
use Prim.Native.Nat.{ℕ, suc, ◌+◌, ◌-◌, ◌%◌, ◌≤◌, ◌<◌}
use native.Mathlib.Omega.{arith}
use lib.Dec.{leb, eqb}
use lib.IntN.{ℤ, pos}
use lib.ListN.{length, get_or, drop}
use borrow.Author.Tests.{leb-true, le-leb, eqb-true, eqb-false, eq-eqb}
use Rattle.lists.proofs.Bools.{same_eq, same_false, and-true, and_is}
use Rattle.map.specs.Tickets.{Ticket, AddIsoNode, MoveIsoNode, RemoveIsoNode, AddIsoEdge, RemoveIsoEdge, ChangeEdgeGeom}
use Rattle.map.specs.Tickets.{one, two, three, one_curve, two_curve}
use Rattle.outcomes.specs.Variants.{split_ticket, heal_ticket, add_ticket, remove_ticket}
use Rattle.edit_dispatch.specs.declared.Routine.{Routine}
use Rattle.edit_dispatch.specs.declared.Routine.TheVariants.{AddNode, MoveNode, RemoveNode, AddIsolatedEdge}
use Rattle.edit_dispatch.specs.declared.Routine.TheVariants.{RemoveIsolatedEdge, ChangeCurve, Split, Heal}
use Rattle.edit_dispatch.specs.declared.Routine.TheVariants.{AddEdge, RemoveEdge}
use Rattle.edit_dispatch.specs.Shaped.{kind_for, count_fits, read_for, edges_named}

-- ---- numbers

pub one-read : (k : ℤ → Ticket) (t : List ℤ) {a : ℤ} → length t ≡ 2 → a ≡ get_or t 1 (pos 0) → some (k a)
    ≡ one k (drop 1 t)
one-read k [] n e = absurd (omega arith)
one-read k (x ∷ []) n e = absurd (omega arith)
one-read k (x ∷ y ∷ []) n e = ap (λ (z : ℤ). some (k z)) e
one-read k (x ∷ y ∷ z ∷ r) n e = absurd (omega arith)

pub two-read : (k : ℤ → ℤ → Ticket) (t : List ℤ) {a b : ℤ} → length t ≡ 3 → a ≡ get_or t 1 (pos 0) → b ≡ get_or t 2 (pos 0)
    → some (k a b) ≡ two k (drop 1 t)
two-read k [] n e f = absurd (omega arith)
two-read k (x ∷ []) n e f = absurd (omega arith)
two-read k (x ∷ y ∷ r) {b = b} n e f = ap (λ (z : ℤ). some (k z b)) e ∙ one-read (k y) (y ∷ r) (omega arith) f

pub three-read : (k : ℤ → ℤ → ℤ → Ticket) (t : List ℤ) {a b c : ℤ} → length t ≡ 4 → a ≡ get_or t 1 (pos 0) → b
    ≡ get_or t 2 (pos 0) → c ≡ get_or t 3 (pos 0) → some (k a b c) ≡ three k (drop 1 t)
three-read k [] n e f g = absurd (omega arith)
three-read k (x ∷ []) n e f g = absurd (omega arith)
three-read k (x ∷ y ∷ r) {b = b} {c = c} n e f g = ap (λ (z : ℤ). some (k z b c)) e
    ∙ two-read (k y) (y ∷ r) (omega arith) f g

-- so many numbers after the first, or not
pub so_many : (n a : ℕ) → eqb (n - 1) (suc a) ≡ true → n ≡ suc (suc a)
so_many n a e = omega (arith, eqb-true (n - 1) (suc a) e)

not_so : (t : List ℤ) (a : ℕ) → 0 < length t → eqb (length t - 1) a ≡ false → length t ≡ suc a → ⊥
not_so t a p e q = eqb-false (length t - 1) a e (omega arith)

one_none : (k : ℤ → Ticket) (t : List ℤ) → (length t ≡ 2 → ⊥) → one k (drop 1 t) ≡ none
one_none k [] n = refl
one_none k (x ∷ []) n = refl
one_none k (x ∷ y ∷ []) n = absurd (n refl)
one_none k (x ∷ y ∷ z ∷ r) n = refl

two_none : (k : ℤ → ℤ → Ticket) (t : List ℤ) → (length t ≡ 3 → ⊥) → two k (drop 1 t) ≡ none
two_none k [] n = refl
two_none k (x ∷ []) n = refl
two_none k (x ∷ y ∷ r) n = one_none (k y) (y ∷ r) (λ e. n (omega arith))

three_none : (k : ℤ → ℤ → ℤ → Ticket) (t : List ℤ) → (length t ≡ 4 → ⊥) → three k (drop 1 t) ≡ none
three_none k [] n = refl
three_none k (x ∷ []) n = refl
three_none k (x ∷ y ∷ r) n = two_none (k y) (y ∷ r) (λ e. n (omega arith))

-- ---- numbers and a curve, of x, y pairs

-- of n numbers, a and pairs
abbrev pub Pairs : ℕ → ℕ → Type 0
Pairs a n = (a ≤ n) × (n % 2 ≡ a % 2)

module _ (n a : ℕ) where
  pub pairs_fit : leb a n && eqb (n % 2) (a % 2) ≡ true → Pairs a n
  pairs_fit e = let t = and-true (leb a n) (eqb (n % 2) (a % 2)) e in
      (leb-true a n t.0, eqb-true (n % 2) (a % 2) t.1)

  pairs_unfit : leb a n && eqb (n % 2) (a % 2) ≡ false → Pairs a n → ⊥
  pairs_unfit e p = true≢false (sym (and_is (le-leb a n p.0) (eq-eqb (n % 2) (a % 2) p.1)) ∙ e)

pub one-curve_read : (k : ℤ → List ℤ → Ticket) (t : List ℤ) {a : ℤ} {s : List ℤ} → Pairs 1 (length t - 1)
    → a ≡ get_or t 1 (pos 0) → s ≡ drop 2 t → some (k a s) ≡ one_curve k (drop 1 t)
one-curve_read k [] n e q = absurd (omega arith)
one-curve_read k (x ∷ []) n e q = absurd (omega arith)
one-curve_read k (x ∷ y ∷ r) n e q = rw (e, q, same_eq (length r % 2) 0 (omega arith))

pub two-curve_read : (k : ℤ → ℤ → List ℤ → Ticket) (t : List ℤ) {a b : ℤ} {s : List ℤ} → Pairs 2 (length t - 1)
    → a ≡ get_or t 1 (pos 0) → b ≡ get_or t 2 (pos 0) → s ≡ drop 3 t → some (k a b s) ≡ two_curve k (drop 1 t)
two-curve_read k [] n e f q = absurd (omega arith)
two-curve_read k (x ∷ []) n e f q = absurd (omega arith)
two-curve_read k (x ∷ y ∷ r) {b = b} {s = s} n e f q = ap (λ (z : ℤ). some (k z b s)) e
    ∙ one-curve_read (k y) (y ∷ r) (omega arith, omega arith) f q

one_curve_none : (k : ℤ → List ℤ → Ticket) (t : List ℤ) → (Pairs 1 (length t - 1) → ⊥) → one_curve k (drop 1 t) ≡ none
one_curve_none k [] n = refl
one_curve_none k (x ∷ []) n = refl
one_curve_none k (x ∷ y ∷ r) n = rw (same_false (length r % 2) 0 (λ e. n (omega arith, omega arith)))

two_curve_none : (k : ℤ → ℤ → List ℤ → Ticket) (t : List ℤ) → (Pairs 2 (length t - 1) → ⊥)
    → two_curve k (drop 1 t) ≡ none
two_curve_none k [] n = refl
two_curve_none k (x ∷ []) n = refl
two_curve_none k (x ∷ y ∷ r) n = one_curve_none (k y) (y ∷ r) (λ p. n (omega arith, omega arith))

-- ---- any other count is no ticket

pub unfit : (r : Routine) (t : List ℤ) → 0 < length t → count_fits (kind_for r) (length t - 1) ≡ false
    → read_for r (drop 1 t) ≡ none
unfit AddNode t p e = three_none AddIsoNode t (not_so t 3 p e)
unfit MoveNode t p e = three_none MoveIsoNode t (not_so t 3 p e)
unfit RemoveNode t p e = one_none RemoveIsoNode t (not_so t 1 p e)
unfit AddIsolatedEdge t p e = two_curve_none AddIsoEdge t (pairs_unfit _ 2 e)
unfit RemoveIsolatedEdge t p e = one_none RemoveIsoEdge t (not_so t 1 p e)
unfit ChangeCurve t p e = one_curve_none ChangeEdgeGeom t (pairs_unfit _ 1 e)
unfit (Split how) t p e = three_none (split_ticket how) t (not_so t 3 p e)
unfit (Heal how) t p e = two_none (heal_ticket how) t (not_so t 2 p e)
unfit (AddEdge how) t p e = two_curve_none (add_ticket how) t (pairs_unfit _ 2 e)
unfit (RemoveEdge how) t p e = one_none (remove_ticket how) t (not_so t 1 p e)

-- ---- the edges that a ticket names

-- they are among its arguments
pub named_fit : (r : Routine) (n : ℕ) → 0 < n → count_fits (kind_for r) (n - 1) ≡ true → edges_named r + 1 ≤ n
named_fit AddNode n h e = omega arith
named_fit MoveNode n h e = omega arith
named_fit RemoveNode n h e = omega arith
named_fit AddIsolatedEdge n h e = omega arith
named_fit RemoveIsolatedEdge n h e = omega (arith, so_many n 0 e)
named_fit ChangeCurve n h e = omega (arith, (pairs_fit (n - 1) 1 e).0)
named_fit (Split how) n h e = omega (arith, so_many n 2 e)
named_fit (Heal how) n h e = omega (arith, so_many n 1 e)
named_fit (AddEdge how) n h e = omega arith
named_fit (RemoveEdge how) n h e = omega (arith, so_many n 0 e)
