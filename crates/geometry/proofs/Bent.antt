-- Three points on one segment, and one point before a curve that has no inner point straight between its neighbours.
-- Assumes nothing.
use mathlib.Core.Path.{◌≡◌, refl, sym, ap, ◌∙◌, subst}
use mathlib.Core.Bool.{false, false≢true}
use mathlib.Core.List.{List, [], ◌∷◌}
use mathlib.Core.Logic.{◌⊎◌, inl, inr}
use Prim.Native.Nat.{ℕ, ◌+◌, ◌*◌, ◌<◌}
use native.Mathlib.Nat.{mul-pos}
use native.Mathlib.Omega.{arith}
use lib.IntN.{pos}
use Rattle.integers.specs.Solver.{con, ◌⊕◌, ◌⊖◌, ◌⊗◌, ◌≐◌, solve, zero_of, of_zero, combine}
use Rattle.integers.specs.Linear.{pos_injective}
use Rattle.lists.proofs.Bools.{which, or-false, or_no}
use Rattle.plane.specs.declared.Point.{Point}
use Rattle.plane.specs.Segments.{straight_between}
use Rattle.curves.specs.Curves.{second_of}
use Rattle.curves.specs.Tests.{straight_in}
use Rattle.geometry.specs.Spots.{spot, OnSeg, Between}
use Rattle.geometry.specs.Meaning.{Some}
use Rattle.geometry.proofs.Segments.{flip, at_last, at_one, at_spot, first_part, far_weight, parts, pin}
use Rattle.geometry.proofs.Segments.{between_differ}
use Rattle.geometry.proofs.Meeting.{straight_between-true, straight_between_is}

-- ---- three points on a segment

-- between, the other way round
pub between_sym : {a m b : Point} → Between a m b → Between b m a
between_sym s = record { on = flip s.on; not_first = λ e. s.not_last (sym e); not_last = λ e. s.not_first (sym e) }

-- b out of a, m and c, in one coordinate
extended : (j i l k a m b c : ℕ) → (j + i) * m ≡ 1 * (j * a + i * b) → (l + k) * b ≡ 1 * (l * m + k * c)
    → (l * j + k * (j + i)) * b ≡ 1 * (l * j * a + k * (j + i) * c)
extended j i l k a m b c e f =
    pos_injective (of_zero _ _
    (solve 8 (λ j i l k a m b c. (l ⊗ j ⊕ k ⊗ (j ⊕ i)) ⊗ b ⊖ con (pos 1) ⊗ (l ⊗ j ⊗ a ⊕ k ⊗ (j ⊕ i) ⊗ c)
    ≐ (j ⊕ i) ⊗ ((l ⊕ k) ⊗ b ⊖ con (pos 1) ⊗ (l ⊗ m ⊕ k ⊗ c)) ⊕ l ⊗ ((j ⊕ i) ⊗ m ⊖ con (pos 1) ⊗ (j ⊗ a ⊕ i ⊗ b))) tt
    (pos j) (pos i) (pos l) (pos k) (pos a) (pos m) (pos b) (pos c)
    ∙ combine (pos (j + i)) (pos l) (zero_of (ap pos f)) (zero_of (ap pos e))))

-- m between a and b, and b between m and c: b is between a and c
pub extend : {a m b c : Point} → Between a m b → Between m b c → Between a b c
extend {a} {m} {b} {c} s t = record { on = on; not_first = between_differ s; not_last = t.not_last }
  where
    o : OnSeg (spot m) a b
    o = s.on

    p : OnSeg (spot b) m c
    p = t.on

    on : OnSeg (spot b) a c
    on =
        let w : 0 < p.i * (o.j + o.i) = mul-pos (far_weight p t.not_first) o.weight in
        record {
          j = p.j * o.j;
          i = p.i * (o.j + o.i);
          weight = omega arith;
          x = extended o.j o.i p.j p.i a.x m.x b.x c.x o.x p.x;
          y = extended o.j o.i p.j p.i a.y m.y b.y c.y o.y p.y;
        }

-- m between a and b, and b between a and c: b is between m and c
pub shorten : {a m b c : Point} → Between a m b → Between a b c → Between m b c
shorten {a} {m} {b} {c} s t = record {
  on = pick (parts inner t.on);
  not_first = s.not_last;
  not_last = t.not_last;
}
  where
    -- no end of a segment lies before another point of it
    first : (p q : Point) → OnSeg (spot p) a q → OnSeg (spot q) a p → p ≡ q
    first p q o r = sym (at_one (at_spot q) (pin o r (at_last p (at_spot q))))

    inner : Between a m c
    inner = record {
      on = first_part t.on s.on;
      not_first = s.not_first;
      not_last = λ e. t.not_last (sym (first c b (subst (λ (z : Point). OnSeg (spot z) a b) e s.on) t.on));
    }

    pick : OnSeg (spot b) a m ⊎ OnSeg (spot b) m c → OnSeg (spot b) m c
    pick (inl o) = absurd (s.not_last (first m b s.on o))
    pick (inr o) = o

-- not between, as the test says it
pub unless_between : {a m b c n d : Point} → (Between a m b → Between c n d) → straight_between c n d ≡ false
    → straight_between a m b ≡ false
unless_between {a} {m} {b} f e = elim (which (straight_between a m b)) [
  | inl k ↦ absurd (false≢true (sym e ∙ straight_between_is (f (straight_between-true a m b k))))
  | inr k ↦ k
]

-- ---- one point before a curve

pub bent_second : (a b : Point) (r : List Point) → Some r → straight_in a (b ∷ r) ≡ false
    → straight_between a b (second_of b r) ≡ false
bent_second a b [] h e = absurd h
bent_second a b (c ∷ r) h e = (or-false (straight_between a b c) (straight_in b (c ∷ r)) e).0

pub bent_cons : (a b : Point) (r : List Point) → (Some r → straight_between a b (second_of b r) ≡ false)
    → straight_in b r ≡ false → straight_in a (b ∷ r) ≡ false
bent_cons a b [] h e = refl
bent_cons a b (c ∷ r) h e = or_no (h tt) e

-- another first point, with fewer points straight after it
pub bent_first : (a m b : Point) (r : List Point) → ((c : Point) → Between m b c → Between a b c)
    → straight_in a (b ∷ r) ≡ false → straight_in m (b ∷ r) ≡ false
bent_first a m b [] f e = refl
bent_first a m b (c ∷ r) f e = let k = or-false (straight_between a b c) (straight_in b (c ∷ r)) e in
    or_no (unless_between (f c) k.0) k.1
