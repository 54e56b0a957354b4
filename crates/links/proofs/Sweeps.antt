-- Two sweeps over the same places in one pass, where a step of one and a step of the other may change places. Assumes
-- nothing.
use mathlib.Core.Path.{◌≡◌, refl, sym, ap, ◌∙◌}
use Prim.Native.Nat.{ℕ, zero, suc, ◌+◌}
use Rattle.lists.specs.Tables.{sweep}

module _ {S : Type 0} (f g : S → ℕ → S) (swap : (s : S) (i j : ℕ) → f (g s i) j ≡ g (f s j) i) where
  -- a step of one moved past a sweep of the other
  past : (n a i : ℕ) (s : S) → sweep f (g s i) a n ≡ g (sweep f s a n) i
  past zero a i s = refl
  past (suc n) a i s = ap (λ (u : S). sweep f u (a + 1) n) (swap s i a) ∙ past n (a + 1) i (f s a)

  pub one_pass : (n a : ℕ) (s : S) → sweep g (sweep f s a n) a n ≡ sweep (λ u i. g (f u i) i) s a n
  one_pass zero a s = refl
  one_pass (suc n) a s = ap (λ (u : S). sweep g u (a + 1) n) (sym (past n (a + 1) a (f s a)))
      ∙ one_pass n (a + 1) (g (f s a) a)
