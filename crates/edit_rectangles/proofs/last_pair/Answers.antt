-- `edit_rectangles::last_pair` meets its contract. Assumes nothing.
use borrow.Author.Rules.{rules}
use mathlib.Core.Path.{◌≡◌, refl, sym, ap, ◌∙◌}
use mathlib.Core.List.{List}
use Prim.Native.Nat.{ℕ, zero, suc, ◌-◌}
use native.Mathlib.Omega.{arith}
use lib.IntN.{ℤ}
use Rattle.map_rows.specs.Rows.{edge_at}
use Rattle.map_rows.proofs.Rows.{edge_row_lem}
use Rattle.edit_rectangles.specs.FacePairs.{pair_of, pair_last}
use Rattle.edit_rectangles.proofs.last_pair.Goals as goal

last_is : (l : List ℤ) (n : ℕ) → (n ≡ 0 → ⊥) → pair_of (edge_at l (n - 1)) ≡ pair_last l n
last_is l zero h = absurd (h refl)
last_is l (suc n) h = let e : suc n - 1 ≡ n = omega arith in ap (λ (i : ℕ). pair_of (edge_at l i)) e

pub returns-then-count-eq0 : goal.returns-then-count-eq0
returns-then-count-eq0 c = sym (ap (pair_last c.args.edges.now) c.if-count-eq0.true)

pub pair_at-requires : goal.pair_at-requires
pair_at-requires c = let s = c in let p = s.requires in let h = c.if-count-eq0.false in
    edge_row_lem s.args.edges.now s.args.count (s.args.count - 1) p.fits p.ranges (omega arith)

pub returns : goal.returns
returns c = let s = c in
    c.pair_at.ensures ∙ last_is s.args.edges.now s.args.count c.if-count-eq0.false
