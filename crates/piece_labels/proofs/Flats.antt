-- Each row led to itself, and in the end to its root: the rows below i have theirs, and the others lead as before.
-- Assumes nothing.
use mathlib.Core.Path.{◌≡◌, refl, sym, ap, subst, ◌∙◌}
use mathlib.Core.Logic.{inl, inr}
use mathlib.Core.List.{List, []}
use Prim.Native.Nat.{ℕ, ◌+◌, ◌≤◌, ◌<◌}
use native.Mathlib.Omega.{arith}
use lib.IntN.{ℤ}
use lib.ListN.{length, get_or, set, length-set}
use lib.Seq.{get_or-set_same, get_or-set_other}
use Rattle.lists.proofs.Bools.{equal?}
use Rattle.planar_maps.specs.Map.{Arc}
use Rattle.planar_maps.specs.Pieces.{label}
use Rattle.tables.proofs.Order.{lt_or_ge}
use Rattle.map_rows.specs.Rows.{node_at}
use Rattle.piece_labels.specs.Labels.{Leading, Labelled, piece_at}

-- where each row leads to itself and there is no edge
pub apart : (nodes : List ℤ) (n : ℕ) (labels : List ℕ) → length labels ≡ n → ((i : ℕ) → i < n → get_or labels i 0 ≡ i)
    → Leading [] nodes n labels
unfolding label
apart nodes n labels size is = record {
  size = size;
  falls = λ i t. omega (arith, is i t);
  within = λ i t. ap (piece_at [] nodes) (is i t);
  ends = λ i t e. refl;
}

pub apart_more : (labels : List ℕ) (i : ℕ) → i < length labels → ((j : ℕ) → j < i → get_or labels j 0 ≡ j)
    → (j : ℕ) → j < i + 1 → get_or (set labels i i) j 0 ≡ j
apart_more labels i h is j t = elim (equal? j i) [
  | inl e ↦ subst (λ (j : ℕ). get_or (set labels i i) j 0 ≡ j) (sym e) (get_or-set_same labels i i 0 h)
  | inr e ↦ get_or-set_other labels i j i 0 e ∙ is j (omega arith)
]

-- the label that a row has in the end
pub record Final (arcs : List Arc) (nodes : List ℤ) (n i r : ℕ) : Type 0 where
  pub below : r < n
  pub lowest : (node_at nodes r).number ≡ piece_at arcs nodes i

-- the label of a row that leads on
pub record Ahead (arcs : List Arc) (nodes : List ℤ) (i r : ℕ) : Type 0 where
  pub falls : r ≤ i
  pub within : piece_at arcs nodes r ≡ piece_at arcs nodes i
  pub ends : r ≡ i → piece_at arcs nodes i ≡ (node_at nodes i).number

-- the rows below i have the label of their root
pub record Flat (arcs : List Arc) (nodes : List ℤ) (n : ℕ) (labels : List ℕ) (i : ℕ) : Type 0 where
  pub size : length labels ≡ n
  pub done : (j : ℕ) → j < i → Final arcs nodes n j (get_or labels j 0)
  pub left : (j : ℕ) → i ≤ j → j < n → Ahead arcs nodes j (get_or labels j 0)

module _ {arcs : List Arc} {nodes : List ℤ} {n : ℕ} {labels : List ℕ} where
  pub flat_start : Leading arcs nodes n labels → Flat arcs nodes n labels 0
  flat_start g = record {
    size = g.size;
    done = λ j t. absurd (omega arith);
    left = λ j s t. record { falls = g.falls j t; within = g.within j t; ends = g.ends j t };
  }

  pub flat_end : {i : ℕ} → n ≤ i → Flat arcs nodes n labels i → Labelled arcs nodes n labels
  flat_end h f = record {
    size = f.size;
    below = λ j t. (f.done j (omega arith)).below;
    lowest = λ j t. (f.done j (omega arith)).lowest;
  }

  module _ {i : ℕ} (f : Flat arcs nodes n labels i) (h : i < n) where
    pub leads_in : get_or labels i 0 < n
    leads_in = omega (arith, (f.left i (omega arith) h).falls)

    -- the label of the row to which row i leads
    on : Final arcs nodes n i (get_or labels (get_or labels i 0) 0)
    on =
        let r = get_or labels i 0 in
        let a = f.left i (omega arith) h in
        elim (lt_or_ge r i) [
          | inl l ↦ let d = f.done r l in record { below = d.below; lowest = d.lowest ∙ a.within }
          | inr l ↦ let e : r ≡ i = omega (arith, a.falls) in
              let e' = ap (λ (k : ℕ). get_or labels k 0) e ∙ e in
              subst (Final arcs nodes n i) (sym e') (record { below = h; lowest = sym (a.ends e) })
        ]

    pub flat_more : Flat arcs nodes n (set labels i (get_or labels (get_or labels i 0) 0)) (i + 1)
    flat_more =
        let v = get_or labels (get_or labels i 0) 0 in record {
          size = length-set labels i v ∙ f.size;
          done = λ j t. elim (equal? j i) [
            | inl e ↦ subst (λ (j : ℕ). Final arcs nodes n j (get_or (set labels i v) j 0)) (sym e)
                (subst (Final arcs nodes n i) (sym (get_or-set_same labels i v 0 (omega (arith, f.size)))) on)
            | inr e ↦ subst (Final arcs nodes n j) (sym (get_or-set_other labels i j v 0 e)) (f.done j (omega arith))
          ];
          left = λ j s t. subst (Ahead arcs nodes j)
              (sym (get_or-set_other labels i j v 0 (λ e. omega arith)))
              (f.left j (omega arith) t);
        }
