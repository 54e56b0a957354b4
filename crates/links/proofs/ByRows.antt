-- Departures scanned row by row, an edge and then its reverse: the cells that tell the node, and one position passed.
-- Assumes nothing.
use Rattle.std.specs.Prelude.{IfSome}
use mathlib.Core.Path.{◌≡◌, sym, ap, ap₂, ◌∙◌, subst}
use mathlib.Core.Bool.{Bool, true, false, not, ◌&&◌}
use mathlib.Core.List.{List}
use Prim.Native.Nat.{ℕ, ◌+◌, ◌*◌, ◌/◌, ◌<◌}
use native.Mathlib.Omega.{arith}
use lib.IntN.{ℤ, pos}
use lib.ListN.{get_or}
use mir.Syntax.{w64}
use mir.Val.{to_z, of_z, SFits}
use mir.Facts.{to_z-of_z}
use Rattle.lists.specs.Tests.{same}
use Rattle.lists.proofs.Bools.{and_is}
use Rattle.plane.specs.Directions.{Way, same_way}
use Rattle.curves.specs.Curves.{Run}
use Rattle.tables.specs.Tables.{same_z}
use Rattle.map_rows.specs.Rows.{EdgeRows}
use Rattle.map_rows.proofs.Rows.{edge-row_of}
use Rattle.tables.proofs.Order.{is_same, not_same, word_is}
use Rattle.darts.specs.Positions.{side_cell, way_at}
use Rattle.darts.proofs.Positions.{side_even, side_odd}
use Rattle.links.specs.declared.Choice.{Choice}
use Rattle.links.specs.Linking.{Known, leaves_node, chosen_of}
use Rattle.links.proofs.Words.{same_word, cell_test, and_left_none, and_right_none}
use Rattle.links.proofs.Choices.{no_choice, left, scan_hit, scan_miss, chosen_has}

-- the direction of a position can be read
pub known_of : {l : List ℤ} {n own : ℕ} {c : List ℤ} → EdgeRows l n → (own < n → Run c) → (p : ℕ) → p < n * 2
    → Known l own c p
known_of t run p h = ((λ e. run (omega arith)), (λ e. edge-row_of t (p / 2) (omega arith)))

-- ---- the node that a departure leaves

module _ {z n cell : ℤ} (f : SFits w64 z) (g : SFits w64 n) (e : z ≡ cell) where
  pub cell_is : of_z w64 z ≡ of_z w64 n → same_z cell (to_z w64 (of_z w64 n)) ≡ true
  cell_is q = is_same cell (to_z w64 (of_z w64 n)) (sym e ∙ word_is f g q ∙ sym (to_z-of_z {w = w64} g))

  pub cell-differs : (of_z w64 z ≡ of_z w64 n → ⊥) → same_z cell (to_z w64 (of_z w64 n)) ≡ false
  cell-differs d = not_same cell (to_z w64 (of_z w64 n)) (λ q. d (ap (of_z w64) (e ∙ q ∙ to_z-of_z {w = w64} g)))

-- ---- the choice, with the positions from p on left

-- the test of a position
abbrev pub leaves_but : List ℤ → ℤ → ℕ → ℕ → ℕ → Bool
leaves_but l node a b p = leaves_node l node p && not (same p a) && not (same p b)

module _ (way : ℕ → Way) (v : Way) (l : List ℤ) (node : ℤ) (a b n : ℕ) where
  pub record Passed (h : Choice) (p : ℕ) : Type 0 where
    pub all : IfSome h.all (λ k. k < n)
    pub below : IfSome h.below (λ k. k < n)
    pub rest : left way v (leaves_but l node a b) h p n ≡ left way v (leaves_but l node a b) no_choice 0 n

  module _ {h h' : Choice} {p : ℕ} (r : Passed h p) (t : p < n) where
    -- the choice is g after the position p
    onward : (g : Choice) → IfSome g.all (λ k. k < n) → IfSome g.below (λ k. k < n)
        → left way v (leaves_but l node a b) h p n ≡ left way v (leaves_but l node a b) g (p + 1) n → h' ≡ g
        → Passed h' (p + 1)
    onward g x y q e = subst (λ (c : Choice). Passed c (p + 1)) (sym e) (record { all = x; below = y; rest = sym q ∙ r.rest })

    pub passed-chosen : leaves_node l node p ≡ true → not (same p a) && not (same p b) ≡ true → h' ≡ chosen_of way v h p
        → Passed h' (p + 1)
    passed-chosen at but =
        let k = chosen_has way v (λ i. i < n) h p t r.all r.below in
        onward (chosen_of way v h p) k.0 k.1 (scan_hit way v (leaves_but l node a b) h p n t (rw at but))

    passed_over : leaves_but l node a b p ≡ false → h' ≡ h → Passed h' (p + 1)
    passed_over none = onward h r.all r.below (scan_miss way v (leaves_but l node a b) h p n t none)

    pub passed_but : leaves_node l node p ≡ true → not (same p a) && not (same p b) ≡ false → h' ≡ h → Passed h' (p + 1)
    passed_but at but = passed_over (rw at but)

    pub passed_other : leaves_node l node p ≡ false → h' ≡ h → Passed h' (p + 1)
    passed_other at = passed_over (rw at)

-- ---- a departure of another edge that has a direction

-- the test of a position
abbrev pub taken : List ℤ → ℤ → ℕ → Way → ℕ → Bool
taken l node own v p = leaves_node l node p && not (same (p / 2) own) && same_way (way_at l p) v

module _ (l : List ℤ) (own i : ℕ) {n : ℤ} (g : SFits w64 n) where
  -- the position p is of row i, and its cell was read
  near : (p : ℕ) {z : ℤ} → SFits w64 z → z ≡ side_cell l p 1 → i ≡ p / 2 → same_word z n && not (same i own)
      ≡ leaves_node l (to_z w64 (of_z w64 n)) p && not (same (p / 2) own)
  near p {z} f e q = ap₂ (λ (t : Bool) (j : ℕ). t && not (same j own)) (cell_test z n (side_cell l p 1) f g e) q

  pub near_start : SFits w64 (get_or l (i * 32 + 1) (pos 0)) → same_word (get_or l (i * 32 + 1) (pos 0)) n
      && not (same i own) ≡ leaves_node l (to_z w64 (of_z w64 n)) (i * 2) && not (same (i * 2 / 2) own)
  near_start f = near (i * 2) f (sym (side_even l i 1)) (omega arith)

  pub near_end : SFits w64 (get_or l (i * 32 + 2) (pos 0)) → same_word (get_or l (i * 32 + 2) (pos 0)) n && not (same i own)
      ≡ leaves_node l (to_z w64 (of_z w64 n)) (i * 2 + 1) && not (same ((i * 2 + 1) / 2) own)
  near_end f = near (i * 2 + 1) f (sym (side_odd l i 1)) (omega arith)

module _ (l : List ℤ) (node : ℤ) (own : ℕ) (v : Way) (p : ℕ) {near : Bool}
    (e : near ≡ leaves_node l node p && not (same (p / 2) own)) where
  pub taken_none : near ≡ false → taken l node own v p ≡ false
  taken_none q = and_left_none (leaves_node l node p && not (same (p / 2) own)) (same_way (way_at l p) v) (sym e ∙ q)

  module _ {w : Way} {along : Bool} (s : along ≡ same_way w v) (f : w ≡ way_at l p) where
    along_test : along ≡ same_way (way_at l p) v
    along_test = s ∙ ap (λ (x : Way). same_way x v) f

    pub taken_here : near ≡ true → along ≡ true → taken l node own v p ≡ true
    taken_here q r = and_is (sym e ∙ q) (sym along_test ∙ r)

    pub taken_past : along ≡ false → taken l node own v p ≡ false
    taken_past r = and_right_none (leaves_node l node p && not (same (p / 2) own)) (same_way (way_at l p) v)
        (sym along_test ∙ r)
