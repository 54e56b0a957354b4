-- Named rows: a search of the first column tells whether the map has the row. Containing faces, edges of links, ends of
-- curves. Assumes nothing.
use Rattle.std.specs.Prelude.{Some, None}
use mathlib.Core.Path.{◌≡◌, refl, sym, ap, ◌∙◌, subst}
use mathlib.Core.Bool.{Bool, true, false, true≢false}
use mathlib.Core.Logic.{inl, inr}
use mathlib.Core.List.{List}
use Prim.Native.Nat.{ℕ, suc, ◌+◌, ◌*◌, ◌/◌, ◌≤◌, ◌<◌}
use native.Mathlib.Omega.{arith}
use lib.IntN.{ℤ, pos, negsuc, nat_abs}
use lib.ListN.{length, get_or, set}
use lib.Seq.{get_or-set_same, get_or-set_other}
use lib.Signed.{lt_z}
use borrow.Author.Count.{below_more}
use borrow.Author.Tests.{ltb-true}
pub use Rattle.integers.specs.Signs.{not_negative}
use Rattle.lists.specs.Scans.{any_of, is_some}
use Rattle.lists.specs.Tables.{table, place}
use Rattle.tables.specs.Tables.{same_z, column, Rising, numbered}
use Rattle.tables.proofs.Order.{same_is}
use Rattle.tables.proofs.Rows.{number_in}
use Rattle.tables.proofs.Lookups.{place_first, place_missing, any_find, which_place}
use Rattle.curves.specs.Curves.{Curve, Run, point_at, curve_of, last_point}
use Rattle.curves.proofs.Runs.{and_left, curve_is, last_is}
use Rattle.map.specs.Limits.{last_number}
use Rattle.map.specs.Rows.{Map, has_node, has_edge, has_face, face_of, dart_of}
use Rattle.map.specs.Form.{in_face}
use Rattle.map_rows.specs.Rows.{edge_at, node_map, edge_map, NodeRows, FaceRows}
use Rattle.map_rows.proofs.Rows.{edge_numbers_lem, edges_rising}
use Rattle.map_rows.proofs.Lookups.{node_found, node_missing, edge_found, edge_missing, face_found, face_missing}
use Rattle.form_ranges.specs.Ranges.{face_map, EdgesInOrder}
use Rattle.form_references.specs.Sides.{has_row}

module _ {A : Type 0} (p : A → Bool) (f : ℕ → A) (n : ℕ) where
  pub any_at : (i : ℕ) → place p 0 (table f 0 n) ≡ Some i → any_of p (table f 0 n) ≡ true
  any_at i e = any_find p (table f 0 n) ∙ ap is_some (place_first p f n i e).found

  pub any_missing : place p 0 (table f 0 n) ≡ None → any_of p (table f 0 n) ≡ false
  any_missing e = any_find p (table f 0 n) ∙ ap is_some (place_missing p f n e)

module _ (w : ℕ) (l : List ℤ) (n : ℕ) (z : ℤ) where
  pub column_at : (i : ℕ) → place (same_z z) 0 (column w l n) ≡ Some i → any_of (same_z z) (column w l n) ≡ true
  column_at = any_at (same_z z) (λ i. get_or l (i * w) (pos 0)) n

  pub column_missing : place (same_z z) 0 (column w l n) ≡ None → any_of (same_z z) (column w l n) ≡ false
  column_missing = any_missing (same_z z) (λ i. get_or l (i * w) (pos 0)) n

  -- the row that is found has the number
  pub found_row : (i : ℕ) → place (same_z z) 0 (column w l n) ≡ Some i → (i < n) × (get_or l (i * w) (pos 0) ≡ z)
      × (has_row w l n z ≡ true)
  found_row i e =
      let f = place_first (same_z z) (λ i. get_or l (i * w) (pos 0)) n i e in
      (f.below, sym (same_is z (get_or l (i * w) (pos 0)) f.taken), column_at i e)

-- what holds of the first p cells, and of the one that is written, holds of those up to p
pub one_more : (P : ℕ → ℕ → Type 0) (r : List ℕ) (p x : ℕ) → p < length r → ((q : ℕ) → q < p → P q (get_or r q 0))
    → P p x → (q : ℕ) → q < p + 1 → P q (get_or (set r p x) q 0)
one_more P r p x room old new = below_more (λ q. P q (get_or (set r p x) q 0)) p
    (λ q h. subst (P q) (sym (get_or-set_other r p q x 0 (λ e. omega arith))) (old q h))
    (subst (P p) (sym (get_or-set_same r p x 0 room)) new)

module _ {l : List ℤ} {n : ℕ} where
  pub node-named : NodeRows l n → (m : ℕ) → any_of (same_z (pos m)) (column 4 l n) ≡ has_node (node_map l n) m
  node-named r m =
      elim (which_place (place (same_z (pos m)) 0 (column 4 l n))) [
        | inl (i, e) ↦ column_at 4 l n (pos m) i e ∙ sym (ap is_some (node_found l n r.ranges (pos m) i e).2)
        | inr e ↦ column_missing 4 l n (pos m) e ∙ sym (ap is_some (node_missing l n r.ranges m e))
      ]

  pub face_named : FaceRows l n → (m : ℕ) → any_of (same_z (pos m)) (column 5 l n) ≡ has_face (face_map l n) m
  face_named r m =
      elim (which_place (place (same_z (pos m)) 0 (column 5 l n))) [
        | inl (i, e) ↦ column_at 5 l n (pos m) i e ∙ sym (face_found l n r.ranges (pos m) i e).2
        | inr e ↦ column_missing 5 l n (pos m) e ∙ sym (face_missing l n r.ranges m e)
      ]

  pub edges_in_order_rise : EdgesInOrder l n → Rising 32 l n
  edges_in_order_rise r = edges_rising l n r.fits r.ranges (and_left _ _ r.rising)

  -- no edge has a number past the last
  pub edge_past : EdgesInOrder l n → (m : ℕ) → suc last_number ≤ m → has_edge (edge_map l n) m ≡ false
  edge_past r m h =
      elim (which_place (place (same_z (pos m)) 0 (column 32 l n))) [
        | inl (i, e) ↦ absurd (past i e)
        | inr e ↦ ap is_some
            (edge_missing l n r.ranges m e)
      ]
    where
      past : (i : ℕ) → place (same_z (pos m)) 0 (column 32 l n) ≡ Some i → ⊥
      past i e =
          let q = edge_found l n r.ranges (pos m) i e in
          let s = (number_in 1 (suc last_number) (λ k. (edge_at l k).number) n
          (ap (numbered 1 (suc last_number)) (sym (edge_numbers_lem l n)) ∙ r.rising) i q.0).1 in
          let t : m ≡ (edge_at l i).number = ap nat_abs q.1 in
          omega arith

-- ---- the containing face

module _ (m : Map) where
  pub no_face_lem : (z : ℤ) → lt_z z (pos 0) ≡ true → true ≡ in_face m (face_of z)
  no_face_lem (pos n) h = absurd (let t = ltb-true n 0 h in omega arith)
  no_face_lem (negsuc n) h = refl

  pub a_face : (z : ℤ) → lt_z z (pos 0) ≡ false → has_face m (nat_abs z) ≡ in_face m (face_of z)
  a_face (pos n) h = refl
  a_face (negsuc n) h = absurd (true≢false h)

-- ---- the edge of a link

-- one below -999,999 has no edge number
pub edge_more : (d : ℤ) → lt_z d (negsuc 999998) ≡ true → suc last_number ≤ nat_abs d
edge_more (pos n) h = absurd (true≢false (sym h))
edge_more (negsuc n) h = let t = ltb-true 999998 n h in omega arith

pub dart_edge : (z : ℤ) → nat_abs z ≡ (dart_of z).edge
dart_edge (pos n) = refl
dart_edge (negsuc n) = refl

-- ---- the ends of a curve

module _ {r : List ℤ} (run : Run r) {k : Curve} (is : curve_of r ≡ k) where
  pub curve_first : point_at r 0 ≡ k.first
  curve_first = ap (λ (c : Curve). c.first) (sym (curve_is run) ∙ is)

  pub curve_last : (n : ℕ) → n + 1 ≡ length r / 2 → point_at r n ≡ last_point k
  curve_last n h = sym (last_is r n h) ∙ ap last_point (sym (curve_is run) ∙ is)
