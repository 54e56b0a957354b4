-- Tables of zeros hold the empty map. Assumes nothing.
use mathlib.Core.Path.{◌≡◌, refl, sym, ap, ◌∙◌}
use borrow.Author.Tests.{not-false}
use mathlib.Core.Bool.{true, not}
use mathlib.Core.List.{List, [], ◌∷◌, flat_map}
use Prim.Native.Nat.{ℕ, suc, ◌+◌, ◌*◌, ◌-◌, ◌/◌, ◌≤◌}
use native.Mathlib.Nat.{sub-zero}
use native.Mathlib.Omega.{arith}
use lib.IntN.{ℤ, pos}
use lib.ListN.{length, replicate}
use Rattle.tables.specs.Tables.{filled, whole_rows}
use Rattle.tables.proofs.Filled.{whole_rows_lem}
use Rattle.map.specs.declared.Head.{Head}
use Rattle.map.specs.Limits.{max_nodes, max_edges, max_faces, node_width, edge_width, face_width}
use Rattle.map.specs.Limits.{PointLimit, is_record, limit_of}
use Rattle.map.specs.Rows.{Lent, empty_map, lent_of, rectangle, sizes_for, whole, head_of, lent}
use Rattle.map.specs.Reasons.{first_reason}
use Rattle.map.specs.Ticket.{emptied, create_reasons}
use Rattle.map.proofs.Reasons.{first_zero}
use Rattle.map.proofs.RoundTrip.{whole_tables}
use Rattle.outcomes.proofs.Formed.{lent_is}

abbrev pub zeros : List ℤ → List ℤ
zeros l = replicate (length l) (pos 0)

module _ (w least most : ℕ) (l : List ℤ) (h : whole_rows w least most l ≡ true) where
  -- no rows, and zeros behind
  pub filled_none : filled (length l / w * w) [] ≡ zeros l
  filled_none = rw (whole_rows_lem w least most l h).size (ap (λ (n : ℕ). replicate n (pos 0)) (sub-zero (length l)))

-- the row of face 0
abbrev five : List ℤ
five = pos 0 ∷ pos 0 ∷ pos 0 ∷ pos 0 ∷ pos 0 ∷ []

face_zero : (n : ℕ) → 5 ≤ n → filled n five ≡ replicate n (pos 0)
face_zero n h =
    let e : n - 5 + 5 ≡ n = omega arith in
    let s : n - 5 + 5 ≡ suc (suc (suc (suc (suc (n - 5))))) = omega arith in
    ap (λ (k : ℕ). replicate k (pos 0)) (sym s ∙ e)

module _ (nodes edges faces : List ℤ) (h : Head) (w : whole (lent nodes edges faces h) ≡ true) where
  parts : (whole_rows node_width 0 max_nodes nodes ≡ true) × (whole_rows edge_width 0 max_edges edges ≡ true)
      × (whole_rows face_width 1 max_faces faces ≡ true)
  parts = whole_tables (lent nodes edges faces h) w

  face_table : filled (length faces / face_width * face_width) five ≡ zeros faces
  face_table =
      let r = whole_rows_lem face_width 1 max_faces faces parts.2 in
      rw r.size (face_zero (length faces) (omega (arith, r.size, r.least)))

  pub empty-lent : (k : PointLimit) → lent_of (sizes_for k (lent nodes edges faces h)) empty_map
      ≡ lent (zeros nodes) (zeros edges) (zeros faces) (head_of k empty_map)
  unfolding flat_map rectangle
  empty-lent k =
      lent_is (rectangle []) (sizes_for k (lent nodes edges faces h)) empty_map
      (filled_none node_width 0 max_nodes nodes parts.0)
      (filled_none edge_width 0 max_edges edges parts.1) face_table refl

  pub emptied-done : (k : ℤ) → is_record k ≡ true → emptied (lent nodes edges faces h) k
      ≡ record {
        lent = lent (zeros nodes) (zeros edges) (zeros faces) (head_of (limit_of k) empty_map);
        answer = record { refusal = 0; value = pos 0 };
      }
  unfolding emptied first_reason
  emptied-done k r = rw (w, r) (ap (λ (l : Lent). record {
    lent = l;
    answer = record { refusal = 0; value = pos 0 };
  }) (empty-lent (limit_of k)))

-- no reason against a creation
module _ (l : Lent) (k : ℤ) (e : first_reason (create_reasons l k) ≡ 0) where
  pub create_whole : whole l ≡ true
  create_whole = not-false (whole l) (first_zero 1 (not (whole l)) ((2, not (is_record k)) ∷ []) (omega arith) e).0

  pub create_recorded : is_record k ≡ true
  create_recorded =
      not-false (is_record k)
      (first_zero 2 (not (is_record k)) [] (omega arith)
      (first_zero 1 (not (whole l)) ((2, not (is_record k)) ∷ []) (omega arith) e).1).0
