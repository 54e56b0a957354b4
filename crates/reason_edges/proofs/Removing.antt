-- The first reason of kinds 13 and 14 from its parts, on tables in form, and what the answer tells. Assumes nothing.
use Rattle.std.specs.Prelude.{Option, Some, None}
use mathlib.Core.Path.{◌≡◌, sym, ap, ◌∙◌}
use mathlib.Core.Bool.{Bool, true, false}
use mathlib.Core.List.{List, [], ◌∷◌}
use Prim.Native.Nat.{ℕ}
use lib.IntN.{ℤ, nat_abs}
use mir.Syntax.{w64}
use mir.Val.{of_z, to_z, SFits}
use mir.Facts.{to_z-of_z}
use Rattle.lists.specs.Tests.{bit}
use Rattle.lists.specs.Tables.{place}
use Rattle.tables.specs.Tables.{same_z, column}
use Rattle.map.specs.declared.Head.{Head}
use Rattle.map.specs.declared.Variant.{Variant}
use Rattle.map.specs.declared.Variant.TheVariants.{New, Mod}
use Rattle.map.specs.Limits.{edge_width}
use Rattle.map.specs.Rows.{Map, Sizes, counts, map_of, sizes_of, edge, lent}
use Rattle.map.specs.Edits.{makes_face, heals_faces}
use Rattle.map.specs.Reasons.{first_reason, reasons, no_edge}
use Rattle.map.proofs.Reasons.{first_hit, first_miss, first_none}
use Rattle.map_rows.specs.Rows.{edge_at}
use Rattle.head.specs.Heads.{spent_at}
use Rattle.outcomes.specs.Outcomes.{Formed}
use Rattle.head.proofs.Words.{edges_read}
use Rattle.outcomes.proofs.Words.{place_told}
use Rattle.outcomes.proofs.Formed.{counted, edge_none, spent_at_lem, node-left, edge-left, face_left_lem}
use Rattle.outcomes.proofs.FoundRows.{edge_there_lem, edge_is, edge_in, edge-number}
use Rattle.outcomes.specs.Variants.{remove_ticket}
use Rattle.reason_edges.specs.Parts.{makes_of, face_reasons}

module _ {nodes edges faces : List ℤ} {h : Head} (f : Formed nodes edges faces h) where
  abbrev m : Map
  m = map_of (lent nodes edges faces h)

  abbrev s : Sizes
  s = sizes_of (lent nodes edges faces h)

  four : (how : Variant) (z : ℤ) → no_edge m z ≡ true → first_reason (reasons s m (remove_ticket how z)) ≡ 4
  unfolding reasons
  four New z e = first_hit 4 _ _ e
  four Mod z e = first_hit 4 _ _ e

  -- a lookup of the number as it was passed
  pub row_told : {z : ℤ} {n : ℕ} {r v : Option ℕ} → SFits w64 z → n ≡ nat_abs (to_z w64 (of_z w64 h.edges))
      → r ≡ place (same_z (to_z w64 (of_z w64 z))) 0 (column edge_width edges n) → r ≡ v
      → place (same_z z) 0 (column edge_width edges (nat_abs h.edges)) ≡ v
  row_told k en = place_told edge_width edges (edges_read (counted f) en) (to_z-of_z {w = w64} k)

  pub removal_missing : (how : Variant) (z : ℤ) → place (same_z z) 0 (column edge_width edges (nat_abs h.edges)) ≡ None
      → 4 ≡ first_reason (reasons s m (remove_ticket how z))
  removal_missing how z e = sym (four how z (edge_none f z e))

  none_spent : spent_at h (counts 0 0 0) ≡ false
  unfolding spent_at
  none_spent = rw (node-left f, edge-left f, face_left_lem f)

  module _ (z : ℤ) (i : ℕ) (e : place (same_z z) 0 (column edge_width edges (nat_abs h.edges)) ≡ Some i) where
    there : no_edge m z ≡ false
    there = ap (no_edge m) (edge-number f z i e) ∙ edge_there_lem f i (edge_in f z i e)

    makes_told : (how : Variant) → makes_of how (edge_at edges i) ≡ makes_face how (nat_abs z) m
    unfolding makes_face heals_faces
    makes_told how = ap (makes_of how) (sym (ap (λ (k : ℤ). edge m (nat_abs k)) (edge-number f z i e)
        ∙ edge_is f i (edge_in f z i e)))

    late : (how : Variant) → first_reason (reasons s m (remove_ticket how z))
        ≡ first_reason (face_reasons h (bit (makes_face how (nat_abs z) m)))
    unfolding reasons makes_face
    late New =
        first_miss 4 _ _ there
        ∙ ap (λ (b : Bool). first_reason ((21, b) ∷ []))
        (sym (spent_at_lem f (counts 0 0 (bit (makes_face New (nat_abs z) m)))))
    late Mod = first_miss 4 _ _ there ∙ first_none ∙ sym (first_miss 21 _ _ none_spent ∙ first_none)

    module _ (how : Variant) {b : Bool} (eb : b ≡ makes_of how (edge_at edges i)) where
      pub removal_makes : b ≡ makes_face how (nat_abs z) m
      removal_makes = eb ∙ makes_told how

      pub removal_found : {k : ℕ} → k ≡ first_reason (face_reasons h (bit b))
          → k ≡ first_reason (reasons s m (remove_ticket how z))
      removal_found ek = ek ∙ ap (λ (b : Bool). first_reason (face_reasons h (bit b))) removal_makes ∙ sym (late how)
