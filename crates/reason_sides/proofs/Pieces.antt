-- Two edges start on one piece where the nodes there have one label. Assumes nothing.
use mathlib.Core.Path.{◌≡◌, sym, ap, ◌∙◌}
use mathlib.Core.Logic.{inl, inr}
use mathlib.Core.List.{List}
use Prim.Native.Nat.{ℕ, ◌+◌, ◌*◌, ◌<◌}
use lib.IntN.{ℤ, pos, nat_abs}
use lib.ListN.{get_or}
use lib.Signed.{non_neg}
use Rattle.lists.specs.Tests.{same}
use Rattle.lists.specs.Tables.{place}
use Rattle.lists.proofs.Bools.{agree, same_true, same_eq}
use Rattle.tables.specs.Tables.{same_z, column}
use Rattle.tables.proofs.Lookups.{which_place}
use Rattle.map.specs.Limits.{node_width, edge_width}
use Rattle.map.specs.Rows.{has_node}
use Rattle.map.specs.Darts.{arcs, piece_of}
use Rattle.map_rows.specs.Rows.{node_at, node_map, edge_at, edge_map}
use Rattle.map_rows.proofs.Lookups.{node_found}
use Rattle.piece_labels.specs.Labels.{Ended, Labelled, label_of}
use Rattle.piece_labels.proofs.Places.{not_missing}
use Rattle.piece_labels.proofs.Joins.{number_once, ends_there, cells}

module _ {nodes edges : List ℤ} {n e : ℕ} {labels : List ℕ} (t : Ended nodes n edges e)
    (w : Labelled (arcs (edge_map edges e)) nodes n labels) where
  -- the label of the node where edge row j starts
  abbrev label_at : ℕ → ℕ
  label_at j = label_of labels (place (same_z (get_or edges (j * edge_width + 1) (pos 0))) 0 (column node_width nodes n))

  abbrev piece_at : ℕ → ℕ
  piece_at j = piece_of (edge_map edges e) (edge_at edges j).start

  -- it is the row of the lowest node of its piece
  label_is : (j : ℕ) → j < e → (label_at j < n) × ((node_at nodes (label_at j)).number ≡ piece_at j)
  label_is j h =
      let z = get_or edges (j * edge_width + 1) (pos 0) in
      let start = (cells t j h).start in
      elim (which_place (place (same_z z) 0 (column node_width nodes n))) [
        | inl (i, q) ↦
            let r = node_found nodes n t.nodes.ranges z i q in
            let at = ap (label_of labels) q in
            rw at (
              w.below i r.0,
              w.lowest i r.0 ∙ ap (piece_of (edge_map edges e))
                  (ap nat_abs (sym r.1 ∙ start)),
            )
        | inr q ↦ absurd (not_missing nodes n z t.nodes (ap non_neg start)
            (ap (λ (y : ℤ). has_node (node_map nodes n) (nat_abs y)) start ∙ (ends_there t j h).0) q)
      ]

  pub labels_tell : (i j : ℕ) → i < e → j < e → same (label_at i) (label_at j) ≡ same (piece_at i) (piece_at j)
  labels_tell i j h k =
      let a = label_is i h in
      let b = label_is j k in
      agree (same (label_at i) (label_at j)) (same (piece_at i) (piece_at j))
      (λ q. same_eq (piece_at i) (piece_at j) (sym a.1
      ∙ ap (λ (r : ℕ). (node_at nodes r).number) (same_true (label_at i) (label_at j) q) ∙ b.1))
      (λ q. same_eq (label_at i) (label_at j) (number_once t.nodes (label_at i) (label_at j) a.0 b.0
      (a.1 ∙ same_true (piece_at i) (piece_at j) q ∙ sym b.1)))
