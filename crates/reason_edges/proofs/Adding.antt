-- The first reason of kinds 11 and 12, from 7 on, from its parts, on tables in form, and what the answer tells. Assumes
-- nothing.
use mathlib.Core.Path.{◌≡◌, refl, sym, ◌∙◌}
use mathlib.Core.Bool.{Bool}
use mathlib.Core.List.{List}
use Prim.Native.Nat.{ℕ, suc, ◌+◌, ◌<◌}
use lib.IntN.{ℤ, pos, nat_abs}
use Rattle.lists.specs.Tests.{bit}
use Rattle.plane.specs.Directions.{Way}
use Rattle.curves.specs.Curves.{Curve, curve_of, start_way}
use Rattle.map.specs.declared.Head.{Head}
use Rattle.map.specs.declared.Variant.{Variant}
use Rattle.map.specs.Limits.{last_number}
use Rattle.map.specs.Rows.{Map, Sizes, map_of, sizes_of, counts, lent}
use Rattle.map.specs.Links.{corner_face}
use Rattle.map.specs.Edits.{splits_face}
use Rattle.map.specs.Reasons.{first_reason, add_edge_reasons}
use Rattle.map.proofs.Reasons.{first_append, first_after}
use Rattle.map_rows.specs.Rows.{node_at}
use Rattle.head.specs.Heads.{sizes_in, room_at}
use Rattle.outcomes.specs.Outcomes.{Formed}
use Rattle.outcomes.proofs.Formed.{node_rows_lem, edge_rows_lem, room_at_lem}
use Rattle.reason_corners.specs.CornerFaces.{corner_cell}
use Rattle.reason_corners.specs.Drawing.{edges_numbered}
use Rattle.reason_corners.proofs.Alike.{splits_alike}
use Rattle.reason_corners.proofs.CornerFaces.{corner-in_form}
use Rattle.reason_edges.specs.Parts.{drawing_reasons, growth_reasons, makes_second}
use Rattle.reason_edges.specs.Judging.{judged_add}
use Rattle.reason_edges.proofs.Drawing.{nodes_are, edges_are, edges_rise, rows-read, bare}

module _ {nodes edges faces : List ℤ} {h : Head} (f : Formed nodes edges faces h) where
  abbrev m : Map
  m = map_of (lent nodes edges faces h)

  abbrev s : Sizes
  s = sizes_of (lent nodes edges faces h)

  -- an edge between two rows
  module _ (how : Variant) (u v : ℕ) (l : List ℤ) where
    abbrev a : ℕ
    a = (node_at nodes u).number

    abbrev b : ℕ
    b = (node_at nodes v).number

    abbrev c : Curve
    c = curve_of l

    abbrev splits : Bool
    splits = splits_face a b c m

    abbrev corner : ℕ
    corner = corner_face m a (start_way c)

    -- the corner face, as it was read
    pub corner_told : u < nat_abs h.nodes → {x : ℕ} {w : Way} {y z : ℤ} → x ≡ nat_abs h.edges → w ≡ start_way c
        → y ≡ z → z ≡ corner_cell nodes u edges x w → y ≡ pos corner
    corner_told hu ex ew ey ez = ey ∙ ez ∙ (λ i. corner_cell nodes u edges (ex i) (ew i))
        ∙ corner-in_form (node_rows_lem f) (edge_rows_lem f) m (nodes_are f) (edges_are f refl) u hu (bare f)
        (start_way c)

    -- whether it is split
    pub splits_told : {x : ℕ} {p : Bool} → x ≡ nat_abs h.edges
        → p ≡ splits_face a b c (edges_numbered edges x (suc last_number)) → p ≡ splits
    splits_told ex ep = ep ∙ splits_alike (rows-read f ex) l m (edges_are f ex) (edges_rise f) a b

    -- one of the reasons before 20 is the first
    pub rows_turned : {k : ℕ} → 0 < k → k ≡ first_reason (drawing_reasons m a b c)
        → k ≡ first_reason (add_edge_reasons how s m a b c)
    rows_turned {k} more e = sym (first_append (drawing_reasons m a b c) (growth_reasons how s m a b c) k more (sym e))

    -- nothing turns it down but room and numbers
    module _ {z : ℤ} {p w : Bool} {k : ℕ} (clear : first_reason (drawing_reasons m a b c) ≡ 0) (ez : z ≡ pos corner)
        (ep : p ≡ splits) (ew : w ≡ makes_second p how (nat_abs z))
        (ek : k ≡ first_reason (room_at (sizes_in nodes edges faces) h (counts 0 1 (bit p))
        (counts 0 1 (bit p + bit w)))) where
      pub rows_late : k ≡ first_reason (add_edge_reasons how s m a b c)
      rows_late =
          let second : w ≡ makes_second splits how corner = ew ∙ (λ i. makes_second (ep i) how (nat_abs (ez i))) in
          ek ∙ (λ i. first_reason (room_at_lem f (counts 0 1 (bit (ep i)))
          (counts 0 1 (bit (ep i) + bit (second i))) i))
          ∙ sym (first_after (drawing_reasons m a b c) (growth_reasons how s m a b c) refl clear)

    pub rows_known : {z : ℤ} {p : Bool} → z ≡ pos corner → p ≡ splits
        → record { face = z; splits = p } ≡ judged_add m a b c
    rows_known ez ep = λ i. record { face = ez i; splits = ep i }
