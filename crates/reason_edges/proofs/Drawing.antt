-- The reasons before 20 against an edge between two rows of tables in form, in the map's terms. Assumes nothing.
use mathlib.Core.Path.{◌≡◌, refl, sym, ap, ◌∙◌}
use mathlib.Core.Bool.{Bool, true, false, not}
use mathlib.Core.List.{List, ◌∷◌, map}
use Prim.Native.Nat.{ℕ, ◌*◌, ◌<◌}
use native.Mathlib.Omega.{arith}
use lib.IntN.{ℤ, pos, nat_abs}
use lib.ListN.{get_or}
use Rattle.curves.specs.Curves.{Curve, Run, curve_of, start_way}
use Rattle.curves.specs.Edits.{course}
use Rattle.map.specs.declared.Head.{Head}
use Rattle.map.specs.Limits.{node_width}
use Rattle.map.specs.Rows.{Node, Edge, Map, map_of, lent}
use Rattle.map.specs.Form.{bare_marked}
use Rattle.map.specs.Reasons.{Reasons, first_reason, curve_reasons, meeting_reasons, direction_taken, corners_differ}
use Rattle.tables.specs.Tables.{same_z, numbered}
use Rattle.map_rows.specs.Rows.{node_at, nodes_of, edges_of, node_map, edge_map, NodeRows, EdgeRows, edges_alone}
use Rattle.map_rows.proofs.Rows.{node_cells_lem, node-row_of}
use Rattle.outcomes.specs.Outcomes.{Formed}
use Rattle.outcomes.proofs.Formed.{formed-map, node_rows_lem, edge_rows_lem, numbers_rise}
use Rattle.outcomes.proofs.FoundRows.{node_is}
use Rattle.reason_curves.specs.Sent.{curve_reasons_at, edges_but}
use Rattle.map.proofs.Laws.{formed_is}
use Rattle.map.proofs.Reasons.{first_hit, first_miss, first_append, first_after}
use Rattle.reason_curves.proofs.Maps.{meeting_alike, curve_reasons_at_lem}
use Rattle.reason_curves.proofs.Others.{edges_all}
use Rattle.reason_departures.proofs.Taken.{Own}
use Rattle.reason_departures.proofs.Alone.{taken_alone}
use Rattle.reason_corners.specs.CornerFaces.{corner_cell}
use Rattle.reason_corners.proofs.CornerFaces.{corners_differ_lem}
use Rattle.reason_corners.proofs.Drawn.{fresh-number}
use Rattle.reason_edges.specs.Parts.{drawing_reasons}

pub number-cell : {nodes : List ℤ} {n : ℕ} → NodeRows nodes n → (i : ℕ) → i < n → get_or nodes (i * node_width) (pos 0)
    ≡ pos (node_at nodes i).number
number-cell {nodes} s i h = (node_cells_lem nodes i (node-row_of s i h).ranges).number

-- ---- tables in form

module _ {nodes edges faces : List ℤ} {h : Head} (f : Formed nodes edges faces h) where
  abbrev m : Map
  m = map_of (lent nodes edges faces h)

  pub nodes_are : m.nodes ≡ nodes_of nodes (nat_abs h.nodes)
  unfolding map_of
  nodes_are = refl

  pub edges_rise : numbered 1 m.next.edges (map (λ r. r.number) m.edges) ≡ true
  unfolding map_of
  edges_rise = (numbers_rise f).1

  pub bare : bare_marked m ≡ true
  bare = (formed_is m (formed-map f)).bare

  -- the count of edges as it was read
  module _ {e : ℕ} (k : e ≡ nat_abs h.edges) where
    pub rows-read : EdgeRows edges e
    rows-read = rw k (edge_rows_lem f)

    pub edges_are : m.edges ≡ edges_of edges e
    unfolding map_of
    edges_are = ap (edges_of edges) (sym k)

    -- the next number is that of no row
    pub own_none : Own edges e e m.next.edges
    own_none = record { is = λ j. absurd (omega arith); none = λ j. fresh-number edges e m edges_are edges_rise }

    module _ (u v : ℕ) (hu : u < nat_abs h.nodes) (hv : v < nat_abs h.nodes) {l : List ℤ} (run : Run l) where
      abbrev a : ℕ
      a = (node_at nodes u).number

      abbrev b : ℕ
      b = (node_at nodes v).number

      abbrev c : Curve
      c = curve_of l

      abbrev later : Reasons
      later = (11, direction_taken m m.next.edges a b c) ∷ (12, corners_differ m a b c)
          ∷ meeting_reasons m m.edges c

      ends_told : first_reason (curve_reasons_at c (node_at nodes u).at (node_at nodes v).at)
          ≡ first_reason (curve_reasons m c a b)
      ends_told = ap first_reason (curve_reasons_at_lem m c a b (ap (λ (r : Node). r.at) (node_is f u hu))
          (ap (λ (r : Node). r.at) (node_is f v hv)))

      pub drawn_early : {r : ℕ} → 0 < r → r ≡ first_reason (curve_reasons_at c (node_at nodes u).at (node_at nodes v).at)
          → r ≡ first_reason (drawing_reasons m a b c)
      drawn_early {r} some k = sym (first_append (curve_reasons m c a b) later r some (sym (k ∙ ends_told)))

      taken_told : direction_taken (edge_map edges e) m.next.edges a b c ≡ direction_taken m m.next.edges a b c
      taken_told = ap (λ (es : List Edge). direction_taken (edges_alone es) m.next.edges a b c) (sym edges_are)
          ∙ sym (taken_alone m m.next.edges a b c)

      module _ (clear : first_reason (curve_reasons_at c (node_at nodes u).at (node_at nodes v).at) ≡ 0) where
        from-later : first_reason (drawing_reasons m a b c) ≡ first_reason later
        from-later = first_after (curve_reasons m c a b) later refl (sym ends_told ∙ clear)

        pub drawn-taken : {r : Bool} → r ≡ direction_taken (edge_map edges e) m.next.edges a b c → r ≡ true
            → 11 ≡ first_reason (drawing_reasons m a b c)
        drawn-taken er et = sym (from-later ∙ first_hit 11 _ _ (sym taken_told ∙ sym er ∙ et))

        module _ {r : Bool} (er : r ≡ direction_taken (edge_map edges e) m.next.edges a b c)
            (et : r ≡ false) where
          from_corners : first_reason (drawing_reasons m a b c)
              ≡ first_reason ((12, corners_differ m a b c) ∷ meeting_reasons m m.edges c)
          from_corners = from-later ∙ first_miss 11 _ _ (sym taken_told ∙ sym er ∙ et)

          module _ {q : Bool} (eq : q ≡ not (same_z (corner_cell nodes u edges e (start_way (course false c)))
              (corner_cell nodes v edges e (start_way (course true c))))) where
            differ_told : q ≡ corners_differ m a b c
            differ_told = eq ∙ corners_differ_lem (node_rows_lem f) rows-read m nodes_are edges_are bare u v hu hv run

            pub drawn_differ : q ≡ true → 12 ≡ first_reason (drawing_reasons m a b c)
            drawn_differ k = sym (from_corners ∙ first_hit 12 _ _ (sym differ_told ∙ k))

            pub drawn-meets : q ≡ false → {n j : ℕ} → n ≡ nat_abs h.nodes → j
                ≡ first_reason (meeting_reasons (node_map nodes n) (edges_but edges e e) c) → j
                ≡ first_reason (drawing_reasons m a b c)
            drawn-meets z {n} en ej =
                ej ∙ ap first_reason (meeting_alike (node_map nodes n) m c
                (ap (nodes_of nodes) en ∙ sym nodes_are)
                (edges_all edges e e (omega arith) ∙ sym edges_are))
                ∙ sym (from_corners ∙ first_miss 12 _ _ (sym differ_told ∙ z))
