-- Condition 2 by its parts: each is read from the rows that it needs, and the first that does not hold decides. Assumes
-- nothing.
use mathlib.Core.Path.{◌≡◌, refl, sym, ap, ap₂, ◌∙◌}
use mathlib.Core.Bool.{Bool, true, false, ◌&&◌}
use mathlib.Core.List.{List}
use Prim.Native.Nat.{◌/◌, ◌≤◌}
use lib.IntN.{ℤ}
use lib.ListN.{length}
use lib.Signed.{non_neg}
use Rattle.lists.specs.Scans.{all_of}
use Rattle.tables.specs.Tables.{rows}
use Rattle.tables.proofs.Filled.{whole_rows_lem}
use Rattle.curves.proofs.Runs.{and_left, and_right}
use Rattle.map.specs.declared.Head.{Head}
use Rattle.map.specs.Rows.{map_of, whole, edge, lent, rectangle}
use Rattle.map.specs.Darts.{leaves, next, bears, course, way, departures}
use Rattle.map.specs.Form.{counts_fit, nexts_fit, curve_fits, numbers, named, departures_differ, bare_marked, links_once}
use Rattle.map.specs.Form.{links_meet, rings_bear_one, formed, has_box, boxed, in_form}
use Rattle.map.specs.Limits.{max_nodes, max_edges, max_faces, node_width, edge_width, face_width, is_record, limit_of}
use Rattle.map.proofs.RoundTrip.{whole_tables}
use Rattle.map.specs.declared.Counts.{Counts}
use Rattle.map_rows.specs.Rows.{edges_of, node_map, edge_map}
use Rattle.head.specs.Heads.{counts_of}
use Rattle.form_ranges.specs.Ranges.{map_in, ranged_rows, HeadFits, Named}
use Rattle.form_ranges.proofs.Parts.{ranged_is, map_is, curves_are, counted, counts-natural}
use Rattle.form_links.specs.Drawn.{drawn_map}

-- ---- five tests

module _ (a b c d e : Bool) where
  abbrev five : Bool
  five = a && (b && (c && (d && e)))

  regroup : (u v x y z : Bool) → d ≡ u && v → e ≡ x && y && z → a && b && c && u && v && x && y && z ≡ five
  regroup u v x y z p q = rw (p, q) (spread a b c u v x y z)
    where
      spread : (a b c u v x y z : Bool) → a && b && c && u && v && x && y && z ≡ a
          && (b && (c && (u && v && (x && y && z))))
      spread true true true true true x y z = refl
      spread true true true true false x y z = refl
      spread true true true false v x y z = refl
      spread true true false u v x y z = refl
      spread true false c u v x y z = refl
      spread false b c u v x y z = refl

-- ---- the conditions on rows

module _ (nodes edges faces : List ℤ) (c : Counts) (h : Head) where
  differ_drawn : departures_differ (drawn_map nodes c.nodes edges c.edges)
      ≡ departures_differ (map_in nodes edges faces c h)
  unfolding departures_differ departures leaves way course edge
  differ_drawn = refl

  bare_drawn : bare_marked (drawn_map nodes c.nodes edges c.edges) ≡ bare_marked (map_in nodes edges faces c h)
  unfolding bare_marked departures leaves edge
  bare_drawn = refl

  once_linked : links_once (edge_map edges c.edges) ≡ links_once (map_in nodes edges faces c h)
  unfolding links_once next edge
  once_linked = refl

  meet_linked : links_meet (edge_map edges c.edges) ≡ links_meet (map_in nodes edges faces c h)
  unfolding links_meet next leaves edge
  meet_linked = refl

  bear_linked : rings_bear_one (edge_map edges c.edges) ≡ rings_bear_one (map_in nodes edges faces c h)
  unfolding rings_bear_one next bears edge
  bear_linked = refl

  -- the five tests
  abbrev pub curved : Bool
  curved = all_of (curve_fits (node_map nodes c.nodes)) (edges_of edges c.edges)

  abbrev pub departed : Bool
  departed = departures_differ (drawn_map nodes c.nodes edges c.edges)
      && bare_marked (drawn_map nodes c.nodes edges c.edges)

  abbrev pub linked : Bool
  linked = links_once (edge_map edges c.edges) && links_meet (edge_map edges c.edges)
      && rings_bear_one (edge_map edges c.edges)

  formed_is : formed (map_in nodes edges faces c h)
      ≡ five (numbers (map_in nodes edges faces c h)) (named (map_in nodes edges faces c h)) curved departed linked
  unfolding formed
  formed_is =
      let m = map_in nodes edges faces c h in
      rw (← curves_are nodes edges faces c h (edges_of edges c.edges))
      (regroup (numbers m) (named m) curved departed linked (departures_differ m) (bare_marked m) (links_once m)
      (links_meet m) (rings_bear_one m)
      (ap₂ ◌&&◌ differ_drawn bare_drawn) (ap₂ ◌&&◌ (ap₂ ◌&&◌ once_linked meet_linked) bear_linked))

  -- and the sixth: the rectangles
  abbrev pub fitted : Bool
  fitted = all_of (has_box (rectangle (edges_of edges c.edges))) (rows face_width c.faces faces)

  abbrev pub judged : Bool
  judged = formed (map_in nodes edges faces c h) && fitted

  judged_is : judged ≡ five (numbers (map_in nodes edges faces c h)) (named (map_in nodes edges faces c h)) curved
      departed linked && fitted
  judged_is = ap (λ (b : Bool). b && fitted) formed_is

  -- the first that does not hold decides
  module _ (n : numbers (map_in nodes edges faces c h) ≡ true) where
    pub stop₂ : named (map_in nodes edges faces c h) ≡ false → judged ≡ false
    stop₂ e = judged_is ∙ rw (n, e)

    module _ (m : named (map_in nodes edges faces c h) ≡ true) where
      pub stop₃ : curved ≡ false → judged ≡ false
      stop₃ e = judged_is ∙ rw (n, m, e)

      module _ (k : curved ≡ true) where
        pub stop₄ : departed ≡ false → judged ≡ false
        stop₄ e = judged_is ∙ rw (n, m, k, e)

        module _ (d : departed ≡ true) where
          pub stop₅ : linked ≡ false → judged ≡ false
          stop₅ e = judged_is ∙ rw (n, m, k, d, e)

          pub last₆ : linked ≡ true → judged ≡ fitted
          last₆ e = judged_is ∙ rw (n, m, k, d, e)

  pub stop₁ : numbers (map_in nodes edges faces c h) ≡ false → judged ≡ false
  stop₁ e = judged_is ∙ rw e

-- ---- in form

module _ (nodes edges faces : List ℤ) (h : Head) where
  -- counts, next numbers and the record
  abbrev pub headed : Bool
  headed = counts_fit (lent nodes edges faces h) && nexts_fit h && is_record h.points

  -- the rows, under the record
  abbrev pub in_range : Bool
  in_range = ranged_rows nodes edges faces (counts_of h) (limit_of h.points)

  boxed_is : boxed (lent nodes edges faces h) ≡ fitted nodes edges faces (counts_of h) h
  unfolding boxed map_of
  boxed_is = refl

  in_form_is : in_form (lent nodes edges faces h) ≡ headed && (in_range && judged nodes edges faces (counts_of h) h)
  unfolding in_form
  in_form_is =
      ap₂ ◌&&◌ (ap₂ ◌&&◌ (ranged_is nodes edges faces h) (ap formed (map_is nodes edges faces h))) boxed_is
      ∙ regroup₄ headed in_range (formed (map_in nodes edges faces (counts_of h) h))
      (fitted nodes edges faces (counts_of h) h)
    where
      regroup₄ : (x y z w : Bool) → x && y && z && w ≡ x && (y && (z && w))
      regroup₄ true true z w = refl
      regroup₄ true false z w = refl
      regroup₄ false y z w = refl

  pub unfit_head : headed ≡ false → in_form (lent nodes edges faces h) ≡ false
  unfit_head e = in_form_is ∙ rw e

  module _ (e : headed ≡ true) where
    counts_in : counts_fit (lent nodes edges faces h) && nexts_fit h ≡ true
    counts_in = and_left (counts_fit (lent nodes edges faces h) && nexts_fit h) (is_record h.points) e

    pub head_known : HeadFits nodes edges faces (counts_of h) h
    head_known =
        let p = counts_fit (lent nodes edges faces h) in
        counted nodes edges faces h (and_left p (nexts_fit h) counts_in) (and_right p (nexts_fit h) counts_in)
        (and_right (p && nexts_fit h) (is_record h.points) e)

    pub head_natural : (non_neg h.nodes ≡ true) × (non_neg h.edges ≡ true) × (non_neg h.faces ≡ true)
    head_natural = counts-natural nodes edges faces h
        (and_left (counts_fit (lent nodes edges faces h)) (nexts_fit h) counts_in)

    pub unranged : in_range ≡ false → in_form (lent nodes edges faces h) ≡ false
    unranged f = in_form_is ∙ rw (e, f)

    pub by_formed : in_range ≡ true → in_form (lent nodes edges faces h) ≡ judged nodes edges faces (counts_of h) h
    by_formed f = in_form_is ∙ rw (e, f)

  -- room of whole tables
  pub whole_room : whole (lent nodes edges faces h) ≡ true → (length nodes / node_width ≤ max_nodes)
      × (length edges / edge_width ≤ max_edges) × (length faces / face_width ≤ max_faces)
  whole_room e =
      let t = whole_tables (lent nodes edges faces h) e in (
        (whole_rows_lem node_width 0 max_nodes nodes t.0).most,
        (whole_rows_lem edge_width 0 max_edges edges t.1).most,
        (whole_rows_lem face_width 1 max_faces faces t.2).most,
      )

-- what a map in form is known to be
pub record InForm (nodes edges faces : List ℤ) (c : Counts) (h : Head) : Type 0 where
  pub named : Named nodes edges faces c h
  pub formed : formed (map_in nodes edges faces c h) ≡ true

pub in_form_known : (nodes edges faces : List ℤ) (h : Head) → in_form (lent nodes edges faces h) ≡ true
    → InForm nodes edges faces (counts_of h) h
in_form_known nodes edges faces h e =
    let m = map_in nodes edges faces (counts_of h) h in
    let p = headed nodes edges faces h in
    let q = in_range nodes edges faces h in
    let f = sym (in_form_is nodes edges faces h) ∙ e in
    let w = judged nodes edges faces (counts_of h) h in
    let rows = and_right p (q && w) f in
    let g = and_left (formed m) (fitted nodes edges faces (counts_of h) h) (and_right q w rows) in
    let k = curved nodes edges faces (counts_of h) h
    && (departed nodes edges faces (counts_of h) h && linked nodes edges faces (counts_of h) h) in
    let five = sym (formed_is nodes edges faces (counts_of h) h) ∙ g in
    record {
      named = record {
        in_order = record {
          in_ranges = record {
            counted = head_known nodes edges faces h (and_left p (q && w) f);
            ranged = and_left q w rows;
          };
          numbers = and_left (numbers m) (named m && k) five;
        };
        named = and_left (named m) k (and_right (numbers m) (named m && k) five);
      };
      formed = g;
    }

-- the counts of a map in form
pub in_form-natural : (nodes edges faces : List ℤ) (h : Head) → in_form (lent nodes edges faces h) ≡ true
    → (non_neg h.nodes ≡ true) × (non_neg h.edges ≡ true) × (non_neg h.faces ≡ true)
in_form-natural nodes edges faces h e =
    head_natural nodes edges faces h (and_left (headed nodes edges faces h)
    (in_range nodes edges faces h && judged nodes edges faces (counts_of h) h) (sym (in_form_is nodes edges faces h) ∙ e))
