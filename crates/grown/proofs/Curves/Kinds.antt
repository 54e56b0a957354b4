-- Surveyed kept by all kinds of edits but heals. Assumes nothing.
use mathlib.Core.Path.{◌≡◌, sym, ap, ◌∙◌, subst}
use mathlib.Core.Bool.{true, false, not, cond, true≢false}
use mathlib.Core.List.Memᴰ
use mathlib.Core.List.{List, [], ◌∷◌, ◌++◌, map, map-map, Memᴰ}
use mathlib.Core.Logic.{◌⊎◌, inl, inr, ◌≢◌}
use Prim.Native.Nat.{ℕ, ◌+◌}
use Rattle.lists.specs.Tests.{same}
use Rattle.lists.proofs.Bools.{same_false}
use Rattle.lists.proofs.Keeps.{keep_has}
use Rattle.lists.proofs.Members.{none_has}
use Rattle.plane.specs.declared.Point.{Point}
use Rattle.plane.specs.declared.Contact.TheVariants.{None}
use Rattle.plane.specs.Points.{same_point}
use Rattle.curves.specs.Curves.{Curve}
use Rattle.curves.specs.Tests.{meeting, is_met, meet_wrongly}
use Rattle.curves.proofs.Meetings.{met_adds, gravest_any}
use Rattle.geometry.proofs.Meeting.{same_point_differ, differs_true}
use Rattle.map.specs.declared.Variant.{Variant}
use Rattle.map.specs.declared.Variant.TheVariants.{New, Mod}
use Rattle.map.specs.Rows.{Edge, Map, Sizes, node, edge, has_node, has_edge, without_node, without_edge}
use Rattle.map.specs.Edits.{add_iso_node, move_iso_node, remove_iso_node, add_iso_edge, remove_iso_edge, change_edge_geom, split}
use Rattle.map.specs.Edits.{add_edge, remove_edge}
use Rattle.map.specs.Reasons.{isolated, any_node_at, edge_meeting}
use Rattle.map.proofs.Laws.{edge_there_lem, node_there_lem}
use Rattle.map_laws.proofs.Readings.{without, outline_of}
use Rattle.map_laws.proofs.Reasons.{Sent, AddNode, MoveNode, RemoveNode, AddLone, Change, Split, AddEdge}
use Rattle.grown.specs.Good.{Surveyed, Good}
use Rattle.grown.proofs.Numbers.Ranked.{numbered_ranked}
use Rattle.grown.proofs.Curves.Kept.{sent_kept, sent_some}
use Rattle.grown.proofs.Curves.Survey.{Line, Place, line_of, place_of, lines, places, at_in, place_number}
use Rattle.grown.proofs.Curves.Survey.{line_number, Sited, Survey, lines_once, place-fresh, named_nodes, place_in}
use Rattle.grown.proofs.Curves.Survey.{survey, surveyed_by}
use Rattle.grown.proofs.Curves.Sites.{Clear, Drawable, survey_plot, survey_unplot, survey_move, survey_keep}
use Rattle.grown.proofs.Curves.Sites.{survey_append, survey_change}
use Rattle.grown.proofs.Curves.Cut.{first_half, second_half, survey_split_new, survey_split_mod}
use Rattle.grown.proofs.Curves.Rows.{Becomes, without_lines, new_line, redrawn, add_iso_node_becomes}
use Rattle.grown.proofs.Curves.Rows.{move_iso_node_becomes, remove_iso_node_becomes, add_iso_edge_becomes}
use Rattle.grown.proofs.Curves.Rows.{remove_iso_edge_becomes, change_edge_geom_becomes, add_edge_becomes}
use Rattle.grown.proofs.Curves.Rows.{remove_edge_becomes}
use Rattle.grown.proofs.Curves.Halves.{replaced, split_new_becomes, split_mod_becomes}

-- a survey of what the map becomes
by : {m : Map} {ls : List Line} {ps : List Place} → Becomes m ls ps → Survey ls ps → Surveyed m
by {m} b S = surveyed_by m b.lines b.places S

module _ (m : Map) (G : Good m) where
  -- ---- what the reasons say of lines and places

  -- no node lies on the point
  free-point : (p : Point) → any_node_at m.nodes p ≡ false → Memᴰ p (map at_in (places m)) → ⊥
  unfolding any_node_at
  free-point p h k =
      let w = Memᴰ.of_map (λ n. n.at) m.nodes (subst (Memᴰ p) (map-map at_in place_of m.nodes) k) in
      same_point_differ w.0.at p (none_has (λ n. same_point n.at p) m.nodes h w.0 w.1) w.2

  -- nor does another node
  free_other : (n : ℕ) (p : Point) → any_node_at (without_node n m.nodes) p ≡ false → (q : Place)
      → Memᴰ q (places m)
      → q.number ≢ n → q.at ≢ p
  unfolding any_node_at
  free_other n p h q k d e =
      let w = Memᴰ.of_map place_of m.nodes k in
      let other = keep_has (λ r. not (same r.number n)) m.nodes w.1
      (ap not (same_false w.0.number n (λ f. d (sym (ap place_number w.2) ∙ f)))) in
      same_point_differ w.0.at p (none_has (λ r. same_point r.at p) (without_node n m.nodes) h w.0 other)
      (ap at_in w.2 ∙ e)

  -- no line ends at an isolated node
  alone : (n : ℕ) → has_node m n ≡ true → isolated m n ≡ true → (l : Line) → Memᴰ l (lines m) → Clear n l
  alone n h i l k = record { start = λ e. ends (inl e); end = λ e. ends (inr e) }
    where
      w : (e : Edge) × Memᴰ e m.edges × (line_of e ≡ l)
      w = Memᴰ.of_map line_of m.edges k

      ends : (l.start ≡ n) ⊎ (l.end ≡ n) → ⊥
      ends c = true≢false (sym i ∙ ((numbered_ranked m G.woven.planar.edges_once G.numbered).placed (node m n)
          (node_there_lem m n h).0).bare
          (outline_of w.0, Memᴰ.map outline_of w.1, at c))
        where
          at : (l.start ≡ n) ⊎ (l.end ≡ n) → (w.0.start ≡ (node m n).number) ⊎ (w.0.end ≡ (node m n).number)
          at (inl e) = inl (ap (λ (x : Line). x.start) w.2 ∙ e ∙ sym (node_there_lem m n h).1)
          at (inr e) = inr (ap (λ (x : Line). x.end) w.2 ∙ e ∙ sym (node_there_lem m n h).1)

  -- the curve meets no line wrongly
  meets_none : (es : List Edge) (c : Curve) → edge_meeting es c ≡ None → (l : Line) → Memᴰ l (map line_of es)
      → meet_wrongly c l.curve ≡ false
  unfolding edge_meeting
  meets_none es c h l k =
      let w = Memᴰ.of_map line_of es k in
      subst (λ (x : Line). meet_wrongly c x.curve ≡ false) w.2
      (none_has (λ e. meet_wrongly c e.curve) es
      (sym (gravest_any is_met met_adds (λ e. meeting c e.curve) es) ∙ ap is_met h) w.0 w.1)

  -- a sent curve between two nodes
  sent_sited : (e u v : ℕ) (c : Curve) → has_node m u ≡ true → has_node m v ≡ true → Sent m c u v
      → Sited (places m) (new_line e u v c)
  sent_sited e u v c hu hv s =
      record {
        kept = sent_kept s;
        start = Memᴰ.cast (λ t. record { number = u; at = s.start t }) (place_in m u hu);
        end = Memᴰ.cast (λ t. record { number = v; at = s.end t }) (place_in m v hv);
      }

  sent_drawable : (c : Curve) (u v : ℕ) (es : List Edge) → Sent m c u v → edge_meeting es c ≡ None
      → Drawable c (map line_of es)
  sent_drawable c u v es s h =
      record {
        some = sent_some c s;
        differ = differs_true c.first c.rest s.differ;
        simple = s.simple;
        meets = meets_none es c h;
      }

  -- ---- kinds 1 to 3

  pub surveyed_1 : (s : Sizes) (p : Point) → AddNode s m p → Surveyed (add_iso_node p m)
  surveyed_1 s p h = by (add_iso_node_becomes p m)
      (survey_plot (lines m) (places m) _ (survey m G) h.in_range (place-fresh m G) (free-point p h.free))

  pub surveyed_2 : (n : ℕ) (p : Point) → MoveNode m n p → Surveyed (move_iso_node n p m)
  surveyed_2 n p h = by (move_iso_node_becomes n p m)
      (survey_move (lines m) (places m) n p (survey m G) h.in_range (free_other n p h.free)
      (alone n h.has h.isolated))

  pub surveyed_3 : (n : ℕ) → RemoveNode m n → Surveyed (remove_iso_node n m)
  surveyed_3 n h = by (remove_iso_node_becomes n m)
      (survey_unplot (lines m) (places m) n (survey m G) (alone n h.has h.isolated))

  -- ---- kinds 4, 5, 11 to 14

  -- a curve that a ticket draws
  drawn_in_lem : (u v : ℕ) (c : Curve) → has_node m u ≡ true → has_node m v ≡ true → Sent m c u v
      → edge_meeting m.edges c ≡ None → Survey (lines m ++ (new_line m.next.edges u v c ∷ [])) (places m)
  drawn_in_lem u v c hu hv s w = survey_append (lines m) (places m) (new_line m.next.edges u v c) (survey m G)
      (sent_drawable c u v m.edges s w) (sent_sited m.next.edges u v c hu hv s)

  pub surveyed_4 : (s : Sizes) (u v : ℕ) (c : Curve) → AddLone s m u v c → Surveyed (add_iso_edge u v c m)
  surveyed_4 s u v c h = by (add_iso_edge_becomes u v c m)
      (drawn_in_lem u v c h.has_start h.has_end h.sent h.clear)

  pub surveyed_5 : (e : ℕ) → Surveyed (remove_iso_edge e m)
  surveyed_5 e = by (remove_iso_edge_becomes e m) (survey_keep _ (lines m) (places m) (survey m G))

  -- kinds 11 (how) and 12
  pub surveyed_add : (how : Variant) (s : Sizes) (u v : ℕ) (c : Curve) → AddEdge how s m u v c
      → Surveyed (add_edge how u v c m)
  surveyed_add how s u v c h = by (add_edge_becomes how u v c m)
      (drawn_in_lem u v c h.has_start h.has_end h.sent h.clear)

  -- kinds 13 (how) and 14
  pub surveyed_remove : (how : Variant) (e : ℕ) → Surveyed (remove_edge how e m)
  surveyed_remove how e = by (remove_edge_becomes how e m) (survey_keep _ (lines m) (places m) (survey m G))

  -- ---- kinds 6 to 8

  module _ (e : ℕ) (h : has_edge m e ≡ true) where
    row_in : Memᴰ (line_of (edge m e)) (lines m)
    row_in = Memᴰ.map line_of (edge_there_lem m e h).0

    numbered : (edge m e).number ≡ e
    numbered = (edge_there_lem m e h).1

  pub surveyed_6 : (e : ℕ) (c : Curve) → Change m e c → Surveyed (change_edge_geom e c m)
  surveyed_6 e c h = by (change_edge_geom_becomes e c m)
      (subst (λ (k : ℕ). Survey (map (λ l. cond (same l.number k) (redrawn c l) l) (lines m)) (places m))
      (numbered e h.has)
      (survey_change (lines m) (places m) (line_of (edge m e)) (redrawn c) (survey m G) (lines_once m G)
      (row_in e h.has) drawable
      (sent_sited (edge m e).number (edge m e).start (edge m e).end c named.0 named.1 h.sent)))
    where
      named : (has_node m (edge m e).start ≡ true) × (has_node m (edge m e).end ≡ true)
      named = named_nodes m G (edge m e) (edge_there_lem m e h.has).0

      drawable : Drawable c (without line_number (edge m e).number (lines m))
      drawable = subst (λ (k : ℕ). Drawable c (without line_number k (lines m))) (sym (numbered e h.has))
          (subst (Drawable c) (without_lines e m.edges)
          (sent_drawable c (edge m e).start (edge m e).end (without_edge e m.edges) h.sent h.clear))

  pub surveyed_split : (how : Variant) (s : Sizes) (e : ℕ) (p : Point) → Split how s m e p → Surveyed (split how e p m)
  surveyed_split New s e p h =
      let l = line_of (edge m e) in
      let n = m.next.nodes in
      by (split_new_becomes e p m) (subst (λ (k : ℕ). Survey (without line_number k (lines m)
      ++ (first_half l n m.next.edges p ∷ second_half l n (m.next.edges + 1) p ∷ []))
      (places m ++ (record { number = n; at = p } ∷ []))) (numbered e h.has)
      (survey_split_new (lines m) (places m) l n m.next.edges (m.next.edges + 1) p (survey m G) (lines_once m G)
      (row_in e h.has) h.on h.in_range (place-fresh m G) (free-point p h.free)))
  surveyed_split Mod s e p h =
      let l = line_of (edge m e) in
      let n = m.next.nodes in
      by (split_mod_becomes e p m) (subst (λ (k : ℕ). Survey (map (replaced k (first_half l n e p)) (lines m)
      ++ (second_half l n m.next.edges p ∷ [])) (places m ++ (record { number = n; at = p } ∷ [])))
      (numbered e h.has)
      (survey_split_mod (lines m) (places m) l n e m.next.edges p (survey m G) (lines_once m G) (row_in e h.has)
      h.on h.in_range (place-fresh m G) (free-point p h.free)))
