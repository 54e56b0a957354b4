-- What kinds 11 and 12 leave and answer along a curve, where nothing turns them down. Assumes nothing.
use mathlib.Core.Path.{◌≡◌, sym, ap, ap₂, ◌∙◌}
use mathlib.Core.Bool.{true, false}
use mathlib.Core.List.{List}
use Prim.Native.Nat.{ℕ, ◌-◌, ◌<◌}
use native.Mathlib.Omega.{arith}
use lib.IntN.{ℤ, pos, nat_abs}
use lib.Signed.{non_neg}
use mir.Syntax.{w64}
use mir.Val.{to_z, of_z}
use Rattle.lists.specs.Scans.{is_some}
use Rattle.curves.specs.Curves.{Curve, Run, curve_of, start_way, max_points}
use Rattle.map.specs.declared.Head.{Head}
use Rattle.map.specs.declared.Variant.{Variant}
use Rattle.map.specs.Rows.{Map, Sizes, map_of, lent_with, sizes_of, lent}
use Rattle.map.specs.Links.{corner_face}
use Rattle.map.specs.Edits.{drawn_in, splits_face, split_face, add_edge}
use Rattle.map.specs.Reasons.{first_reason, add_edge_reasons}
use Rattle.map.proofs.Surplus.{Left}
use Rattle.map_rows.specs.Rows.{node_at, edge_at}
use Rattle.map_rows.proofs.Rows.{edges_length}
use Rattle.outcomes.specs.Outcomes.{Formed}
use Rattle.outcomes.proofs.Formed.{edge-next}
use Rattle.outcomes.proofs.FoundRows.{node-met}
use Rattle.outcomes.proofs.Words.{count_read}
use Rattle.reason_edges.specs.declared.Judged.{Judged}
use Rattle.reason_edges.specs.Judging.{judged_add}
use Rattle.edge_rows.specs.Holds.{Drawable, Drawn}
use Rattle.edge_rows.proofs.Drawn.{drawn-points}
use Rattle.edge_rows.proofs.Formed.{held}
use Rattle.face_rows.specs.Holds.{Splittable, TablesOf}
use Rattle.face_rows.proofs.Formed.{boxes, held_holds, holds_lent}
use Rattle.map_laws.proofs.Readings.{Outline}
use Rattle.map_laws.proofs.Reasons.{AddEdge, add_along}
use Rattle.edit_add.proofs.Drawn.{drawn-table, drawn_held, map_is, last, splits}

-- ---- the map of kinds 11 and 12

module _ (how : Variant) (u v : ℕ) (c : Curve) (m : Map) where
  add-joined : splits_face u v c m ≡ false → add_edge how u v c m ≡ drawn_in u v c m
  unfolding add_edge
  add-joined e = rw e

  add-parted : splits_face u v c m ≡ true → add_edge how u v c m ≡ split_face how m.next.edges (drawn_in u v c m)
  unfolding add_edge
  add-parted e = rw e

module _ {nodes edges faces : List ℤ} {h : Head} (f : Formed nodes edges faces h) where
  abbrev m : Map
  m = map_of (lent nodes edges faces h)

  abbrev s : Sizes
  s = sizes_of (lent nodes edges faces h)

  -- the value is the edge's number, as it was read from the head
  pub add-value : pos m.next.edges ≡ to_z w64 (of_z w64 h.next_edge)
  unfolding map_of
  add-value = let k = edge-next f in sym (count_read h.next_edge k.0 k.2)

  -- what holds where nothing turns it down
  pub add_facts : (how : Variant) (u v : ℕ) (l : List ℤ) → u < nat_abs h.nodes → v < nat_abs h.nodes
      → Left max_points (curve_of l)
      → first_reason (add_edge_reasons how s m (node_at nodes u).number (node_at nodes v).number (curve_of l)) ≡ 0
      → AddEdge how s m (node_at nodes u).number (node_at nodes v).number (curve_of l)
  add_facts how u v l hu hv = add_along s m how (node_at nodes u).number (node_at nodes v).number (curve_of l)
      (ap is_some (node-met f u hu)) (ap is_some (node-met f v hv))

  -- an edge that nothing turns down
  module _ {how : Variant} (u v : ℕ) (l : List ℤ)
      (t : AddEdge how s m (node_at nodes u).number (node_at nodes v).number (curve_of l)) {r : Judged}
      (known : r ≡ judged_add m (node_at nodes u).number (node_at nodes v).number (curve_of l)) {face : ℤ}
      (read : face ≡ r.face) where
    abbrev a : ℕ
    a = (node_at nodes u).number

    abbrev b : ℕ
    b = (node_at nodes v).number

    abbrev c : Curve
    c = curve_of l

    ef : face ≡ pos (corner_face m a (start_way c))
    ef = read ∙ ap (λ (j : Judged). j.face) known

    pub add_drawable : u < nat_abs h.nodes → v < nat_abs h.nodes → Run l → Drawable nodes edges h u v l face
    unfolding map_of
    add_drawable hu hv run =
        record {
          held = held f;
          start = hu;
          end = hv;
          run = run;
          room = omega (arith, t.room.edges, edges_length edges (nat_abs h.edges));
          number = omega (arith, t.supply.edges);
          natural = ap non_neg (ef);
        }

    module _ {nodes' edges' : List ℤ} {h' : Head} (d : Drawn nodes edges h u v l face nodes' edges' h') where
      pub drawn_splittable : r.splits ≡ true → Splittable nodes' edges' faces h' face
      drawn_splittable e = splits f u v l t (ef) d (sym (ap (λ (j : Judged). j.splits) known) ∙ e)

      map-drawn : map_of (lent nodes' edges' faces h') ≡ drawn_in a b c m
      map-drawn = map_is f u v l t (ef) d

      -- no face is split
      pub joined-lent : r.splits ≡ false → lent_with (boxes f) s (add_edge how a b c m) ≡ lent nodes' edges' faces h'
      joined-lent e = ap (lent_with (boxes f) s) (add-joined how a b c m (sym (ap (λ (j : Judged). j.splits) known) ∙ e) ∙ sym map-drawn)
          ∙ holds_lent f d.nodes_long d.edges_long (drawn-points d)
          (held_holds (drawn_held f d) (boxes f) (drawn-table f d))

      last_number_lem : (edge_at edges' (nat_abs h'.edges - 1)).number ≡ m.next.edges
      last_number_lem = ap (λ (o : Outline). o.arc.num) (last f u v l t (ef) d)

      -- a face is split
      pub parted-lent : {nodes'' edges'' faces'' : List ℤ} {h'' : Head} → r.splits ≡ true
          → TablesOf (boxes f) nodes' edges' faces h' (split_face how (edge_at edges' (nat_abs h'.edges - 1)).number
          (map_of (lent nodes' edges' faces h'))) nodes'' edges'' faces'' h''
          → lent_with (boxes f) s (add_edge how a b c m) ≡ lent nodes'' edges'' faces'' h''
      parted-lent e w =
          ap (lent_with (boxes f) s) (add-parted how a b c m (sym (ap (λ (j : Judged). j.splits) known) ∙ e)
          ∙ sym (ap₂ (split_face how) last_number_lem map-drawn))
          ∙ holds_lent f d.nodes_long d.edges_long (drawn-points d) w
