-- Kind 4, and kinds 11 and 12 where no face is split, keep a map in the plane. Assumes nothing.
use mathlib.Core.Path.{◌≡◌, refl, sym, ap, ◌∙◌}
use mathlib.Core.Logic.{inl, inr}
use mathlib.Core.Bool.{true, false}
use mathlib.Core.List.Memᴰ
use mathlib.Core.List.{◌∷◌, Memᴰ}
use mathlib.Core.Option.{get_or}
use Prim.Native.Nat.{ℕ}
use borrow.Author.Tests.{not-false}
use Rattle.curves.specs.Curves.{Curve, start_way}
use Rattle.planar_maps.specs.Map.{Dart, fwd, bwd}
use Rattle.planar_maps.specs.Rings.{Leads}
use Rattle.planar_maps.specs.Weave.{with_edge}
use Rattle.planar_maps.proofs.Hooks.{fresh_dart, with_fwd, with_bwd, with_other}
use Rattle.rotation.specs.Law.{from}
use Rattle.map.specs.declared.Variant.{Variant}
use Rattle.map.specs.Rows.{Map, Sizes, node, has_node}
use Rattle.map.specs.Darts.{arcs, directed, leaves, next, ring, among}
use Rattle.map.specs.Links.{corner_face}
use Rattle.map.specs.Edits.{drawn, add_iso_edge, drawn_in, splits_face}
use Rattle.map_laws.proofs.Readings.{number_has, departs}
use Rattle.map_laws.proofs.RowChanges.{node_number, no_node}
use Rattle.map_laws.proofs.Reasons.{AddLone, AddEdge}
use Rattle.map_laws.proofs.Rings.{among_in, ring_leads}
use Rattle.map_laws.proofs.Departures.{from_in}
use Rattle.map_laws.proofs.Form.{edge_new}
use Rattle.map_laws.proofs.Drawn.{D-alone}
use Rattle.map_laws.proofs.DrawnLinked.{Draws, draws_edge_lem, all_D, D-linked, D-once}
use Rattle.grown.specs.Good.{InPlane}
use Rattle.grown.proofs.Law.Lawful.{Lawful}
use Rattle.grown.proofs.Law.Add.{lawful-lone}
use Rattle.grown.proofs.Plane.Drawn.{D-join}

-- ---- what the tickets' facts give

module _ (m : Map) (L : Lawful m) (s : Sizes) (u v : ℕ) (c : Curve) where
  -- both nodes are isolated
  draws_lone : (φ : ℕ) → AddLone s m u v c → Draws m u v c φ
  draws_lone φ h = record {
    linked = L.linked;
    once = L.once;
    free = lawful-lone m L s u v c h;
    corner_start = λ d k. absurd (L.bare u h.has_start h.isolated_start d (departs m u k).0 (departs m u k).1);
    corner-end = λ d k. absurd (L.bare v h.has_end h.isolated-end d (departs m v k).0 (departs m v k).1);
  }

  pub draws_added : (how : Variant) → AddEdge how s m u v c → Draws m u v c (corner_face m u (start_way c))
  draws_added how h = draws_edge_lem h L.linked L.once L.apart (edge_new m L.edges_below)

-- ---- both sides on one ring

module _ (m : Map) (u v : ℕ) (c : Curve) (φ : ℕ) (draws : Draws m u v c φ) where
  joined_planar : has_node m u ≡ true → has_node m v ≡ true
      → Leads (next (drawn u v c φ m)) (fwd m.next.edges) (bwd m.next.edges)
      → InPlane m → InPlane (drawn u v c φ m)
  joined_planar has-u has-v leads o = D-join m u v c φ draws o (number_has node_number no_node m.nodes u has-u)
      (number_has node_number no_node m.nodes v has-v) leads

-- ---- kind 4

module _ (s : Sizes) (m : Map) (u v : ℕ) (c : Curve) (L : Lawful m) (h : AddLone s m u v c) where
  φ : ℕ
  φ = get_or (node m u).face 0

  alone : Leads (next (drawn u v c φ m)) (fwd m.next.edges) (bwd m.next.edges)
  alone = (1, D-alone m u v c φ (draws_lone m L s u v c φ h).free none)
    where
      T : Dart → ℕ
      T = with_edge m.next.edges u v (leaves m)

      none : (d : Dart) → Memᴰ d (from T (fwd m.next.edges ∷ directed m) (T (bwd m.next.edges))) → ⊥
      none d k = elim (Memᴰ.cases_cons j.0) [
        | inl p ↦ h.differ (sym (with_fwd m.next.edges u v (leaves m)) ∙ ap T (sym p) ∙ at_v)
        | inr i ↦ L.bare v h.has_end h.isolated-end d i
            (sym (with_other m.next.edges u v (leaves m) d
            (fresh_dart (record { num = m.next.edges; from = u; to = v }) (arcs m) (edge_new m L.edges_below) i))
            ∙ at_v)
      ]
        where
          j : Memᴰ d (fwd m.next.edges ∷ directed m) × (T d ≡ T (bwd m.next.edges))
          j = from_in T (fwd m.next.edges ∷ directed m) (T (bwd m.next.edges)) k

          at_v : T d ≡ v
          at_v = j.1 ∙ with_bwd m.next.edges u v (leaves m)

  pub planar_4 : InPlane m → InPlane (add_iso_edge u v c m)
  unfolding add_iso_edge φ
  planar_4 = joined_planar m u v c φ (draws_lone m L s u v c φ h) h.has_start h.has_end alone

-- ---- kinds 11 and 12, with e and -e on one ring

module _ (how : Variant) (s : Sizes) (m : Map) (u v : ℕ) (c : Curve) (L : Lawful m) (h : AddEdge how s m u v c)
    (whole : splits_face u v c m ≡ false) where
  one-ring : Leads (next (drawn_in u v c m)) (fwd m.next.edges) (bwd m.next.edges)
  unfolding splits_face
  one-ring = ring_leads (drawn_in u v c m) (D-linked m u v c (corner_face m u (start_way c)) draws)
      (D-once m u v c (corner_face m u (start_way c)) draws) (fwd m.next.edges)
      (all_D m u v c (corner_face m u (start_way c)) draws (Memᴰ.head refl))
      (among_in (ring (drawn_in u v c m) (fwd m.next.edges)) (bwd m.next.edges)
      (not-false (among (ring (drawn_in u v c m) (fwd m.next.edges)) (bwd m.next.edges)) whole))
    where
      draws : Draws m u v c (corner_face m u (start_way c))
      draws = draws_added m L s u v c how h

  pub planar_joining : InPlane m → InPlane (drawn_in u v c m)
  planar_joining = joined_planar m u v c (corner_face m u (start_way c)) (draws_added m L s u v c how h) h.has_start
      h.has_end one-ring
