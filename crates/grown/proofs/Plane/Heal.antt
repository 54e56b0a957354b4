-- Kinds 9 and 10: a heal keeps a map in the plane. Assumes nothing.
use mathlib.Core.Path.{◌≡◌, refl, sym, ap, ◌∙◌, subst}
use mathlib.Core.Logic.{inl, inr, ◌≢◌}
use mathlib.Core.List.Memᴰ
use mathlib.Core.List.Permᴰ
use mathlib.Core.List.{List, ◌∷◌, map, Memᴰ, Permᴰ}
use mathlib.Core.Option.{get_or}
use Prim.Native.Nat.{ℕ, ◌<◌}
use native.Mathlib.Omega.{arith}
use lib.ListN.{length}
use Rattle.lists.proofs.Perms.{perm_in}
use Rattle.planar_maps.specs.Map.{Arc, Dart, fwd, bwd, rev, darts}
use Rattle.planar_maps.specs.Pieces.{nums, Isolated}
use Rattle.planar_maps.specs.Planar.{Planar}
use Rattle.planar_maps.proofs.Cycles.{fwd_in, bwd_in}
use Rattle.planar_maps.proofs.Moves.{planar_perm}
use Rattle.planar_maps.proofs.Splitting.{tail_in_lem}
use Rattle.map.specs.declared.Variant.{Variant}
use Rattle.map.specs.declared.Variant.TheVariants.{New, Mod}
use Rattle.map.specs.Rows.{Edge, Map, edge, at_edge, without_node, without_edge}
use Rattle.map.specs.Darts.{arcs, leaves, next, bears}
use Rattle.map.specs.Links.{redirect}
use Rattle.map.specs.Edits.{joint, parts, heal}
use Rattle.map.proofs.Laws.{edge_there_lem}
use Rattle.map_laws.proofs.Readings.{arc_of, number_of, has_number}
use Rattle.map_laws.proofs.RowChanges.{node_number}
use Rattle.map_laws.proofs.Reasons.{Heal}
use Rattle.grown.specs.Good.{InPlane}
use Rattle.grown.proofs.Plane.Change.{planar_nodes, node_first}
use Rattle.grown.proofs.Plane.HealEdge.{heal_planar}
use Rattle.grown.proofs.Law.Lawful.{Lawful}
use Rattle.grown.proofs.Law.Whole.{Healed, arcs_m, arcs_m', old_m, old_c, old_d, halves}
use Rattle.grown.proofs.Law.Heal.{seam, new_f, new_healed, kept_healed}
use Rattle.grown.proofs.Joint.{Seamed}

module _ (m : Map) (L : Lawful m) (e f n : ℕ) (c d : Dart) (s : Seamed m e f n c d) (m' : Map) (h : ℕ)
    (rest : List Edge) (q : Healed m m' e h c d rest) (faces : m'.faces ≡ m.faces) where
  abbrev r : List Arc
  r = map arc_of rest

  -- nothing else ends at the joint
  lone : Isolated n r
  lone = record {
    starts = λ x k p. away (fwd x.num) (fwd_in k) (L.linked.starts x (in_m k) ∙ p);
    ends = λ x k p. away (bwd x.num) (bwd_in k) (L.linked.ends x (in_m k) ∙ p);
  }
    where
      in_m : {x : Arc} → Memᴰ x r → Memᴰ x (arcs m)
      in_m k = perm_in (Permᴰ.symm (arcs_m m L e f n c d s m' h rest q)) (Memᴰ.tail (Memᴰ.tail k))

      away : (z : Dart) → Memᴰ z (darts r) → leaves m z ≡ n → ⊥
      away z k p =
          elim (s.only z (old_m m L e f n c d s m' h rest q k) p) [
            | inl x ↦ old_c m L e f n c d s m' h rest q z k
                (ap (λ (z : Dart). z.edge) x)
            | inr x ↦ old_d m L e f n c d s m' h rest q z k (ap (λ (z : Dart). z.edge) x)
          ]

  planar_whole : Permᴰ (map node_number m.nodes) (n ∷ map node_number m'.nodes) → f ≢ h
      → (Memᴰ f (nums (map arc_of rest)) → ⊥) → InPlane m → InPlane m'
  planar_whole nodes not_f new_f o = subst
      (λ (k : ℕ). Planar (map node_number m'.nodes) (arcs m') (leaves m') (next m') (bears m') k)
      (ap length (sym faces))
      (planar_perm (Permᴰ.symm (arcs_m' m L e f n c d s m' h rest q))
      (heal_planar h f c d (leaves m c) n (leaves m (rev d)) r (halves m L e f n c d s m' h rest q) not_f new_f
      (planar_nodes nodes (planar_perm (arcs_m m L e f n c d s m' h rest q) o)) lone s.from s.to))

-- ---- the kinds

module _ (m : Map) (L : Lawful m) (e f : ℕ) (q : Heal m e f) where
  abbrev c₀ : Dart
  c₀ = (parts m e f).0

  abbrev d₀ : Dart
  d₀ = (parts m e f).1

  abbrev n₀ : ℕ
  n₀ = get_or (joint m e f) 0

  abbrev others : List Edge
  others = without_edge e (without_edge f m.edges)

  nodes : InPlane m → Permᴰ (map node_number m.nodes) (n₀ ∷ map node_number (without_node n₀ m.nodes))
  nodes o = node_first m n₀ (has_number node_number m.nodes n₀
      (subst (λ (x : ℕ). Memᴰ x (map node_number m.nodes)) (seam m L e f q).meet.departs
      (tail_in_lem L.linked L.within (seam m L e f q).second_in))) o.nodes_once

  f_below : f < m.next.edges
  f_below = let x = edge_there_lem m f q.has_other in
      subst (λ (i : ℕ). i < m.next.edges) x.1 (L.edges_below (edge m f).number (Memᴰ.map number_of x.0))

  pub planar_heal : (how : Variant) → InPlane m → InPlane (heal how e f m)
  unfolding heal redirect at_edge
  planar_heal New o = planar_whole m L e f n₀ c₀ d₀ (seam m L e f q) (heal New e f m) m.next.edges others
      (new_healed m L e f q) refl (nodes o) (λ p. omega (arith, f_below, p)) (new_f m L e f q) o
  planar_heal Mod o = planar_whole m L e f n₀ c₀ d₀ (seam m L e f q) (heal Mod e f m) e others
      (kept_healed m L e f q) refl (nodes o) (λ p. q.differ (sym p)) (new_f m L e f q) o
