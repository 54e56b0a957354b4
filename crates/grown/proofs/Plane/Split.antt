-- Kinds 7 and 8: a split keeps a map in the plane. Assumes nothing.
use mathlib.Core.Path.{◌≡◌, refl, sym, ap, subst}
use mathlib.Core.List.Permᴰ
use mathlib.Core.List.{List, ◌∷◌, map, Permᴰ}
use Prim.Native.Nat.{ℕ, ◌+◌}
use lib.ListN.{length}
use Rattle.lists.proofs.Perms.{map_last}
use Rattle.plane.specs.declared.Point.{Point}
use Rattle.planar_maps.specs.Map.{Arc}
use Rattle.planar_maps.specs.Planar.{Planar}
use Rattle.planar_maps.proofs.Moves.{planar_perm}
use Rattle.map.specs.declared.Variant.{Variant}
use Rattle.map.specs.declared.Variant.TheVariants.{New, Mod}
use Rattle.map.specs.Rows.{Map, Sizes, edge, at_edge, without_edge}
use Rattle.map.specs.Links.{redirect}
use Rattle.map.specs.Darts.{arcs, leaves, next, bears}
use Rattle.map.specs.Edits.{split}
use Rattle.map_laws.proofs.Readings.{arc_of}
use Rattle.map_laws.proofs.RowChanges.{node_number}
use Rattle.map_laws.proofs.Reasons.{Split}
use Rattle.grown.specs.Good.{InPlane}
use Rattle.grown.proofs.Plane.Change.{planar_nodes}
use Rattle.grown.proofs.Plane.SplitEdge.{split_planar}
use Rattle.grown.proofs.Law.Lawful.{Lawful}
use Rattle.grown.proofs.Law.Split.{InHalves, arcs_m, arcs_m', halves, new_halves, kept_halves}

module _ (m m' : Map) (e n a b : ℕ) (p : Point) (L : Lawful m) (h : InHalves m m' e n a b p)
    (faces : m'.faces ≡ m.faces) (nodes : Permᴰ (n ∷ map node_number m.nodes)
    (map node_number m'.nodes)) where
  abbrev r : List Arc
  r = map arc_of (without_edge e m.edges)

  planar_halves : InPlane m → InPlane m'
  planar_halves o = subst (λ (k : ℕ). Planar (map node_number m'.nodes) (arcs m') (leaves m') (next m') (bears m') k)
      (ap length (sym faces))
      (planar_nodes nodes (planar_perm (Permᴰ.symm (arcs_m' m m' e n a b p L h))
      (split_planar e a b (edge m e).start n (edge m e).end r (halves m m' e n a b p L h)
      (planar_perm (arcs_m m m' e n a b p L h) o) h.new_node_lem)))

-- ---- the kinds

module _ (m : Map) (L : Lawful m) (s : Sizes) (e : ℕ) (p : Point) where
  pub planar_split : (how : Variant) → Split how s m e p → InPlane m → InPlane (split how e p m)
  unfolding split redirect at_edge
  planar_split New h = planar_halves m (split New e p m) e m.next.nodes m.next.edges (m.next.edges + 1) p L
      (new_halves m e p L h.has h.free h.on) refl (map_last node_number m.nodes _)
  planar_split Mod h = planar_halves m (split Mod e p m) e m.next.nodes e m.next.edges p L
      (kept_halves m e p L h.has h.free h.on) refl (map_last node_number m.nodes _)
