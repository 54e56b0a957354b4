-- A map in form that obeys the link law, with Euler's sum and all faces reached, lies in the plane. Assumes nothing.
use mathlib.Core.Path.{◌≡◌, sym, ap, ◌∙◌, subst}
use mathlib.Core.Bool.{true}
use mathlib.Core.List.Memᴰ
use mathlib.Core.List.{List, map, Memᴰ}
use native.Mathlib.Omega.{arith}
use lib.ListN.{length, length-map}
use Rattle.lists.specs.Tests.{same}
use Rattle.lists.specs.Members.{Distinct}
use Rattle.lists.proofs.Bools.{same_refl, same_true, same_eq}
use Rattle.lists.proofs.Members.{all_each, each_all}
use Rattle.planar_maps.specs.Map.{Arc, fwd, bwd, rev}
use Rattle.planar_maps.specs.Pieces.{label, along, stay, nums, Euler}
use Rattle.planar_maps.specs.Rings.{same_dart}
use Rattle.planar_maps.specs.Reached.{Even}
use Rattle.planar_maps.proofs.Chains.{chain_alike, chain_of_label, label_of_chain}
use Rattle.planar_maps.proofs.Turns.{rev-rev}
use Rattle.planar_maps.proofs.Colours.{planar_of_sum}
use Rattle.rotation.proofs.Ties.{tells}
use Rattle.rotation.proofs.Whole.{law_reach}
use Rattle.map.specs.Rows.{Edge, Map}
use Rattle.map.specs.Darts.{arcs, directed, leaves, next, bears, way}
use Rattle.map.specs.Form.{formed}
use Rattle.map.proofs.Laws.{formed_is}
use Rattle.grown.specs.Good.{Woven}
use Rattle.map_laws.proofs.Readings.{arc_of, arc_at, bears-left, bears_right}
use Rattle.map_laws.proofs.RowChanges.{node_number}
use Rattle.grown.proofs.Plane.Reached.{Reached, reached_borne}
use Rattle.grown.proofs.Law.Lawful.{Lawful}
use Rattle.certified.specs.Certified.{sum_holds, crossing, faces_reached}

module _ (m : Map) where
  -- ---- faces reached

  abbrev steps : List Arc
  steps = map crossing m.edges

  module _ (once : Distinct (nums (arcs m))) where
    pub reached_says : faces_reached m ≡ true → Reached m
    unfolding faces_reached
    reached_says h S even f k = chain_alike S sides (chain_of_label steps f 0
        (same_true _ _ (all_each (λ g. same (label steps g) (label steps 0)) m.faces h f k)))
      where
        side : (e : Edge) → Memᴰ e m.edges → S e.left ≡ S e.right
        side e k = ap S (sym (bears-left m once k)) ∙ even (arc_of e) (arc_at m k) ∙ ap S (bears_right m once k)

        sides : (a : Arc) → Memᴰ a steps → S a.from ≡ S a.to
        sides a j = let r = Memᴰ.of_map crossing m.edges j in
            subst (λ (b : Arc). S b.from ≡ S b.to) r.2 (side r.0 r.1)

    pub reached_is : Reached m → faces_reached m ≡ true
    unfolding faces_reached
    reached_is r = each_all (λ g. same (label steps g) (label steps 0)) m.faces
        (λ f k. r (λ g. same (label steps g) (label steps 0)) even f k ∙ same_refl (label steps 0))
      where
        -- the two sides of a step have one label
        side : (e : Edge) → Memᴰ e m.edges
            → label steps (bears m (fwd e.number)) ≡ label steps (bears m (bwd e.number))
        side e k = ap (label steps) (bears-left m once k)
            ∙ label_of_chain (along (crossing e) (Memᴰ.map crossing k) stay)
            ∙ ap (label steps) (sym (bears_right m once k))

        even : Even (arcs m) (bears m) (λ g. same (label steps g) (label steps 0))
        even a j = let r = Memᴰ.of_map arc_of m.edges j in ap (λ x. same x (label steps 0))
            (subst (λ (b : Arc). label steps (bears m (fwd b.num)) ≡ label steps (bears m (bwd b.num))) r.2
            (side r.0 r.1))

  -- ---- the sum

  abbrev Sum : Type 0
  Sum = Euler (map node_number m.nodes) (arcs m) (length m.faces)

  pub sum_says : sum_holds m ≡ true → Sum
  unfolding sum_holds
  sum_says h =
      omega (arith, same_true _ _ h, length-map m.nodes node_number, length-map m.edges arc_of)

  pub sum_is : Sum → sum_holds m ≡ true
  unfolding sum_holds
  sum_is h =
      same_eq _ _ (omega (arith, h, length-map m.nodes node_number, length-map m.edges arc_of))

  -- ---- the plane

  pub woven : formed m ≡ true → Lawful m → Sum → Reached m → Woven m
  woven form l sum reached = record {
    planar = planar_of_sum m.faces 0 (formed_is m form).numbers.nodes.distinct
        (formed_is m form).numbers.faces.distinct l.within l.linked sum reached l.once
        (law_reach same_dart rev (leaves m) (way m) tells rev-rev (directed m) (next m) l.law l.apart);
    law = l.law;
    borne = reached_borne m reached;
  }
