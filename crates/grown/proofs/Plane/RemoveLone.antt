-- An edge taken out: a map stays in the plane where the faces on the two sides become one. Kind 5. Assumes nothing.
use mathlib.Core.Path.{◌≡◌, sym, ap, ◌∙◌, subst, refl}
use mathlib.Core.Logic.{◌⊎◌, inl, inr, ◌≢◌}
use mathlib.Core.List.{List, Memᴰ}
use Prim.Native.Nat.{ℕ, suc}
use lib.ListN.{length}
use Rattle.lists.proofs.Members.{one_member}
use Rattle.planar_maps.specs.Map.{fwd, bwd, rev}
use Rattle.planar_maps.specs.Rings.{same_dart}
use Rattle.planar_maps.specs.Planar.{Planar}
use Rattle.planar_maps.proofs.Bridges.{Either, Shrunk}
use Rattle.planar_maps.proofs.Rings.{next_in_lem}
use Rattle.planar_maps.proofs.Moves.{planar_perm}
use Rattle.planar_maps.proofs.Agree.{planar_agree}
use Rattle.rotation.specs.Law.{others}
use Rattle.rotation.specs.Law as rotation
use Rattle.map.specs.Rows.{Map, edge}
use Rattle.map.specs.Darts.{arcs, directed, leaves, next, bears, departures}
use Rattle.map.specs.Links.{unlink_edge}
use Rattle.map.specs.Edits.{remove_iso_edge}
use Rattle.map_laws.proofs.Readings.{leaves_row, has_dart, departing}
use Rattle.map_laws.proofs.Reasons.{RemoveLone}
use Rattle.map_laws.proofs.Outlines.{undrawn_face_list}
use Rattle.map_laws.proofs.RowChanges.{node_numbers}
use Rattle.grown.specs.Good.{InPlane, Good}
use Rattle.grown.proofs.Plane.Unlink.{taken_part, taken-merge}
use Rattle.grown.proofs.Plane.SplitFace.{Faced}
use Rattle.grown.proofs.Law.Remove.{Taken, left, lone-taken}
use Rattle.grown.proofs.Plane.Add.{faced}
use Rattle.grown.proofs.Law.Lawful.{Lawful, good_lawful}

-- the faces fs after the edge e is gone, the old ones by μ; the two sides of the edge become one
pub record Merging (m : Map) (e : ℕ) (μ : ℕ → ℕ) (fs : List ℕ) : Type 0 where
  pub one : μ (bears m (fwd e)) ≡ μ (bears m (bwd e))
  pub back : ℕ → ℕ
  pub goes_back : (g : ℕ) → Memᴰ g m.faces → (back (μ g) ≡ g)
      ⊎ (Either (bears m (fwd e)) (bears m (bwd e)) (back (μ g)) × Either (bears m (fwd e)) (bears m (bwd e)) g)
  pub count : ((bears m (fwd e) ≡ bears m (bwd e)) × (length fs ≡ length m.faces))
      ⊎ ((bears m (fwd e) ≢ bears m (bwd e)) × (length m.faces ≡ suc (length fs)))

module _ (m X : Map) (e : ℕ) (μ : ℕ → ℕ) (t : Taken m X e μ) (faced : Faced m)
    (merging : Merging m e μ X.faces) where
  shrunk : Shrunk (record { num = e; from = t.from; to = t.to }) (arcs X) (bears m) (λ d. μ (bears m d))
      merging.back
  shrunk = record { others = λ d k. merging.goes_back (bears m d) (faced.borne d (left t k).0) }

  after : {faces : ℕ} → Planar (node_numbers m) (arcs X) (leaves m) (rotation.unlink_edge same_dart rev (fwd e) (next m))
      (λ d. μ (bears m d)) faces → Planar (node_numbers X) (arcs X) (leaves X) (next X) (bears X) faces
  after {faces} p = subst (λ (ns : List ℕ). Planar ns (arcs X) (leaves X) (next X) (bears X) faces) (sym t.nodes)
      (planar_agree t.leaves t.next t.bears p)

  pub taken_planar : InPlane m → InPlane X
  taken_planar o = elim merging.count [
    | inl q ↦ subst (λ (n : ℕ). Planar (node_numbers X) (arcs X) (leaves X) (next X) (bears X) n) (sym q.1)
        (after (taken_part (planar_perm t.perm o) μ merging.back merging.one shrunk q.0))
    | inr q ↦ after (taken-merge (planar_perm t.perm o) μ merging.back merging.one shrunk (length X.faces)
        q.1 q.0)
  ]

-- ---- kind 5

module _ (m : Map) (e : ℕ) (good : Good m) (h : RemoveLone m e) where
  abbrev L : Lawful m
  L = good_lawful m good

  -- e turns back at its end, where nothing else departs
  turns : next m (fwd e) ≡ bwd e
  unfolding departures
  turns = one_member (departures m (edge m e).end) h.end_alone
      (departing m (edge m e).end (next_in_lem L.linked in_f) (L.linked.meets (fwd e) in_f ∙ leaves_row m (bwd e)))
      (departing m (edge m e).end (has_dart m (bwd e) h.has) (leaves_row m (bwd e)))
    where
      in_f : Memᴰ (fwd e) (directed m)
      in_f = has_dart m (fwd e) h.has

  one_face : bears m (fwd e) ≡ bears m (bwd e)
  one_face = sym (L.linked.keeps (fwd e) (has_dart m (fwd e) h.has)) ∙ ap (bears m) turns

  lone_merging : Merging m e (λ g. g) (remove_iso_edge e m).faces
  unfolding remove_iso_edge
  lone_merging = record {
    one = one_face;
    back = λ g. g;
    goes_back = λ g k. inl refl;
    count = inl (one_face, ap length (undrawn_face_list e (edge m e).left m));
  }

  pub planar_5 : InPlane (remove_iso_edge e m)
  planar_5 = taken_planar m (remove_iso_edge e m) e (λ g. g) (lone-taken m L e h.has) (faced m good) lone_merging
      good.woven.planar
