-- An edge drawn in between two corners of one face: where both sides of the edge are on one ring, or its faces are told
-- apart, a map in the plane stays one. Assumes nothing.
use mathlib.Core.Path.{◌≡◌, refl, sym, ap, ◌∙◌, subst}
use mathlib.Core.List.Memᴰ
use mathlib.Core.List.{List, ◌∷◌, Memᴰ}
use Prim.Native.Nat.{ℕ, suc}
use lib.ListN.{length}
use Rattle.curves.specs.Curves.{Curve}
use Rattle.planar_maps.specs.Map.{Arc, Dart, fwd, bwd, darts}
use Rattle.planar_maps.specs.Rings.{Leads}
use Rattle.planar_maps.specs.Weave.{woven}
use Rattle.planar_maps.specs.Planar.{Planar}
use Rattle.planar_maps.proofs.Cycles.{Grown}
use Rattle.planar_maps.proofs.Rings.{next_in_lem}
use Rattle.planar_maps.proofs.Leads.{leads_through}
use Rattle.planar_maps.proofs.Agree.{planar_agree}
use Rattle.planar_maps.proofs.Moves.{planar_perm}
use Rattle.planar_maps.proofs.Weaving.{planar_join, planar_split}
use Rattle.map.specs.Rows.{Map}
use Rattle.map.specs.Darts.{arcs, directed, leaves, next, bears}
use Rattle.map.specs.Edits.{drawn}
use Rattle.map_laws.proofs.Readings.{arc_of}
use Rattle.map_laws.proofs.RowChanges.{node_numbers}
use Rattle.map_laws.proofs.LinkedIn.{drawn_row}
use Rattle.map_laws.proofs.DrawnLinked.{Draws, WovenIn, woven_in, w_linked, D-perm, all_D, D-leaves, D-bears, D-faces}
use Rattle.map_laws.proofs.Drawn.{D-nodes}
use Rattle.grown.specs.Good.{InPlane}

module _ (m : Map) (u v : ℕ) (c : Curve) (φ : ℕ) (draws : Draws m u v c φ) (planar : InPlane m)
    (start : Memᴰ u (node_numbers m)) (end : Memᴰ v (node_numbers m)) where
  abbrev e : ℕ
  e = m.next.edges

  abbrev f : Dart
  f = fwd m.next.edges

  abbrev b : Dart
  b = bwd m.next.edges

  abbrev a : Arc
  a = arc_of (drawn_row m u v c φ)

  abbrev D : Map
  D = drawn u v c φ m

  abbrev K : WovenIn m u v c φ
  K = woven_in m u v c φ draws

  in_nodes_lem : {faces : ℕ} {face : Dart → ℕ} → Planar (node_numbers m) (a ∷ arcs m) (leaves D) (next D) face faces
      → Planar (node_numbers D) (arcs D) (leaves D) (next D) face faces
  in_nodes_lem {faces} {face} p = subst (λ (ns : List ℕ). Planar ns (arcs D) (leaves D) (next D) face faces)
      (sym (D-nodes m u v c φ draws.free)) (planar_perm (D-perm m u v c φ draws) p)

  -- both sides of the edge on one ring
  pub D-join : Leads (next D) f b → InPlane (drawn u v c φ m)
  D-join r = subst (λ (l : List ℕ). Planar (node_numbers D) (arcs D) (leaves D) (next D) (bears D) (length l))
      (sym (D-faces m u v c φ draws))
      (in_nodes_lem (planar_agree (D-leaves m u v c φ draws) K.links (D-bears m u v c φ draws)
      (planar_join planar a draws.free.fresh start end φ K.start K.end K.fits_start K.fits-end
      (leads_through (next D) (woven e K.start K.end (next m)) (λ d. d) (darts (a ∷ arcs m))
      (λ d k. Memᴰ.cast (K.links d k) (next_in_lem (w_linked m u v c φ draws) k)) (λ d k. (1, sym (K.links d k)))
      (Memᴰ.head refl) r))))

  -- the two sides told apart by new labels, which are constant along the links
  pub D-split : (new : Dart → ℕ) (μ : ℕ → ℕ) → Grown a (arcs m) (bears m) new μ → ((new f ≡ new b) → ⊥)
      → ((d : Dart) → Memᴰ d (directed D) → new (next D d) ≡ new d)
      → Planar (node_numbers D) (arcs D) (leaves D) (next D) new (suc (length m.faces))
  D-split new μ grown apart keeps = in_nodes_lem (planar_agree (D-leaves m u v c φ draws) K.links (λ d k. refl)
      (planar_split planar a draws.free.fresh start end φ K.start K.end K.fits_start K.fits-end new μ
      grown apart (λ d k. ap new (sym (K.links d k)) ∙ keeps d (all_D m u v c φ draws k))))
