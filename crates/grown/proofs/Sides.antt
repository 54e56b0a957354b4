-- Rows with other faces: all else is read as it was. Assumes nothing.
use mathlib.Core.Path.{◌≡◌, refl, sym, ap, ◌∙◌, subst}
use mathlib.Core.Bool.{Bool, true, false}
use mathlib.Core.List.{List, map, Memᴰ}
use Prim.Native.Nat.{ℕ}
use Rattle.planar_maps.specs.Map.{Arc, Dart, fwd, bwd, rev, darts}
use Rattle.planar_maps.specs.Rings.{same_dart}
use Rattle.planar_maps.specs.Planar.{Planar}
use Rattle.planar_maps.proofs.Agree.{planar_agree}
use Rattle.curves.specs.Curves.{start_way}
use Rattle.rotation.specs.Law.{Law}
use Rattle.map.specs.Rows.{Edge, Map, edge, has_edge}
use Rattle.map.specs.Darts.{arcs, directed, leaves, next, bears, way}
use Rattle.map.specs.Edits.{with_sides}
use Rattle.map.proofs.Laws.{edge_there_lem}
use Rattle.map_laws.proofs.Readings.{tail_in, next_in, face_in, course_in, leaves_row, next_row, bears_row, course_row}
use Rattle.map_laws.proofs.Readings.{way_row, dart_has, mapped_has, mapped_edge, mapped_kept, mapped_arcs}
use Rattle.map_laws.proofs.Departures.{law_agree}

-- m' is m with other faces: l and r say which for a row
module _ (m m' : Map) (l r : Edge → ℕ) (E : m'.edges ≡ map (λ e. with_sides (l e) (r e) e) m.edges) where
  sided : Edge → Edge
  sided e = with_sides (l e) (r e) e

  pub sides_arcs : arcs m' ≡ arcs m
  unfolding sided
  sides_arcs = mapped_arcs m m' sided E (λ e k. refl) (λ e k. refl)

  pub sides_has : (e : ℕ) → has_edge m' e ≡ has_edge m e
  unfolding sided
  sides_has = mapped_has m m' sided E (λ e k. refl)

  pub sides_leaves : (d : Dart) → leaves m' d ≡ leaves m d
  unfolding sided
  sides_leaves d = leaves_row m' d ∙ mapped_kept m m' sided E (λ e k. refl) (tail_in d.back) (λ e. refl) d.edge
      ∙ sym (leaves_row m d)

  pub sides_next : (d : Dart) → next m' d ≡ next m d
  unfolding sided
  sides_next d = next_row m' d ∙ mapped_kept m m' sided E (λ e k. refl) (next_in d.back) (λ e. refl) d.edge
      ∙ sym (next_row m d)

  pub sides_way : (d : Dart) → way m' d ≡ way m d
  unfolding sided
  sides_way d = way_row m' d ∙ ap start_way
      (course_row m' d ∙ mapped_kept m m' sided E (λ e k. refl) (course_in d.back) (λ e. refl) d.edge
      ∙ sym (course_row m d)) ∙ sym (way_row m d)

  -- what a directed edge bears is what the row's side came to be
  pub sides_bears : (new : Dart → ℕ) → ((e : Edge) → Memᴰ e m.edges → l e ≡ new (fwd e.number))
      → ((e : Edge) → Memᴰ e m.edges → r e ≡ new (bwd e.number)) → (d : Dart) → Memᴰ d (directed m)
      → bears m' d ≡ new d
  unfolding sided
  sides_bears new hl hr d k = bears_row m' d
      ∙ ap (face_in d.back) (mapped_edge m m' sided E (λ e k. refl) d.edge (dart_has m k)) ∙ go d.back refl
    where
      row : Memᴰ (edge m d.edge) m.edges × ((edge m d.edge).number ≡ d.edge)
      row = edge_there_lem m d.edge (dart_has m k)

      go : (b : Bool) → d.back ≡ b → face_in b
          (with_sides (l (edge m d.edge)) (r (edge m d.edge)) (edge m d.edge)) ≡ new d
      go true e = hr (edge m d.edge) row.0 ∙ ap new (λ i. record { edge = row.1 i; back = sym e i })
      go false e = hl (edge m d.edge) row.0 ∙ ap new (λ i. record { edge = row.1 i; back = sym e i })

  -- the law and the plane do not see the faces
  pub sides_law : Law same_dart rev (leaves m) (way m) (directed m) (next m)
      → Law same_dart rev (leaves m') (way m') (directed m') (next m')
  sides_law law = subst (λ (es : List Arc). Law same_dart rev (leaves m') (way m') (darts es) (next m'))
      (sym sides_arcs) (law_agree (directed m) (λ d k. sides_leaves d) (λ d k. sides_way d) (next m) (next m')
      (λ d k. sides_next (rev d)) law)

  pub sides_planar : {ns : List ℕ} {faces : ℕ} {new : Dart → ℕ}
      → ((d : Dart) → Memᴰ d (directed m) → bears m' d ≡ new d) → Planar ns (arcs m) (leaves m) (next m) new faces
      → Planar ns (arcs m') (leaves m') (next m') (bears m') faces
  sides_planar {ns} {faces} h p = subst (λ (es : List Arc). Planar ns es (leaves m') (next m') (bears m') faces)
      (sym sides_arcs) (planar_agree (λ d k. sides_leaves d) (λ d k. sides_next d) h p)
