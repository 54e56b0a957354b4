-- Directed edges and the rows that they read. Assumes nothing.
use mathlib.Core.Path.{◌≡◌, sym, ap, ◌∙◌}
use mathlib.Core.Logic.{◌⊎◌, inl, inr}
use mathlib.Core.List.Memᴰ
use mathlib.Core.List.{List, map, Memᴰ, Permᴰ}
use Rattle.lists.specs.Members.{Distinct}
use Rattle.lists.proofs.Perms.{perm_in}
use Rattle.curves.specs.Curves.{start_way}
use Rattle.planar_maps.specs.Map.{Arc, Dart, fwd, bwd, darts}
use Rattle.planar_maps.specs.Pieces.{nums}
use Rattle.planar_maps.proofs.Rings.{dart_cases}
use Rattle.planar_maps.proofs.Moves.{darts_perm}
use Rattle.map.specs.Rows.{Edge, Map, edge}
use Rattle.map.specs.Darts.{arcs, leaves, next, bears, way}
use Rattle.map_laws.proofs.Readings.{tail_in, next_in, face_in, course_in, leaves_row, next_row, bears_row}
use Rattle.map_laws.proofs.Readings.{course_row, way_row, arc_of, edge_at}

-- the edges in another order have the same directed edges
pub dart_move : {es fs : List Arc} → Permᴰ es fs → (z : Dart) → Memᴰ z (darts es) → Memᴰ z (darts fs)
dart_move p z m = perm_in (darts_perm p) m

-- the row of a directed edge
pub dart_row : (rows : List Edge) (z : Dart) → Memᴰ z (darts (map arc_of rows)) → (q : Edge) × Memᴰ q rows
    × (z.edge ≡ q.number)
dart_row rows z m = go (dart_cases (map arc_of rows) m)
  where
    row : {a : Arc} → Memᴰ a (map arc_of rows) → z.edge ≡ a.num → (q : Edge) × Memᴰ q rows
        × (z.edge ≡ q.number)
    row {a} k e = found (Memᴰ.of_map arc_of rows k)
      where
        found : (q : Edge) × Memᴰ q rows × (arc_of q ≡ a) → (q : Edge) × Memᴰ q rows × (z.edge ≡ q.number)
        found x = (x.0, x.1, e ∙ ap (λ (a : Arc). a.num) (sym x.2))

    go : (a : Arc) × Memᴰ a (map arc_of rows) × ((z ≡ fwd a.num) ⊎ (z ≡ bwd a.num)) → (q : Edge)
        × Memᴰ q rows × (z.edge ≡ q.number)
    go x = elim x.2 [
      | inl e ↦ row x.1 (ap (λ (d : Dart). d.edge) e)
      | inr e ↦ row x.1
          (ap (λ (d : Dart). d.edge) e)
    ]

-- what a directed edge reads in the row q
module _ (m : Map) (dis : Distinct (nums (arcs m))) (q : Edge) (k : Memᴰ q m.edges) (z : Dart)
    (e : z.edge ≡ q.number) where
  its : edge m z.edge ≡ q
  its = ap (edge m) e ∙ edge_at m dis k

  pub leaves_of : leaves m z ≡ tail_in z.back q
  leaves_of = leaves_row m z ∙ ap (tail_in z.back) its

  pub next_of : next m z ≡ next_in z.back q
  next_of = next_row m z ∙ ap (next_in z.back) its

  pub bears_of : bears m z ≡ face_in z.back q
  bears_of = bears_row m z ∙ ap (face_in z.back) its

  pub way_of : way m z ≡ start_way (course_in z.back q)
  way_of = way_row m z ∙ ap start_way (course_row m z ∙ ap (course_in z.back) its)
