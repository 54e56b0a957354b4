-- In every good map each face is reached from face 0 across edges; so each but 0 is borne by some directed edge.
-- Assumes nothing.
use mathlib.Core.Path.{◌≡◌, sym, ◌∙◌}
use mathlib.Core.Logic.{inl, inr, ◌≢◌}
use mathlib.Core.List.{Memᴰ}
use Prim.Native.Nat.{ℕ}
use Rattle.lists.specs.Tests.{same}
use Rattle.lists.proofs.Bools.{same_refl, same_true}
use Rattle.lists.proofs.Members.{takes?}
use Rattle.planar_maps.specs.Map.{Dart, fwd, bwd}
use Rattle.planar_maps.specs.Reached as planar
use Rattle.planar_maps.proofs.Cycles.{fwd_in, bwd_in}
use Rattle.planar_maps.proofs.Faces.{planar_reached}
use Rattle.map.specs.Rows.{Map}
use Rattle.map.specs.Darts.{arcs, directed, bears}
use Rattle.map_laws.proofs.Readings.{dart_has}
use Rattle.map_laws.proofs.Faces.{zero_in, bears_in}
use Rattle.grown.specs.Good.{Good, InPlane}
use Rattle.grown.proofs.Numbers.Ranked.{RankedMap, ranked_faces}
use Rattle.grown.proofs.Numbers.Carried.{ranks}

-- a set of faces that has both or no side of each edge has all faces or none
abbrev pub Reached : Map → Type 0
Reached m = planar.Reached (arcs m) (bears m) m.faces 0

pub plane_reached : (m : Map) → InPlane m → RankedMap m → Reached m
plane_reached m o r = planar_reached m.faces 0 o (zero_in m.faces r.zero) (λ a k. (
  bears_in m (fwd a.num) (dart_has m (fwd_in k)) (ranked_faces m r),
  bears_in m (bwd a.num) (dart_has m (bwd_in k)) (ranked_faces m r),
))

pub good_reached : (m : Map) → Good m → Reached m
good_reached m g = plane_reached m g.woven.planar (ranks m g)

-- a face that no directed edge bears would be such a set by itself
pub reached_borne : (m : Map) → Reached m → (f : ℕ) → Memᴰ f m.faces → f ≢ 0
    → (d : Dart) × Memᴰ d (directed m) × (bears m d ≡ f)
reached_borne m r f i ne = elim (takes? (λ d. same (bears m d) f) (directed m)) [
  | inl x ↦ (x.0, x.1, same_true (bears m x.0) f x.2)
  | inr none ↦ absurd (ne (sym (same_true 0 f (sym (r (λ g. same g f)
      (λ a k. none (fwd a.num) (fwd_in k) ∙ sym (none (bwd a.num) (bwd_in k))) f i) ∙ same_refl f))))
]
