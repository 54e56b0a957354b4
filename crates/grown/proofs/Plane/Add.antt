-- Kinds 11 and 12 keep a map in the plane. Assumes nothing.
use mathlib.Core.Path.{◌≡◌}
use mathlib.Core.Logic.{inl, inr}
use mathlib.Core.Bool.{true, false}
use Prim.Native.Nat.{ℕ}
use borrow.Author.Tests.{not-true}
use Rattle.lists.proofs.Bools.{which}
use Rattle.lists.proofs.Rising.{rising_distinct}
use Rattle.planar_maps.specs.Map.{fwd, bwd}
use Rattle.curves.specs.Curves.{Curve, start_way}
use Rattle.map.specs.declared.Variant.{Variant}
use Rattle.map.specs.Rows.{Map, Sizes}
use Rattle.map.specs.Darts.{ring, among}
use Rattle.map.specs.Links.{corner_face}
use Rattle.map.specs.Edits.{drawn_in, splits_face, add_edge}
use Rattle.map_laws.proofs.Readings.{dart_has}
use Rattle.map_laws.proofs.Reasons.{AddEdge}
use Rattle.map_laws.proofs.Faces.{bears_in, corner_in}
use Rattle.grown.specs.Good.{Good, InPlane}
use Rattle.grown.proofs.Numbers.Carried.{ranks}
use Rattle.grown.proofs.Plane.Join.{draws_added, planar_joining}
use Rattle.grown.proofs.Plane.SplitFace.{Faced, split_face_planar}
use Rattle.grown.proofs.Law.Lawful.{Lawful, good_lawful}
use Rattle.grown.proofs.Numbers.Ranked.{ranked_faces}

pub faced : (m : Map) → Good m → Faced m
faced m good = let r = ranks m good in record {
  once = rising_distinct m.faces r.faces.rises;
  below = λ g k. (r.faces.bounds g k).1;
  borne = λ d k. bears_in m d (dart_has m k) (ranked_faces m r);
}

module _ (how : Variant) (s : Sizes) (m : Map) (u v : ℕ) (c : Curve) (good : Good m) (h : AddEdge how s m u v c) where
  abbrev L : Lawful m
  L = good_lawful m good

  rings_apart : splits_face u v c m ≡ true → among (ring (drawn_in u v c m) (fwd m.next.edges)) (bwd m.next.edges)
      ≡ false
  unfolding splits_face
  rings_apart e = not-true (among (ring (drawn_in u v c m) (fwd m.next.edges)) (bwd m.next.edges)) e

  pub planar_added : InPlane (add_edge how u v c m)
  unfolding add_edge
  planar_added = elim (which (splits_face u v c m)) [
    | inl e ↦ rw e (split_face_planar how m u v c (corner_face m u (start_way c)) (draws_added m L s u v c how h)
        (faced m good) (corner_in m u (start_way c) h.has_start (ranked_faces m (ranks m good))) (rings_apart e)
        h.has_start
        h.has_end good.woven.planar)
    | inr e ↦ rw e (planar_joining how s m u v c L h e good.woven.planar)
  ]
