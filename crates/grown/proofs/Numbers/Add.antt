-- Numbers, faces and marks kept by kinds 4, 11 and 12: an edge drawn. Assumes nothing.
use mathlib.Core.Path.{◌≡◌, refl, sym, subst}
use mathlib.Core.Bool.{Bool, true, false, cond}
use mathlib.Core.List.Memᴰ
use mathlib.Core.List.{List, Memᴰ}
use mathlib.Core.Option.{get_or}
use Prim.Native.Nat.{ℕ}
use Rattle.curves.specs.Curves.{Curve, start_way}
use Rattle.map.specs.declared.Variant.{Variant}
use Rattle.map.specs.Rows.{Map, node, has_node, has_edge}
use Rattle.map.specs.Links.{corner_face}
use Rattle.map.specs.Edits.{add_iso_edge, drawn, drawn_in, splits_face, split_face, add_edge}
use Rattle.map_laws.proofs.Readings.{Outline, outlines}
use Rattle.map_laws.proofs.Outlines.{drawn_outline, drawn-shape}
use Rattle.map_laws.proofs.Faces.{node_face_in, corner_in}
use Rattle.grown.proofs.Numbers.Ranked.{RankedMap, ranked_faces}
use Rattle.grown.proofs.Numbers.Edges.{drawn_ranked, outline_has, ranked_distinct}
use Rattle.grown.proofs.Numbers.Faces.{split_face_ranked}

pub add_lone_ranked : (u v : ℕ) (c : Curve) (m : Map) → has_node m u ≡ true → RankedMap m
    → RankedMap (add_iso_edge u v c m)
unfolding add_iso_edge
add_lone_ranked u v c m h r = drawn_ranked u v c (get_or (node m u).face 0) m
    (node_face_in m u h (ranked_faces m r)) r

-- the new row is found
pub drawn_has : (u v : ℕ) (c : Curve) (f : ℕ) (m : Map) → has_edge (drawn u v c f m) m.next.edges ≡ true
drawn_has u v c f m =
    outline_has (drawn u v c f m) (drawn_outline m.next.edges u v f)
    (subst (λ (os : List Outline). Memᴰ (drawn_outline m.next.edges u v f) os)
    (sym (drawn-shape u v c f m).outlines) (Memᴰ.append_right (outlines m) (Memᴰ.head refl)))

pub add_edge_ranked : (how : Variant) (u v : ℕ) (c : Curve) (m : Map) → has_node m u ≡ true → RankedMap m
    → RankedMap (add_edge how u v c m)
unfolding add_edge
add_edge_ranked how u v c m h r = go (splits_face u v c m)
  where
    f : ℕ
    f = corner_face m u (start_way c)

    joined : RankedMap (drawn_in u v c m)
    joined = drawn_ranked u v c f m (corner_in m u (start_way c) h (ranked_faces m r)) r

    go : (b : Bool) → RankedMap (cond b (split_face how m.next.edges (drawn_in u v c m)) (drawn_in u v c m))
    go true = split_face_ranked how m.next.edges (drawn_in u v c m) (ranked_distinct (drawn_in u v c m) joined)
        (drawn_has u v c f m) joined
    go false = joined
