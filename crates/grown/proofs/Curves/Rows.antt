-- The lines and places of a map after each edit of its rows. Assumes nothing.
use mathlib.Core.Path.{◌≡◌, refl, sym, ap, ◌∙◌}
use mathlib.Core.Bool.{Bool, true, false, not, cond}
use mathlib.Core.List.{map-append, List, [], ◌∷◌, ◌++◌, map}
use mathlib.Core.Option.{Option, none, some}
use Prim.Native.Nat.{ℕ}
use Rattle.lists.specs.Tests.{same}
use Rattle.lists.proofs.Keeps.{keep-map}
use Rattle.lists.proofs.Maps.{map_twice, map_square}
use Rattle.plane.specs.declared.Point.{Point}
use Rattle.curves.specs.Curves.{Curve, start_way}
use Rattle.planar_maps.specs.Map.{Dart, fwd, bwd, rev}
use Rattle.map.specs.declared.Variant.{Variant}
use Rattle.map.specs.Rows.{Node, Edge, Map, edge, set_edges, at_nodes, at_edge, without_node, without_edge}
use Rattle.map.specs.Links.{with_links, instead, redirect, lead, link_in, link_edge, unlink_edge, corner_face}
use Rattle.map.specs.Edits.{Shares, with_face, with_curve, is_either, drawn, undrawn, add_iso_edge, remove_iso_edge}
use Rattle.map.specs.Edits.{change_edge_geom, side_of_point, side_of_node, shared_out, split_face, splits_face, add_edge}
use Rattle.map.specs.Edits.{face_left, renamed_node, renamed_faces, remove_edge, add_iso_node, move_iso_node, remove_iso_node}
use Rattle.map_laws.proofs.Readings.{without, mapped_kept}
use Rattle.grown.proofs.Curves.Survey.{Line, Place, line_of, place_of, lines, places, place_number, line_number}
use Rattle.grown.proofs.Curves.Sites.{moved}

-- the same lines and places
pub record Alike (m m' : Map) : Type 0 where
  pub lines : lines m' ≡ lines m
  pub places : places m' ≡ places m

pub alike_join : {a b c : Map} → Alike a b → Alike b c → Alike a c
alike_join x y = record { lines = y.lines ∙ x.lines; places = y.places ∙ x.places }

-- ---- links

module _ (old new : Dart) (m : Map) where
  pub redirect_alike : Alike m (redirect old new m)
  unfolding redirect
  redirect_alike = record { lines = map_twice line_of _ line_of m.edges (λ e k. refl); places = refl }

  pub redirect-line : (e : ℕ) → line_of (edge (redirect old new m) e) ≡ line_of (edge m e)
  unfolding redirect
  redirect-line = mapped_kept m (redirect old new m)
      (λ e. with_links (instead old new e.next_left) (instead old new e.next_right) e) refl (λ r k. refl) line_of
      (λ r. refl)

lead_alike : (d c : Dart) (m : Map) → Alike m (lead d c m)
unfolding lead at_edge
lead_alike d c m = record {
  lines = map_twice line_of _ line_of m.edges (λ e k. go (same e.number d.edge) d.back e);
  places = refl;
}
  where
    go : (b s : Bool) (e : Edge) → line_of
        (cond b (cond s (with_links e.next_left c e) (with_links c e.next_right e)) e) ≡ line_of e
    go true true e = refl
    go true false e = refl
    go false s e = refl

link_in_alike : (p : Dart) (there : List Dart) (m : Map) → Alike m (link_in p there m)
unfolding link_in
link_in_alike p there m = alike_join (redirect_alike _ p m) (lead_alike (rev p) _ _)

link_edge_alike : (e : ℕ) (m : Map) → Alike m (link_edge e m)
unfolding link_edge
link_edge_alike e m = alike_join (link_in_alike (fwd e) _ m) (link_in_alike (bwd e) _ _)

-- ---- faces

-- nodes that change their faces alone
faces_alike : (p : Node → Bool) (f : Option ℕ) (m : Map) → Alike m (at_nodes p (with_face f) m)
unfolding at_nodes
faces_alike p f m = record { lines = refl; places = map_twice place_of _ place_of m.nodes (λ n k. go (p n) n) }
  where
    go : (b : Bool) (n : Node) → place_of (cond b (with_face f n) n) ≡ place_of n
    go true n = refl
    go false n = refl

shared_out_alike : (s : Shares) (m : Map) → Alike m (shared_out s m)
unfolding shared_out
shared_out_alike s m = record {
  lines = map_twice line_of _ line_of m.edges (λ e k. refl);
  places = map_twice place_of _ place_of m.nodes (λ n k. go n n.face);
}
  where
    pick : (b : Bool) (f : ℕ) (n : Node) → place_of (cond b (with_face (some f) n) n) ≡ place_of n
    pick true f n = refl
    pick false f n = refl

    go : (n : Node) (f : Option ℕ) → place_of (side_of_node m s n f) ≡ place_of n
    go n none = refl
    go n (some f) = pick (same f s.old) (side_of_point m s n.at) n

split_face_alike : (how : Variant) (e : ℕ) (m : Map) → Alike m (split_face how e m)
unfolding split_face
split_face_alike how e m = let h = shared_out_alike _ m in record { lines = h.lines; places = h.places }

renamed_faces_alike : (e : Edge) (f : ℕ) (m : Map) → Alike m (renamed_faces e f m)
unfolding renamed_faces
renamed_faces_alike e f m = record {
  lines = map_twice line_of _ line_of m.edges (λ r k. refl);
  places = map_twice place_of _ place_of m.nodes (λ n k. go n n.face);
}
  where
    go : (n : Node) (g : Option ℕ) → place_of (renamed_node e f n g) ≡ place_of n
    go n none = refl
    go n (some g) = refl

-- ---- an edge drawn and undrawn

-- so many lines, and these places
pub record Becomes (m : Map) (ls : List Line) (ps : List Place) : Type 0 where
  pub lines : lines m ≡ ls
  pub places : places m ≡ ps

becomes_alike : {m m' : Map} {ls : List Line} {ps : List Place} → Alike m m' → Becomes m ls ps → Becomes m' ls ps
becomes_alike h k = record { lines = h.lines ∙ k.lines; places = h.places ∙ k.places }

pub without_lines : (e : ℕ) (es : List Edge) → map line_of (without_edge e es) ≡ without line_number e (map line_of es)
without_lines e es = sym (keep-map line_of (λ r. not (same r.number e)) (λ l. not (same l.number e)) es
    (λ r k. refl))

pub without_places : (n : ℕ) (ns : List Node) → map place_of (without_node n ns) ≡ without place_number n (map place_of ns)
without_places n ns = sym (keep-map place_of (λ r. not (same r.number n)) (λ p. not (same p.number n)) ns
    (λ r k. refl))

-- the line of a new edge
abbrev pub new_line : ℕ → ℕ → ℕ → Curve → Line
new_line e u v c = record { number = e; start = u; end = v; curve = c }

drawn_becomes : (u v : ℕ) (c : Curve) (f : ℕ) (m : Map)
    → Becomes (drawn u v c f m) (lines m ++ (new_line m.next.edges u v c ∷ [])) (places m)
unfolding drawn
drawn_becomes u v c f m =
    becomes_alike (alike_join (link_edge_alike m.next.edges _) (faces_alike (is_either u v) none _))
    (record { lines = map-append line_of m.edges (_ ∷ []); places = refl })

undrawn_becomes : (e f : ℕ) (m : Map) → Becomes (undrawn e f m) (without line_number e (lines m)) (places m)
unfolding undrawn unlink_edge
undrawn_becomes e f m = becomes_alike (faces_alike _ (some f) _)
    (left (alike_join (redirect_alike (fwd e) _ m) (redirect_alike (bwd e) _ _)))
  where
    left : {m' : Map} → Alike m m' → Becomes (set_edges (without_edge e m'.edges) m') (without line_number e (lines m))
        (places m)
    left {m'} h = record {
      lines = without_lines e m'.edges ∙ ap (without line_number e) h.lines;
      places = h.places;
    }

-- ---- the kinds

-- kind 1
pub add_iso_node_becomes : (p : Point) (m : Map)
    → Becomes (add_iso_node p m) (lines m) (places m ++ (record { number = m.next.nodes; at = p } ∷ []))
unfolding add_iso_node
add_iso_node_becomes p m = record { lines = refl; places = map-append place_of m.nodes (_ ∷ []) }

-- kind 2
pub move_iso_node_becomes : (n : ℕ) (p : Point) (m : Map)
    → Becomes (move_iso_node n p m) (lines m) (map (moved n p) (places m))
unfolding move_iso_node at_nodes
move_iso_node_becomes n p m = record {
  lines = refl;
  places = map_square place_of _ (moved n p) place_of m.nodes (λ r k. go (same r.number n) r _);
}
  where
    go : (b : Bool) (r : Node) (f : Option ℕ) → place_of (cond b (record { number = n; at = p; face = f }) r)
        ≡ cond b (record { number = n; at = p }) (place_of r)
    go true r f = refl
    go false r f = refl

-- kind 3
pub remove_iso_node_becomes : (n : ℕ) (m : Map) → Becomes (remove_iso_node n m) (lines m) (without place_number n (places m))
unfolding remove_iso_node
remove_iso_node_becomes n m = record { lines = refl; places = without_places n m.nodes }

-- kind 4
pub add_iso_edge_becomes : (u v : ℕ) (c : Curve) (m : Map)
    → Becomes (add_iso_edge u v c m) (lines m ++ (new_line m.next.edges u v c ∷ [])) (places m)
unfolding add_iso_edge
add_iso_edge_becomes u v c m = drawn_becomes u v c _ m

-- kind 5
pub remove_iso_edge_becomes : (e : ℕ) (m : Map) → Becomes (remove_iso_edge e m) (without line_number e (lines m)) (places m)
unfolding remove_iso_edge
remove_iso_edge_becomes e m = undrawn_becomes e _ m

-- a line with another curve
abbrev pub redrawn : Curve → Line → Line
redrawn c l = record { number = l.number; start = l.start; end = l.end; curve = c }

-- kind 6
pub change_edge_geom_becomes : (e : ℕ) (c : Curve) (m : Map)
    → Becomes (change_edge_geom e c m) (map (λ l. cond (same l.number e) (redrawn c l) l) (lines m)) (places m)
unfolding change_edge_geom at_edge
change_edge_geom_becomes e c m = record {
  lines =
      map_square line_of _ (λ l. cond (same l.number e) (redrawn c l) l) line_of m.edges
      (λ r k. go (same r.number e) r);
  places = refl;
}
  where
    go : (b : Bool) (r : Edge) → line_of (cond b (with_curve c r) r) ≡ cond b (redrawn c (line_of r)) (line_of r)
    go true r = refl
    go false r = refl

-- kinds 11 and 12
pub add_edge_becomes : (how : Variant) (u v : ℕ) (c : Curve) (m : Map)
    → Becomes (add_edge how u v c m) (lines m ++ (new_line m.next.edges u v c ∷ [])) (places m)
unfolding add_edge
add_edge_becomes how u v c m = go (splits_face u v c m) (drawn_becomes u v c (corner_face m u (start_way c)) m)
  where
    go : (b : Bool) {m' : Map} → Becomes m' (lines m ++ (new_line m.next.edges u v c ∷ [])) (places m)
        → Becomes (cond b (split_face how m.next.edges m') m') (lines m ++ (new_line m.next.edges u v c ∷ []))
        (places m)
    go true {m'} h = becomes_alike (split_face_alike how m.next.edges m') h
    go false h = h

-- kinds 13 and 14
pub remove_edge_becomes : (how : Variant) (e : ℕ) (m : Map)
    → Becomes (remove_edge how e m) (without line_number e (lines m)) (places m)
unfolding remove_edge
remove_edge_becomes how e m =
    let f = face_left how e m in
    let h = renamed_faces_alike (edge m e) f m in
    let k = undrawn_becomes e f (renamed_faces (edge m e) f m) in
    record { lines = k.lines ∙ ap (without line_number e) h.lines; places = k.places ∙ h.places }
