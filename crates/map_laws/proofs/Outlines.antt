-- Nodes, outlines of edges, faces and next numbers after each way of changing a map. Assumes nothing.
use mathlib.Core.Path.{◌≡◌, refl, sym, ap, ◌∙◌}
use mathlib.Core.Bool.{Bool, true, false, cond, not}
use mathlib.Core.List.{List, [], ◌∷◌, ◌++◌, map, map-append, Memᴰ}
use mathlib.Core.Option.{none}
use Prim.Native.Nat.{ℕ, ◌+◌}
use native.Mathlib.Nat.{add-zero}
use Rattle.lists.specs.Tests.{same}
use Rattle.lists.specs.Scans.{keep}
use Rattle.lists.proofs.Keeps.{keep-map}
use Rattle.lists.proofs.Maps.{map_square, map_twice}
use Rattle.curves.specs.Curves.{Curve}
use Rattle.planar_maps.specs.Map.{fwd, bwd}
use Rattle.map.specs.declared.Counts.{Counts}
use Rattle.map.specs.Rows.{Node, Edge, Map, counts, at_nodes, at_edge, without_edge}
use Rattle.map.specs.Darts.{next}
use Rattle.map.specs.Links.{redirect, lead, link_in, link_edge, unlink_edge}
use Rattle.map.specs.Edits.{with_face, is_either, drawn, undrawn}
use Rattle.map_laws.proofs.Readings.{Outline, outline_of, outlines, relinked_join, redirect_relinked}
use Rattle.map_laws.proofs.LinkedIn.{drawn_row, appended, link_edge_relinked}

-- what a map has beside links and curves
pub record Shape (m : Map) (ns : List Node) (os : List Outline) (fs : List ℕ) (a b c : ℕ) : Type 0 where
  pub nodes : m.nodes ≡ ns
  pub outlines : outlines m ≡ os
  pub faces : m.faces ≡ fs
  pub next : m.next ≡ counts a b c

-- so many numbers more
abbrev pub raised : Counts → Counts → Counts
raised c k = counts (k.nodes + c.nodes) (k.edges + c.edges) (k.faces + c.faces)

pub counts_are : {a a' b b' c c' : ℕ} → a ≡ a' → b ≡ b' → c ≡ c' → counts a b c ≡ counts a' b' c'
counts_are p q r = λ i. counts (p i) (q i) (r i)

-- the outlines of mapped rows
pub outlines_map : (f : Edge → Edge) (g : Outline → Outline) (es : List Edge)
    → ((r : Edge) → Memᴰ r es → outline_of (f r) ≡ g (outline_of r)) → map outline_of (map f es)
    ≡ map g (map outline_of es)
outlines_map f g es h = map_square outline_of f g outline_of es h

-- one row changed, but not its outline
pub at_shape : (e : ℕ) (f : Edge → Edge) (m : Map) → ((r : Edge) → outline_of (f r) ≡ outline_of r)
    → Shape (at_edge e f m) m.nodes (outlines m) m.faces m.next.nodes m.next.edges m.next.faces
unfolding at_edge
at_shape e f m h = record {
  nodes = refl;
  outlines = map_twice outline_of _ outline_of m.edges (λ r k. go (same r.number e) r);
  faces = refl;
  next = refl;
}
  where
    go : (b : Bool) (r : Edge) → outline_of (cond b (f r) r) ≡ outline_of r
    go true r = h r
    go false r = refl

-- the nodes u and v lose their face
abbrev pub marked : ℕ → ℕ → Node → Node
marked u v n = cond (is_either u v n) (with_face none n) n

-- an edge drawn from u to v
abbrev pub drawn_outline : ℕ → ℕ → ℕ → ℕ → Outline
drawn_outline e u v f = record { arc = record { num = e; from = u; to = v }; left = f; right = f }

pub drawn-shape : (u v : ℕ) (c : Curve) (f : ℕ) (m : Map)
    → Shape (drawn u v c f m) (map (marked u v) m.nodes) (outlines m ++ drawn_outline m.next.edges u v f ∷ [])
    m.faces m.next.nodes (m.next.edges + 1) m.next.faces
unfolding drawn at_nodes link_edge link_in lead redirect at_edge
drawn-shape u v c f m = record {
  nodes = refl;
  outlines =
      (link_edge_relinked m.next.edges (appended m u v c f)).outlines
      ∙ map-append outline_of m.edges (drawn_row m u v c f ∷ []);
  faces = refl;
  next = counts_are (add-zero m.next.nodes) refl (add-zero m.next.faces);
}

-- the edge e left out
abbrev pub less_outline : ℕ → List Outline → List Outline
less_outline e os = keep (λ o. not (same o.arc.num e)) os

pub outlines_without : (e : ℕ) (es : List Edge) → map outline_of (without_edge e es) ≡ less_outline e (map outline_of es)
outlines_without e es = sym (keep-map outline_of (λ r. not (same r.number e)) (λ o. not (same o.arc.num e)) es
    (λ r k. refl))

pub unlink-shape : (e : ℕ) (m : Map) → Shape (unlink_edge e m) m.nodes (less_outline e (outlines m)) m.faces
    m.next.nodes m.next.edges m.next.faces
unfolding unlink_edge redirect
unlink-shape e m = record {
  nodes = refl;
  outlines =
      outlines_without e (redirect (bwd e) (next m₁ (fwd e)) m₁).edges
      ∙ ap (less_outline e) (relinked_join (redirect_relinked (fwd e) (next m (bwd e)) m)
      (redirect_relinked (bwd e) (next m₁ (fwd e)) m₁)).outlines;
  faces = refl;
  next = refl;
}
  where
    m₁ : Map
    m₁ = redirect (fwd e) (next m (bwd e)) m

-- faces and next numbers stay
pub undrawn_face_list : (e f : ℕ) (m : Map) → (undrawn e f m).faces ≡ m.faces
unfolding undrawn at_nodes
undrawn_face_list e f m = (unlink-shape e m).faces

pub undrawn-next : (e f : ℕ) (m : Map) → (undrawn e f m).next ≡ m.next
unfolding undrawn at_nodes
undrawn-next e f m = (unlink-shape e m).next
