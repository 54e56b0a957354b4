-- A carried-out ticket keeps numbers, faces and marks, and leaves rows that fit. Assumes nothing.
use mathlib.Core.Path.{◌≡◌}
use mathlib.Core.Bool.{true, cond}
use Prim.Native.Nat.{ℕ}
use native.Mathlib.Omega.{arith}
use lib.IntN.{nat_abs}
use lib.ListN.{length-map}
use Rattle.lists.specs.Tests.{bit}
use Rattle.plane.specs.declared.Point.{Point}
use Rattle.curves.specs.Curves.{Curve, point}
use Rattle.map.specs.declared.Variant.{Variant}
use Rattle.map.specs.declared.Variant.TheVariants.{New, Mod}
use Rattle.map.specs.Rows.{Map, Sizes, has_edge}
use Rattle.map.specs.Tickets.{Ticket, AddIsoNode, MoveIsoNode, RemoveIsoNode, AddIsoEdge, RemoveIsoEdge, ChangeEdgeGeom}
use Rattle.map.specs.Tickets.{NewEdgesSplit, ModEdgeSplit, NewEdgeHeal, ModEdgeHeal, AddEdgeNewFaces, AddEdgeModFace}
use Rattle.map.specs.Tickets.{RemEdgeNewFace, RemEdgeModFace}
use Rattle.map.specs.Edits.{is_mod, split, heal, add_edge, makes_face, remove_edge}
use Rattle.map.specs.Reasons.{first_reason, reasons, curve_in}
use Rattle.map.specs.Ticket.{carried}
use Rattle.map_laws.proofs.Reasons.{Room, Supply, Split, Heal, AddEdge, add_node_lem, move_node_lem, add-lone, remove_lone}
use Rattle.map_laws.proofs.Reasons.{split_new, split-mod, heal_new, heal-mod, add_new, add-mod, remove_new, remove_mod}
use Rattle.map_laws.proofs.Readings.{outline_of}
use Rattle.grown.specs.Good.{Good, Numbered, Woven, Fits}
use Rattle.grown.proofs.Numbers.Ranked.{RankedMap, NextLimited, numbered_ranked, ranked_numbered}
use Rattle.grown.proofs.Numbers.Nodes.{add_node_ranked, move_node_ranked, remove_node_ranked, change_ranked}
use Rattle.grown.proofs.Numbers.Add.{add_lone_ranked, add_edge_ranked}
use Rattle.grown.proofs.Numbers.Remove.{remove_lone_ranked, remove_edge_ranked}
use Rattle.grown.proofs.Numbers.Split.{split_ranked}
use Rattle.grown.proofs.Numbers.Heal.{heal_ranked}
use Rattle.grown.proofs.Numbers.Sizes.{Taken, add_node-taken, move_node-taken, remove_node-taken, change-taken}
use Rattle.grown.proofs.Numbers.Sizes.{add-lone-taken, remove_lone_taken, split-taken, heal-taken}
use Rattle.grown.proofs.Numbers.Sizes.{add_edge-taken, remove_edge-taken}

-- what a carried-out ticket comes to: numbers, faces and marks, and how much it takes of what there is
record NumbersKept (s : Sizes) (m m' : Map) : Type 0 where
  ranked : RankedMap m'
  limited : NextLimited m'
  room : Fits s m → Room s m' 0 0 0

module _ {m m' : Map} {a b c x y z : ℕ} (t : Taken m m' a b c x y z) where
  limits : Supply m x y z → NextLimited m'
  limits p = rw t.next (record { node = p.nodes; edge = p.edges; face = p.faces })

  fit : {s : Sizes} → Room s m a b c → Room s m' 0 0 0
  fit p =
      let e = length-map m.edges outline_of in
      let e' = length-map m'.edges outline_of in
      record {
        nodes = omega (arith, t.nodes, p.nodes);
        edges = omega (arith, t.edges, p.edges);
        faces = omega (arith, t.faces, p.faces);
      }

keeps : {s : Sizes} {m m' : Map} {a b c x y z : ℕ} → RankedMap m' → Taken m m' a b c x y z → Supply m x y z
    → (Fits s m → Room s m a b c) → NumbersKept s m m'
keeps r t p q = record { ranked = r; limited = limits t p; room = λ f. fit t (q f) }

-- nothing more is taken
no_more : {s : Sizes} {m : Map} → Fits s m → Room s m 0 0 0
no_more f = record { nodes = omega (arith, f.nodes); edges = omega (arith, f.edges); faces = omega (arith, f.faces) }

enough : {m : Map} → Numbered m → Supply m 0 0 0
enough n = record {
  nodes = omega (arith, n.next_node);
  edges = omega (arith, n.next_edge);
  faces = omega (arith, n.next_face);
}

no_face_lem : {m : Map} (e : ℕ) → Supply m 0 0 0 → Supply m 0 0 (bit (makes_face Mod e m))
unfolding makes_face
no_face_lem e p = p

pub ranks : (m : Map) → Good m → RankedMap m
ranks m g = numbered_ranked m g.woven.planar.edges_once g.numbered

module _ (s : Sizes) (m : Map) (g : Good m) where
  split_kept : (how : Variant) (e : ℕ) (p : Point) → Split how s m e p → NumbersKept s m (split how e p m)
  split_kept how e p k = keeps (split_ranked how e p m k.has (ranks m g)) (split-taken how e p m k.has)
      k.supply (λ f. k.room)

  heal_kept : (how : Variant) (e f : ℕ) → Heal m e f → Supply m 0 (cond (is_mod how) 0 1) 0
      → NumbersKept s m (heal how e f m)
  heal_kept how e f k p = keeps (heal_ranked how e f m k.has k.has_other k.differ k.joint (ranks m g))
      (heal-taken how e f m k.has k.differ) p (λ r. no_more r)

  add_kept : (how : Variant) (u v : ℕ) (c : Curve) → AddEdge how s m u v c → NumbersKept s m (add_edge how u v c m)
  add_kept how u v c k = keeps (add_edge_ranked how u v c m k.has_start (ranks m g))
      (add_edge-taken how u v c m k.has_start (ranks m g)) k.supply (λ p. k.room)

  remove_kept : (how : Variant) (e : ℕ) → has_edge m e ≡ true → Supply m 0 0 (bit (makes_face how e m))
      → NumbersKept s m (remove_edge how e m)
  remove_kept how e k p = keeps (remove_edge_ranked how e m k (ranks m g))
      (remove_edge-taken how e m k (ranks m g)) p (λ r. no_more r)

  kept : (t : Ticket) → first_reason (reasons s m t) ≡ 0 → NumbersKept s m (carried m t).0
  unfolding carried
  kept (AddIsoNode f x y) h =
      let k = add_node_lem s m f x y h in
      keeps (add_node_ranked m (point x y) g.woven (ranks m g))
      (add_node-taken (point x y) m) k.supply (λ p. k.room)
  kept (MoveIsoNode n x y) h =
      let k = move_node_lem s m n x y h in
      keeps (move_node_ranked m (nat_abs n) (point x y) g.woven.planar.nodes_once k.isolated (ranks m g))
      (move_node-taken (nat_abs n) (point x y) m) (enough g.numbered) (λ p. (no_more p))
  kept (RemoveIsoNode n) h =
      keeps (remove_node_ranked m (nat_abs n) (ranks m g))
      (remove_node-taken (nat_abs n) m) (enough g.numbered) (λ p. (no_more p))
  kept (AddIsoEdge u v c) h =
      let k = add-lone s m u v c h in
      keeps (add_lone_ranked (nat_abs u) (nat_abs v) (curve_in c) m k.has_start (ranks m g))
      (add-lone-taken (nat_abs u) (nat_abs v) (curve_in c) m) k.supply (λ p. k.room)
  kept (RemoveIsoEdge e) h =
      let k = remove_lone s m e h in
      keeps (remove_lone_ranked m (nat_abs e) k.has (ranks m g))
      (remove_lone_taken (nat_abs e) m) (enough g.numbered) (λ p. (no_more p))
  kept (ChangeEdgeGeom e c) h =
      keeps (change_ranked m (nat_abs e) (curve_in c) (ranks m g))
      (change-taken (nat_abs e) (curve_in c) m) (enough g.numbered) (λ p. (no_more p))
  kept (NewEdgesSplit e x y) h = split_kept New (nat_abs e) (point x y) (split_new s m e x y h)
  kept (ModEdgeSplit e x y) h = split_kept Mod (nat_abs e) (point x y) (split-mod s m e x y h)
  kept (NewEdgeHeal e f) h = let k = heal_new s m e f h in heal_kept New (nat_abs e) (nat_abs f) k.0 k.1
  kept (ModEdgeHeal e f) h = heal_kept Mod (nat_abs e) (nat_abs f) (heal-mod s m e f h) (enough g.numbered)
  kept (AddEdgeNewFaces u v c) h = add_kept New (nat_abs u) (nat_abs v) (curve_in c) (add_new s m u v c h)
  kept (AddEdgeModFace u v c) h = add_kept Mod (nat_abs u) (nat_abs v) (curve_in c) (add-mod s m u v c h)
  kept (RemEdgeNewFace e) h = let k = remove_new s m e h in remove_kept New (nat_abs e) k.has k.supply
  kept (RemEdgeModFace e) h =
      remove_kept Mod (nat_abs e) (remove_mod s m e h) (no_face_lem (nat_abs e) (enough g.numbered))

  -- numbers rise and are below the next, nodes and sides of edges are in faces that exist
  pub ranked_kept : (t : Ticket) → first_reason (reasons s m t) ≡ 0 → RankedMap (carried m t).0
  ranked_kept t h = (kept t h).ranked

  -- and named rows exist, nodes are marked
  pub numbered_kept : (t : Ticket) → first_reason (reasons s m t) ≡ 0 → Woven (carried m t).0
      → Numbered (carried m t).0
  numbered_kept t h w = ranked_numbered (carried m t).0 w (kept t h).ranked (kept t h).limited

  -- the rows fit the tables
  pub room_kept : (t : Ticket) → first_reason (reasons s m t) ≡ 0 → Fits s m → Room s (carried m t).0 0 0 0
  room_kept t h = (kept t h).room
