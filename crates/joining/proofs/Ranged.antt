-- The tickets of a join keep counts, ranges and zero rows, on a first sheet in form as on a grown one
-- (specs/Claims.antt). Assumes nothing.
use mathlib.Core.Path.{◌≡◌, refl, subst}
use mathlib.Core.Bool.{Bool, true, false, cond, not}
use mathlib.Core.List.Memᴰ
use mathlib.Core.List.{List, [], ◌∷◌, ◌++◌, map, Memᴰ}
use mathlib.Core.Logic.{◌≢◌}
use mathlib.Core.Option.{Option, none, some}
use Prim.Native.Nat.{ℕ, zero, suc, ◌%◌, ◌≤◌}
use native.Mathlib.Omega.{arith}
use borrow.Author.Tests.{not-false}
use lib.Dec.{lit<}
use lib.IntN.{ℤ, pos, negsuc}
use lib.ListN.{length, length-map, take}
use Rattle.lists.specs.Tests.{same}
use Rattle.lists.specs.Members.{All}
use Rattle.lists.proofs.Bools.{cond_has}
use Rattle.lists.proofs.Appends.{each_append}
use Rattle.lists.proofs.Members.{each_last}
use Rattle.plane.specs.declared.Point.{Point}
use Rattle.plane.specs.Points.{InRange}
use Rattle.curves.specs.Curves.{Curve, points, point, last_point, coordinates}
use Rattle.curves.specs.Edits.{front, back}
use Rattle.map.specs.declared.Variant.TheVariants.{Mod}
use Rattle.map.specs.Limits.{most_points}
use Rattle.map.specs.Rows.{Node, Edge, Map, Lent, Sizes, map_of, sizes_of, whole, edge}
use Rattle.map.specs.Tickets.{Ticket, AddIsoNode, ModEdgeSplit, AddEdgeModFace, read}
use Rattle.map.specs.Reasons.{first_reason, reasons, curve_in}
use Rattle.map.specs.Ticket.{Outcome, lent_reasons, unless, judged, carried, ticket}
use Rattle.map.specs.Edits.{add_iso_node, split, add_edge}
use Rattle.map.specs.Form.{ranged, formed, in_form}
use Rattle.map.proofs.Laws.{edge_there_lem, formed_is, in_form_is}
use Rattle.map.proofs.Linked.{edges_once, within_nodes}
use Rattle.map.proofs.PointLimits.{most-fits}
use Rattle.map.proofs.RoundTrip.{StoredTo, stored_wider, ranged_is, ranged_nodes, recorded_curves}
use Rattle.map.proofs.Reasons.{first_zero}
use Rattle.map_laws.proofs.Reasons.{Room, Supply, AddNode, Split, AddEdge, Few, add_node_lem, split-mod, add-mod}
use Rattle.map_laws.proofs.Reasons.{add_mod_few}
use Rattle.map_laws.proofs.Readings.{outline_of}
use Rattle.grown.proofs.Numbers.Ranked.{RankedMap, numbered_ranked}
use Rattle.grown.proofs.Numbers.Add.{add_edge_ranked}
use Rattle.grown.proofs.Numbers.Sizes.{Taken, add_node-taken, split-taken, add_edge-taken}
use Rattle.grown.proofs.Curves.Survey.{Line, Place, line_of, place_of, lines, places}
use Rattle.grown.proofs.Curves.Rows.{Becomes, add_iso_node_becomes, add_edge_becomes}
use Rattle.grown.proofs.Curves.Cut.{first_half}
use Rattle.grown.proofs.Curves.Halves.{replaced, split_mod_becomes}
use Rattle.grown.proofs.Law.Lawful.{formed_anchored}
use Rattle.grown.proofs.Law.Split.{off_ends}
use Rattle.affected_faces.proofs.Stored.{halves_stored}
use Rattle.grown.proofs.Ranges.{NextInRange, next_in_range_lem, Tabled, tabled_ranged, some_face}
use Rattle.joining.specs.Join.{node_there, edge_there, placing, unless_served, node_ticket, serving, edge_exists}
use Rattle.joining.specs.Join.{edge_ticket, Entry, entries, enter, unless_reason, enter_all}
use Rattle.joining.specs.Claims.{JoinRanged}

-- ---- kinds 1, 8 and 12 on a sheet in form

node_faces : (p : Point) (m : Map) → (add_iso_node p m).faces ≡ m.faces
unfolding add_iso_node
node_faces p m = refl

split_faces_lem : (e : ℕ) (p : Point) (m : Map) → (split Mod e p m).faces ≡ m.faces
unfolding split
split_faces_lem e p m = refl

-- a place in range
abbrev Plotted : Place → Type 0
Plotted p = InRange p.at

module _ (l : Lent) (r : ranged l ≡ true) (f : formed (map_of l) ≡ true) where
  abbrev m : Map
  m = map_of l

  abbrev s : Sizes
  s = sizes_of l

  -- a curve in range, of no more points than the head records
  abbrev Kept : Curve → Type 0
  Kept c = StoredTo (most_points s.limit) c

  abbrev Drawn : Line → Type 0
  Drawn k = Kept k.curve

  next_node : NextInRange m.next.nodes
  unfolding map_of
  next_node = next_in_range_lem l.head.next_node (ranged_is l r).next_node

  next_edge : NextInRange m.next.edges
  unfolding map_of
  next_edge = next_in_range_lem l.head.next_edge (ranged_is l r).next_edge

  next_face : NextInRange m.next.faces
  unfolding map_of
  next_face = next_in_range_lem l.head.next_face (ranged_is l r).next_face

  ranks : RankedMap m
  ranks =
      let form = formed_is m f in
      numbered_ranked m (edges_once m f) (
      record {
        numbers = form.rising;
        named = form.named;
        marked = form.bare;
        first_node = next_node.least;
        first_edge = next_edge.least;
        next_node = next_node.most;
        next_edge = next_edge.most;
        next_face = next_face.most;
      })

  old_line : (k : Line) → Memᴰ k (lines m) → Drawn k
  old_line k j =
      let e = Memᴰ.of_map line_of m.edges j in
      subst Drawn e.2 (recorded_curves l r e.0 e.1)

  old_place : (p : Place) → Memᴰ p (places m) → Plotted p
  old_place p j =
      let n = Memᴰ.of_map place_of m.nodes j in
      subst Plotted n.2 (ranged_nodes l r n.0 n.1)

  -- a map of such lines and places that takes no more than there is
  tabled : (m' : Map) {ls : List Line} {ps : List Place} {a b c x y z : ℕ} → Becomes m' ls ps
      → Taken m m' a b c x y z → Room s m a b c → Supply m x y z → 1 ≤ length m'.faces
      → ((k : Line) → Memᴰ k ls → Drawn k) → ((p : Place) → Memᴰ p ps → Plotted p) → Tabled s m'
  tabled m' w t room supply faces lines-in places-in =
      let n = length-map m.edges outline_of in
      let n' = length-map m'.edges outline_of in
      let a = next_node.least in
      let b = next_edge.least in
      let c = next_face.least in
      let stored : (e : Edge) → Memᴰ e m'.edges → Kept e.curve =
      λ e j. lines-in (line_of e) (subst (Memᴰ (line_of e)) w.lines (Memᴰ.map line_of j)) in
      record {
        nodes = λ k j. places-in (place_of k) (subst (Memᴰ (place_of k)) w.places (Memᴰ.map place_of j));
        edges = λ e j. stored_wider (most-fits s.limit) (stored e j);
        some_face = faces;
        fits = record {
          nodes = omega (arith, t.nodes, room.nodes);
          edges = omega (arith, t.edges, room.edges, n, n');
          faces = omega (arith, t.faces, room.faces);
          short = λ e j. (stored e j).most;
        };
        next_node = rw t.next (record { least = omega (arith, a); most = supply.nodes });
        next_edge = rw t.next (record { least = omega (arith, b); most = supply.edges });
        next_face = rw t.next (record { least = omega (arith, c); most = supply.faces });
      }

  node_tabled : (p : Point) → AddNode s m p → Tabled s (add_iso_node p m)
  node_tabled p h =
      tabled (add_iso_node p m) (add_iso_node_becomes p m) (add_node-taken p m) h.room h.supply
      (rw (node_faces p m) (some_face m.faces ranks.zero)) old_line
      (each_last {R = Plotted} (places m) old_place h.in_range)

  split_tabled : (e : ℕ) (p : Point) → Split Mod s m e p → Tabled s (split Mod e p m)
  split_tabled e p h =
      tabled (split Mod e p m) (split_mod_becomes e p m) (split-taken Mod e p m h.has) h.room h.supply
      (rw (split_faces_lem e p m) (some_face m.faces ranks.zero))
      (each_last {R = Drawn} _ kept halves.1)
      (each_last {R = Plotted} (places m) old_place h.in_range)
    where
      here : Memᴰ (edge m e) m.edges
      here = (edge_there_lem m e h.has).0

      off : ((edge m e).curve.first ≢ p) × (last_point (edge m e).curve ≢ p)
      off = off_ends m p h.free (within_nodes m f) here (formed_anchored m f (edge m e) here)

      halves : Kept (front p (edge m e).curve) × Kept (back p (edge m e).curve)
      halves = halves_stored p (edge m e).curve off.0 off.1 h.on h.in_range
          (recorded_curves l r (edge m e) here)

      kept : (k : Line) → Memᴰ k (map (replaced e (first_half (line_of (edge m e)) m.next.nodes e p)) (lines m))
          → Drawn k
      kept k j =
          let x = Memᴰ.of_map (replaced e (first_half (line_of (edge m e)) m.next.nodes e p)) (lines m) j in
          subst Drawn x.2
          (cond_has Drawn (same x.0.number e) halves.0 (old_line x.0 x.1))

  edge_tabled : (u v : ℕ) (c : Curve) → AddEdge Mod s m u v c → Few s m c → Tabled s (add_edge Mod u v c m)
  edge_tabled u v c h few =
      tabled (add_edge Mod u v c m) (add_edge_becomes Mod u v c m)
      (add_edge-taken Mod u v c m h.has_start ranks) h.room h.supply
      (some_face (add_edge Mod u v c m).faces (add_edge_ranked Mod u v c m h.has_start ranks).zero)
      (each_last {R = Drawn} (lines m) old_line sent) old_place
    where
      sent : Kept c
      sent = record { least = h.sent.least; most = few; in_range = h.sent.in_range }

-- ---- a ticket of these kinds, on any sheet in range

module _ (l : Lent) (r : ranged l ≡ true) where
  carry : (t : Ticket)
      → (formed (map_of l) ≡ true → first_reason (reasons (sizes_of l) (map_of l) t) ≡ 0
      → Tabled (sizes_of l) (carried (map_of l) t).0)
      → (n : ℕ) → first_reason (lent_reasons l ++ reasons (sizes_of l) (map_of l) t) ≡ n
      → ranged (unless l n (carried (map_of l) t)).lent ≡ true
  carry t then zero e =
      let h₁ = first_zero 1 (not (whole l)) _ (lit< tt) e in
      let h₂ = first_zero 2 (not (in_form l)) (reasons (sizes_of l) (map_of l) t) (lit< tt) h₁.1 in
      let form = in_form_is l (not-false (in_form l) h₂.0) in
      tabled_ranged (sizes_of l) (carried (map_of l) t).0 (then form.formed h₂.1)
  carry t then (suc n) e = r

  node_kept : (x y : ℕ) → ranged (ticket l (pos 1 ∷ negsuc 0 ∷ pos x ∷ pos y ∷ [])).lent ≡ true
  unfolding ticket read carried
  node_kept x y = carry (AddIsoNode (negsuc 0) (pos x) (pos y)) (λ f h.
      node_tabled l r f (point (pos x) (pos y)) (add_node_lem (sizes_of l) (map_of l) (negsuc 0) (pos x) (pos y) h)) _ refl

  split_kept : (e x y : ℕ) → ranged (ticket l (pos 8 ∷ pos e ∷ pos x ∷ pos y ∷ [])).lent ≡ true
  unfolding ticket read carried
  split_kept e x y = carry (ModEdgeSplit (pos e) (pos x) (pos y)) (λ f h.
      split_tabled l r f e (point (pos x) (pos y)) (split-mod (sizes_of l) (map_of l) (pos e) (pos x) (pos y) h)) _ refl

  edge_kept : (u v : ℕ) (c : List ℤ) → ranged (ticket l (pos 12 ∷ pos u ∷ pos v ∷ c)).lent ≡ true
  unfolding ticket read carried
  edge_kept u v c = go (same (length c % 2) 0)
    where
      go : (b : Bool) → ranged (judged l (map_of l) (cond b (some (AddEdgeModFace (pos u) (pos v) c)) none)).lent ≡ true
      go true = carry (AddEdgeModFace (pos u) (pos v) c) (λ f h.
          edge_tabled l r f u v (curve_in c) (add-mod (sizes_of l) (map_of l) (pos u) (pos v) c h)
          (add_mod_few (sizes_of l) (map_of l) (pos u) (pos v) c h)) _ refl
      go false = r

-- ---- the rows' tickets

-- what a row of the second sheet does to a sheet in range
abbrev pub Keeps : Entry → Type 0
Keeps f = (l : Lent) → ranged l ≡ true → ranged (enter l (f (map_of l))).lent ≡ true

pub node_keeps : (p : Point) → Keeps (node_ticket p)
unfolding node_ticket
node_keeps p l r = go (node_there (map_of l) p) (edge_there (map_of l) p)
  where
    go : (n : Option Node) (e : Option Edge) → ranged (enter l (unless_served n (placing e p))).lent ≡ true
    go (some n) e = r
    go none (some e) = split_kept l r e.number p.x p.y
    go none none = node_kept l r p.x p.y

pub edge_keeps : (c : Curve) → Keeps (edge_ticket c)
unfolding edge_ticket
edge_keeps c l r = go (edge_exists (map_of l) u v c)
  where
    u : ℕ
    u = serving (map_of l) c.first

    v : ℕ
    v = serving (map_of l) (last_point c)

    go : (b : Bool)
        → ranged (enter l (cond b none (some (pos 12 ∷ pos u ∷ pos v ∷ coordinates (points c))))).lent ≡ true
    go true = r
    go false = edge_kept l r u v (coordinates (points c))

entries-keep : (m : Map) → All Keeps (entries m)
unfolding entries
entries-keep m =
    each_append Keeps (map (λ n. node_ticket n.at) m.nodes) (map (λ e. edge_ticket e.curve) m.edges)
    (all_map (λ (n : Node). node_ticket n.at) m.nodes (λ n. node_keeps n.at))
    (all_map (λ (e : Edge). edge_ticket e.curve) m.edges (λ e. edge_keeps e.curve))
  where
    all_map : {A : Type 0} (f : A → Entry) (xs : List A) → ((x : A) → Keeps (f x)) → All Keeps (map f xs)
    all_map f [] h = tt
    all_map f (x ∷ xs) h = (h x, all_map f xs h)

all_keep : (fs : List Entry) → All Keeps fs → (l : Lent) → ranged l ≡ true → (n : ℕ)
    → ranged (enter_all l (take n fs)).lent ≡ true
unfolding enter_all
all_keep fs k l r zero = r
all_keep [] k l r (suc n) = r
all_keep (f ∷ fs) k l r (suc n) =
    let o = enter l (f (map_of l)) in
    go o.answer.refusal (enter_all o.lent (take n fs)) (all_keep fs k.1 o.lent (k.0 l r) n)
  where
    go : (a : ℕ) (rest : Outcome) → ranged rest.lent ≡ true → ranged (unless_reason a l rest).lent ≡ true
    go zero rest h = h
    go (suc a) rest h = r

pub join-ranged : JoinRanged
join-ranged l second r n = all_keep (entries (map_of second)) (entries-keep (map_of second)) l r n
