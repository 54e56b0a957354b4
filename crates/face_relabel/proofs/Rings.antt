-- Where the links name each directed edge once, two rings are one or have nothing in common, and where each link keeps
-- the face, a ring bears one. Assumes nothing.
use mathlib.Core.Path.{◌≡◌, refl, sym, ap, ◌∙◌, subst}
use mathlib.Core.Logic.{◌⊎◌, inl, inr}
use mathlib.Core.Bool.{Bool, true, false, cond}
use mathlib.Core.Option.{get_or, some}
use mathlib.Core.List.Memᴰ
use mathlib.Core.List.{List, [], ◌∷◌, map, map-map, Memᴰ}
use mathlib.Core.List.{Permᴰ}
use Prim.Native.Nat.{ℕ, zero, suc, ◌≤◌, min}
use native.Mathlib.Omega.{arith}
use lib.ListN.{length-map}
use Rattle.lists.specs.Tests.{same, iterate}
use Rattle.lists.specs.Scans.{find}
use Rattle.lists.specs.Members.{Distinct}
use Rattle.lists.proofs.Bools.{either}
use Rattle.curves.specs.Curves.{through}
use Rattle.planar_maps.specs.Map.{Arc, Dart, fwd, bwd, darts, Linked}
use Rattle.planar_maps.specs.Pieces.{nums}
use Rattle.planar_maps.specs.Rings.{Leads}
use Rattle.planar_maps.proofs.Rings.{next_in_lem}
use Rattle.map.specs.Rows.{Edge, Map, edge, set_edges}
use Rattle.map.specs.Darts.{arcs, directed, leaves, next, bears, ring, among, lowest_edge}
use Rattle.map.specs.Form.{links_once, rings_bear_one}
use Rattle.map.proofs.Linked.{arc_of, nums-rows, links_perm, links_keep}
use Rattle.map_laws.proofs.Rings.{ring-same, among_in, among_has, ring_here, ring_leads, ring_alike, lowest_same}

-- ---- the map with every edge a loop at node 0: its rings are the map's, and its links meet

abbrev loop : Edge → Edge
loop e = record {
  number = e.number;
  start = 0;
  end = 0;
  next_left = e.next_left;
  next_right = e.next_right;
  left = e.left;
  right = e.right;
  curve = e.curve;
}

abbrev bare : Map → Map
bare m = set_edges (map loop m.edges) m

abbrev blank_edge : Edge
blank_edge = record {
  number = 0;
  start = 0;
  end = 0;
  next_left = fwd 0;
  next_right = fwd 0;
  left = 0;
  right = 0;
  curve = through [];
}

find_loop : (k : ℕ) (es : List Edge) → get_or (find (λ r. same r.number k) (map loop es)) blank_edge
    ≡ loop (get_or (find (λ r. same r.number k) es) blank_edge)
find_loop k [] = refl
find_loop k (r ∷ es) = pick (same r.number k) (find_loop k es)
  where
    pick : (b : Bool) → get_or (find (λ r. same r.number k) (map loop es)) blank_edge
        ≡ loop (get_or (find (λ r. same r.number k) es) blank_edge)
        → get_or (cond b (some (loop r)) (find (λ r. same r.number k) (map loop es))) blank_edge
        ≡ loop (get_or (cond b (some r) (find (λ r. same r.number k) es)) blank_edge)
    pick true later = refl
    pick false later = later

module _ (m : Map) where
  edge_bare : (k : ℕ) → edge (bare m) k ≡ loop (edge m k)
  unfolding edge
  edge_bare k = find_loop k m.edges

  next_bare : (d : Dart) → next (bare m) d ≡ next m d
  unfolding next
  next_bare d = ap (λ (e : Edge). cond d.back e.next_right e.next_left) (edge_bare d.edge)

  bears_bare : (d : Dart) → bears (bare m) d ≡ bears m d
  unfolding bears
  bears_bare d = ap (λ (e : Edge). cond d.back e.right e.left) (edge_bare d.edge)

  leaves_bare : (d : Dart) → leaves (bare m) d ≡ 0
  unfolding leaves
  leaves_bare d = ap (λ (e : Edge). cond d.back e.end e.start) (edge_bare d.edge) ∙ either d.back 0

  nexts_bare : next (bare m) ≡ next m
  nexts_bare = λ i d. next_bare d i

  ring_bare : (d : Dart) → ring (bare m) d ≡ ring m d
  ring_bare = ring-same (bare m) m next_bare (length-map m.edges loop)

directed_loop : (es : List Edge) → darts (map arc_of (map loop es)) ≡ darts (map arc_of es)
directed_loop [] = refl
directed_loop (e ∷ es) = ap (λ (ds : List Dart). fwd e.number ∷ bwd e.number ∷ ds) (directed_loop es)

loops_at : (es : List Edge) (a : Arc) → Memᴰ a (map arc_of (map loop es)) → (a.from ≡ 0) × (a.to ≡ 0)
loops_at [] a k = absurd (Memᴰ.not-nil k)
loops_at (e ∷ es) a k = go (Memᴰ.cases_cons k) (loops_at es a)
  where
    go : (a ≡ arc_of (loop e)) ⊎ Memᴰ a (map arc_of (map loop es))
        → (Memᴰ a (map arc_of (map loop es)) → (a.from ≡ 0) × (a.to ≡ 0)) → (a.from ≡ 0) × (a.to ≡ 0)
    go (inl q) later = (ap (λ (a : Arc). a.from) q, ap (λ (a : Arc). a.to) q)
    go (inr j) later = later j

-- ---- the lowest edge

-- an edge that is no higher than any is the lowest
pub lowest_here : (e : ℕ) (r : List Dart) → ((x : Dart) → Memᴰ x r → e ≤ x.edge) → lowest_edge e r ≡ e
lowest_here e [] h = refl
lowest_here e (d ∷ r) h = let q : min e d.edge ≡ e = omega (arith, h d (Memᴰ.head refl)) in
    rw q (lowest_here e r (λ x k. h x (Memᴰ.tail k)))

-- ---- rings

module _ (m : Map) (dis : Distinct (map (λ e. e.number) m.edges)) (once : links_once m ≡ true)
    (one : rings_bear_one m ≡ true) where
  here : {d : Dart} → Memᴰ d (directed m) → Memᴰ d (directed (bare m))
  here {d} k = subst (λ (ds : List Dart). Memᴰ d ds) (sym (directed_loop m.edges)) k

  back : {d : Dart} → Memᴰ d (directed (bare m)) → Memᴰ d (directed m)
  back {d} k = subst (λ (ds : List Dart). Memᴰ d ds) (directed_loop m.edges) k

  linked : Linked (arcs (bare m)) (leaves (bare m)) (next (bare m)) (bears (bare m))
  linked =
      record {
        starts = λ a k. leaves_bare m (fwd a.num) ∙ sym (loops_at m.edges a k).0;
        ends = λ a k. leaves_bare m (bwd a.num) ∙ sym (loops_at m.edges a k).1;
        perm = subst (λ (ds : List Dart). Permᴰ (map (next (bare m)) ds) ds) (sym (directed_loop m.edges))
            (subst (λ (f : Dart → Dart). Permᴰ (map f (directed m)) (directed m)) (sym (nexts_bare m))
            (links_perm m (rw (nums-rows m) dis) once));
        meets = λ d k. leaves_bare m (next (bare m) d) ∙ sym (leaves_bare m _);
        keeps = λ d k. bears_bare m (next (bare m) d) ∙ ap (bears m) (next_bare m d) ∙ links_keep m one d (back k)
            ∙ sym (bears_bare m d);
      }

  once_bare : Distinct (nums (arcs (bare m)))
  once_bare = rw (nums-rows (bare m), map-map (λ (e : Edge). e.number) loop m.edges) dis

  -- what is alike along `next` is alike all over a ring
  along : {A : Type 0} (f : Dart → A) → ((x : Dart) → Memᴰ x (directed (bare m)) → f (next (bare m) x) ≡ f x)
      → {d x : Dart} → Memᴰ d (directed (bare m)) → Leads (next (bare m)) d x → Memᴰ x (directed (bare m))
      × (f x ≡ f d)
  along {A} f h {d} {x} i r = subst (λ (y : Dart). Memᴰ y (directed (bare m)) × (f y ≡ f d)) r.1 (go r.0)
    where
      go : (k : ℕ) → Memᴰ (iterate k (next (bare m)) d) (directed (bare m))
          × (f (iterate k (next (bare m)) d) ≡ f d)
      go zero = (i, refl)
      go (suc k) = let q = go k in (next_in_lem linked q.0, h (iterate k (next (bare m)) d) q.0 ∙ q.1)

  pub ring_self : (d : Dart) → Memᴰ d (directed m) → among (ring m d) d ≡ true
  ring_self d i = ap (λ (r : List Dart). among r d) (sym (ring_bare m d))
      ∙ among_has (ring (bare m) d) (ring_here (bare m) linked once_bare d (here i))

  module _ (d x : Dart) (i : Memᴰ d (directed m)) (on : among (ring m d) x ≡ true) where
    leads : Leads (next (bare m)) d x
    leads = ring_leads (bare m) linked once_bare d (here i)
        (among_in (ring (bare m) d) x (ap (λ (r : List Dart). among r x) (ring_bare m d) ∙ on))

    pub ring_in : Memᴰ x (directed m)
    ring_in = back (along (bears (bare m)) linked.keeps (here i) leads).0

    pub ring_bears_lem : bears m x ≡ bears m d
    ring_bears_lem = sym (bears_bare m x) ∙ (along (bears (bare m)) linked.keeps (here i) leads).1 ∙ bears_bare m d

    -- both lie on a ring or neither does
    pub ring-both : (y : Dart) → Memᴰ y (directed m) → among (ring m y) x ≡ among (ring m y) d
    ring-both y j =
        ap (λ (r : List Dart). among r x) (sym (ring_bare m y))
        ∙ (along (among (ring (bare m) y)) (ring_alike (bare m) linked once_bare y (here j)) (here i) leads).1
        ∙ ap (λ (r : List Dart). among r d) (ring_bare m y)

    pub ring_lowest : lowest_edge x.edge (ring m x) ≡ lowest_edge d.edge (ring m d)
    ring_lowest =
        ap (lowest_edge x.edge) (sym (ring_bare m x)) ∙ lowest_same (bare m) linked once_bare (here i) leads
        ∙ ap (lowest_edge d.edge) (ring_bare m d)
