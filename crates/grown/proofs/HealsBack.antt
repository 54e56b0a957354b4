-- The map after a split and its heal, as an equation: kinds 8 and 10 give the map back, kinds 7 and 9 the map with the
-- edge renumbered. Assumes nothing.
use mathlib.Core.Path.{◌≡◌, refl, sym, ap, ap₂, ◌∙◌, subst}
use mathlib.Core.Logic.{inl, inr}
use mathlib.Core.Bool.{Bool, true, false, cond, not}
use mathlib.Core.List.Memᴰ
use mathlib.Core.List.{List, [], ◌∷◌, ◌++◌, map, map-id, map-map, map-append, Memᴰ}
use mathlib.Core.Option.{get_or, none}
use Prim.Native.Nat.{ℕ, ◌+◌, ◌<◌}
use native.Mathlib.Nat.{add-zero}
use native.Mathlib.Omega.{arith}
use Rattle.lists.specs.Tests.{same}
use Rattle.lists.proofs.Bools.{same_refl, same_true, same_false, which}
use Rattle.lists.proofs.Keeps.{keep_in, keep_all, keep-map, keep_append, keep_last}
use Rattle.lists.proofs.Members.{map_cong}
use Rattle.plane.specs.declared.Point.{Point}
use Rattle.curves.specs.Curves.{Curve}
use Rattle.curves.specs.Tests.{on_curve}
use Rattle.planar_maps.specs.Map.{Dart, fwd, bwd, rev}
use Rattle.planar_maps.proofs.Rings.{next_in_lem}
use Rattle.map.specs.declared.Variant.{Variant}
use Rattle.map.specs.declared.Variant.TheVariants.{New, Mod}
use Rattle.map.specs.Rows.{Node, Edge, Map, edge, has_edge, at_edge, set_nodes, set_edges, given, without_node, without_edge}
use Rattle.map.specs.Rows.{counts}
use Rattle.map.specs.Darts.{leaves, next}
use Rattle.map.specs.Links.{with_links}
use Rattle.map.specs.Edits.{is_mod, start_half, end_half, split, joint, parts, healed_curve, heal}
use Rattle.map.specs.Reasons.{any_node_at}
use Rattle.map.proofs.Laws.{edge_there_lem}
use Rattle.map_laws.proofs.Readings.{number_of, next_in, edge_at, row_has, has_dart, dart_has, next_row}
use Rattle.map_laws.proofs.RowChanges.{node_number}
use Rattle.grown.specs.Good.{Good}
use Rattle.grown.specs.Claims.{link_renamed, links_renamed, with_number, renumbered}
use Rattle.grown.proofs.Law.Lawful.{Lawful, good_lawful}
use Rattle.grown.proofs.Law.Split.{new_halves, kept_halves}
use Rattle.grown.proofs.SplitsRows.{half_names, relinked, parted_edges, parted_row}
use Rattle.grown.proofs.HealsRows as whole
use Rattle.grown.proofs.Rejoined.{names_back, renamed_self, Rejoin, rejoin}

-- the row e replaced
abbrev put : ℕ → Edge → Edge → Edge
put e x r = cond (same r.number e) x r

-- ---- a heal, by its joint n, the rows es with departures renamed, and the healed row x

abbrev healed_map : Variant → ℕ → ℕ → ℕ → List Edge → Edge → Map → Map
healed_map how a b n es x m =
    let kept = without_edge b (map (put a x) es) in
    let new = without_edge a (without_edge b es) ++ x ∷ [] in
    set_nodes (without_node n m.nodes)
    (set_edges (cond (is_mod how) kept new) (given (counts 0 (cond (is_mod how) 0 1) 0) m))

abbrev heal_row : Map → ℕ → ℕ → Dart → Dart → Curve → Edge
heal_row m a h c d curve =
    record {
      number = h;
      start = leaves m c;
      end = leaves m (rev d);
      next_left = next (whole.rejoined m h c d) d;
      next_right = next (whole.rejoined m h c d) (rev c);
      left = (edge m a).left;
      right = (edge m a).right;
      curve = curve;
    }

abbrev healed_by : Variant → ℕ → ℕ → ℕ → Dart → Dart → Curve → Map → Map
healed_by how a b n c d curve m =
    let h = cond (is_mod how) a m.next.edges in
    healed_map how a b n (whole.rejoined m h c d).edges (heal_row m a h c d curve) m

heal_by : (how : Variant) (a b : ℕ) (m : Map) → heal how a b m
    ≡ healed_by how a b (get_or (joint m a b) 0) (parts m a b).0 (parts m a b).1 (healed_curve m a b) m
unfolding heal at_edge
heal_by how a b m = refl

-- ---- the edge e of a good map, its row and the links

module _ (m : Map) (e : ℕ) (g : Good m) (has : has_edge m e ≡ true) where
  abbrev L : Lawful m
  L = good_lawful m g

  below : {r : Edge} → Memᴰ r m.edges → r.number < m.next.edges
  below {r} k = L.edges_below r.number (Memᴰ.map number_of k)

  e_below : e < m.next.edges
  e_below = subst (λ (i : ℕ). i < m.next.edges) (edge_there_lem m e has).1 (below (edge_there_lem m e has).0)

  -- a link names an edge of the map
  link_below : (r : Edge) → Memᴰ r m.edges → (t : Bool) → (next_in t r).edge < m.next.edges
  link_below r k t =
      let d : Dart = record { edge = r.number; back = t } in
      let z = edge_there_lem m (next m d).edge (dart_has m (next_in_lem L.linked (has_dart m d (row_has m k)))) in
      let q = next_row m d ∙ ap (next_in t) (edge_at m L.once k) in
      subst (λ (i : ℕ). i < m.next.edges) (z.1 ∙ ap (λ (c : Dart). c.edge) q) (below z.0)

  -- the row e, healed to the number h
  abbrev renumbered_row : ℕ → Edge
  renumbered_row h = with_number h (links_renamed e h (edge m e))

  -- links are renamed there and back
  abbrev Back : ℕ → ℕ → ℕ → Type 0
  Back a b h =
      (d : Dart) → d.edge < m.next.edges
      → whole.whole_names h (fwd a) (fwd b) (half_names e a b d) ≡ link_renamed e h d

  row_names : (a b h : ℕ) → Back a b h → (r : Edge) → Memᴰ r m.edges
      → whole.relinked h (fwd a) (fwd b) (relinked e a b r) ≡ links_renamed e h r
  row_names a b h back r k =
      ap₂ (λ (u v : Dart). with_links u v r)
      (back r.next_left (link_below r k false))
      (back r.next_right (link_below r k true))

  -- the heal of halves of e: departures are renamed, and the healed row is that of e with the number h
  heal_is : (m' : Map) (n a b : ℕ) (how : Variant) (h : ℕ)
      → h ≡ cond (is_mod how) a m'.next.edges → Rejoin m m' e n a b → Back a b h
      → heal how a b m'
      ≡ healed_map how a b n (map (whole.relinked h (fwd a) (fwd b)) m'.edges) (renumbered_row h) m'
  heal_is m' n a b how h is j back =
      heal_by how a b m'
      ∙ (λ i. healed_by how a b (get_or (j.joint i) 0) (j.parts i).0 (j.parts i).1 (j.curve i) m')
      ∙ ap (λ (i : ℕ). by (whole.rejoined m' i c d).edges (heal_row m' a i c d (edge m e).curve)) (sym is)
      ∙ ap₂ by (whole.rejoined_edges m' h c d) row
    where
      by : List Edge → Edge → Map
      by es x = healed_map how a b n es x m'

      c : Dart
      c = fwd a

      d : Dart
      d = fwd b

      k : Memᴰ (edge m e) m.edges
      k = (edge_there_lem m e has).0

      renamed : (z l : Dart) → has_edge m' z.edge ≡ true → next m' z ≡ half_names e a b l → l.edge < m.next.edges
          → next (whole.rejoined m' h c d) z ≡ link_renamed e h l
      renamed z l q u v = whole.rejoined_next m' h c d z q ∙ ap (whole.whole_names h c d) u ∙ back l v

      row : heal_row m' a h c d (edge m e).curve ≡ renumbered_row h
      row = λ i. record {
        number = h;
        start = j.start i;
        end = j.end i;
        next_left = renamed d _ j.has_second j.next-left (link_below (edge m e) k false) i;
        next_right = renamed (bwd a) _ j.has_first j.next_right_lem (link_below (edge m e) k true) i;
        left = j.left i;
        right = j.right i;
        curve = (edge m e).curve;
      }

-- ---- split, then heal

module _ (m : Map) (e : ℕ) (p : Point) (g : Good m) (has : has_edge m e ≡ true)
    (free : any_node_at m.nodes p ≡ false) (on : on_curve (edge m e).curve p ≡ true) where
  abbrev n : ℕ
  n = m.next.nodes

  abbrev x : ℕ
  x = m.next.edges

  -- the new node goes
  abbrev cut : Node
  cut = record { number = n; at = p; face = none }

  nodes_back : without_node n (m.nodes ++ cut ∷ []) ≡ m.nodes
  nodes_back = keep_last (λ r. not (same r.number n)) m.nodes cut others (ap not (same_refl n))
    where
      others : (r : Node) → Memᴰ r m.nodes → not (same r.number n) ≡ true
      others r k =
          let i = (good_lawful m g).nodes_below r.number (Memᴰ.map node_number k) in
          ap not (same_false r.number n (λ j. omega arith))

  -- ---- kinds 8 and 10

  abbrev first : Edge
  first = start_half (relinked e e x (edge m e)) n e x p

  abbrev second : Edge
  second = end_half (relinked e e x (edge m e)) n e x p

  kept_list : (split Mod e p m).edges ≡ map (put e first) (map (relinked e e x) m.edges) ++ second ∷ []
  unfolding split at_edge
  kept_list =
      ap₂ (λ (y : Edge) (l : List Edge). map (put e (start_half y n e x p)) l ++ end_half y n e x p ∷ [])
      (parted_row m e e x has) (parted_edges m e e x)

  kept_names : Back m e g has e x e
  kept_names d h = names_back e e x e d (λ ne. ne) (λ j. omega arith)

  -- links renamed by kind 10, and the row e put back
  abbrev by_10 : Edge → Edge
  by_10 = whole.relinked e (fwd e) (fwd x)

  abbrev back : Edge → Edge
  back = put e (renumbered_row m e g has e)

  -- each row is as it was
  each_back : (r : Edge) → Memᴰ r m.edges → back (by_10 (put e first (relinked e e x r))) ≡ r
  each_back r k = elim (which (same r.number e)) [
    | inl q ↦
        ap (λ (b : Bool). back (by_10 (cond b first (relinked e e x r)))) q
        ∙ ap (λ (b : Bool). cond b (renumbered_row m e g has e) (by_10 first)) (same_refl e)
        ∙ (λ i. record {
          number = sym (edge_there_lem m e has).1 i;
          start = (edge m e).start;
          end = (edge m e).end;
          next_left = renamed_self e (edge m e).next_left i;
          next_right = renamed_self e (edge m e).next_right i;
          left = (edge m e).left;
          right = (edge m e).right;
          curve = (edge m e).curve;
        })
        ∙ ap (edge m) (sym (same_true r.number e q))
        ∙ edge_at m (good_lawful m g).once k
    | inr q ↦
        ap (λ (b : Bool). back (by_10 (cond b first (relinked e e x r)))) q
        ∙ ap (λ (b : Bool). cond b (renumbered_row m e g has e) (by_10 (relinked e e x r))) q
        ∙ row_names m e g has e x e kept_names r k
        ∙ ap₂ (λ (u v : Dart). with_links u v r) (renamed_self e r.next_left) (renamed_self e r.next_right)
  ]

  kept_edges : without_edge x (map back (map by_10 (split Mod e p m).edges)) ≡ m.edges
  kept_edges =
      ap (λ (l : List Edge). without_edge x (map back (map by_10 l))) kept_list
      ∙ ap (without_edge x) (map-map back by_10 (rows ++ second ∷ []))
      ∙ ap (without_edge x) (map-append (λ r. back (by_10 r)) rows (second ∷ []))
      ∙ ap (λ (l : List Edge). without_edge x (l ++ back (by_10 second) ∷ [])) rows_back
      ∙ keep_last (λ r. not (same r.number x)) m.edges (back (by_10 second)) others out
    where
      rows : List Edge
      rows = map (put e first) (map (relinked e e x) m.edges)

      rows_back : map (λ r. back (by_10 r)) rows ≡ m.edges
      rows_back =
          map-map (λ r. back (by_10 r)) (put e first) (map (relinked e e x) m.edges)
          ∙ map-map (λ r. back (by_10 (put e first r))) (relinked e e x) m.edges
          ∙ map_cong (λ r. back (by_10 (put e first (relinked e e x r)))) (λ r. r) m.edges each_back
          ∙ map-id m.edges

      others : (r : Edge) → Memᴰ r m.edges → not (same r.number x) ≡ true
      others r k = let i = below m e g has k in ap not (same_false r.number x (λ j. omega arith))

      out : not (same (back (by_10 second)).number x) ≡ false
      out =
          let i = e_below m e g has in
          let q = same_false x e (λ j. omega arith) in
          ap (λ (b : Bool). not (same (cond b (renumbered_row m e g has e) (by_10 second)).number x)) q
          ∙ ap not (same_refl x)

  -- the map is as before, but for the next numbers
  pub kept_back : heal Mod e x (split Mod e p m) ≡ given (counts 1 1 0) m
  unfolding split
  kept_back =
      heal_is m e g has (split Mod e p m) n e x Mod e refl
      (rejoin m _ e n e x p g (kept_halves m e p (good_lawful m g) has free on)) kept_names
      ∙ (λ i. record {
        nodes = nodes_back i;
        edges = kept_edges i;
        faces = m.faces;
        next = let k = m.next in
            counts (add-zero (k.nodes + 1) i) (add-zero (k.edges + 1) i) (add-zero (k.faces + 0) i);
      })

  -- ---- kinds 7 and 9

  abbrev front : Edge
  front = start_half (relinked e x (x + 1) (edge m e)) n x (x + 1) p

  abbrev rear : Edge
  rear = end_half (relinked e x (x + 1) (edge m e)) n x (x + 1) p

  new_list : (split New e p m).edges ≡ without_edge e (map (relinked e x (x + 1)) m.edges) ++ front ∷ rear ∷ []
  unfolding split
  new_list =
      ap₂ (λ (y : Edge) (l : List Edge). without_edge e l ++ start_half y n x (x + 1) p ∷ end_half y n x (x + 1) p ∷ [])
      (parted_row m e x (x + 1) has) (parted_edges m e x (x + 1))

  module _ (h : ℕ) where
    new_names : Back m e g has x (x + 1) h
    new_names d k = names_back e x (x + 1) h d (λ ne j. omega arith) (λ j. omega arith)

    -- links renamed by kind 9
    abbrev by_9 : Edge → Edge
    by_9 = whole.relinked h (fwd x) (fwd (x + 1))

    abbrev others : List Edge
    others = map (links_renamed e h) (without_edge e m.edges)

    others_are : map by_9 (without_edge e (map (relinked e x (x + 1)) m.edges)) ≡ others
    others_are =
        ap (map by_9) (keep-map (relinked e x (x + 1)) not_e not_e m.edges (λ r k. refl))
        ∙ map-map by_9 (relinked e x (x + 1)) (without_edge e m.edges)
        ∙ map_cong (λ r. by_9 (relinked e x (x + 1) r)) (links_renamed e h) (without_edge e m.edges)
        (λ r k. row_names m e g has x (x + 1) h new_names r (keep_in not_e m.edges k).0)
      where
        not_e : Edge → Bool
        not_e r = not (same r.number e)

    -- the others have lower numbers than the halves
    kept_others : (k : ℕ) → m.next.edges < k + 1 → (r : Edge) → Memᴰ r others → not (same r.number k) ≡ true
    kept_others k u r j =
        let y = Memᴰ.of_map (links_renamed e h) (without_edge e m.edges) j in
        let i = below m e g has (keep_in _ m.edges y.1).0 in
        let q = ap (λ (z : Edge). z.number) y.2 in
        ap not (same_false r.number k (λ w. omega arith))

    new_edges : without_edge x (without_edge (x + 1) (map by_9 (split New e p m).edges)) ≡ others
    new_edges =
        ap (λ (l : List Edge). without_edge x (without_edge (x + 1) l)) listed
        ∙ ap (without_edge x) rear_out
        ∙ keep_last (λ r. not (same r.number x)) others (by_9 front) (kept_others x (omega arith)) front_out
      where
        listed : map by_9 (split New e p m).edges ≡ others ++ by_9 front ∷ by_9 rear ∷ []
        listed =
            ap (map by_9) new_list
            ∙ map-append by_9 (without_edge e (map (relinked e x (x + 1)) m.edges)) (front ∷ rear ∷ [])
            ∙ ap (λ (l : List Edge). l ++ by_9 front ∷ by_9 rear ∷ []) others_are

        last : without_edge (x + 1) (by_9 front ∷ by_9 rear ∷ []) ≡ by_9 front ∷ []
        last = rw (same_false x (x + 1) (λ j. omega (arith, j)), same_refl (x + 1))

        rear_out : without_edge (x + 1) (others ++ by_9 front ∷ by_9 rear ∷ []) ≡ others ++ by_9 front ∷ []
        rear_out =
            keep_append (λ r. not (same r.number (x + 1))) others (by_9 front ∷ by_9 rear ∷ [])
            ∙ ap₂ ◌++◌ (keep_all _ others (kept_others (x + 1) (omega arith))) last

        front_out : not (same (by_9 front).number x) ≡ false
        front_out = ap not (same_refl x)

  -- the edge has the next number but two, its row is the last, and the links name it so
  pub new_back : heal New x (x + 1) (split New e p m) ≡ given (counts 1 3 0) (renumbered e (x + 2) m)
  unfolding split renumbered
  new_back =
      heal_is m e g has (split New e p m) n x (x + 1) New (x + 2) refl
      (rejoin m _ e n x (x + 1) p g (new_halves m e p (good_lawful m g) has free on)) (new_names (x + 2))
      ∙ (λ i. record {
        nodes = nodes_back i;
        edges = new_edges (x + 2) i ++ renumbered_row m e g has (x + 2) ∷ [];
        faces = m.faces;
        next = counts (add-zero (m.next.nodes + 1) i) (three m.next.edges i) (add-zero (m.next.faces + 0) i);
      })
    where
      three : (k : ℕ) → k + 2 + 1 ≡ k + 3
      three k = omega arith
