-- Kinds 7 and 8: the rows of a split are those of a map with the edge in halves, and the law is kept. The curve may run
-- through the point more than once and turn back at it. Assumes nothing.
use mathlib.Core.Path.{◌≡◌, refl, sym, ap, ap₂, ◌∙◌, subst}
use mathlib.Core.Logic.{inl, inr, ◌≢◌}
use mathlib.Core.Bool.{Bool, true, false, cond, true≢false}
use mathlib.Core.List.Memᴰ
use mathlib.Core.List.{List, [], ◌∷◌, ◌++◌, map, map-map, Memᴰ}
use mathlib.Core.List.Permᴰ
use mathlib.Core.List.{Permᴰ}
use Prim.Native.Nat.{ℕ, ◌+◌, ◌<◌}
use native.Mathlib.Omega.{arith}
use Rattle.lists.specs.Tests.{same}
use Rattle.lists.specs.Members.{Distinct}
use Rattle.lists.proofs.Perms.{perm_in, perm_distinct, one_last}
use Rattle.lists.proofs.Members.{none_has}
use Rattle.planar_maps.specs.Map.{Arc, Dart, fwd, bwd, darts}
use Rattle.planar_maps.specs.Pieces.{Within, nums}
use Rattle.planar_maps.proofs.Rings.{next_in_lem}
use Rattle.planar_maps.proofs.Splitting.{tail_in_lem}
use Rattle.planar_maps.proofs.Subdivide.{arc}
use Rattle.plane.specs.declared.Point.{Point}
use Rattle.plane.specs.Points.{same_point}
use Rattle.plane.specs.Directions.{same_way}
use Rattle.curves.specs.Curves.{last_point, start_way}
use Rattle.curves.specs.Tests.{on_curve}
use Rattle.curves.specs.Edits.{back}
use Rattle.geometry.proofs.Meeting.{same_point_refl}
use Rattle.rotation.proofs.Order.{same_way_refl}
use Rattle.map.specs.declared.Variant.{Variant}
use Rattle.map.specs.declared.Variant.TheVariants.{New, Mod}
use Rattle.map.specs.Rows.{Edge, Map, node, edge, has_edge, at_edge, without_edge}
use Rattle.map.specs.Darts.{arcs, directed, leaves, next, bears, way}
use Rattle.map.specs.Edits.{start_half, end_half, split}
use Rattle.map.specs.Reasons.{any_node_at}
use Rattle.map.proofs.Laws.{edge_there_lem, node_there_lem}
use Rattle.map_laws.proofs.Readings.{next_in, leaves_row, next_row, bears_row, course_row, way_row, has_number, arc_of}
use Rattle.map_laws.proofs.Readings.{number_of, nums-rows}
use Rattle.map_laws.proofs.RowChanges.{node_number}
use Rattle.map_laws.proofs.RowDarts.{dart_move, dart_row, leaves_of, next_of, bears_of, way_of}
use Rattle.grown.specs.Good.{Anchored}
use Rattle.grown.proofs.Law.Halves.{split-lawful}
use Rattle.grown.proofs.Law.Lawful.{Obeys, Lawful}
use Rattle.grown.proofs.Curves.Ends.{reverse-way, front-way, back_some, back-way}
use Rattle.grown.proofs.Halved.{Parts, Halved, departs, arrives, whole, each-whole, f_fwd, f_bwd, f_old, g_fwd}
use Rattle.grown.proofs.Halved.{g_bwd, g_old}
use Rattle.grown.proofs.SplitsRows.{half_names, relinked, names_are, parted, parted_edges, parted_row}
use Rattle.grown.proofs.SplitsRows.{rest_other, rows_m, replaced, left_out}

-- the points of nodes are not p
off_nodes : (m : Map) (p : Point) → any_node_at m.nodes p ≡ false → (k : ℕ)
    → Memᴰ k (map node_number m.nodes) → (node m k).at ≢ p
unfolding any_node_at
off_nodes m p free k j q =
    true≢false (sym (ap (same_point (node m k).at) (sym q) ∙ same_point_refl (node m k).at)
    ∙ none_has (λ x. same_point x.at p) m.nodes free (node m k)
    (node_there_lem m k (has_number node_number m.nodes k j)).0)

-- nor are the ends of a curve between nodes
pub off_ends : (m : Map) (p : Point) → any_node_at m.nodes p ≡ false → Within (map node_number m.nodes) (arcs m)
    → {r : Edge} → Memᴰ r m.edges → Anchored m r → (r.curve.first ≢ p) × (last_point r.curve ≢ p)
off_ends m p free w {r} k a = (
  λ q. off_nodes m p free r.start (w.starts (arc_of r) (Memᴰ.map arc_of k)) (sym a.start ∙ q),
  λ q. off_nodes m p free r.end (w.ends (arc_of r) (Memᴰ.map arc_of k)) (sym a.end ∙ q),
)

-- ---- a map m' whose rows are those of m but for the edge e, which stands in halves a and b that meet at the node n

pub record InHalves (m m' : Map) (e n a b : ℕ) (p : Point) : Type 0 where
  pub has : has_edge m e ≡ true
  pub free : any_node_at m.nodes p ≡ false
  pub on : on_curve (edge m e).curve p ≡ true
  pub rows : Permᴰ m'.edges (start_half (relinked e a b (edge m e)) n a b p
      ∷ end_half (relinked e a b (edge m e)) n a b p ∷ map (relinked e a b) (without_edge e m.edges))
  pub new_node_lem : Memᴰ n (map node_number m.nodes) → ⊥
  pub differ : a ≢ b
  pub new_a : Memᴰ a (nums (map arc_of (without_edge e m.edges))) → ⊥
  pub new_b : Memᴰ b (nums (map arc_of (without_edge e m.edges))) → ⊥

module _ (m m' : Map) (e n a b : ℕ) (p : Point) (L : Lawful m) (h : InHalves m m' e n a b p) where
  abbrev first : Edge
  first = start_half (relinked e a b (edge m e)) n a b p

  abbrev second : Edge
  second = end_half (relinked e a b (edge m e)) n a b p

  abbrev s : ℕ
  s = (edge m e).start

  abbrev t : ℕ
  t = (edge m e).end

  abbrev r : List Arc
  r = map arc_of (without_edge e m.edges)

  -- the row e before the others
  row : Memᴰ (edge m e) m.edges
  row = (edge_there_lem m e h.has).0

  rows_old : Permᴰ m.edges (edge m e ∷ without_edge e m.edges)
  rows_old = rows_m m e (λ r. r) (λ r. refl) (subst Distinct (nums-rows m) L.once) h.has

  pub arcs_m : Permᴰ (arcs m) (arc e s t ∷ r)
  arcs_m = subst (λ (k : ℕ). Permᴰ (arcs m) (arc k s t ∷ r)) (edge_there_lem m e h.has).1
      (Permᴰ.map arc_of rows_old)

  pub arcs_m' : Permᴰ (arcs m') (arc a s n ∷ arc b n t ∷ r)
  arcs_m' = subst (λ (l : List Arc). Permᴰ (arcs m') (arc a s n ∷ arc b n t ∷ l))
      (map-map arc_of (relinked e a b) (without_edge e m.edges)) (Permᴰ.map arc_of h.rows)

  to_m : (z : Dart) → Memᴰ z (whole e r) → Memᴰ z (directed m)
  to_m = dart_move (Permᴰ.symm arcs_m)

  of_m : (z : Dart) → Memᴰ z (directed m) → Memᴰ z (whole e r)
  of_m = dart_move arcs_m

  -- numbers stand once
  old_once : Distinct (e ∷ nums r)
  old_once = perm_distinct (Permᴰ.map (λ (x : Arc). x.num) arcs_m) L.once

  once : Distinct (a ∷ b ∷ nums r)
  once = (λ k. elim (Memᴰ.cases_cons k) [ inl q ↦ h.differ q | inr j ↦ h.new_a j ], (h.new_b, old_once.1))

  pub once_m' : Distinct (nums (arcs m'))
  once_m' = perm_distinct (Permᴰ.map (λ (x : Arc). x.num) (Permᴰ.symm arcs_m')) once

  in_rest : {q : Edge} → Memᴰ q (without_edge e m.edges) → Memᴰ q m.edges
  in_rest k = perm_in (Permᴰ.symm rows_old) (Memᴰ.tail k)

  pub in_first : Memᴰ first m'.edges
  in_first = perm_in (Permᴰ.symm h.rows) (Memᴰ.head refl)

  pub in_second : Memᴰ second m'.edges
  in_second = perm_in (Permᴰ.symm h.rows) (Memᴰ.tail (Memᴰ.head refl))

  in_other : {q : Edge} → Memᴰ q (without_edge e m.edges) → Memᴰ (relinked e a b q) m'.edges
  in_other k = perm_in (Permᴰ.symm h.rows) (Memᴰ.tail (Memᴰ.tail (Memᴰ.map (relinked e a b) k)))

  -- the point is no end of the curve
  off : ((edge m e).curve.first ≢ p) × (last_point (edge m e).curve ≢ p)
  off = off_ends m p h.free L.within row (L.anchored (edge m e) row)

  pub starts_off : (edge m e).curve.first ≢ p
  starts_off = off.0

  pub ends_off : last_point (edge m e).curve ≢ p
  ends_off = off.1

  abbrev parts : Parts e (fwd a) (fwd b) r
  parts = record { fresh = old_once.0; once = once }

  abbrev by : (P : Dart → Type 0) → P (fwd e) → P (bwd e) → ((z : Dart) → Memᴰ z (darts r) → P z) → (z : Dart)
      → Memᴰ z (whole e r) → P z
  by = each-whole e r

  -- a row of the others is read as it was, but for its links
  leaves_old : (z : Dart) → Memᴰ z (darts r) → leaves m' z ≡ leaves m z
  leaves_old z k = let x = dart_row (without_edge e m.edges) z k in
      leaves_of m' once_m' (relinked e a b x.0) (in_other x.1) z x.2
      ∙ sym (leaves_of m L.once x.0 (in_rest x.1) z x.2)

  way_old : (z : Dart) → Memᴰ z (darts r) → way m' z ≡ way m z
  way_old z k = let x = dart_row (without_edge e m.edges) z k in
      way_of m' once_m' (relinked e a b x.0) (in_other x.1) z x.2
      ∙ sym (way_of m L.once x.0 (in_rest x.1) z x.2)

  bears_old : (z : Dart) → Memᴰ z (darts r) → bears m' z ≡ bears m z
  bears_old z k = let x = dart_row (without_edge e m.edges) z k in
      bears_of m' once_m' (relinked e a b x.0) (in_other x.1) z x.2
      ∙ sym (bears_of m L.once x.0 (in_rest x.1) z x.2)

  next_in_row : (b' : Bool) (q : Edge) → next_in b' (relinked e a b q) ≡ half_names e a b (next_in b' q)
  next_in_row true q = refl
  next_in_row false q = refl

  next_old : (z : Dart) → Memᴰ z (darts r) → next m' z ≡ departs e (fwd a) (fwd b) (next m z)
  next_old z k = let x = dart_row (without_edge e m.edges) z k in
      next_of m' once_m' (relinked e a b x.0) (in_other x.1) z x.2 ∙ next_in_row z.back x.0
      ∙ names_are e a b (next_in z.back x.0)
      ∙ ap (departs e (fwd a) (fwd b)) (sym (next_of m L.once x.0 (in_rest x.1) z x.2))

  -- the far ends depart as the whole edge did
  way_f : same_way (way m (fwd e)) (way m' (departs e (fwd a) (fwd b) (fwd e))) ≡ true
  way_f = ap₂ same_way (way_row m (fwd e) ∙ ap start_way (course_row m (fwd e)))
      (ap (way m') (f_fwd parts) ∙ way_of m' once_m' first in_first (fwd a) refl)
      ∙ front-way p (edge m e).curve starts_off ends_off h.on

  way_b : same_way (way m (bwd e)) (way m' (departs e (fwd a) (fwd b) (bwd e))) ≡ true
  way_b = ap₂ same_way (way_row m (bwd e) ∙ ap start_way (course_row m (bwd e))
      ∙ reverse-way (edge m e).curve (L.some (edge m e) row))
      (ap (way m') (f_bwd parts) ∙ way_of m' once_m' second in_second (bwd b) refl
      ∙ reverse-way (back p (edge m e).curve) (back_some p (edge m e).curve starts_off ends_off h.on))
      ∙ back-way p (edge m e).curve starts_off ends_off h.on

  -- the two maps as one with the edge whole and with it in halves
  pub halves : Halved e (fwd a) (fwd b) n r (leaves m) (leaves m') (next m) (next m') (bears m) (bears m') (way m)
      (way m')
  halves = record {
    parts = parts;
    tails = by (λ z. leaves m' (departs e (fwd a) (fwd b) z) ≡ leaves m z)
        (ap (leaves m') (f_fwd parts) ∙ leaves_of m' once_m' first in_first (fwd a) refl ∙ sym (leaves_row m (fwd e)))
        (ap (leaves m') (f_bwd parts) ∙ leaves_of m' once_m' second in_second (bwd b) refl ∙ sym (leaves_row m (bwd e)))
        (λ z k. ap (leaves m') (f_old parts z k) ∙ leaves_old z k);
    faces = by (λ z. bears m' (departs e (fwd a) (fwd b) z) ≡ bears m z)
        (ap (bears m') (f_fwd parts) ∙ bears_of m' once_m' first in_first (fwd a) refl ∙ sym (bears_row m (fwd e)))
        (ap (bears m') (f_bwd parts) ∙ bears_of m' once_m' second in_second (bwd b) refl ∙ sym (bears_row m (bwd e)))
        (λ z k. ap (bears m') (f_old parts z k) ∙ bears_old z k);
    ways = by (λ z. same_way (way m z) (way m' (departs e (fwd a) (fwd b) z)) ≡ true) way_f way_b
        (λ z k. ap (same_way (way m z)) (ap (way m') (f_old parts z k) ∙ way_old z k) ∙ same_way_refl (way m z));
    nexts = by (λ z. next m' (arrives e (fwd a) (fwd b) z) ≡ departs e (fwd a) (fwd b) (next m z))
        (ap (next m') (g_fwd parts)
        ∙ next_of m' once_m' second in_second (fwd b) refl ∙ names_are e a b (edge m e).next_left
        ∙ ap (departs e (fwd a) (fwd b)) (sym (next_row m (fwd e))))
        (ap (next m') (g_bwd parts)
        ∙ next_of m' once_m' first in_first (bwd a) refl ∙ names_are e a b (edge m e).next_right
        ∙ ap (departs e (fwd a) (fwd b)) (sym (next_row m (bwd e))))
        (λ z k. ap (next m') (g_old parts z k) ∙ next_old z k);
    into = λ z k. of_m (next m z) (next_in_lem L.linked (to_m z k));
    away = λ z k q. h.new_node_lem (Memᴰ.cast (sym q) (tail_in_lem L.linked L.within (to_m z k)));
    tail_c = leaves_of m' once_m' first in_first (bwd a) refl;
    tail_d = leaves_of m' once_m' second in_second (fwd b) refl;
    next_c = next_of m' once_m' first in_first (fwd a) refl;
    next_d = next_of m' once_m' second in_second (bwd b) refl;
    face_c = bears_of m' once_m' first in_first (bwd a) refl ∙ sym (bears_row m (bwd e));
    face_d = bears_of m' once_m' second in_second (fwd b) refl ∙ sym (bears_row m (fwd e));
  }

  halves_obey : Obeys m'
  halves_obey = split-lawful e (fwd a) (fwd b) n r halves (directed m) (directed m') of_m to_m (dart_move arcs_m')
      (dart_move (Permᴰ.symm arcs_m')) L.apart L.law

-- ---- the rows of a split

module _ (m : Map) (e : ℕ) (p : Point) (L : Lawful m) (has : has_edge m e ≡ true) (free : any_node_at m.nodes p ≡ false)
    (on : on_curve (edge m e).curve p ≡ true) where
  once_m : Distinct (map number_of m.edges)
  once_m = subst Distinct (nums-rows m) L.once

  -- the numbers of the others
  other : {x : ℕ} → Memᴰ x (nums (map arc_of (without_edge e m.edges))) → (x < m.next.edges) × (x ≢ e)
  other {x} k = go (Memᴰ.of_map number_of (without_edge e m.edges)
      (subst (Memᴰ x) (map-map (λ (a : Arc). a.num) arc_of (without_edge e m.edges)) k))
    where
      go : (q : Edge) × Memᴰ q (without_edge e m.edges) × (q.number ≡ x) → (x < m.next.edges) × (x ≢ e)
      go y = (
        subst (λ (i : ℕ). i < m.next.edges) y.2
            (L.edges_below y.0.number
            (Memᴰ.map number_of (perm_in (Permᴰ.symm (rows_m m e (λ r. r) (λ r. refl) once_m has))
            (Memᴰ.tail y.1)))),
        λ q. rest_other e m.edges y.1 (y.2 ∙ q),
      )

  e_below : e < m.next.edges
  e_below = subst (λ (i : ℕ). i < m.next.edges) (edge_there_lem m e has).1
      (L.edges_below (edge m e).number (Memᴰ.map number_of (edge_there_lem m e has).0))

  node_new : Memᴰ m.next.nodes (map node_number m.nodes) → ⊥
  node_new k = let h = L.nodes_below m.next.nodes k in omega arith

  module _ (a b : ℕ) where
    first_of : Edge → Edge
    first_of x = start_half x m.next.nodes a b p

    second_of_lem : Edge → Edge
    second_of_lem x = end_half x m.next.nodes a b p

    target : List Edge
    target = first_of (relinked e a b (edge m e)) ∷ second_of_lem (relinked e a b (edge m e))
        ∷ map (relinked e a b) (without_edge e m.edges)

    -- the start half in the place of e, the end half last
    kept_rows : Permᴰ (map (λ r. cond (same r.number e) (first_of (edge (parted m e a b) e)) r)
        (parted m e a b).edges ++ second_of_lem (edge (parted m e a b) e) ∷ []) target
    unfolding target
    kept_rows = subst (λ (y : Edge). Permᴰ
        (map (λ r. cond (same r.number e) (first_of y) r) (parted m e a b).edges ++ second_of_lem y ∷ []) target)
        (sym (parted_row m e a b has))
        (subst (λ (l : List Edge). Permᴰ
        (map (λ r. cond (same r.number e) (first_of (relinked e a b (edge m e))) r) l
        ++ second_of_lem (relinked e a b (edge m e)) ∷ []) target) (sym (parted_edges m e a b))
        (Permᴰ.trans (one_last _ _)
        (Permᴰ.trans (Permᴰ.cons refl
        (replaced m e (relinked e a b) (λ r. refl) once_m has (first_of (relinked e a b (edge m e)))))
        (Permᴰ.swap refl refl))))

    -- both halves last
    new_rows : Permᴰ (without_edge e (parted m e a b).edges ++ first_of (edge (parted m e a b) e)
        ∷ second_of_lem (edge (parted m e a b) e) ∷ []) target
    unfolding target
    new_rows = subst (λ (y : Edge). Permᴰ
        (without_edge e (parted m e a b).edges ++ first_of y ∷ second_of_lem y ∷ []) target) (sym (parted_row m e a b has))
        (subst (λ (l : List Edge). Permᴰ
        (l ++ first_of (relinked e a b (edge m e)) ∷ second_of_lem (relinked e a b (edge m e)) ∷ []) target)
        (sym (ap (without_edge e) (parted_edges m e a b) ∙ left_out m e (relinked e a b) (λ r. refl) once_m has))
        (Permᴰ.trans (Permᴰ.middle (first_of (relinked e a b (edge m e)))
        (map (relinked e a b) (without_edge e m.edges)) (second_of_lem (relinked e a b (edge m e)) ∷ []))
        (Permᴰ.cons refl (one_last _ _))))

  pub new_halves : InHalves m (split New e p m) e m.next.nodes m.next.edges (m.next.edges + 1) p
  unfolding split target first_of second_of_lem
  new_halves = record {
    has = has;
    free = free;
    on = on;
    rows = new_rows m.next.edges (m.next.edges + 1);
    new_node_lem = node_new;
    differ = λ q. omega (arith, q);
    new_a = λ k. omega (arith, (other k).0);
    new_b = λ k. omega (arith, (other k).0);
  }

  pub kept_halves : InHalves m (split Mod e p m) e m.next.nodes e m.next.edges p
  unfolding split at_edge target first_of second_of_lem
  kept_halves = record {
    has = has;
    free = free;
    on = on;
    rows = kept_rows e m.next.edges;
    new_node_lem = node_new;
    differ = λ q. omega (arith, e_below, q);
    new_a = λ k. (other k).1 refl;
    new_b = λ k. omega (arith, (other k).0);
  }

  pub split_obeys : (how : Variant) → Obeys (split how e p m)
  split_obeys New = halves_obey m (split New e p m) e m.next.nodes m.next.edges (m.next.edges + 1) p L
      new_halves
  split_obeys Mod = halves_obey m (split Mod e p m) e m.next.nodes e m.next.edges p L kept_halves
