-- Two edges healed to one: the law makes the two departures at the joint lead to one another, and is kept. Curves may
-- cross. Assumes nothing.
use mathlib.Core.Path.{◌≡◌, refl, sym, ap, ap₂, ◌∙◌, subst}
use mathlib.Core.Logic.{◌⊎◌, inl, inr, ◌≢◌}
use mathlib.Core.Bool.{Bool, true, false, not}
use mathlib.Core.List.Memᴰ
use mathlib.Core.List.{List, ◌∷◌, map, map-map, Memᴰ}
use mathlib.Core.List.Permᴰ
use mathlib.Core.List.{Permᴰ}
use Prim.Native.Nat.{ℕ}
use Rattle.lists.specs.Members.{Distinct}
use Rattle.lists.proofs.Perms.{perm_in, perm_distinct}
use Rattle.plane.specs.Directions.{same_way}
use Rattle.curves.specs.Curves.{Curve, last_point, start_way, end_way}
use Rattle.curves.specs.Edits.{joined, reversed}
use Rattle.planar_maps.specs.Map.{Arc, Dart, fwd, bwd, rev, darts}
use Rattle.planar_maps.specs.Pieces.{nums}
use Rattle.planar_maps.specs.Rings.{same_dart}
use Rattle.planar_maps.proofs.Rings.{rev_in, next_in_lem}
use Rattle.planar_maps.proofs.Turns.{rev-rev}
use Rattle.planar_maps.proofs.Subdivide.{arc}
use Rattle.rotation.proofs.Order.{same_way_refl, same_way_sym}
use Rattle.rotation.proofs.Ties.{tells}
use Rattle.geometry.specs.Meaning.{Some}
use Rattle.geometry.proofs.Theorems.{reverse_twice}
use Rattle.map.specs.Rows.{Edge, Map, node, edge}
use Rattle.map.specs.Darts.{arcs, directed, leaves, next, bears, course, way, departures}
use Rattle.map.specs.Links.{instead}
use Rattle.map.proofs.Laws.{edge_there_lem}
use Rattle.map_laws.proofs.Readings.{tail_in, next_in, course_in, leaves_row, bears_row, course_row, way_row, arc_of}
use Rattle.map_laws.proofs.Readings.{dart_has, departs, departing}
use Rattle.map_laws.proofs.RowDarts.{dart_move, dart_row, leaves_of, next_of, bears_of, way_of}
use Rattle.map_laws.proofs.Rings.{next_one}
use Rattle.grown.proofs.Law.Halves.{heal-lawful, lawful_other, swap}
use Rattle.grown.proofs.Law.Lawful.{Obeys, Lawful}
use Rattle.grown.proofs.Curves.Ends.{reverse_some, reverse-way, joined_some, joined_start, joined_end}
use Rattle.grown.proofs.Joint.{turned, Seamed}
use Rattle.grown.proofs.Renumber.{runs}
use Rattle.grown.proofs.Halved as halved
use Rattle.grown.proofs.Halved.{Parts, Halved, arrives, whole, each-whole, each_halved, f_fwd, f_bwd, f_old}
use Rattle.grown.proofs.Halved.{g_fwd, g_bwd, g_old}
use Rattle.grown.proofs.SplitsRows.{instead_it, instead_other}
use Rattle.grown.proofs.HealsRows.{whole_names, relinked, healed_row, runs_row}

-- m' has the rows of m but for the edges of c and d, which are healed to h
pub record Healed (m m' : Map) (e h : ℕ) (c d : Dart) (rest : List Edge) : Type 0 where
  pub rows : Permᴰ m'.edges (healed_row m e h c d ∷ map (relinked h c d) rest)
  pub old_rows : Permᴰ m.edges (edge m c.edge ∷ edge m d.edge ∷ rest)
  -- the healed edge runs as e does
  pub own : (c ≡ fwd e) ⊎ (d ≡ fwd e)
  pub named : fwd h ≢ rev d
  -- h is no other's number
  pub new_h : Memᴰ h (nums (map arc_of rest)) → ⊥

-- ---- the joint

module _ (m : Map) (L : Lawful m) (e f n : ℕ) (c d : Dart) (seam : Seamed m e f n c d) where
  joint_c : Memᴰ (rev c) (departures m n)
  joint_c = departing m n (rev_in (arcs m) seam.first_in) seam.meet.arrives

  joint_d : Memᴰ d (departures m n)
  joint_d = departing m n seam.second_in seam.meet.departs

  two : (z : Dart) → Memᴰ z (departures m n) → (z ≡ rev c) ⊎ (z ≡ d)
  two z k = let x = departs m n k in seam.only z x.0 x.1

  differ : d ≢ rev c
  differ q = seam.two (ap (λ (z : Dart). z.edge) (sym q))

  -- its two departures lead to one another
  over : next m c ≡ d
  unfolding departures
  over = ap (next m) (sym (rev-rev c)) ∙ L.law n (rev c) joint_c
      ∙ lawful_other (way m) same_dart tells (departures m n) (rev c) d joint_d differ two

  back : next m (rev d) ≡ rev c
  unfolding departures
  back = L.law n d joint_d ∙ lawful_other (way m) same_dart tells (departures m n) d (rev c) joint_c
      (λ q. differ (sym q)) (λ z k. swap (two z k))

  -- no two lead to one
  one : (y z : Dart) → Memᴰ y (directed m) → Memᴰ z (directed m) → next m y ≡ next m z → y ≡ z
  one = next_one m L.linked L.once

  -- the two sides of both
  left_side : bears m d ≡ bears m c
  left_side = ap (bears m) (sym over) ∙ L.linked.keeps c seam.first_in

  right_side : bears m (rev c) ≡ bears m (rev d)
  right_side = ap (bears m) (sym back) ∙ L.linked.keeps (rev d) (rev_in (arcs m) seam.second_in)

  -- ---- the curves

  row : {z : Dart} → Memᴰ z (directed m) → Memᴰ (edge m z.edge) m.edges
  row {z} k = (edge_there_lem m z.edge (dart_has m k)).0

  course_some : (z : Dart) → Memᴰ z (directed m) → Some (course m z).rest
  course_some z k = subst (λ (x : Curve). Some x.rest) (sym (course_row m z)) (go z.back)
    where
      go : (b : Bool) → Some (course_in b (edge m z.edge)).rest
      go true = reverse_some (edge m z.edge).curve (L.some (edge m z.edge) (row k))
      go false = L.some (edge m z.edge) (row k)

  course-back : (z : Dart) → course m (rev z) ≡ reversed (course m z)
  course-back z = course_row m (rev z) ∙ go z.back ∙ ap reversed (sym (course_row m z))
    where
      go : (b : Bool) → course_in (not b) (edge m z.edge) ≡ reversed (course_in b (edge m z.edge))
      go true = sym (reverse_twice (edge m z.edge).curve)
      go false = refl

  way_back : (z : Dart) → Memᴰ z (directed m) → way m (rev z) ≡ end_way (course m z)
  way_back z k = way_row m (rev z) ∙ ap start_way (course-back z) ∙ reverse-way (course m z) (course_some z k)

  -- a course starts on the point of the node that it leaves
  course_starts : (z : Dart) → Memᴰ z (directed m) → (course m z).first ≡ (node m (leaves m z)).at
  course_starts z k = ap (λ (x : Curve). x.first) (course_row m z) ∙ go z.back
      ∙ ap (λ (x : ℕ). (node m x).at) (sym (leaves_row m z))
    where
      go : (b : Bool) → (course_in b (edge m z.edge)).first ≡ (node m (tail_in b (edge m z.edge))).at
      go true = (L.anchored (edge m z.edge) (row k)).end
      go false = (L.anchored (edge m z.edge) (row k)).start

  course_ends : (z : Dart) → Memᴰ z (directed m) → last_point (course m z) ≡ (node m (leaves m (rev z))).at
  course_ends z k = ap (λ (x : Curve). x.first) (sym (course-back z)) ∙ course_starts (rev z) (rev_in (arcs m) k)

  joins : (course m d).first ≡ last_point (course m c)
  joins = course_starts d seam.second_in
      ∙ ap (λ (x : ℕ). (node m x).at) (seam.meet.departs ∙ sym seam.meet.arrives)
      ∙ sym (course_ends c seam.first_in)

  some_c : Some (course m c).rest
  some_c = course_some c seam.first_in

  some_d : Some (course m d).rest
  some_d = course_some d seam.second_in

  -- ---- the healed map

  module _ (m' : Map) (h : ℕ) (rest : List Edge) (q : Healed m m' e h c d rest) where
    abbrev r : List Arc
    r = map arc_of rest

    abbrev from : ℕ
    from = leaves m c

    abbrev to : ℕ
    to = leaves m (rev d)

    pub arcs_m : Permᴰ (arcs m) (runs c from n ∷ runs d n to ∷ r)
    arcs_m = subst (λ (l : List Arc). Permᴰ (arcs m) l) (ap₂ (λ x y. x ∷ y ∷ r) first second)
        (Permᴰ.map arc_of q.old_rows)
      where
        first : arc_of (edge m c.edge) ≡ runs c from n
        first = runs_row m c seam.first_in ∙ ap (runs c from) seam.meet.arrives

        second : arc_of (edge m d.edge) ≡ runs d n to
        second = runs_row m d seam.second_in ∙ ap (λ (x : ℕ). runs d x to) seam.meet.departs

    pub arcs_m' : Permᴰ (arcs m') (arc h from to ∷ r)
    arcs_m' = subst (λ (l : List Arc). Permᴰ (arcs m') (arc h from to ∷ l)) (map-map arc_of (relinked h c d) rest)
        (Permᴰ.map arc_of q.rows)

    once : Distinct (c.edge ∷ d.edge ∷ nums r)
    once = perm_distinct (Permᴰ.map (λ (x : Arc). x.num) arcs_m) L.once

    once_m' : Distinct (nums (arcs m'))
    once_m' = perm_distinct (Permᴰ.map (λ (x : Arc). x.num) (Permᴰ.symm arcs_m')) (q.new_h, once.1.1)

    in_rest : {q : Edge} → Memᴰ q rest → Memᴰ q m.edges
    in_rest k = perm_in (Permᴰ.symm q.old_rows) (Memᴰ.tail (Memᴰ.tail k))

    in_it : Memᴰ (healed_row m e h c d) m'.edges
    in_it = perm_in (Permᴰ.symm q.rows) (Memᴰ.head refl)

    in_other : {q : Edge} → Memᴰ q rest → Memᴰ (relinked h c d q) m'.edges
    in_other k = perm_in (Permᴰ.symm q.rows) (Memᴰ.tail (Memᴰ.map (relinked h c d) k))

    to_m : (z : Dart) → Memᴰ z (halved.halved c d r) → Memᴰ z (directed m)
    to_m = dart_move (Permᴰ.symm arcs_m)

    of_m : (z : Dart) → Memᴰ z (directed m) → Memᴰ z (halved.halved c d r)
    of_m = dart_move arcs_m

    pub old_m : {z : Dart} → Memᴰ z (darts r) → Memᴰ z (directed m)
    old_m {z} k = to_m z (Memᴰ.tail (Memᴰ.tail (Memᴰ.tail (Memᴰ.tail k))))

    abbrev δ : Dart → Dart
    δ = halved.departs h c d

    abbrev parts : Parts h c d r
    parts = record { fresh = q.new_h; once = once }

    abbrev by : (P : Dart → Type 0) → P (fwd h) → P (bwd h) → ((z : Dart) → Memᴰ z (darts r) → P z) → (z : Dart)
        → Memᴰ z (whole h r) → P z
    by = each-whole h r

    numbers : {x y : Dart} → x ≡ y → x.edge ≡ y.edge
    numbers q = ap (λ (z : Dart). z.edge) q

    pub old_c : (z : Dart) → Memᴰ z (darts r) → z.edge ≢ c.edge
    old_c z k q = halved.old_c parts k q

    pub old_d : (z : Dart) → Memᴰ z (darts r) → z.edge ≢ d.edge
    old_d z k q = halved.old_d parts k q

    -- ---- the names: what departs elsewhere than at the joint

    name_c : whole_names h c d c ≡ fwd h
    name_c = ap (instead (rev d) (bwd h)) (instead_it c (fwd h)) ∙ instead_other (rev d) (bwd h) (fwd h) q.named

    name_d : whole_names h c d (rev d) ≡ bwd h
    name_d = ap (instead (rev d) (bwd h)) (instead_other c (fwd h) (rev d) (λ q. seam.two (sym (numbers q))))
        ∙ instead_it (rev d) (bwd h)

    name_old : (z : Dart) → Memᴰ z (darts r) → whole_names h c d z ≡ z
    name_old z k = ap (instead (rev d) (bwd h)) (instead_other c (fwd h) z (λ q. old_c z k (numbers q)))
        ∙ instead_other (rev d) (bwd h) z (λ q. old_d z k (numbers q))

    Renamed : Dart → Type 0
    Renamed y = y ≢ rev c → y ≢ d → Memᴰ (whole_names h c d y) (whole h r) × (δ (whole_names h c d y) ≡ y)

    renamed : (y : Dart) → Memᴰ y (halved.halved c d r) → Renamed y
    unfolding Renamed
    renamed = each_halved c d r Renamed
        (λ u v. (Memᴰ.head name_c, ap δ name_c ∙ (f_fwd parts))) (λ u v. absurd (u refl)) (λ u v. absurd (v refl))
        (λ u v. (Memᴰ.tail (Memᴰ.head name_d), ap δ name_d ∙ (f_bwd parts)))
        (λ z k u v. (
          Memᴰ.cast (name_old z k) (Memᴰ.tail (Memᴰ.tail k)),
          ap δ (name_old z k)
              ∙ f_old parts z k,
        ))

    -- what arrives elsewhere
    Elsewhere : Dart → Type 0
    Elsewhere x = Memᴰ x (directed m) × (x ≢ c) × (x ≢ rev d)

    elsewhere : (z : Dart) → Memᴰ z (whole h r) → Elsewhere (arrives h c d z)
    unfolding Elsewhere
    elsewhere = by (λ z. Elsewhere (arrives h c d z))
        (subst Elsewhere (sym (g_fwd parts))
        (seam.second_in, (λ q. seam.two (sym (numbers q))), (λ q. turned d (sym q))))
        (subst Elsewhere (sym (g_bwd parts))
        (rev_in (arcs m) seam.first_in, (λ q. turned c q), (λ q. seam.two (numbers q))))
        (λ z k. subst Elsewhere (sym (g_old parts z k))
        (old_m k, (λ q. old_c z k (numbers q)), (λ q. old_d z k (numbers q))))

    -- goes on elsewhere
    onward : (z : Dart) → Memᴰ z (whole h r)
        → Memᴰ (whole_names h c d (next m (arrives h c d z))) (whole h r)
        × (δ (whole_names h c d (next m (arrives h c d z))) ≡ next m (arrives h c d z))
    unfolding Renamed Elsewhere
    onward z k = renamed (next m x) (of_m (next m x) (next_in_lem L.linked at.0))
        (λ q. at.2 (one x (rev d) at.0 (rev_in (arcs m) seam.second_in) (q ∙ sym back)))
        (λ q. at.1 (one x c at.0 seam.first_in (q ∙ sym over)))
      where
        x : Dart
        x = arrives h c d z

        at : Memᴰ x (directed m) × (x ≢ c) × (x ≢ rev d)
        at = elsewhere z k

    -- ---- what m' reads

    leaves_old : (z : Dart) → Memᴰ z (darts r) → leaves m' z ≡ leaves m z
    leaves_old z k = let x = dart_row rest z k in
        leaves_of m' once_m' (relinked h c d x.0) (in_other x.1) z x.2
        ∙ sym (leaves_of m L.once x.0 (in_rest x.1) z x.2)

    way_old : (z : Dart) → Memᴰ z (darts r) → way m' z ≡ way m z
    way_old z k = let x = dart_row rest z k in way_of m' once_m' (relinked h c d x.0) (in_other x.1) z x.2
        ∙ sym (way_of m L.once x.0 (in_rest x.1) z x.2)

    bears_old : (z : Dart) → Memᴰ z (darts r) → bears m' z ≡ bears m z
    bears_old z k = let x = dart_row rest z k in bears_of m' once_m' (relinked h c d x.0) (in_other x.1) z x.2
        ∙ sym (bears_of m L.once x.0 (in_rest x.1) z x.2)

    next_in_row : (b : Bool) (q : Edge) → next_in b (relinked h c d q) ≡ whole_names h c d (next_in b q)
    next_in_row true q = refl
    next_in_row false q = refl

    next_old : (z : Dart) → Memᴰ z (darts r) → next m' z ≡ whole_names h c d (next m z)
    next_old z k = let x = dart_row rest z k in
        next_of m' once_m' (relinked h c d x.0) (in_other x.1) z x.2 ∙ next_in_row z.back x.0
        ∙ ap (whole_names h c d) (sym (next_of m L.once x.0 (in_rest x.1) z x.2))

    next_by : (z : Dart) → Memᴰ z (whole h r) → next m' z ≡ whole_names h c d (next m (arrives h c d z))
    next_by = by (λ z. next m' z ≡ whole_names h c d (next m (arrives h c d z)))
        (next_of m' once_m' (healed_row m e h c d) in_it (fwd h) refl
        ∙ ap (λ z. whole_names h c d (next m z)) (sym (g_fwd parts)))
        (next_of m' once_m' (healed_row m e h c d) in_it (bwd h) refl
        ∙ ap (λ z. whole_names h c d (next m z)) (sym (g_bwd parts)))
        (λ z k. next_old z k ∙ ap (λ z. whole_names h c d (next m z)) (sym (g_old parts z k)))

    tails : (z : Dart) → Memᴰ z (whole h r) → leaves m (δ z) ≡ leaves m' z
    tails = by (λ z. leaves m (δ z) ≡ leaves m' z)
        (ap (leaves m) (f_fwd parts) ∙ sym (leaves_of m' once_m' (healed_row m e h c d) in_it (fwd h) refl))
        (ap (leaves m) (f_bwd parts) ∙ sym (leaves_of m' once_m' (healed_row m e h c d) in_it (bwd h) refl))
        (λ z k. ap (leaves m) (f_old parts z k) ∙ sym (leaves_old z k))

    -- the sides of both edges are those of e
    left_c : bears m c ≡ (edge m e).left
    left_c = elim q.own [
      | inl p ↦ ap (bears m) p ∙ bears_row m (fwd e)
      | inr p ↦ sym left_side ∙ ap (bears m) p
          ∙ bears_row m (fwd e)
    ]

    right_d : bears m (rev d) ≡ (edge m e).right
    right_d = elim q.own [
      | inl p ↦ sym right_side ∙ ap (λ z. bears m (rev z)) p
          ∙ bears_row m (bwd e)
      | inr p ↦ ap (λ z. bears m (rev z)) p ∙ bears_row m (bwd e)
    ]

    left_it : bears m' (fwd h) ≡ (edge m e).left
    left_it = bears_of m' once_m' (healed_row m e h c d) in_it (fwd h) refl

    right_it : bears m' (bwd h) ≡ (edge m e).right
    right_it = bears_of m' once_m' (healed_row m e h c d) in_it (bwd h) refl

    -- the far ends depart as they did
    way_f : same_way (way m' (fwd h)) (way m c) ≡ true
    way_f = ap₂ same_way (way_of m' once_m' (healed_row m e h c d) in_it (fwd h) refl) (way_row m c)
        ∙ same_way_sym _ _ (joined_start (course m c) (course m d) joins some_c some_d)

    way_b : same_way (way m' (bwd h)) (way m (rev d)) ≡ true
    way_b = ap₂ same_way (way_of m' once_m' (healed_row m e h c d) in_it (bwd h) refl
        ∙ reverse-way (joined (course m c) (course m d)) (joined_some (course m c) (course m d) joins some_c some_d))
        (way_back d seam.second_in)
        ∙ same_way_sym _ _ (joined_end (course m c) (course m d) joins some_c some_d)

    away : (z : Dart) → Memᴰ z (whole h r) → leaves m' z ≢ n
    away = by (λ z. leaves m' z ≢ n) (λ q. seam.from
        (sym (ap (leaves m) (f_fwd parts)) ∙ tails (fwd h) (Memᴰ.head refl) ∙ q))
        (λ q. seam.to (sym (ap (leaves m) (f_bwd parts)) ∙ tails (bwd h) (Memᴰ.tail (Memᴰ.head refl)) ∙ q))
        (λ z k q. elim (seam.only z (old_m k) (sym (leaves_old z k) ∙ q)) [
          | inl p ↦ old_c z k
              (numbers p)
          | inr p ↦ old_d z k (numbers p)
        ])

    -- the two maps as one with the edge whole and with it in halves
    pub halves : Halved h c d n r (leaves m') (leaves m) (next m') (next m) (bears m') (bears m) (way m')
        (way m)
    halves = record {
      parts = parts;
      tails = tails;
      faces = by (λ z. bears m (δ z) ≡ bears m' z) (ap (bears m) (f_fwd parts) ∙ left_c ∙ sym left_it)
          (ap (bears m) (f_bwd parts) ∙ right_d ∙ sym right_it)
          (λ z k. ap (bears m) (f_old parts z k) ∙ sym (bears_old z k));
      ways = by (λ z. same_way (way m' z) (way m (δ z)) ≡ true)
          (ap (λ z. same_way (way m' (fwd h)) (way m z)) (f_fwd parts) ∙ way_f)
          (ap (λ z. same_way (way m' (bwd h)) (way m z)) (f_bwd parts) ∙ way_b)
          (λ z k. ap (same_way (way m' z)) (ap (way m) (f_old parts z k) ∙ sym (way_old z k)) ∙ same_way_refl (way m' z));
      nexts = λ z k. sym (ap δ (next_by z k) ∙ (onward z k).1);
      into = λ z k. Memᴰ.cast (next_by z k) (onward z k).0;
      away = away;
      tail_c = seam.meet.arrives;
      tail_d = seam.meet.departs;
      next_c = over;
      next_d = back;
      face_c = right_side ∙ right_d ∙ sym right_it;
      face_d = left_side ∙ left_c ∙ sym left_it;
    }

    pub whole_obeys : Obeys m'
    whole_obeys = heal-lawful h c d n r halves (directed m') (directed m) (dart_move arcs_m')
        (dart_move (Permᴰ.symm arcs_m')) of_m to_m L.apart L.law
