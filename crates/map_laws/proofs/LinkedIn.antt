-- A row appended and linked in: what the map reads then, and that its links are those of the theory. Assumes nothing.
use mathlib.Core.Path.{◌≡◌, refl, sym, ap, ◌∙◌, subst}
use mathlib.Core.Logic.{inl, inr}
use mathlib.Core.Bool.{Bool, true, false, cond, not, true≢false}
use mathlib.Core.List.Memᴰ
use mathlib.Core.List.{List, [], ◌∷◌, ◌++◌, append-nil, Memᴰ}
use Prim.Native.Nat.{ℕ}
use Rattle.lists.specs.Tests.{same}
use Rattle.lists.specs.Scans.{keep}
use Rattle.lists.proofs.Bools.{same_refl, same_false, not-true}
use Rattle.lists.proofs.Members.{each-cons, some?}
use Rattle.lists.proofs.Keeps.{keep_in, keep_has, keep_swap, keep_all, keep_append}
use Rattle.plane.specs.Directions.{Way}
use Rattle.curves.specs.Curves.{Curve, start_way}
use Rattle.curves.specs.Edits as edits
use Rattle.planar_maps.specs.Map.{Dart, fwd, bwd, rev, darts}
use Rattle.planar_maps.specs.Rings.{same_dart}
use Rattle.planar_maps.specs.Weave.{with_edge, lone_edge}
use Rattle.planar_maps.proofs.Bridges.{Fresh}
use Rattle.planar_maps.proofs.Rings.{same_dart_refl}
use Rattle.planar_maps.proofs.Hooks.{fwd≢bwd, fresh_dart, same_dart-false, with_fwd, with_bwd, with_other}
use Rattle.rotation.specs.Law.{first_clockwise, Differ, from, Apart}
use Rattle.rotation.specs.Law as rotation
use Rattle.rotation.proofs.Node.{first_none}
use Rattle.rotation.proofs.Rename.{first_same}
use Rattle.rotation.proofs.Ties.{tells}
use Rattle.map.specs.Rows.{Edge, Map, edge, has_edge, set_edges, given, counts}
use Rattle.map.specs.Darts.{arcs, directed, leaves, next, bears, course, way, departures}
use Rattle.map.specs.Links.{redirect, link_in, link_edge}
use Rattle.map_laws.proofs.Readings.{Relinked, relinked_join, redirect_relinked, redirect-next, lead_relinked}
use Rattle.map_laws.proofs.Readings.{lead-next, arc_of, number_of, missing, nums-rows, number_has, departs}
use Rattle.map_laws.proofs.Readings.{departing, tail_in, next_in, face_in, course_in, leaves_row, next_row}
use Rattle.map_laws.proofs.Readings.{bears_row, course_row, way_row, dart_has}
use Rattle.map_laws.proofs.RowChanges.{more_old, more_new, more_directed}
use Rattle.map_laws.proofs.Departures.{from_alike, differ_part, from_in, from_has}

-- ---- a departure linked in

module _ (p : Dart) (there : List Dart) (m : Map) where
  pub link_in_relinked : Relinked m (link_in p there m)
  unfolding link_in
  link_in_relinked = relinked_join (redirect_relinked (first_clockwise (way m) (way m p) p there) p m)
      (lead_relinked (rev p) (first_clockwise (way m) (way m p) p there)
      (redirect (first_clockwise (way m) (way m p) p there) p m))

  -- the links are those of the theory
  pub link_in-next : (d : Dart) → has_edge m d.edge ≡ true → next (link_in p there m) d
      ≡ rotation.link same_dart rev (way m) p there (next m) d
  unfolding link_in
  link_in-next d h = lead-next (rev p) c (redirect c p m) d ((redirect_relinked c p m).has d.edge ∙ h)
      ∙ ap (λ (x : Dart). cond (same_dart d (rev p)) c x) (redirect-next c p m d h)
    where
      c : Dart
      c = first_clockwise (way m) (way m p) p there

-- a row linked in at both ends
pub link_edge_relinked : (e : ℕ) (m : Map) → Relinked m (link_edge e m)
unfolding link_edge
link_edge_relinked e m = relinked_join (link_in_relinked (fwd e) _ m) (link_in_relinked (bwd e) _ _)

-- ---- the row appended and linked in

module _ (m : Map) (u v : ℕ) (c : Curve) (φ : ℕ) where
  -- the new row, an edge by itself
  abbrev pub drawn_row : Edge
  drawn_row = record {
    number = m.next.edges;
    start = u;
    end = v;
    next_left = bwd m.next.edges;
    next_right = fwd m.next.edges;
    left = φ;
    right = φ;
    curve = c;
  }

  abbrev pub appended : Map
  appended = set_edges (m.edges ++ drawn_row ∷ []) (given (counts 0 1 0) m)

  module _ (fresh : Fresh (arc_of drawn_row) (arcs m)) where
    abbrev e : ℕ
    e = m.next.edges

    abbrev f : Dart
    f = fwd m.next.edges

    abbrev b : Dart
    b = bwd m.next.edges

    abbrev m₁ : Map
    m₁ = appended

    -- all directed edges, the new ones first
    abbrev all : List Dart
    all = darts (arc_of drawn_row ∷ arcs m)

    abbrev T : Dart → ℕ
    T = with_edge m.next.edges u v (leaves m)

    none : has_edge m e ≡ false
    none = not-true (has_edge m e) (λ h. fresh
        (subst (λ (l : List ℕ). Memᴰ e l) (sym (nums-rows m)) (number_has number_of missing m.edges e h)))

    -- what a row says of its two ways, and the old rows of theirs
    reads : {B : Type 0} (g : Bool → Edge → B) (h : Map → Dart → B)
        → ((m : Map) (d : Dart) → h m d ≡ g d.back (edge m d.edge)) → (d : Dart) → Memᴰ d all → h m₁ d
        ≡ with_edge e (g false drawn_row) (g true drawn_row) (h m) d
    reads g h row = each-cons {p = λ d. h m₁ d ≡ with_edge e (g false drawn_row) (g true drawn_row) (h m) d}
        (row m₁ f ∙ ap (g false) (more_new m m₁ drawn_row refl none)
        ∙ sym (with_fwd e (g false drawn_row) (g true drawn_row) (h m)))
        (each-cons {p = λ d. h m₁ d ≡ with_edge e (g false drawn_row) (g true drawn_row) (h m) d}
        (row m₁ b ∙ ap (g true) (more_new m m₁ drawn_row refl none)
        ∙ sym (with_bwd e (g false drawn_row) (g true drawn_row) (h m)))
        (λ d k. row m₁ d ∙ ap (g d.back) (more_old m m₁ drawn_row refl d.edge (dart_has m k)) ∙ sym (row m d)
        ∙ sym (with_other e (g false drawn_row) (g true drawn_row) (h m) d
        (fresh_dart (arc_of drawn_row) (arcs m) fresh k))))

    pub leaves₁ : (d : Dart) → Memᴰ d all → leaves m₁ d ≡ T d
    leaves₁ = reads tail_in leaves leaves_row

    next₁ : (d : Dart) → Memᴰ d all → next m₁ d ≡ lone_edge e (next m) d
    next₁ = reads next_in next next_row

    pub bears₁ : (d : Dart) → Memᴰ d all → bears m₁ d ≡ with_edge e φ φ (bears m) d
    bears₁ = reads face_in bears bears_row

    course₁ : (d : Dart) → Memᴰ d all → course m₁ d
        ≡ with_edge e (edits.course false c) (edits.course true c) (course m) d
    course₁ = reads course_in course course_row

    pub way₁ : (d : Dart) → Memᴰ d (directed m) → way m₁ d ≡ way m d
    way₁ d k = way_row m₁ d ∙ ap start_way
        (course₁ d (Memᴰ.tail (Memᴰ.tail k))
        ∙ with_other e _ _ (course m) d (fresh_dart (arc_of drawn_row) (arcs m) fresh k)) ∙ sym (way_row m d)

    pub way_f : way m₁ f ≡ start_way (edits.course false c)
    way_f = way_row m₁ f ∙ ap start_way (course₁ f (Memᴰ.head refl) ∙ with_fwd e _ _ (course m))

    pub way_b : way m₁ b ≡ start_way (edits.course true c)
    way_b = way_row m₁ b ∙ ap start_way (course₁ b (Memᴰ.tail (Memᴰ.head refl)) ∙ with_bwd e _ _ (course m))

    -- ---- the directed edges

    listed : directed m₁ ≡ directed m ++ f ∷ b ∷ []
    listed = more_directed m m₁ drawn_row refl

    into_all : {d : Dart} → Memᴰ d (directed m₁) → Memᴰ d all
    into_all {d} k = elim (Memᴰ.append_cases (directed m) (subst (λ (l : List Dart). Memᴰ d l) listed k)) [
      | inl i ↦ Memᴰ.tail (Memᴰ.tail i)
      | inr i ↦ elim (Memᴰ.cases_cons i) [
        | inl p ↦ Memᴰ.head p
        | inr j ↦ Memᴰ.tail
            (Memᴰ.head (Memᴰ.eq_of_singleton j))
      ]
    ]

    from_all : {d : Dart} → Memᴰ d all → Memᴰ d (directed m₁)
    from_all {d} k = subst (λ (l : List Dart). Memᴰ d l) (sym listed)
        (each-cons {p = λ d. Memᴰ d (directed m ++ f ∷ b ∷ [])}
        (Memᴰ.append_right (directed m) (Memᴰ.head refl))
        (each-cons {p = λ d. Memᴰ d (directed m ++ f ∷ b ∷ [])}
        (Memᴰ.append_right (directed m) (Memᴰ.tail (Memᴰ.head refl)))
        (λ d i. Memᴰ.append_left (f ∷ b ∷ []) i)) d k)

    has_all : {d : Dart} → Memᴰ d all → has_edge m₁ d.edge ≡ true
    has_all k = dart_has m₁ (from_all k)

    -- ---- the departures that a new one finds

    abbrev is_old : Dart → Bool
    is_old d = not (same d.edge m.next.edges)

    abbrev not_back : Dart → Bool
    not_back d = not (same_dart d (bwd m.next.edges))

    old_all : keep is_old (directed m₁) ≡ directed m
    old_all = ap (keep is_old) listed ∙ keep_append is_old (directed m) (f ∷ b ∷ [])
        ∙ rw (
          keep_all is_old (directed m)
              (λ d k. ap not (same_false d.edge e (fresh_dart (arc_of drawn_row) (arcs m) fresh k))),
          same_refl e,
        ) (append-nil (directed m))

    at_start_lem : (n : ℕ) → keep is_old (departures m₁ n) ≡ from T (directed m) n
    unfolding departures
    at_start_lem n = keep_swap is_old (λ d. same (leaves m₁ d) n) (directed m₁)
        ∙ ap (keep (λ d. same (leaves m₁ d) n)) old_all
        ∙ from_alike (directed m) T (leaves m₁) (λ d k. leaves₁ d (Memᴰ.tail (Memᴰ.tail k))) n

    at_end_lem : (n : ℕ) (d : Dart) → Memᴰ d (keep not_back (departures m₁ n)) → Memᴰ d (from T (f ∷ directed m) n)
    at_end_lem n d k = from_has T (f ∷ directed m) n (elim (Memᴰ.cases_cons (into_all j.0)) [
      | inl p ↦ Memᴰ.head p
      | inr i ↦ elim (Memᴰ.cases_cons i) [
        | inl p ↦ absurd
            (true≢false (sym x.1 ∙ ap (λ y. not (same_dart y b)) p ∙ ap not (same_dart_refl b)))
        | inr q ↦ Memᴰ.tail q
      ]
    ]) (sym (leaves₁ d (into_all j.0)) ∙ j.1)
      where
        x : Memᴰ d (departures m₁ n) × (not_back d ≡ true)
        x = keep_in not_back (departures m₁ n) k

        j : Memᴰ d (directed m₁) × (leaves m₁ d ≡ n)
        j = departs m₁ n x.0

    end_at : (n : ℕ) (d : Dart) → Memᴰ d (from T (f ∷ directed m) n) → Memᴰ d (keep not_back (departures m₁ n))
    end_at n d k = keep_has not_back (departures m₁ n) (departing m₁ n (from_all wide) (leaves₁ d wide ∙ j.1))
        (ap not (same_dart-false d b (λ p. elim
        (Memᴰ.cases_cons j.0) [
          | inl q ↦ fwd≢bwd (sym q ∙ p)
          | inr i ↦ fresh_dart (arc_of drawn_row)
              (arcs m) fresh i (ap (λ (d : Dart). d.edge) p)
        ])))
      where
        j : Memᴰ d (f ∷ directed m) × (T d ≡ n)
        j = from_in T (f ∷ directed m) n k

        wide : Memᴰ d all
        wide = each-cons {p = λ d. Memᴰ d all} (Memᴰ.head refl) (λ d i. Memᴰ.tail (Memᴰ.tail i)) d
            j.0

    -- ---- the links

    -- they are those of the theory
    pub link_edge-next : Apart T (way m₁) (b ∷ f ∷ directed m) → (d : Dart) → Memᴰ d all → next (link_edge e m₁) d
        ≡ rotation.link_edge same_dart rev (way m₁) T f (directed m) (lone_edge e (next m)) d
    unfolding link_edge
    link_edge-next apart d k = link_in-next b ends m₂ d (R.has d.edge ∙ has_all k)
        ∙ ap (λ (w : Dart → Way). rotation.link same_dart rev w b ends (next m₂) d) (λ i x. R.way x i)
        ∙ ap (λ (x : Dart). rotation.leading same_dart f x (rotation.redirect same_dart x b (next m₂)) d) same_first
        ∙ ap (λ (y : Dart). cond (same_dart d f) c₂ (cond (same_dart y c₂) b y))
        (link_in-next f (keep is_old (departures m₁ (leaves m₁ f))) m₁ d (has_all k)
        ∙ ap (λ (l : List Dart). rotation.link same_dart rev (way m₁) f l (next m₁) d)
        (at_start_lem (leaves m₁ f) ∙ ap (from T (directed m)) (leaves₁ f (Memᴰ.head refl)))
        ∙ ap (λ (y : Dart). cond (same_dart d b) c₁ (cond (same_dart y c₁) f y)) (next₁ d k))
      where
        m₂ : Map
        m₂ = link_in f (keep is_old (departures m₁ (leaves m₁ f))) m₁

        R : Relinked m₁ m₂
        R = link_in_relinked f (keep is_old (departures m₁ (leaves m₁ f))) m₁

        ends : List Dart
        ends = keep not_back (departures m₁ (leaves m₁ b))

        c₁ : Dart
        c₁ = first_clockwise (way m₁) (way m₁ f) f (from T (directed m) (T f))

        c₂ : Dart
        c₂ = first_clockwise (way m₁) (way m₁ b) b (from T (f ∷ directed m) (T b))

        node_b : leaves m₁ b ≡ T b
        node_b = leaves₁ b (Memᴰ.tail (Memᴰ.head refl))

        to : (d : Dart) → Memᴰ d ends → Memᴰ d (from T (f ∷ directed m) (T b))
        to d i = subst (λ n. Memᴰ d (from T (f ∷ directed m) n)) node_b (at_end_lem (leaves m₁ b) d i)

        fro : (d : Dart) → Memᴰ d (from T (f ∷ directed m) (T b)) → Memᴰ d ends
        fro d i = end_at (leaves m₁ b) d (subst (λ n. Memᴰ d (from T (f ∷ directed m) n)) (sym node_b) i)

        differ : Differ (way m₁) (b ∷ ends)
        differ = differ_part (each-cons {p = λ d. Memᴰ d (from T (b ∷ f ∷ directed m) (T b))}
            (from_has T (b ∷ f ∷ directed m) (T b) (Memᴰ.head refl) refl)
            (λ d i. let j = from_in T (f ∷ directed m) (T b) (to d i) in
            from_has T (b ∷ f ∷ directed m) (T b) (Memᴰ.tail j.0) j.1)) (apart (T b))

        same_first : first_clockwise (way m₁) (way m₁ b) b ends ≡ c₂
        same_first = elim (some? ends) [
          | inl q ↦ first_same (way m₁) same_dart tells b b b ends (from T (f ∷ directed m) (T b)) differ to fro q.1
          | inr q ↦ first_none (way m₁) (way m₁ b) b ends q
              ∙ sym (first_none (way m₁) (way m₁ b) b (from T (f ∷ directed m) (T b)) (λ d i. q d (fro d i)))
        ]
