-- Kinds 9 and 10: the rows of a heal are those of a map with the two edges as one, and the law is kept. Assumes
-- nothing.
use mathlib.Core.Path.{◌≡◌, refl, sym, ap, ap₂, ◌∙◌, subst}
use mathlib.Core.Logic.{◌⊎◌, inl, inr, ◌≢◌}
use mathlib.Core.Bool.{Bool, true, false, cond, not}
use mathlib.Core.List.Memᴰ
use mathlib.Core.List.Permᴰ
use mathlib.Core.List.{List, [], ◌∷◌, ◌++◌, map, map-map, Memᴰ, Permᴰ}
use mathlib.Core.Option.{get_or}
use Prim.Native.Nat.{ℕ, ◌<◌}
use native.Mathlib.Omega.{arith}
use Rattle.lists.specs.Tests.{same}
use Rattle.lists.specs.Members.{Distinct}
use Rattle.lists.proofs.Bools.{same_true}
use Rattle.lists.proofs.Keeps.{keep_in, keep-map}
use Rattle.lists.proofs.Perms.{perm_distinct, one_last}
use Rattle.curves.specs.Edits.{joined}
use Rattle.planar_maps.specs.Map.{Arc, Dart, fwd, rev}
use Rattle.planar_maps.specs.Pieces.{nums}
use Rattle.planar_maps.proofs.Hooks.{fwd≢bwd}
use Rattle.map.specs.declared.Variant.{Variant}
use Rattle.map.specs.declared.Variant.TheVariants.{New, Mod}
use Rattle.map.specs.Rows.{Edge, Map, edge, has_edge, set_edges, at_edge, without_edge}
use Rattle.map.specs.Darts.{leaves, next, course}
use Rattle.map.specs.Edits.{joint, parts, healed_curve, heal}
use Rattle.map.proofs.Laws.{edge_there_lem}
use Rattle.map_laws.proofs.Readings.{arc_of, number_of, nums-rows, dart_has}
use Rattle.map_laws.proofs.RowChanges.{less_has, less_edge}
use Rattle.map_laws.proofs.Reasons.{Heal}
use Rattle.grown.proofs.Law.Lawful.{Obeys, Lawful}
use Rattle.grown.proofs.Law.Whole.{Healed, whole_obeys}
use Rattle.grown.proofs.Joint.{Seamed, seamed}
use Rattle.grown.proofs.SplitsRows.{rest_other, rows_m, replaced, left_out}
use Rattle.grown.proofs.HealsRows.{relinked, rejoined, rejoined_edges, rejoined_next, healed_row}

-- one of the parts is e in its own direction
own_part : (m : Map) (e f : ℕ) → ((parts m e f).0 ≡ fwd e) ⊎ ((parts m e f).1 ≡ fwd e)
unfolding parts
own_part m e f = go (same (get_or (joint m e f) 0) (edge m e).end) _ _
  where
    go : (b : Bool) (x y : Dart) → ((cond {A = Dart × Dart} b (fwd e, x) (y, fwd e)).0 ≡ fwd e)
        ⊎ ((cond {A = Dart × Dart} b (fwd e, x) (y, fwd e)).1 ≡ fwd e)
    go true x y = inl refl
    go false x y = inr refl

module _ (m : Map) (L : Lawful m) (e f : ℕ) (q : Heal m e f) where
  abbrev c : Dart
  c = (parts m e f).0

  abbrev d : Dart
  d = (parts m e f).1

  abbrev n : ℕ
  n = get_or (joint m e f) 0

  pub seam : Seamed m e f (get_or (joint m e f) 0) (parts m e f).0 (parts m e f).1
  seam = seamed m e f q

  once_m : Distinct (map number_of m.edges)
  once_m = subst Distinct (nums-rows m) L.once

  -- the map without f, and without e
  abbrev less : Map
  less = set_edges (without_edge f m.edges) m

  abbrev rest : List Edge
  rest = without_edge e (without_edge f m.edges)

  rows_f : Permᴰ m.edges (edge m f ∷ without_edge f m.edges)
  rows_f = rows_m m f (λ r. r) (λ r. refl) once_m q.has_other

  has_less : has_edge less e ≡ true
  has_less = less_has m less f refl e q.differ ∙ q.has

  once_less : Distinct (map number_of (without_edge f m.edges))
  once_less = (perm_distinct (Permᴰ.map number_of rows_f) once_m).1

  rows_e : Permᴰ (without_edge f m.edges) (edge m e ∷ rest)
  rows_e = subst (λ (x : Edge). Permᴰ (without_edge f m.edges) (x ∷ rest))
      (less_edge m less f refl e q.differ) (rows_m less e (λ r. r) (λ r. refl) once_less has_less)

  old_rows : Permᴰ m.edges (edge m c.edge ∷ edge m d.edge ∷ rest)
  old_rows = elim seam.meet.edges [
    | inl x ↦ subst (Permᴰ m.edges) (ap₂ (λ i j. edge m i ∷ edge m j ∷ rest) (sym x.0) (sym x.1))
        (Permᴰ.trans both (Permᴰ.swap refl refl))
    | inr x ↦ subst (Permᴰ m.edges) (ap₂ (λ i j. edge m i ∷ edge m j ∷ rest) (sym x.0) (sym x.1)) both
  ]
    where
      both : Permᴰ m.edges (edge m f ∷ edge m e ∷ rest)
      both = Permᴰ.trans rows_f (Permᴰ.cons refl rows_e)

  in_others : {x : ℕ} → Memᴰ x (nums (map arc_of rest)) → (r : Edge) × Memᴰ r rest × (r.number ≡ x)
  in_others {x} k = Memᴰ.of_map number_of rest (subst (Memᴰ x) (map-map (λ (a : Arc). a.num) arc_of rest) k)

  below : {r : Edge} → Memᴰ r m.edges → r.number < m.next.edges
  below {r} k = L.edges_below r.number (Memᴰ.map number_of k)

  new_e : Memᴰ e (nums (map arc_of rest)) → ⊥
  new_e k = let x = in_others k in rest_other e (without_edge f m.edges) x.1 x.2

  pub new_f : Memᴰ f (nums (map arc_of rest)) → ⊥
  new_f k = let x = in_others k in rest_other f m.edges (keep_in _ (without_edge f m.edges) x.1).0 x.2

  new_next : Memᴰ m.next.edges (nums (map arc_of rest)) → ⊥
  new_next k = let x = in_others k in
      let y = below (keep_in _ m.edges (keep_in _ (without_edge f m.edges) x.1).0).0 in
      let z = x.2 in
      omega arith

  module _ (h : ℕ) where
    healed : Edge
    healed = record {
      number = h;
      start = leaves m c;
      end = leaves m (rev d);
      next_left = next (rejoined m h c d) d;
      next_right = next (rejoined m h c d) (rev c);
      left = (edge m e).left;
      right = (edge m e).right;
      curve = healed_curve m e f;
    }

    healed_is : healed ≡ healed_row m e h c d
    unfolding healed healed_curve
    healed_is = λ i. record {
      number = h;
      start = leaves m c;
      end = leaves m (rev d);
      next_left = rejoined_next m h c d d (dart_has m seam.second_in) i;
      next_right = rejoined_next m h c d (rev c) (dart_has m seam.first_in) i;
      left = (edge m e).left;
      right = (edge m e).right;
      curve = joined (course m c) (course m d);
    }

    -- the healed row last
    new_rows : Permᴰ (without_edge e (without_edge f (rejoined m h c d).edges) ++ healed ∷ [])
        (healed_row m e h c d ∷ map (relinked h c d) rest)
    new_rows = subst (λ (l : List Edge). Permᴰ (l ++ healed ∷ [])
        (healed_row m e h c d ∷ map (relinked h c d) rest)) (sym others)
        (subst (λ (x : Edge). Permᴰ (map (relinked h c d) rest ++ x ∷ [])
        (healed_row m e h c d ∷ map (relinked h c d) rest)) (sym healed_is)
        (one_last (map (relinked h c d) rest) (healed_row m e h c d)))
      where
        others : without_edge e (without_edge f (rejoined m h c d).edges) ≡ map (relinked h c d) rest
        others = ap (λ l. without_edge e (without_edge f l)) (rejoined_edges m h c d)
            ∙ ap (without_edge e) (left_out m f (relinked h c d) (λ r. refl) once_m q.has_other)
            ∙ left_out less e (relinked h c d) (λ r. refl) once_less has_less

    -- or in the place of e, whose number it has
    kept_rows : h ≡ e → Permᴰ (without_edge f
        (map (λ r. cond (same r.number e) healed r) (rejoined m h c d).edges))
        (healed_row m e h c d ∷ map (relinked h c d) rest)
    unfolding healed
    kept_rows he = subst (λ (l : List Edge). Permᴰ l (healed_row m e h c d ∷ map (relinked h c d) rest))
        (sym others) (subst (λ (x : Edge). Permᴰ (map put (map (relinked h c d) (without_edge f m.edges)))
        (x ∷ map (relinked h c d) rest)) healed_is
        (replaced less e (relinked h c d) (λ r. refl) once_less has_less healed))
      where
        put : Edge → Edge
        put r = cond (same r.number e) healed r

        put-number : (r : Edge) → (put r).number ≡ r.number
        put-number r = go (same r.number e) refl
          where
            go : (b : Bool) → same r.number e ≡ b → (cond b healed r).number ≡ r.number
            go true p = he ∙ sym (same_true r.number e p)
            go false p = refl

        others : without_edge f (map put (rejoined m h c d).edges)
            ≡ map put (map (relinked h c d) (without_edge f m.edges))
        others = ap (λ l. without_edge f (map put l)) (rejoined_edges m h c d)
            ∙ keep-map put (λ r. not (same r.number f)) (λ r. not (same r.number f))
            (map (relinked h c d) m.edges) (λ r k. ap (λ (x : ℕ). not (same x f)) (put-number r))
            ∙ ap (map put) (left_out m f (relinked h c d) (λ r. refl) once_m q.has_other)

  pub new_healed : Healed m (heal New e f m) e m.next.edges c d rest
  unfolding heal healed
  new_healed = record {
    rows = new_rows m.next.edges;
    old_rows = old_rows;
    own = own_part m e f;
    named = named;
    new_h = new_next;
  }
    where
      named : fwd m.next.edges ≢ rev d
      named p = let x = below (edge_there_lem m d.edge (dart_has m seam.second_in)).0 in
          let y = (edge_there_lem m d.edge (dart_has m seam.second_in)).1 in
          let z = ap (λ (z : Dart). z.edge) p in
          omega arith

  pub kept_healed : Healed m (heal Mod e f m) e e c d rest
  unfolding heal at_edge healed
  kept_healed = record {
    rows = kept_rows e refl;
    old_rows = old_rows;
    own = own_part m e f;
    named = named;
    new_h = new_e;
  }
    where
      named : fwd e ≢ rev d
      named p = elim (own_part m e f) [
        | inl r ↦ seam.two (ap (λ (z : Dart). z.edge) r ∙ ap (λ (z : Dart). z.edge) p)
        | inr r ↦ fwd≢bwd (p ∙ ap rev r)
      ]

  pub heal_obeys : (how : Variant) → Obeys (heal how e f m)
  heal_obeys New = whole_obeys m L e f n c d seam (heal New e f m) m.next.edges rest new_healed
  heal_obeys Mod = whole_obeys m L e f n c d seam (heal Mod e f m) e rest kept_healed
