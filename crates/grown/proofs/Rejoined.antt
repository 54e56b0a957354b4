-- What a heal reads of the halves of a split edge: that they meet at the new node, and what the edge was.
-- Assumes nothing.
use mathlib.Core.Path.{◌≡◌, refl, sym, ap, ap₂, ◌∙◌, subst}
use mathlib.Core.Logic.{inl, inr, ◌≢◌}
use mathlib.Core.Bool.{Bool, true, false, cond, ◌||◌}
use mathlib.Core.List.{List, [], ◌∷◌, map, Memᴰ}
use mathlib.Core.Option.{some}
use Prim.Native.Nat.{ℕ}
use native.Mathlib.Omega.{arith}
use lib.ListN.{length}
use Rattle.lists.specs.Tests.{same}
use Rattle.lists.specs.Scans.{keep, count_of}
use Rattle.lists.proofs.Bools.{same_refl, same_true, same_false, equal?}
use Rattle.lists.proofs.Counts.{count_perm, count_keep}
use Rattle.lists.proofs.Keeps.{keep_none}
use Rattle.plane.specs.declared.Point.{Point}
use Rattle.curves.specs.Curves.{Curve}
use Rattle.curves.specs.Edits.{joined}
use Rattle.planar_maps.specs.Map.{Arc, Dart, fwd, bwd, darts}
use Rattle.planar_maps.proofs.Hooks.{fwd≢bwd}
use Rattle.planar_maps.proofs.Moves.{darts_perm}
use Rattle.geometry.proofs.Theorems.{heal-split, on_curve_iff}
use Rattle.map.specs.Rows.{Edge, Map, edge, has_edge, without_edge}
use Rattle.map.specs.Darts.{directed, leaves, next, bears, way, course, departures, edge_ends}
use Rattle.map.specs.Links.{instead}
use Rattle.map.specs.Edits.{start_half, end_half, shared_nodes, joint, parts, healed_curve}
use Rattle.map.proofs.Laws.{edge_there_lem}
use Rattle.map_laws.proofs.Readings.{arc_of, edge_at, row_has, course_row}
use Rattle.map_laws.proofs.RowDarts.{leaves_of, next_of}
use Rattle.grown.specs.Good.{Good}
use Rattle.grown.specs.Claims.{link_renamed}
use Rattle.grown.proofs.Law.Lawful.{Lawful, good_lawful}
use Rattle.grown.proofs.Law.Split.{InHalves, arcs_m', once_m', in_first, in_second, starts_off, ends_off, halves}
use Rattle.grown.proofs.Renumber.{ways}
use Rattle.grown.proofs.Halved.{Halved, departs, whole, f_fwd, f_bwd, f_old}
use Rattle.grown.proofs.SplitsRows.{instead_it, instead_other, half_names, relinked}
use Rattle.grown.proofs.HealsRows.{whole_names}

-- ---- names there and back

-- a link that names e, renamed for the halves a and b and then for the healed edge h; a and b are no names of others
pub names_back : (e a b h : ℕ) (d : Dart) → (d.edge ≢ e → d.edge ≢ a) → d.edge ≢ b
    → whole_names h (fwd a) (fwd b) (half_names e a b d) ≡ link_renamed e h d
names_back e a b h d na nb = elim (equal? d.edge e) [
  | inl q ↦ elim (ways d) [
    | inl w ↦ subst Back (sym (w ∙ ap fwd q)) (ap (whole_names h (fwd a) (fwd b)) half_fwd ∙ whole-fwd ∙ ap fwd own)
    | inr w ↦ subst Back (sym (w ∙ ap bwd q)) (ap (whole_names h (fwd a) (fwd b)) half_bwd ∙ whole-bwd ∙ ap bwd own)
  ]
  | inr ne ↦
      ap (whole_names h (fwd a) (fwd b)) (other (fwd e) (fwd a) (bwd e) (bwd b) ne ne)
      ∙ other (fwd a) (fwd h) (bwd b) (bwd h) (na ne) nb
      ∙ ap (λ (t : Bool). record { edge = cond t h d.edge; back = d.back }) (sym (same_false d.edge e ne))
]
  where
    Back : Dart → Type 0
    Back z = whole_names h (fwd a) (fwd b) (half_names e a b z) ≡ link_renamed e h z

    own : h ≡ cond (same e e) h e
    own = ap (λ (t : Bool). cond t h e) (sym (same_refl e))

    half_fwd : half_names e a b (fwd e) ≡ fwd a
    half_fwd =
        ap (instead (bwd e) (bwd b)) (instead_it (fwd e) (fwd a))
        ∙ instead_other (bwd e) (bwd b) (fwd a) fwd≢bwd

    half_bwd : half_names e a b (bwd e) ≡ bwd b
    half_bwd =
        ap (instead (bwd e) (bwd b)) (instead_other (fwd e) (fwd a) (bwd e) (λ p. fwd≢bwd (sym p)))
        ∙ instead_it (bwd e) (bwd b)

    whole-fwd : whole_names h (fwd a) (fwd b) (fwd a) ≡ fwd h
    whole-fwd =
        ap (instead (bwd b) (bwd h)) (instead_it (fwd a) (fwd h))
        ∙ instead_other (bwd b) (bwd h) (fwd h) fwd≢bwd

    whole-bwd : whole_names h (fwd a) (fwd b) (bwd b) ≡ bwd h
    whole-bwd =
        ap (instead (bwd b) (bwd h)) (instead_other (fwd a) (fwd h) (bwd b) (λ p. fwd≢bwd (sym p)))
        ∙ instead_it (bwd b) (bwd h)

    other : (x x' y y' : Dart) → d.edge ≢ x.edge → d.edge ≢ y.edge → instead y y' (instead x x' d) ≡ d
    other x x' y y' p q =
        ap (instead y y') (instead_other x x' d (λ r. p (ap (λ (z : Dart). z.edge) r)))
        ∙ instead_other y y' d (λ r. q (ap (λ (z : Dart). z.edge) r))

-- e for e changes nothing
pub renamed_self : (e : ℕ) (d : Dart) → link_renamed e e d ≡ d
renamed_self e d = λ i. record { edge = go (same d.edge e) refl i; back = d.back }
  where
    go : (t : Bool) → same d.edge e ≡ t → cond t e d.edge ≡ d.edge
    go true q = sym (same_true d.edge e q)
    go false q = refl

-- ---- the halves a and b of e, which meet at n

-- what a heal reads of them in m', by what the edge e was in m
pub record Rejoin (m m' : Map) (e n a b : ℕ) : Type 0 where
  pub has_first : has_edge m' a ≡ true
  pub has_second : has_edge m' b ≡ true
  pub differ : a ≢ b
  pub shared : same (length (shared_nodes m' a b)) 0 ≡ false
  pub joint : joint m' a b ≡ some n
  pub parts : parts m' a b ≡ (fwd a, fwd b)
  pub curve : healed_curve m' a b ≡ (edge m e).curve
  pub start : leaves m' (fwd a) ≡ (edge m e).start
  pub end : leaves m' (bwd b) ≡ (edge m e).end
  pub left : (edge m' a).left ≡ (edge m e).left
  pub right : (edge m' a).right ≡ (edge m e).right
  pub next-left : next m' (fwd b) ≡ half_names e a b (edge m e).next_left
  pub next_right_lem : next m' (bwd a) ≡ half_names e a b (edge m e).next_right

module _ (m m' : Map) (e n a b : ℕ) (p : Point) (g : Good m) (H : InHalves m m' e n a b p) where
  abbrev L : Lawful m
  L = good_lawful m g

  abbrev first : Edge
  first = start_half (relinked e a b (edge m e)) n a b p

  abbrev second : Edge
  second = end_half (relinked e a b (edge m e)) n a b p

  abbrev s : ℕ
  s = (edge m e).start

  abbrev t : ℕ
  t = (edge m e).end

  abbrev r : List Arc
  r = map arc_of (without_edge e m.edges)

  row : Memᴰ (edge m e) m.edges
  row = (edge_there_lem m e H.has).0

  first_is : edge m' a ≡ first
  first_is = edge_at m' (once_m' m m' e n a b p L H) (in_first m m' e n a b p L H)

  second_is : edge m' b ≡ second
  second_is = edge_at m' (once_m' m m' e n a b p L H) (in_second m m' e n a b p L H)

  two : Halved e (fwd a) (fwd b) n r (leaves m) (leaves m') (next m) (next m') (bears m) (bears m') (way m) (way m')
  two = halves m m' e n a b p L H

  -- exactly two ends are at n: the end of the start half and the start of the end half
  abbrev at_n : Dart → Bool
  at_n d = same (leaves m' d) n

  off_n : (z d : Dart) → Memᴰ z (whole e r) → departs e (fwd a) (fwd b) z ≡ d → at_n d ≡ false
  off_n z d k q = same_false (leaves m' d) n (λ j. two.away z k (sym (two.tails z k) ∙ ap (leaves m') q ∙ j))

  ends_two : edge_ends m' n ≡ 2
  unfolding departures
  ends_two =
      sym (count_keep at_n (directed m')) ∙ count_perm at_n (darts_perm (arcs_m' m m' e n a b p L H)) ∙ counted
    where
      off_old : (d : Dart) → Memᴰ d (darts r) → at_n d ≡ false
      off_old d k =
          off_n d d (Memᴰ.tail (Memᴰ.tail k)) (f_old two.parts d k)

      none : count_of at_n (darts r) ≡ 0
      none = count_keep at_n (darts r) ∙ ap length (keep_none at_n (darts r) off_old)

      off_first : at_n (fwd a) ≡ false
      off_first =
          off_n (fwd e) (fwd a) (Memᴰ.head refl) (f_fwd two.parts)

      off_second : at_n (bwd b) ≡ false
      off_second =
          off_n (bwd e) (bwd b) (Memᴰ.tail (Memᴰ.head refl))
          (f_bwd two.parts)

      counted : count_of at_n (fwd a ∷ bwd a ∷ fwd b ∷ bwd b ∷ darts r) ≡ 2
      counted = rw (off_first, off_second, two.tail_c, two.tail_d, same_refl n, none)

  shared_are : shared_nodes m' a b ≡ n ∷ keep (λ k. same k n || same k t) (s ∷ [])
  unfolding shared_nodes
  shared_are = rw (first_is, second_is, same_refl n)

  joint_is : joint m' a b ≡ some n
  unfolding joint
  joint_is = rw (shared_are, ends_two, same_refl 2)

  parts_are : parts m' a b ≡ (fwd a, fwd b)
  unfolding parts
  parts_are = rw (joint_is, two.tail_d, first_is, same_refl n)

  -- a good map's curve has no straight inner point, so that the joint point is dropped exactly if the split put it in
  curve_is : healed_curve m' a b ≡ (edge m e).curve
  unfolding healed_curve
  curve_is =
      ap (λ (z : Dart × Dart). joined (course m' z.0) (course m' z.1)) parts_are
      ∙ ap₂ joined (course_row m' (fwd a) ∙ ap curve first_is) (course_row m' (fwd b) ∙ ap curve second_is)
      ∙ heal-split p (edge m e).curve (starts_off m m' e n a b p L H) (ends_off m m' e n a b p L H)
      ((on_curve_iff (edge m e).curve p).0 H.on)
      (g.surveyed.kept (edge m e) row).bent
    where
      curve : Edge → Curve
      curve x = x.curve

  pub rejoin : Rejoin m m' e n a b
  rejoin =
      let once = once_m' m m' e n a b p L H in
      let u = in_first m m' e n a b p L H in
      let v = in_second m m' e n a b p L H in
      record {
        has_first = row_has m' u;
        has_second = row_has m' v;
        differ = H.differ;
        shared = ap (λ (l : List ℕ). same (length l) 0) shared_are ∙ same_false _ 0 (λ q. omega (arith, q));
        joint = joint_is;
        parts = parts_are;
        curve = curve_is;
        start = leaves_of m' once first u (fwd a) refl;
        end = leaves_of m' once second v (bwd b) refl;
        left = ap (λ (x : Edge). x.left) first_is;
        right = ap (λ (x : Edge). x.right) first_is;
        next-left = next_of m' once second v (fwd b) refl;
        next_right_lem = next_of m' once first u (bwd a) refl;
      }
