-- Kinds 11 and 12 where a face is split keep a map in the plane. Assumes nothing.
use mathlib.Core.Path.{◌≡◌, refl, sym, ap, ◌∙◌, subst}
use mathlib.Core.Logic.{◌⊎◌, inl, inr, ◌≢◌}
use mathlib.Core.Bool.{Bool, true, false, cond, not, ◌&&◌, ◌||◌}
use mathlib.Core.List.{List, map, Memᴰ}
use Prim.Native.Nat.{ℕ, suc, ◌+◌, ◌≤◌, ◌<◌}
use native.Mathlib.Omega.{arith}
use lib.ListN.{length}
use Rattle.lists.specs.Tests.{same}
use Rattle.lists.specs.Members.{Distinct}
use Rattle.lists.proofs.Bools.{same_refl, same_false, equal?, or_right}
use Rattle.lists.proofs.Maps.{map_twice}
use Rattle.integers.specs.Order.{sgn}
use Rattle.plane.specs.Areas.{is_positive}
use Rattle.curves.specs.Curves.{Curve}
use Rattle.planar_maps.specs.Map.{Dart, fwd, bwd, Linked}
use Rattle.planar_maps.specs.Planar.{Planar}
use Rattle.planar_maps.proofs.Cycles.{Grown}
use Rattle.planar_maps.proofs.Hooks.{with_fwd, with_bwd}
use Rattle.map.specs.declared.Variant.{Variant}
use Rattle.map.specs.Rows.{Map, has_node, at_nodes, at_edge}
use Rattle.map.specs.Darts.{arcs, directed, leaves, next, bears, ring, among}
use Rattle.map.specs.Links.{redirect, lead, link_in, link_edge}
use Rattle.map.specs.Faces.{ring_area}
use Rattle.map.specs.Edits.{is_new, Shares, with_sides, drawn, side_of_dart, shared_out, split_face}
use Rattle.map_laws.proofs.Readings.{arc_of, number_has}
use Rattle.map_laws.proofs.RowChanges.{node_number, no_node, node_numbers}
use Rattle.map_laws.proofs.LinkedIn.{drawn_row}
use Rattle.map_laws.proofs.DrawnLinked.{Draws, all_D, D-kept, D-bears, D-faces, D-linked, D-once}
use Rattle.map_laws.proofs.Faces.{side_number}
use Rattle.grown.specs.Good.{InPlane}
use Rattle.grown.proofs.Sides.{sides_bears, sides_planar}
use Rattle.grown.proofs.Plane.Share.{side_new, side_old, side_keeps, side_x, side_rev, apart-rev, Sharing}
use Rattle.grown.proofs.Plane.Share.{sharing}
use Rattle.grown.proofs.Numbers.Faces.{shares_of, split_list}
use Rattle.grown.proofs.Plane.Drawn.{D-split}

-- what the faces of a map give
pub record Faced (m : Map) : Type 0 where
  pub once : Distinct m.faces
  pub below : (g : ℕ) → Memᴰ g m.faces → g < m.next.faces
  pub borne : (d : Dart) → Memᴰ d (directed m) → Memᴰ (bears m d) m.faces

module _ (how : Variant) (m : Map) (u v : ℕ) (c : Curve) (φ : ℕ) (draws : Draws m u v c φ) (faced : Faced m)
    (there : Memᴰ φ m.faces)
    (split : among (ring (drawn u v c φ m) (fwd m.next.edges)) (bwd m.next.edges) ≡ false) where
  abbrev D : Map
  D = drawn u v c φ m

  abbrev f : Dart
  f = fwd m.next.edges

  abbrev b : Dart
  b = bwd m.next.edges

  abbrev X : Map
  X = split_face how m.next.edges (drawn u v c φ m)

  abbrev old : ℕ
  old = bears (drawn u v c φ m) (fwd m.next.edges)

  abbrev goes : Bool
  goes = is_new how && not (same old 0)

  abbrev is_left : Bool
  is_left = is_positive (sgn (ring_area D (ring D f)))

  abbrev s : Shares
  s = shares_of goes is_left old D.next.faces (ring D f) (ring D b)

  abbrev new : Dart → ℕ
  new = side_of_dart D s

  linked : Linked (arcs D) (leaves D) (next D) (bears D)
  linked = D-linked m u v c φ draws

  in_f : Memᴰ f (directed D)
  in_f = all_D m u v c φ draws (Memᴰ.head refl)

  in_b : Memᴰ b (directed D)
  in_b = all_D m u v c φ draws (Memᴰ.tail (Memᴰ.head refl))

  on_f : old ≡ φ
  on_f = D-bears m u v c φ draws f (Memᴰ.head refl) ∙ with_fwd m.next.edges φ φ (bears m)

  on_b : bears D b ≡ old
  on_b = D-bears m u v c φ draws b (Memᴰ.tail (Memᴰ.head refl)) ∙ with_bwd m.next.edges φ φ (bears m)
      ∙ sym on_f

  next_face : D.next.faces ≡ m.next.faces + 0
  unfolding drawn at_nodes link_edge link_in lead redirect at_edge
  next_face = refl

  -- ---- the sides

  shared : Sharing s D.next.faces m.faces (split_list goes old D.next.faces m.faces)
  shared = sharing old D.next.faces m.faces faced.once
      (λ g k. let h = faced.below g k in let q = next_face in omega arith)
      (subst (λ (g : ℕ). Memᴰ g m.faces) (sym on_f) there) (ring D f) (ring D b) goes is_left

  -- the two ways of the edge have the two numbers, one way or the other
  two_sides : ((new f ≡ s.ref) × (new b ≡ s.other)) ⊎ ((new f ≡ s.other) × (new b ≡ s.ref))
  two_sides = go is_left refl
    where
      go : (t : Bool) → is_left ≡ t → ((new f ≡ s.ref) × (new b ≡ s.other)) ⊎ ((new f ≡ s.other) × (new b ≡ s.ref))
      go true e = inl (
        side_x D linked (D-once m u v c φ draws) s f in_f (ap (λ t. cond t (ring D f) (ring D b)) e)
            (ap (λ t. cond t (ring D b) (ring D f)) e) split refl on_b,
        side_rev D linked (D-once m u v c φ draws) s f in_f (ap (λ t. cond t (ring D f) (ring D b)) e)
            (ap (λ t. cond t (ring D b) (ring D f)) e) split refl on_b,
      )
      go false e = inr (
        side_rev D linked (D-once m u v c φ draws) s b in_b (ap (λ t. cond t (ring D f) (ring D b)) e)
            (ap (λ t. cond t (ring D b) (ring D f)) e) other_way on_b refl,
        side_x D linked (D-once m u v c φ draws) s b in_b (ap (λ t. cond t (ring D f) (ring D b)) e)
            (ap (λ t. cond t (ring D b) (ring D f)) e) other_way on_b refl,
      )
        where
          other_way : among (ring D b) f ≡ false
          other_way = apart-rev D linked (D-once m u v c φ draws) f b in_f in_b split

  new_keeps : (d : Dart) → Memᴰ d (directed D) → new (next D d) ≡ new d
  new_keeps = go is_left refl
    where
      go : (t : Bool) → is_left ≡ t → (d : Dart) → Memᴰ d (directed D) → new (next D d) ≡ new d
      go true e = side_keeps D linked (D-once m u v c φ draws) s f in_f (ap (λ t. cond t (ring D f) (ring D b)) e)
          (ap (λ t. cond t (ring D b) (ring D f)) e)
      go false e = side_keeps D linked (D-once m u v c φ draws) s b in_b (ap (λ t. cond t (ring D f) (ring D b)) e)
          (ap (λ t. cond t (ring D b) (ring D f)) e)

  new_apart : (new f ≡ new b) → ⊥
  new_apart p = elim two_sides [
    | inl q ↦ shared.differ (sym q.0 ∙ p ∙ q.1)
    | inr q ↦ shared.differ
        (sym q.1 ∙ sym p ∙ q.0)
  ]

  -- an old directed edge had the face φ and comes to one of the sides, or bears what it bore
  old_side : (d : Dart) → Memᴰ d (directed m) → ((bears m d ≡ φ) × ((new d ≡ s.ref) ⊎ (new d ≡ s.other)))
      ⊎ ((bears m d ≢ φ) × (new d ≡ bears m d))
  old_side d k = elim (equal? (bears m d) φ) [
    | inl p ↦ inl (p, side_new D s d (D-kept m u v c φ draws d k ∙ p ∙ sym on_f))
    | inr ne ↦ inr (
      ne,
      side_old D s d (λ p. ne (sym (D-kept m u v c φ draws d k) ∙ p ∙ on_f))
          ∙ D-kept m u v c φ draws d k,
    )
  ]

  -- both new numbers go back to the old face
  back : ℕ → ℕ
  back g = cond (same g s.ref || same g s.other) φ g

  back_ref : back s.ref ≡ φ
  unfolding back
  back_ref = ap (λ x. cond (x || same s.ref s.other) φ s.ref) (same_refl s.ref)

  back_other : back s.other ≡ φ
  unfolding back
  back_other = ap (λ x. cond x φ s.other)
      (or_right (same s.other s.ref) (same s.other s.other) (same_refl s.other))

  -- an old face is none of them
  not_new : (g z : ℕ) → (z ≡ old) ⊎ (D.next.faces ≤ z) → Memᴰ g m.faces → g ≢ φ → same g z ≡ false
  not_new g z h k ne = same_false g z (λ p. elim h [
    | inl q ↦ ne (p ∙ q ∙ on_f)
    | inr q ↦ let r = faced.below g k in
        let t = next_face in omega arith
  ])

  back_old : (g : ℕ) → Memᴰ g m.faces → g ≢ φ → back g ≡ g
  unfolding back
  back_old g k ne = rw (not_new g s.ref shared.ref_new k ne, not_new g s.other shared.other_new k ne)

  grown : Grown (arc_of (drawn_row m u v c φ)) (arcs m) (bears m) new back
  grown = record {
    others = λ d k. elim (old_side d k) [
      | inl q ↦ elim q.1 [ inl p ↦ ap back p ∙ back_ref ∙ sym q.0 | inr p ↦ ap back p ∙ back_other ∙ sym q.0 ]
      | inr q ↦ ap back q.1 ∙ back_old (bears m d) (faced.borne d k) q.0
    ];
    sides = elim two_sides [
      | inl q ↦ ap back q.0 ∙ back_ref ∙ sym back_other
          ∙ sym (ap back q.1)
      | inr q ↦ ap back q.0 ∙ back_other ∙ sym back_ref ∙ sym (ap back q.1)
    ];
  }

  -- ---- the rows after

  X-edges : X.edges ≡ map (λ e. with_sides (new (fwd e.number)) (new (bwd e.number)) e) D.edges
  unfolding split_face shared_out
  X-edges = refl

  X-bears : (d : Dart) → Memᴰ d (directed D) → bears X d ≡ new d
  X-bears = sides_bears D X (λ e. new (fwd e.number)) (λ e. new (bwd e.number)) X-edges new (λ e k. refl)
      (λ e k. refl)

  X-faces : X.faces ≡ split_list goes old D.next.faces m.faces
  unfolding split_face shared_out
  X-faces = ap (split_list goes old D.next.faces) (D-faces m u v c φ draws)

  X-nodes : node_numbers X ≡ node_numbers D
  unfolding split_face shared_out
  X-nodes = map_twice node_number _ node_number D.nodes (λ n k. side_number D s n n.face)

  pub split_face_planar : has_node m u ≡ true → has_node m v ≡ true → InPlane m
      → InPlane (split_face how m.next.edges (drawn u v c φ m))
  split_face_planar has-u has-v o = subst (λ (k : ℕ). Planar (node_numbers X) (arcs X) (leaves X) (next X) (bears X) k)
      (sym (ap length X-faces ∙ shared.count))
      (subst (λ (ns : List ℕ). Planar ns (arcs X) (leaves X) (next X) (bears X) (suc (length m.faces))) (sym X-nodes)
      (sides_planar D X (λ e. new (fwd e.number)) (λ e. new (bwd e.number)) X-edges X-bears
      (D-split m u v c φ draws o (number_has node_number no_node m.nodes u has-u)
      (number_has node_number no_node m.nodes v has-v) new back grown new_apart new_keeps)))
