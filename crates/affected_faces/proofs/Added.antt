-- An edge drawn in, and the face that it splits shared out: every face that is there after it and is on no side of the
-- edge keeps its boundary. Assumes nothing.
use mathlib.Core.Path.{◌≡◌, refl, sym, ap, ◌∙◌, subst}
use mathlib.Core.Logic.{inl, inr, ◌≢◌}
use mathlib.Core.Bool.{Bool, true, false, cond, not, ◌&&◌}
use mathlib.Core.List.Memᴰ
use mathlib.Core.List.{List, [], ◌∷◌, ◌++◌, map, map-map, map-append, Memᴰ}
use Prim.Native.Nat.{ℕ, ◌+◌, ◌-◌}
use native.Mathlib.Omega.{arith}
use borrow.Author.Tests.{not-true}
use lib.ListN.{length, length-map, length-append, get_or}
use Rattle.integers.specs.Order.{sgn}
use Rattle.lists.specs.Tests.{same}
use Rattle.lists.specs.Scans.{keep}
use Rattle.lists.specs.Members.{Distinct}
use Rattle.lists.proofs.Bools.{same_false, differ, equal?}
use Rattle.lists.proofs.Keeps.{keep_in}
use Rattle.lists.proofs.Members.{in_rest}
use Rattle.lists.proofs.Maps.{map_twice}
use Rattle.plane.specs.Areas.{is_positive}
use Rattle.curves.specs.Curves.{Curve, start_way}
use Rattle.planar_maps.specs.Map.{Dart, fwd, bwd, Linked}
use Rattle.planar_maps.specs.Pieces.{nums}
use Rattle.planar_maps.proofs.Hooks.{with_fwd, with_bwd}
use Rattle.map.specs.declared.Variant.{Variant}
use Rattle.map.specs.Rows.{Edge, Map, Sizes}
use Rattle.map.specs.Darts.{arcs, directed, leaves, next, bears, ring, among}
use Rattle.map.specs.Faces.{ring_area}
use Rattle.map.specs.Form.{formed}
use Rattle.map.specs.Links.{corner_face}
use Rattle.map.specs.Edits.{is_new, Shares, drawn, drawn_in, splits_face, side_of_dart, shared_out, split_face, add_edge}
use Rattle.map.proofs.Laws.{formed_is}
use Rattle.map.proofs.Linked as formedLinks
use Rattle.map_laws.proofs.Readings.{bears-left, bears_right, Outline, outline_of, outlines}
use Rattle.map_laws.proofs.Reasons.{AddEdge}
use Rattle.map_laws.proofs.Outlines.{drawn-shape, drawn_outline, outlines_map}
use Rattle.map_laws.proofs.Form.{formed-apart, edge_new}
use Rattle.map_laws.proofs.LinkedIn.{drawn_row}
use Rattle.map_laws.proofs.DrawnLinked.{Draws, draws_edge_lem, all_D, D-bears, D-linked, D-once}
use Rattle.grown.proofs.Numbers.Faces.{shares_of, split_list}
use Rattle.grown.proofs.Plane.Share.{side_new, side_old, side_x, side_rev, apart-rev}
use Rattle.affected_faces.specs.Affected.{faces_beside, faces_beside_last}
use Rattle.affected_faces.proofs.Stretches.{stretch_of, stretches, along, along_more, along_one, Off, off_part}
use Rattle.affected_faces.proofs.Rows.{drawn-stretches, sided_stretch}

-- ---- the last edge

abbrev outline_sides : Outline → List ℕ
outline_sides o = o.left ∷ o.right ∷ []

last_is : {A : Type 0} (xs : List A) (x d : A) → get_or (xs ++ x ∷ []) (length xs) d ≡ x
last_is [] x d = refl
last_is (y ∷ xs) x d = last_is xs x d

pub last_sides : (es : List Edge) (os : List Outline) (o : Outline) → map outline_of es ≡ os ++ o ∷ []
    → faces_beside_last es ≡ outline_sides o
last_sides es os o h =
    ap (λ (n : ℕ). get_or (map faces_beside es) n []) count
    ∙ ap (λ (l : List (List ℕ)). get_or l (length (map outline_sides os)) [])
    (sym (map-map outline_sides outline_of es) ∙ ap (map outline_sides) h ∙ map-append outline_sides os (o ∷ []))
    ∙ last_is (map outline_sides os) (outline_sides o) []
  where
    count : length es - 1 ≡ length (map outline_sides os)
    count =
        let a = length-map es outline_of in
        let b = ap length h in
        let c = length-append os (o ∷ []) in
        let d = length-map os outline_sides in
        omega arith

-- on neither side of the last edge
pub off_last : (f : ℕ) (es : List Edge) (os : List Outline) (o : Outline) → map outline_of es ≡ os ++ o ∷ []
    → (Memᴰ f (faces_beside_last es) → ⊥) → Off f o.left o.right
off_last f es os o h n = record {
  left = λ q. n (at (Memᴰ.head q));
  right = λ q. n (at (Memᴰ.tail (Memᴰ.head q)));
}
  where
    at : Memᴰ f (outline_sides o) → Memᴰ f (faces_beside_last es)
    at k = subst (Memᴰ f) (sym (last_sides es os o h)) k

-- ---- an edge drawn

pub drawn-along : (f u v : ℕ) (c : Curve) (φ : ℕ) (m : Map) → f ≢ φ
    → along (stretches f (drawn u v c φ m)) ≡ along (stretches f m)
drawn-along f u v c φ m ne =
    ap along (drawn-stretches f u v c φ m)
    ∙ along_more (stretches f m) (stretch_of f (drawn_row m u v c φ) ∷ [])
    (along_one (stretch_of f (drawn_row m u v c φ)) (off_part f (drawn_row m u v c φ) (record { left = ne; right = ne })))

pub off_drawn : (f u v : ℕ) (c : Curve) (φ : ℕ) (m : Map) → (Memᴰ f (faces_beside_last (drawn u v c φ m).edges) → ⊥)
    → f ≢ φ
off_drawn f u v c φ m n =
    (off_last f (drawn u v c φ m).edges (outlines m) (drawn_outline m.next.edges u v φ)
    (drawn-shape u v c φ m).outlines n).left

-- ---- a face shared out

-- a face that is there after it, and is neither `ref` nor `other`, is not the old one
gone : (old a b : ℕ) (fs : List ℕ) (f : ℕ) → Memᴰ f (keep (λ g. not (same g old)) fs ++ a ∷ b ∷ [])
    → f ≢ a → f ≢ b → f ≢ old
gone old a b fs f k na nb =
    elim (Memᴰ.append_cases (keep (λ g. not (same g old)) fs) k) [
      | inl j ↦ differ f old (not-true (same f old) (keep_in (λ g. not (same g old)) fs j).1)
      | inr j ↦ absurd (nb (Memᴰ.eq_of_singleton (in_rest na j)))
    ]

not_old : (goes is_left : Bool) (old a : ℕ) (left right : List Dart) (fs : List ℕ) (f : ℕ)
    → Memᴰ f (split_list goes old a fs) → f ≢ (shares_of goes is_left old a left right).ref
    → f ≢ (shares_of goes is_left old a left right).other → f ≢ old
not_old true true old a left right fs f k r o = gone old a (a + 1) fs f k r o
not_old true false old a left right fs f k r o = gone old a (a + 1) fs f k o r
not_old false true old a left right fs f k r o = o
not_old false false old a left right fs f k r o = o

-- sides of rows where all of `old` goes to `ref` or `other`
module _ (D : Map) (s : Shares) (f : ℕ) (dis : Distinct (nums (arcs D))) (old : f ≢ s.old) (ref : f ≢ s.ref)
    (other : f ≢ s.other) where
  side_same : (d : Dart) → same (side_of_dart D s d) f ≡ same (bears D d) f
  side_same d = elim (equal? (bears D d) s.old) [
    | inl p ↦ same_false (side_of_dart D s d) f (λ q. elim (side_new D s d p) [
      | inl z ↦ ref (sym q ∙ z)
      | inr z ↦ other (sym q ∙ z)
    ]) ∙ sym (same_false (bears D d) f (λ q. old (sym q ∙ p)))
    | inr ne ↦ ap (λ (n : ℕ). same n f) (side_old D s d ne)
  ]

  shared_stretches : stretches f (shared_out s D) ≡ stretches f D
  unfolding shared_out
  shared_stretches = map_twice (stretch_of f) _ (stretch_of f) D.edges (λ r k.
      sided_stretch f r (side_of_dart D s (fwd r.number)) (side_of_dart D s (bwd r.number)) (record {
        left = side_same (fwd r.number) ∙ ap (λ (n : ℕ). same n f) (bears-left D dis k);
        right = side_same (bwd r.number) ∙ ap (λ (n : ℕ). same n f) (bears_right D dis k);
      }))

-- ---- kinds 11 and 12

module _ (how : Variant) (m : Map) (u v : ℕ) (c : Curve) (φ : ℕ) (draws : Draws m u v c φ)
    (split : among (ring (drawn u v c φ m) (fwd m.next.edges)) (bwd m.next.edges) ≡ false) where
  abbrev D : Map
  D = drawn u v c φ m

  abbrev e : Dart
  e = fwd m.next.edges

  abbrev b : Dart
  b = bwd m.next.edges

  abbrev old : ℕ
  old = bears (drawn u v c φ m) (fwd m.next.edges)

  abbrev goes : Bool
  goes = is_new how && not (same old 0)

  abbrev is_left : Bool
  is_left = is_positive (sgn (ring_area D (ring D e)))

  abbrev s : Shares
  s = shares_of goes is_left old D.next.faces (ring D e) (ring D b)

  abbrev X : Map
  X = split_face how m.next.edges (drawn u v c φ m)

  linked : Linked (arcs D) (leaves D) (next D) (bears D)
  linked = D-linked m u v c φ draws

  once : Distinct (nums (arcs D))
  once = D-once m u v c φ draws

  in_e : Memᴰ e (directed D)
  in_e = all_D m u v c φ draws (Memᴰ.head refl)

  in_b : Memᴰ b (directed D)
  in_b = all_D m u v c φ draws (Memᴰ.tail (Memᴰ.head refl))

  on_e : old ≡ φ
  on_e = D-bears m u v c φ draws e (Memᴰ.head refl) ∙ with_fwd m.next.edges φ φ (bears m)

  on_b : bears D b ≡ old
  on_b = D-bears m u v c φ draws b (Memᴰ.tail (Memᴰ.head refl)) ∙ with_bwd m.next.edges φ φ (bears m)
      ∙ sym on_e

  -- the two ways of the edge have the two numbers, one way or the other
  off_both : (f : ℕ) → Off f (side_of_dart D s e) (side_of_dart D s b) → (f ≢ s.ref) × (f ≢ s.other)
  off_both f h = go is_left refl
    where
      go : (t : Bool) → is_left ≡ t → (f ≢ s.ref) × (f ≢ s.other)
      go true q =
          let ref-ring = ap (λ (t : Bool). cond t (ring D e) (ring D b)) q in
          let other-ring = ap (λ (t : Bool). cond t (ring D b) (ring D e)) q in (
            λ z. h.left (z ∙ sym (side_x D linked once s e in_e ref-ring other-ring split refl on_b)),
            λ z. h.right (z ∙ sym (side_rev D linked once s e in_e ref-ring other-ring split refl on_b)),
          )
      go false q =
          let ref-ring = ap (λ (t : Bool). cond t (ring D e) (ring D b)) q in
          let other-ring = ap (λ (t : Bool). cond t (ring D b) (ring D e)) q in
          let apart = apart-rev D linked once e b in_e in_b split in (
            λ z. h.right (z ∙ sym (side_x D linked once s b in_b ref-ring other-ring apart on_b refl)),
            λ z. h.left (z ∙ sym (side_rev D linked once s b in_b ref-ring other-ring apart on_b refl)),
          )

  -- the outlines after it
  abbrev shared : Outline → Outline
  shared o = record {
    arc = o.arc;
    left = side_of_dart D s (fwd o.arc.num);
    right = side_of_dart D s (bwd o.arc.num);
  }

  X-outlines : outlines X ≡ map shared (outlines m) ++ shared (drawn_outline m.next.edges u v φ) ∷ []
  unfolding split_face shared_out
  X-outlines = outlines_map _ shared D.edges (λ r k. refl)
      ∙ ap (map shared) (drawn-shape u v c φ m).outlines
      ∙ map-append shared (outlines m) (drawn_outline m.next.edges u v φ ∷ [])

  X-stretches : (f : ℕ) → stretches f X ≡ stretches f (shared_out s D)
  unfolding split_face
  X-stretches f = refl

  X-faces : X.faces ≡ split_list goes old D.next.faces D.faces
  unfolding split_face shared_out
  X-faces = refl

  pub split_face-along : (f : ℕ) → Memᴰ f X.faces → (Memᴰ f (faces_beside_last X.edges) → ⊥)
      → along (stretches f X) ≡ along (stretches f m)
  split_face-along f k n =
      let both = off_both f (off_last f X.edges (map shared (outlines m))
      (shared (drawn_outline m.next.edges u v φ)) X-outlines n) in
      let ne = not_old goes is_left old D.next.faces (ring D e) (ring D b) D.faces f
      (subst (Memᴰ f) X-faces k) both.0 both.1 in
      ap along (X-stretches f ∙ shared_stretches D s f once ne both.0 both.1)
      ∙ drawn-along f u v c φ m (λ z. ne (z ∙ sym on_e))

apart : (u v : ℕ) (c : Curve) (m : Map) → splits_face u v c m ≡ true
    → among (ring (drawn_in u v c m) (fwd m.next.edges)) (bwd m.next.edges) ≡ false
unfolding splits_face
apart u v c m q = not-true (among (ring (drawn_in u v c m) (fwd m.next.edges)) (bwd m.next.edges)) q

module _ {how : Variant} {s : Sizes} {m : Map} {u v : ℕ} {c : Curve} (h : formed m ≡ true)
    (t : AddEdge how s m u v c) where
  pub add_edge-along : (f : ℕ) → Memᴰ f (add_edge how u v c m).faces
      → (Memᴰ f (faces_beside_last (add_edge how u v c m).edges) → ⊥)
      → along (stretches f (add_edge how u v c m)) ≡ along (stretches f m)
  unfolding add_edge
  add_edge-along f = go (splits_face u v c m) refl
    where
      draws : Draws m u v c (corner_face m u (start_way c))
      draws = draws_edge_lem t (formedLinks.linked m h) (formedLinks.edges_once m h) (formed-apart m h)
          (edge_new m (formed_is m h).numbers.edges.below)

      go : (b : Bool) → splits_face u v c m ≡ b
          → Memᴰ f (cond b (split_face how m.next.edges (drawn_in u v c m)) (drawn_in u v c m)).faces
          → (Memᴰ f (faces_beside_last
          (cond b (split_face how m.next.edges (drawn_in u v c m)) (drawn_in u v c m)).edges) → ⊥)
          → along (stretches f (cond b (split_face how m.next.edges (drawn_in u v c m)) (drawn_in u v c m)))
          ≡ along (stretches f m)
      go true q k n = split_face-along how m u v c (corner_face m u (start_way c)) draws (apart u v c m q) f k n
      go false q k n = let φ = corner_face m u (start_way c) in drawn-along f u v c φ m (off_drawn f u v c φ m n)
