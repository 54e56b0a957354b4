-- Numbers, faces and marks kept where faces are shared out or renamed: kinds 11 to 14, and 4 and 5 with their one face.
-- Assumes nothing.
use mathlib.Core.Path.{◌≡◌, refl, sym, ap, ◌∙◌, subst}
use mathlib.Core.Logic.{◌≢◌}
use mathlib.Core.Bool.{Bool, true, false, cond, not, ◌&&◌, ◌||◌}
use mathlib.Core.List.Memᴰ
use mathlib.Core.List.{List, [], ◌∷◌, ◌++◌, map, append_assoc, Memᴰ}
use mathlib.Core.Option.{Option, none, some}
use Prim.Native.Nat.{ℕ, ◌+◌, suc}
use native.Mathlib.Nat.{add-zero}
use native.Mathlib.Omega.{arith}
use borrow.Author.Tests.{not-true}
use Rattle.integers.specs.Order.{sgn}
use Rattle.lists.specs.Tests.{same}
use Rattle.lists.specs.Scans.{keep, first_or, is_some}
use Rattle.lists.specs.Members.{Distinct}
use Rattle.lists.proofs.Bools.{same_false, differ, and-true, cond_has}
use Rattle.lists.proofs.Keeps.{keep_has}
use Rattle.lists.proofs.Rising.{Rising, rising_append, rising_keep}
use Rattle.lists.proofs.Maps.{map_twice}
use Rattle.lists.proofs.Lookups.{length_without}
use Rattle.planar_maps.specs.Map.{Arc, Dart, fwd, bwd}
use Rattle.planar_maps.specs.Pieces.{nums}
use Rattle.plane.specs.declared.Point.{Point}
use Rattle.plane.specs.Areas.{is_positive}
use Rattle.map.specs.declared.Variant.{Variant}
use Rattle.map.specs.Rows.{Node, Edge, Map, has_edge}
use Rattle.map.specs.Darts.{arcs, bears, among, ring}
use Rattle.map.specs.Faces.{encloses, ring_area}
use Rattle.map.specs.Edits.{is_new, with_face, Shares, side_of_point, side_of_ring, side_of_dart, side_of_node, with_sides}
use Rattle.map.specs.Edits.{shared_out, split_face}
use Rattle.map_laws.proofs.Readings.{edge_at, bears_row, Outline, outline_of, outlines, outline_number}
use Rattle.map_laws.proofs.Outlines.{outlines_map, counts_are}
use Rattle.map_laws.proofs.Faces.{bears_in}
use Rattle.grown.proofs.Numbers.Ranked.{Met, EndsAt, Sided, Ranked, RankedMap, ranked_shape, ranked_faces}
use Rattle.grown.proofs.Numbers.Nodes.{rising_nodes, placed_map}
use lib.ListN.{length, length-append}

-- ---- other faces in the rows

-- h changes only the sides of outlines, g only the faces of nodes that have one
pub record Refaced (ns : List Node) (os : List Outline) (fs : List ℕ) (g : Node → Node)
    (h : Outline → Outline) : Type 0 where
  pub arc : (o : Outline) → (h o).arc ≡ o.arc
  pub number : (n : Node) → (g n).number ≡ n.number
  pub bare : (n : Node) → is_some (g n).face ≡ is_some n.face
  pub inside : (n : Node) → Memᴰ n ns → (f : ℕ) → (g n).face ≡ some f → Memᴰ f fs
  pub sides : (o : Outline) → Memᴰ o os → Sided fs (h o)

pub refaced : {ns : List Node} {os : List Outline} {fs fs' : List ℕ} {a b c c' : ℕ} (g : Node → Node)
    (h : Outline → Outline) → Refaced ns os fs' g h → Rising 0 c' fs' → first_or 1 fs' ≡ 0 → Ranked ns os fs a b c
    → Ranked (map g ns) (map h os) fs' a b c'
refaced {ns} {os} {fs' = fs'} {a = a} {b = b} g h x rise z r = record {
  nodes = rising_nodes a g ns (λ n k. x.number n) r.nodes;
  edges = subst (Rising 1 b) (sym numbers) r.edges;
  faces = rise;
  zero = z;
  placed = placed_map g ns (λ n k. record {
    inside = x.inside n k;
    met = λ e. meets n ((r.placed n k).met (sym (x.bare n) ∙ e));
    bare = λ e. x.bare n ∙ (r.placed n k).bare (back n e);
  });
  sided = λ o k. let y = Memᴰ.of_map h os k in subst (Sided fs') y.2 (x.sides y.0 y.1);
  first_node = r.first_node;
  first_edge = r.first_edge;
}
  where
    numbers : map outline_number (map h os) ≡ map outline_number os
    numbers = map_twice outline_number h outline_number os (λ o k. ap (λ (y : Arc). y.num) (x.arc o))

    meets : (n : Node) → Met os n.number → Met (map h os) (g n).number
    meets n y = rw (x.number n) (h y.0, Memᴰ.map h y.1, rw (x.arc y.0) y.2)

    back : (n : Node) → Met (map h os) (g n).number → Met os n.number
    back n y =
        let o = Memᴰ.of_map h os y.1 in
        let ends : EndsAt (h o.0) (g n).number =
        subst (λ (q : Outline). EndsAt q (g n).number) (sym o.2) y.2 in
        (o.0, o.1, rw (x.arc o.0, x.number n) at ends)

-- ---- faces shared out

module _ (m : Map) (s : Shares) (dis : Distinct (nums (arcs m))) {fs : List ℕ} (ref : Memᴰ s.ref fs)
    (other : Memᴰ s.other fs)
    (rest : (f : ℕ) → Memᴰ f m.faces → f ≢ s.old → Memᴰ f fs) (r : RankedMap m) where
  side_of_point_lem : (p : Point) → Memᴰ (side_of_point m s p) fs
  unfolding side_of_point
  side_of_point_lem p = go (encloses m s.ref_ring p)
    where
      go : (b : Bool) → Memᴰ (cond b s.ref s.other) fs
      go true = ref
      go false = other

  side_of_dart_lem : (d : Dart) → Memᴰ (bears m d) m.faces → Memᴰ (side_of_dart m s d) fs
  unfolding side_of_dart side_of_ring
  side_of_dart_lem d k = go (same (bears m d) s.old) refl (among s.ref_ring d) (among s.other_ring d)
    where
      go : (p : Bool) → same (bears m d) s.old ≡ p → (q t : Bool)
          → Memᴰ (cond p (cond q s.ref (cond t s.other (side_of_ring m s d))) (bears m d)) fs
      go true e true t = ref
      go true e false true = other
      go true e false false = side_of_point_lem _
      go false e q t = rest (bears m d) k (differ (bears m d) s.old e)

  abbrev shared_node : Node → Node
  shared_node n = side_of_node m s n n.face

  abbrev shared_edge : Outline → Outline
  shared_edge o = record {
    arc = o.arc;
    left = side_of_dart m s (fwd o.arc.num);
    right = side_of_dart m s (bwd o.arc.num);
  }

  shared_refaced : Refaced m.nodes (outlines m) fs shared_node shared_edge
  shared_refaced = record {
    arc = λ o. refl;
    number = λ n. number n n.face;
    bare = λ n. bare n n.face refl;
    inside = λ n k. inside n n.face refl k;
    sides = λ o k. sides o (Memᴰ.of_map outline_of m.edges k);
  }
    where
      number : (n : Node) (o : Option ℕ) → (side_of_node m s n o).number ≡ n.number
      number n none = refl
      number n (some f) = go (same f s.old)
        where
          go : (b : Bool) → (cond b (with_face (some (side_of_point m s n.at)) n) n).number ≡ n.number
          go true = refl
          go false = refl

      bare : (n : Node) (o : Option ℕ) → n.face ≡ o → is_some (side_of_node m s n o).face ≡ is_some n.face
      bare n none e = refl
      bare n (some f) e = go (same f s.old)
        where
          go : (b : Bool) → is_some (cond b (with_face (some (side_of_point m s n.at)) n) n).face ≡ is_some n.face
          go true = sym (ap is_some e)
          go false = refl

      inside : (n : Node) (o : Option ℕ) → n.face ≡ o → Memᴰ n m.nodes → (g : ℕ) → (side_of_node m s n o).face
          ≡ some g → Memᴰ g fs
      inside n none e k g q = let z : ◌≡◌ {A = ℕ} 0 1 = cc in absurd (omega arith)
      inside n (some f) e k g q = go (same f s.old) refl q
        where
          go : (b : Bool) → same f s.old ≡ b → (cond b (with_face (some (side_of_point m s n.at)) n) n).face ≡ some g
              → Memᴰ g fs
          go true t q = let y : side_of_point m s n.at ≡ g = cc in
              subst (λ (x : ℕ). Memᴰ x fs) y (side_of_point_lem n.at)
          go false t q = let y : f ≡ g = cc in rest g ((r.placed n k).inside g q) (λ w. differ f s.old t (y ∙ w))

      sides : (o : Outline) → (x : Edge) × Memᴰ x m.edges × (outline_of x ≡ o) → Sided fs (shared_edge o)
      sides o x = subst (λ (y : Outline). Sided fs (shared_edge y)) x.2
          (side_of_dart_lem (fwd x.0.number) left, side_of_dart_lem (bwd x.0.number) right)
        where
          row : Sided m.faces (outline_of x.0)
          row = r.sided (outline_of x.0) (Memᴰ.map outline_of x.1)

          left : Memᴰ (bears m (fwd x.0.number)) m.faces
          left = Memᴰ.cast (bears_row m (fwd x.0.number) ∙ ap (λ (e : Edge). e.left) (edge_at m dis x.1))
              row.0

          right : Memᴰ (bears m (bwd x.0.number)) m.faces
          right = Memᴰ.cast (bears_row m (bwd x.0.number) ∙ ap (λ (e : Edge). e.right) (edge_at m dis x.1))
              row.1

  shared_ranked : {c : ℕ} → Rising 0 c fs → first_or 1 fs ≡ 0
      → Ranked (shared_out s m).nodes (outlines (shared_out s m)) fs m.next.nodes m.next.edges c
  unfolding shared_out
  shared_ranked rise z =
      let O : outlines (shared_out s m) ≡ map shared_edge (outlines m) =
      outlines_map (λ e. with_sides (side_of_dart m s (fwd e.number)) (side_of_dart m s (bwd e.number)) e) shared_edge
      m.edges (λ e k. refl) in
      rw O (refaced shared_node shared_edge shared_refaced rise z r)

-- ---- a face split

-- as in `split_face`: the old face goes or stays, and the reference side is left or right
abbrev pub shares_of : Bool → Bool → ℕ → ℕ → List Dart → List Dart → Shares
shares_of goes is_left old a left right = record {
  old = old;
  ref_ring = cond is_left left right;
  other_ring = cond is_left right left;
  ref = cond (is_left || not goes) a (cond goes (a + 1) old);
  other = cond (is_left || not goes) (cond goes (a + 1) old) a;
}

-- one or two new faces, and the old one gone with two
abbrev pub split_list : Bool → ℕ → ℕ → List ℕ → List ℕ
split_list goes old a fs = cond goes (keep (λ f. not (same f old)) fs ++ a ∷ cond goes (a + 1) old ∷ []) (fs ++ a ∷ [])

module _ (old a : ℕ) (fs : List ℕ) (k : Memᴰ old fs) where
  split_rising : (goes : Bool) → Rising 0 a fs → Rising 0 (a + cond goes 2 1) (split_list goes old a fs)
  split_rising true r =
      subst (λ (n : ℕ). Rising 0 n (keep (λ f. not (same f old)) fs ++ a ∷ (a + 1) ∷ [])) (twice a)
      (subst (Rising 0 (a + 1 + 1)) (append_assoc (keep (λ f. not (same f old)) fs) (a ∷ []) ((a + 1) ∷ []))
      (rising_append 0 (a + 1) (keep (λ f. not (same f old)) fs ++ a ∷ []) (omega arith)
      (rising_append 0 a (keep (λ f. not (same f old)) fs) (omega arith)
      (rising_keep 0 a (λ f. not (same f old)) fs r))))
    where
      twice : (n : ℕ) → n + 1 + 1 ≡ n + 2
      twice n = omega arith
  split_rising false r = rising_append 0 a fs (omega arith) r

  new_in : (goes : Bool) → Memᴰ a (split_list goes old a fs)
  new_in true = Memᴰ.append_right (keep (λ f. not (same f old)) fs) (Memᴰ.head refl)
  new_in false = Memᴰ.append_right fs (Memᴰ.head refl)

  second_in : (goes : Bool) → Memᴰ (cond goes (a + 1) old) (split_list goes old a fs)
  second_in true = Memᴰ.append_right (keep (λ f. not (same f old)) fs) (Memᴰ.tail (Memᴰ.head refl))
  second_in false = Memᴰ.append_left (a ∷ []) k

  rest_in : (goes : Bool) (f : ℕ) → Memᴰ f fs → f ≢ old → Memᴰ f (split_list goes old a fs)
  rest_in true f j ne = Memᴰ.append_left (a ∷ (a + 1) ∷ [])
      (keep_has (λ f. not (same f old)) fs j (ap not (same_false f old ne)))
  rest_in false f j ne = Memᴰ.append_left (a ∷ []) j

  pub split_count : Distinct fs → (goes : Bool) → length (split_list goes old a fs) ≡ suc (length fs)
  split_count dis true = omega (
    arith,
    length-append (keep (λ f. not (same f old)) fs) (a ∷ (a + 1) ∷ []),
    length_without old fs dis k,
  )
  split_count dis false = omega (arith, length-append fs (a ∷ []))

-- face 0 stays in front
pub first_append : (fs gs : List ℕ) → first_or 1 fs ≡ 0 → first_or 1 (fs ++ gs) ≡ 0
first_append [] gs e = absurd (omega arith)
first_append (f ∷ fs) gs e = e

pub first_keep : (p : ℕ → Bool) (fs : List ℕ) → p 0 ≡ true → first_or 1 fs ≡ 0 → first_or 1 (keep p fs) ≡ 0
first_keep p [] h e = absurd (omega arith)
first_keep p (f ∷ fs) h e = rw (ap p e ∙ h) e

split-zero : (goes : Bool) (old a : ℕ) (fs : List ℕ) → (goes ≡ true → old ≢ 0) → first_or 1 fs ≡ 0
    → first_or 1 (split_list goes old a fs) ≡ 0
split-zero true old a fs h e = first_append (keep (λ f. not (same f old)) fs) (a ∷ (a + 1) ∷ [])
    (first_keep (λ f. not (same f old)) fs (ap not (same_false 0 old (λ q. h refl (sym q)))) e)
split-zero false old a fs h e = first_append fs (a ∷ []) e

pub split_face_ranked : (how : Variant) (e : ℕ) (m : Map) → Distinct (nums (arcs m)) → has_edge m e ≡ true → RankedMap m
    → RankedMap (split_face how e m)
unfolding split_face shared_out
split_face_ranked how e m dis h r =
    let old = bears m (fwd e) in
    let a = m.next.faces in
    let goes = is_new how && not (same old 0) in
    let k = bears_in m (fwd e) h (ranked_faces m r) in
    let is_left = is_positive (sgn (ring_area m (ring m (fwd e)))) in
    let s = shares_of goes is_left old a (ring m (fwd e)) (ring m (bwd e)) in
    ranked_shape {m = split_face how e m}
    (record {
      nodes = refl;
      outlines = refl;
      faces = refl;
      next = counts_are (add-zero m.next.nodes) (add-zero m.next.edges) refl;
    })
    (shared_ranked m s dis {fs = split_list goes old a m.faces}
    (cond_has (λ (f : ℕ). Memᴰ f (split_list goes old a m.faces)) (is_left || not goes)
    (new_in old a m.faces k goes) (second_in old a m.faces k goes))
    (cond_has (λ (f : ℕ). Memᴰ f (split_list goes old a m.faces)) (is_left || not goes)
    (second_in old a m.faces k goes) (new_in old a m.faces k goes))
    (rest_in old a m.faces k goes)
    r
    (split_rising old a m.faces k goes r.faces)
    (split-zero goes old a m.faces (λ g. differ old 0
    (not-true (same old 0) (and-true (is_new how) (not (same old 0)) g).1)) r.zero))
