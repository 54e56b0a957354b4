-- Two faces healed: the tables after it are those of the map with both faces renamed. Assumes nothing.
use mathlib.Core.Path.{◌≡◌, refl, sym, ap, ◌∙◌}
use mathlib.Core.Bool.{Bool, true, false, cond, not, ◌&&◌, ◌||◌}
use mathlib.Core.Logic.{inl, inr}
use mathlib.Core.List.{List, [], ◌∷◌, ◌++◌, flat_map}
use Prim.Native.Nat.{ℕ, ◌+◌, min}
use native.Mathlib.Nat.{min_comm, min-eq_left}
use native.Mathlib.Omega.{arith}
use lib.Dec.{ltb}
use lib.IntN.{ℤ, pos, nat_abs}
use lib.ListN.{length, length-append, length-map}
use lib.Signed.{lt_z}
use borrow.Author.Tests.{ltb-true, ltb-false}
use Rattle.lists.specs.Tests.{same, bit}
use Rattle.lists.specs.Scans.{any_of, keep}
use Rattle.lists.proofs.Bools.{which, same_true, same_refl, same_false}
use Rattle.tables.specs.Tables.{filled}
use Rattle.bounding_boxes.specs.declared.Extent.{Extent}
use Rattle.map.specs.declared.Head.{Head}
use Rattle.map.specs.Limits.{limit_of}
use Rattle.map.specs.Rows.{Edge, map_of, head_of, node_cells, edge_cells, counts, lent}
use Rattle.map.specs.Edits.{renamed, renamed_node, renamed_faces, with_sides}
use Rattle.map_rows.specs.Rows.{nodes_of, edges_of, faces_of, faces_in}
use Rattle.map_rows.proofs.Rows.{nodes_length, edges_length, faces_length}
use Rattle.head.specs.Heads.{changed_head}
use Rattle.head.proofs.Heads.{head_changed}
use Rattle.face_rows.specs.Holds.{FaceTable, without_face, Healable, TablesOf, heal_faces, face_kept}
use Rattle.face_rows.specs.Holds.{merged_sides}
use Rattle.face_rows.proofs.FaceRows.{table_distinct, without_length, two_less}

-- ---- the map that is lent

module _ (nodes edges faces : List ℤ) (h : Head) where
  pub map_nodes : (map_of (lent nodes edges faces h)).nodes ≡ nodes_of nodes (nat_abs h.nodes)
  unfolding map_of
  map_nodes = refl

  pub map_edges : (map_of (lent nodes edges faces h)).edges ≡ edges_of edges (nat_abs h.edges)
  unfolding map_of
  map_edges = refl

  pub map_next : (map_of (lent nodes edges faces h)).next.faces ≡ nat_abs h.next_face
  unfolding map_of
  map_next = refl

-- ---- the faces that stay

keep_twice : (p q : ℕ → Bool) (fs : List ℕ) → keep p (keep q fs) ≡ keep (λ g. q g && p g) fs
keep_twice p q [] = refl
keep_twice p q (f ∷ fs) =
    let later = keep_twice p q fs in
    elim (which (q f)) [
      | inl e ↦ elim (which (p f)) [ inl k ↦ rw (e, k) (ap (λ (r : List ℕ). f ∷ r) later) | inr k ↦ rw (e, k) later ]
      | inr e ↦ rw e later
    ]

module _ (l r : ℕ) (ne : l ≡ r → ⊥) where
  -- a new face: both go
  new_stays : (f g : ℕ) → (l ≡ f → ⊥) → (r ≡ f → ⊥) → same g (cond (same g l || same g r) f g) ≡ not (same g l)
      && not (same g r)
  new_stays f g nl nr =
      elim (which (same g l)) [
        | inl e ↦ rw e (same_false g f (λ q. nl (sym (same_true g l e) ∙ q)))
        | inr e ↦ elim (which (same g r)) [
          | inl k ↦ rw (e, k)
              (same_false g f (λ q. nr (sym (same_true g r k) ∙ q)))
          | inr k ↦ rw (e, k) (same_refl g)
        ]
      ]

  -- the left one stays
  left_stays : (g : ℕ) → same g (cond (same g l || same g r) l g) ≡ not (same g r)
  left_stays g =
      elim (which (same g l)) [
        | inl e ↦ rw e (e ∙ ap not (sym (same_false g r (λ q. ne (sym (same_true g l e) ∙ q)))))
        | inr e ↦ elim (which (same g r)) [ inl k ↦ rw (e, k) e | inr k ↦ rw (e, k) (same_refl g) ]
      ]

  -- the right one stays
  right_stays : (g : ℕ) → same g (cond (same g l || same g r) r g) ≡ not (same g l)
  right_stays g =
      elim (which (same g l)) [
        | inl e ↦ rw e (same_false g r (λ q. ne (sym (same_true g l e) ∙ q)))
        | inr e ↦ elim (which (same g r)) [ inl k ↦ rw (e, k) k | inr k ↦ rw (e, k) (same_refl g) ]
      ]

  -- the lower one stays
  low_stays : (fs : List ℕ) → keep (λ g. same g (cond (same g l || same g r) (min l r) g)) fs
      ≡ without_face (nat_abs (cond (lt_z (pos l) (pos r)) (pos r) (pos l))) fs
  low_stays fs =
      elim (which (ltb l r)) [
        | inl e ↦
            let h = ltb-true l r e in
            let low : min l r ≡ l = min-eq_left (omega arith) in
            rw (e, low) (λ i. keep (λ g. left_stays g i) fs)
        | inr e ↦
            let h = ltb-false l r e in
            let low : min l r ≡ r = min_comm l r ∙ min-eq_left (omega arith) in
            rw (e, low) (λ i. keep (λ g. right_stays g i) fs)
      ]

  pub stays : (makes : Bool) (next : ℕ) (fs : List ℕ) → (l ≡ next → ⊥) → (r ≡ next → ⊥)
      → cond makes (keep (λ g. same g (cond (same g l || same g r) (cond makes next (min l r)) g)) fs
      ++ cond makes next (min l r) ∷ [])
      (keep (λ g. same g (cond (same g l || same g r) (cond makes next (min l r)) g)) fs)
      ≡ heal_faces makes (pos l) (pos r) (cond makes next (min l r)) fs
  stays true next fs nl nr = ap (λ (gs : List ℕ). gs ++ next ∷ [])
      ((λ i. keep (λ g. new_stays next g nl nr i) fs) ∙ sym (keep_twice (λ g. not (same g r)) (λ g. not (same g l)) fs))
  stays false next fs nl nr = low_stays fs

-- one face less either way
high_there : (l r : ℕ) (fs : List ℕ) → any_of (same l) fs ≡ true → any_of (same r) fs ≡ true
    → any_of (same (nat_abs (cond (lt_z (pos l) (pos r)) (pos r) (pos l)))) fs ≡ true
high_there l r fs hl hr = elim (which (ltb l r)) [ inl e ↦ rw e hr | inr e ↦ rw e hl ]

one_less : (makes : Bool) (l r f : ℕ) {N : ℕ} {box : ℕ → Extent} {fs : List ℕ} {t : List ℤ} → FaceTable N box fs t
    → (l ≡ r → ⊥) → any_of (same l) fs ≡ true → any_of (same r) fs ≡ true
    → length (heal_faces makes (pos l) (pos r) f fs) + 1 ≡ length fs
one_less true l r f {fs = fs} t ne hl hr =
    omega (arith, length-append (without_face r (without_face l fs)) (f ∷ []), two_less t l r ne hl hr)
one_less false l r f {fs = fs} t ne hl hr =
    without_length (nat_abs (cond (lt_z (pos l) (pos r)) (pos r) (pos l))) fs (table_distinct t) (high_there l r fs hl hr)

module _ {nodes edges faces : List ℤ} {h : Head} {left right : ℤ} (p : Healable nodes edges faces h left right)
    (row : Edge) (el : row.left ≡ nat_abs left) (er : row.right ≡ nat_abs right) (makes : Bool) where
  -- the row's sides are left and right
  row_left : pos row.left ≡ left
  row_left = ap pos el ∙ sym p.left_face

  row_right : pos row.right ≡ right
  row_right = ap pos er ∙ sym p.right_face

  sides_differ : row.left ≡ row.right → ⊥
  sides_differ e = p.differ (sym el ∙ e ∙ er)

  there_left : any_of (same row.left) (faces_of faces (nat_abs h.faces)) ≡ true
  there_left = ap (λ (k : ℕ). any_of (same k) (faces_of faces (nat_abs h.faces))) el ∙ p.left_there

  there_right : any_of (same row.right) (faces_of faces (nat_abs h.faces)) ≡ true
  there_right = ap (λ (k : ℕ). any_of (same k) (faces_of faces (nat_abs h.faces))) er ∙ p.right_there

  -- the faces in the terms of the tables
  abbrev faces_left : List ℕ
  faces_left = heal_faces makes (pos row.left) (pos row.right)
      (face_kept makes row (map_of (lent nodes edges faces h))) (faces_of faces (nat_abs h.faces))

  faces_are : (merged_sides makes row (map_of (lent nodes edges faces h))).faces ≡ faces_left
  unfolding map_of
  faces_are =
      stays row.left row.right sides_differ makes (nat_abs h.next_face) (faces_of faces (nat_abs h.faces))
      (λ e. let k = p.left_below in let j = el in omega arith)
      (λ e. let k = p.right_below in let j = er in omega arith)

  pub merged_head : head_of (limit_of h.points) (merged_sides makes row (map_of (lent nodes edges faces h)))
      ≡ changed_head h (counts 0 0 0) (counts 0 0 1) (counts 0 0 (bit makes))
  unfolding map_of renamed_faces
  merged_head =
      let ns = nodes_of nodes (nat_abs h.nodes) in
      let es = edges_of edges (nat_abs h.edges) in
      let f = face_kept makes row (map_of (lent nodes edges faces h)) in
      let long = faces_length faces (nat_abs h.faces) in
      let n = length-map ns (λ n. renamed_node row f n n.face) ∙ nodes_length nodes (nat_abs h.nodes) in
      let e = length-map es (λ r. with_sides (renamed row f r.left) (renamed row f r.right) r)
      ∙ edges_length edges (nat_abs h.edges) in
      let k = ap length faces_are in
      let less = one_less makes row.left row.right f p.held.face_table.2 sides_differ there_left
      there_right in
      head_changed h (merged_sides makes row (map_of (lent nodes edges faces h))) (counts 0 0 0) (counts 0 0 1)
      (counts 0 0 (bit makes)) p.held.counted.recorded (omega (arith, n)) (omega (arith, e))
      (omega (arith, k, less, long)) refl refl refl

  -- what the functions below leave, in the map's terms
  pub healed_holds : (box : ℕ → Extent) (f : ℕ) → f ≡ face_kept makes row (map_of (lent nodes edges faces h))
      → (nodes' edges' faces' : List ℤ) (h' : Head)
      → filled (length nodes) (flat_map node_cells (renamed_faces row f (map_of (lent nodes edges faces h))).nodes)
      ≡ nodes'
      → filled (length edges) (flat_map edge_cells (renamed_faces row f (map_of (lent nodes edges faces h))).edges)
      ≡ edges'
      → faces_in (length faces) box (heal_faces makes left right f (faces_of faces (nat_abs h.faces))) ≡ faces'
      → h' ≡ changed_head h (counts 0 0 0) (counts 0 0 1) (counts 0 0 (bit makes))
      → TablesOf box nodes edges faces h (merged_sides makes row (map_of (lent nodes edges faces h))) nodes' edges' faces'
      h'
  healed_holds box f ef nodes' edges' faces' h' en ee efs eh =
      let m = map_of (lent nodes edges faces h) in
      record {
        node_cells_lem = ap (λ (k : ℕ). filled (length nodes) (flat_map node_cells (renamed_faces row k m).nodes)) (sym ef)
            ∙ en;
        edge_cells_lem = ap (λ (k : ℕ). filled (length edges) (flat_map edge_cells (renamed_faces row k m).edges)) (sym ef)
            ∙ ee;
        face_cells =
            ap (faces_in (length faces) box) faces_are
            ∙ (λ i. faces_in (length faces) box (heal_faces makes (row_left i) (row_right i) (sym ef i)
            (faces_of faces (nat_abs h.faces))))
            ∙ efs;
        head = merged_head ∙ sym eh;
      }
