-- After the rows of a ticket are edited its tables are those of the map but for rectangles; with the rectangles of the
-- faces set that it affects they are those of the map. Assumes nothing.
use Rattle.std.specs.Prelude.{Option, Some, None}
use mathlib.Core.Path.{◌≡◌, refl, sym, ap, ◌∙◌, subst}
use mathlib.Core.Bool.{Bool, true, false, cond, true≢false}
use mathlib.Core.Logic.{inl, inr}
use mathlib.Core.List.Memᴰ
use mathlib.Core.List.{List, [], ◌∷◌, ◌++◌, map, flat_map, Memᴰ}
use Prim.Native.Nat.{ℕ, zero, suc, ◌+◌, ◌*◌, ◌-◌, ◌≤◌}
use native.Mathlib.Omega.{arith}
use lib.IntN.{ℤ, pos, nat_abs}
use lib.ListN.{length, replicate, length-append, length-replicate}
use lib.Signed.{non_neg}
use Rattle.lists.specs.Tests.{same}
use Rattle.lists.specs.Scans.{any_of}
use Rattle.lists.specs.Tables.{place}
use Rattle.lists.proofs.Bools.{which, same_refl}
use Rattle.lists.proofs.Members.{all_of_lem, some_any}
use Rattle.lists.proofs.Maps.{map_twice}
use Rattle.tables.specs.Tables.{same_z, column, filled}
use Rattle.tables.proofs.Filled.{Wide, flat_length, each_row}
use Rattle.curves.specs.Curves.{points}
use Rattle.bounding_boxes.specs.declared.Extent.{Extent}
use Rattle.map.specs.declared.Head.{Head}
use Rattle.map.specs.Limits.{node_width, edge_width, face_width}
use Rattle.map.specs.Rows.{Edge, Map, Lent, Sizes, map_of, lent_of, lent_with, lent, sizes_of, head_of, edge_of, edge_cells}
use Rattle.map.specs.Rows.{node_cells, face_cells, borders, rectangle}
use Rattle.map.specs.Form.{edge_ranges}
use Rattle.map.specs.Tickets.{Ticket}
use Rattle.map.specs.Ticket.{carried}
use Rattle.map.proofs.RoundTrip.{Stored, edge-wide, faces_wide, curve_read_lem, ranged_curves}
use Rattle.map.proofs.Laws.{in_form_is}
use Rattle.map_rows.specs.Rows.{edges_of, edges_alone, faces_in, EdgesInRange}
use Rattle.outcomes.specs.Outcomes.{Formed, reason_against}
use Rattle.outcomes.proofs.Formed.{formed-map, lent_is}
use Rattle.rectangles.proofs.FaceRows.{faces_agree}
use Rattle.rectangles.proofs.Settings.{rectangle-zero}
use Rattle.grown.proofs.Ranges.{edge_ranges_lem}
use Rattle.affected_faces.proofs.Stretches.{stretch_of, along, same-rectangle}
use Rattle.affected_faces.proofs.Kept.{rectangles_kept}
use Rattle.affected_faces.proofs.Stored.{carried_stored}
use Rattle.edit_rectangles.specs.declared.Affected.{Affected}
use Rattle.edit_rectangles.specs.declared.FacePair.{FacePair}
use Rattle.edit_rectangles.specs.FacePairs.{no_pair, pair_found, pair_named, pair_last, both, affected_after, AreFaces}
use Rattle.edit_rectangles.specs.FacePairs.{listed, set_all, set_four}
use Rattle.edit_rectangles.proofs.Set.{four_set}
use Rattle.edit_rectangles.proofs.Named.{rows_back}
use Rattle.edit_rectangles.proofs.Covers.{named_edges, draws, named_pairs, covers}

-- ---- the four are face numbers

abbrev Natural : FacePair → Type 0
Natural s = (s.left ≡ pos (nat_abs s.left)) × (s.right ≡ pos (nat_abs s.right))

both_faces : {s u : FacePair} → Natural s → Natural u → AreFaces (both s u)
both_faces a b = record { first = a.0; second = a.1; third = b.0; fourth = b.1 }

named-natural : (l : List ℤ) (n : ℕ) (z : ℤ) → Natural (pair_named l n z)
named-natural l n z = go (place (same_z z) 0 (column edge_width l n))
  where
    go : (p : Option ℕ) → Natural (pair_found l p)
    go (Some i) = (refl, refl)
    go None = (refl, refl)

last_natural : (l : List ℤ) (n : ℕ) → Natural (pair_last l n)
last_natural l zero = (refl, refl)
last_natural l (suc n) = (refl, refl)

pub named_faces : (l : List ℤ) (n : ℕ) (es : List ℤ) → AreFaces (named_pairs l n es)
named_faces l n [] = both_faces (refl, refl) (refl, refl)
named_faces l n (e ∷ []) = both_faces (named-natural l n e) (refl, refl)
named_faces l n (e ∷ f ∷ r) = both_faces (named-natural l n e) (named-natural l n f)

pub after_faces : (b : Bool) (l : List ℤ) (h h' : Head) (a : Affected) → AreFaces a
    → h.next_face ≡ pos (nat_abs h.next_face) → AreFaces (affected_after b l h h' a)
after_faces true l h h' a k n = both_faces (last_natural l (nat_abs h'.edges)) (refl, refl)
after_faces false l h h' a k n = go (same_z h'.next_face h.next_face)
  where
    go : (b : Bool) → AreFaces (cond b a (both (record { left = h.next_face; right = pos 0 }) no_pair))
    go true = k
    go false = both_faces (n, refl) (refl, refl)

-- ---- rows filled with zeros behind

filled-least : (n : ℕ) (l : List ℤ) → length l ≤ length (filled n l)
filled-least n l = let e = length-append l (replicate (n - length l) (pos 0)) in omega arith

-- as long as another list's
filled_alike : (n : ℕ) (k l : List ℤ) → length k ≡ length l → filled (length (filled n k)) l ≡ filled n l
filled_alike n k l e =
    let a = length-append k (replicate (n - length k) (pos 0)) in
    let b = length-replicate (n - length k) (pos 0) in
    let rest : length (filled n k) - length l ≡ n - length l = omega arith in
    ap (λ (i : ℕ). l ++ replicate i (pos 0)) rest

-- ---- the edges read again give the same rectangles

abbrev again : Edge → Edge
again e = edge_of (edge_cells e)

stretch_again : (f : ℕ) (e : Edge) → stretch_of f (again e) ≡ stretch_of f e
unfolding edge_of edge_cells
stretch_again f e = λ i. record { number = e.number; part = cond (borders f e) (points (curve_read_lem e i)) [] }

rectangle_again : (es : List Edge) (f : ℕ) → rectangle (map again es) f ≡ rectangle es f
rectangle_again es f = same-rectangle f (edges_alone es) (edges_alone (map again es))
    (ap along (map_twice (stretch_of f) again (stretch_of f) es (λ e k. stretch_again f e)))

-- ---- the tables after the rows are edited

module _ {nodes edges faces : List ℤ} {h : Head} (F : Formed nodes edges faces h) (k : Ticket)
    (none : reason_against (lent nodes edges faces h) k ≡ 0) where
  abbrev l : Lent
  l = lent nodes edges faces h

  abbrev m : Map
  m = map_of l

  abbrev s : Sizes
  s = sizes_of l

  abbrev m' : Map
  m' = (carried m k).0

  -- the rectangles before, and after
  abbrev old : ℕ → Extent
  old = rectangle m.edges

  abbrev new : ℕ → Extent
  new = rectangle m'.edges

  stored : (e : Edge) → Memᴰ e m'.edges → Stored e.curve
  stored = carried_stored s m k (formed-map F) (ranged_curves l (in_form_is l F.in_form).ranged) none

  wide : Wide edge_width edge_cells m'.edges
  wide = all_of_lem m'.edges (λ e j. edge-wide e (stored e j).most)

  module _ {nodes' edges' faces' : List ℤ} {h' : Head}
      (left : lent_with old s m' ≡ lent nodes' edges' faces' h') where
    head : head_of s.limit m' ≡ h'
    unfolding lent_with
    head = ap (λ (x : Lent). x.head) left

    node_cells_lem : filled (s.nodes * node_width) (flat_map node_cells m'.nodes) ≡ nodes'
    unfolding lent_with
    node_cells_lem = ap (λ (x : Lent). x.nodes) left

    cells : filled (s.edges * edge_width) (flat_map edge_cells m'.edges) ≡ edges'
    unfolding lent_with
    cells = ap (λ (x : Lent). x.edges) left

    face_cells_lem : faces_in (s.faces * face_width) old m'.faces ≡ faces'
    unfolding lent_with
    face_cells_lem = ap (λ (x : Lent). x.faces) left

    edges_many : length m'.edges ≡ nat_abs h'.edges
    edges_many = ap (λ (x : Head). nat_abs x.edges) head

    faces_many : length m'.faces ≡ nat_abs h'.faces
    faces_many = ap (λ (x : Head). nat_abs x.faces) head

    pub edges_natural : non_neg h'.edges ≡ true
    edges_natural = sym (ap (λ (x : Head). non_neg x.edges) head)

    pub faces_natural : non_neg h'.faces ≡ true
    faces_natural = sym (ap (λ (x : Head). non_neg x.faces) head)

    pub edges_in : EdgesInRange edges' (nat_abs h'.edges)
    edges_in = subst (EdgesInRange edges') edges_many
        (subst (λ (x : List ℤ). EdgesInRange x (length m'.edges)) cells (
        record {
          fits = let a = filled-least (s.edges * edge_width) (flat_map edge_cells m'.edges) in
              let b = flat_length edge_width edge_cells m'.edges wide in
              omega arith;
          ranges = each_row edge_width edge_cells edge_ranges m'.edges _ wide (λ e j. edge_ranges_lem e (stored e j));
        }))

    pub faces_fit : nat_abs h'.faces * face_width ≤ length faces'
    faces_fit =
        let a = filled-least (s.faces * face_width) (flat_map (face_cells old) m'.faces) in
        let b = flat_length face_width (face_cells old) m'.faces (faces_wide old m'.faces) in
        let c = ap length face_cells_lem in
        let d = faces_many in
        omega arith

    alike : (box : ℕ → Extent) → length (flat_map (face_cells old) m'.faces)
        ≡ length (flat_map (face_cells box) m'.faces)
    alike box = flat_length face_width (face_cells old) m'.faces (faces_wide old m'.faces)
        ∙ sym (flat_length face_width (face_cells box) m'.faces (faces_wide box m'.faces))

    long : (box : ℕ → Extent) → faces_in (length faces') box m'.faces ≡ faces_in (s.faces * face_width) box m'.faces
    long box = ap (λ (x : List ℤ). faces_in (length x) box m'.faces) (sym face_cells_lem)
        ∙ filled_alike (s.faces * face_width) (flat_map (face_cells old) m'.faces)
        (flat_map (face_cells box) m'.faces) (alike box)

    old_faces : faces_in (length faces') old m'.faces ≡ faces'
    old_faces = long old ∙ face_cells_lem

    -- ---- with the rectangles set

    -- the faces whose rectangles are set
    abbrev after : Affected
    after = affected_after (draws k) edges' h h' (named_pairs edges (nat_abs h.edges) (named_edges k))

    abbrev set_faces_lem : List ℕ
    set_faces_lem = listed after

    -- the rectangles of the edges read
    abbrev read : ℕ → Extent
    read = rectangle (edges_of edges' (nat_abs h'.edges))

    rectangle_now : (f : ℕ) → read f ≡ new f
    rectangle_now f = ap (λ (n : ℕ). rectangle (edges_of edges' n) f) (sym edges_many)
        ∙ ap (λ (es : List Edge). rectangle es f) (rows_back m'.edges wide (s.edges * edge_width) cells)
        ∙ rectangle_again m'.edges f

    -- a face that is not set keeps the rectangle that it had
    kept : (f : ℕ) → Memᴰ f m'.faces → any_of (same f) set_faces_lem ≡ false → old f ≡ new f
    kept zero j q = rectangle-zero m.edges ∙ sym (rectangle-zero m'.edges)
    kept (suc f) j q = sym (rectangles_kept s m k (formed-map F) none (suc f) j (λ a.
        not_covered (covers F s (s.edges * edge_width) (suc f) k none head wide cells j a)))
      where
        not_covered : Memᴰ (suc f) (0 ∷ set_faces_lem) → ⊥
        not_covered c = elim (Memᴰ.cases_cons c) [
          | inl e ↦ omega arith
          | inr i ↦ true≢false (sym (some_any (same (suc f)) set_faces_lem i (same_refl (suc f))) ∙ q)
        ]

    set_is : (f : ℕ) → Memᴰ f m'.faces
        → set_all set_faces_lem read old f ≡ new f
    set_is f j = elim (which (any_of (same f) set_faces_lem)) [
      | inl q ↦ rw q (rectangle_now f)
      | inr q ↦ rw q (kept f j q)
    ]

    pub settled : {faces'' : List ℤ} → faces'' ≡ set_four (nat_abs h'.faces) read after faces'
        → lent_of s m' ≡ lent nodes' edges' faces'' h'
    settled e =
        let zero : read 0 ≡ old 0 = rectangle-zero _ ∙ sym (rectangle-zero m.edges) in
        lent_is new s m' node_cells_lem cells
        (sym (long new) ∙ sym (faces_agree (length faces') (set_all set_faces_lem read old) new m'.faces set_is)
        ∙ four_set (length faces') read old after m'.faces faces_many zero old_faces ∙ sym e) head
