-- The faces whose rectangles are set after a ticket are all that it affects. Assumes nothing.
use mathlib.Core.Path.{◌≡◌, refl, sym, ap, ap₂, ◌∙◌, subst}
use mathlib.Core.Bool.{Bool, true, false, cond, ◌||◌}
use mathlib.Core.Logic.{◌≢◌, inl, inr}
use mathlib.Core.List.Memᴰ
use mathlib.Core.List.{List, [], ◌∷◌, ◌++◌, flat_map, Memᴰ}
use Prim.Native.Nat.{ℕ, zero, suc, ◌+◌, ◌<◌}
use native.Mathlib.Nat.{add-zero}
use native.Mathlib.Omega.{arith}
use lib.Dec.{lit<}
use lib.IntN.{ℤ, pos, nat_abs}
use lib.ListN.{length}
use Rattle.lists.specs.Tests.{same, bit}
use Rattle.lists.specs.Scans.{keep}
use Rattle.lists.proofs.Bools.{same_true, same_eq, or-false, or_right}
use Rattle.lists.proofs.Keeps.{keep_in}
use Rattle.tables.specs.Tables.{filled}
use Rattle.tables.proofs.Filled.{Wide}
use Rattle.tables.proofs.Order.{is_same, not_same}
use Rattle.plane.specs.declared.Point.{Point}
use Rattle.curves.specs.Curves.{Curve, point}
use Rattle.map.specs.declared.Head.{Head}
use Rattle.map.specs.declared.Variant.{Variant}
use Rattle.map.specs.declared.Variant.TheVariants.{New, Mod}
use Rattle.map.specs.Limits.{PointLimit, limit_of, edge_width}
use Rattle.map.specs.Rows.{Edge, Map, Sizes, edge, map_of, lent, edge_cells, head_of}
use Rattle.map.specs.Tickets.{Ticket, AddIsoNode, MoveIsoNode, RemoveIsoNode, AddIsoEdge, RemoveIsoEdge, ChangeEdgeGeom}
use Rattle.map.specs.Tickets.{NewEdgesSplit, ModEdgeSplit, NewEdgeHeal, ModEdgeHeal, AddEdgeNewFaces, AddEdgeModFace}
use Rattle.map.specs.Tickets.{RemEdgeNewFace, RemEdgeModFace}
use Rattle.map.specs.Edits.{remove_iso_edge, change_edge_geom, split, heal, remove_edge, renamed_faces, renamed, makes_face}
use Rattle.map.specs.Edits.{face_left}
use Rattle.map.specs.Rows.{at_edge}
use Rattle.map_rows.specs.Rows.{edge_at}
use Rattle.map.specs.Reasons.{Reasons, first_reason, reasons, no_edge, curve_in}
use Rattle.map.specs.Ticket.{carried}
use Rattle.map.proofs.Reasons.{first_zero}
use Rattle.map.proofs.Laws.{face_below}
use Rattle.map_laws.proofs.Outlines.{undrawn-next}
use Rattle.outcomes.specs.Outcomes.{Formed}
use Rattle.outcomes.proofs.Formed.{counted, formed-map}
use Rattle.affected_faces.specs.Affected.{faces_beside, faces_beside_last, affected}
use Rattle.edit_rectangles.specs.declared.Affected.{Affected}
use Rattle.edit_rectangles.specs.FacePairs.{no_pair, pair_of, pair_named, pair_last, both, affected_after, listed}
use Rattle.edit_rectangles.proofs.Named.{pair_named_lem, last_pair}

-- the edges that a ticket names, and whether it draws one
abbrev pub named_edges : Ticket → List ℤ
named_edges (AddIsoNode f x y) = []
named_edges (MoveIsoNode n x y) = []
named_edges (RemoveIsoNode n) = []
named_edges (AddIsoEdge u v c) = []
named_edges (RemoveIsoEdge e) = e ∷ []
named_edges (ChangeEdgeGeom e c) = e ∷ []
named_edges (NewEdgesSplit e x y) = e ∷ []
named_edges (ModEdgeSplit e x y) = e ∷ []
named_edges (NewEdgeHeal e f) = e ∷ f ∷ []
named_edges (ModEdgeHeal e f) = e ∷ f ∷ []
named_edges (AddEdgeNewFaces u v c) = []
named_edges (AddEdgeModFace u v c) = []
named_edges (RemEdgeNewFace e) = e ∷ []
named_edges (RemEdgeModFace e) = e ∷ []

abbrev pub draws : Ticket → Bool
draws (AddIsoNode f x y) = false
draws (MoveIsoNode n x y) = false
draws (RemoveIsoNode n) = false
draws (AddIsoEdge u v c) = true
draws (RemoveIsoEdge e) = false
draws (ChangeEdgeGeom e c) = false
draws (NewEdgesSplit e x y) = false
draws (ModEdgeSplit e x y) = false
draws (NewEdgeHeal e f) = false
draws (ModEdgeHeal e f) = false
draws (AddEdgeNewFaces u v c) = true
draws (AddEdgeModFace u v c) = true
draws (RemEdgeNewFace e) = false
draws (RemEdgeModFace e) = false

-- the sides of the edges named
abbrev pub named_pairs : List ℤ → ℕ → List ℤ → Affected
named_pairs l n [] = both no_pair no_pair
named_pairs l n (e ∷ []) = both (pair_named l n e) no_pair
named_pairs l n (e ∷ f ∷ r) = both (pair_named l n e) (pair_named l n f)

-- face 0 or one of four
abbrev pub Covered : ℕ → Affected → Type 0
Covered f a = Memᴰ f (0 ∷ listed a)

-- the faces on an edge's sides are covered
one-edge : (r : Edge) (f : ℕ) → Memᴰ f (faces_beside r) → Covered f (both (pair_of r) no_pair)
one-edge r f k = Memᴰ.tail (Memᴰ.append_left (0 ∷ 0 ∷ []) k)

two_edges : (r q : Edge) (f : ℕ) → Memᴰ f (faces_beside r ++ faces_beside q) → Covered f (both (pair_of r) (pair_of q))
two_edges r q f k = Memᴰ.tail k

-- a side of an edge is one of its two
side : (f : ℕ) (r : Edge) → Memᴰ f (faces_beside r) → same f r.left || same f r.right ≡ true
side f r k = elim (Memᴰ.cases_cons k) [
  | inl x ↦ rw (same_eq f r.left x)
  | inr j ↦ or_right (same f r.left) (same f r.right) (same_eq f r.right (Memᴰ.eq_of_singleton j))
]

module _ {nodes edges faces : List ℤ} {h : Head} (F : Formed nodes edges faces h) where
  abbrev m : Map
  m = map_of (lent nodes edges faces h)

  -- the record of points, which stays
  abbrev limit : PointLimit
  limit = limit_of h.points

  next_is : m.next.faces ≡ nat_abs h.next_face
  unfolding map_of
  next_is = refl

  -- ---- the next face stayed, or rose

  module _ (edges' : List ℤ) {h' : Head} (m' : Map) (head : head_of limit m' ≡ h') (a : Affected) where
    after_same : m'.next.faces ≡ m.next.faces → affected_after false edges' h h' a ≡ a
    after_same e =
        let is : h'.next_face ≡ h.next_face = sym (ap (λ (x : Head). x.next_face) head)
        ∙ ap pos (e ∙ next_is) ∙ sym (counted F).next_face.natural in
        rw (is_same h'.next_face h.next_face is)

    after-made : m'.next.faces ≢ m.next.faces
        → affected_after false edges' h h' a ≡ both (record { left = h.next_face; right = pos 0 }) no_pair
    after-made ne =
        rw (not_same h'.next_face h.next_face (λ e. ne (ap nat_abs (ap (λ (x : Head). x.next_face) head ∙ e)
        ∙ sym next_is)))

  -- ---- one edge named, or two, and no face made

  module _ (edges' : List ℤ) {h' : Head} (m' : Map) (head : head_of limit m' ≡ h')
      (stays : m'.next.faces ≡ m.next.faces) (f : ℕ) where
    by_one : (e : ℤ) → no_edge m e ≡ false → Memᴰ f (faces_beside (edge m (nat_abs e)))
        → Covered f (affected_after false edges' h h' (named_pairs edges (nat_abs h.edges) (e ∷ [])))
    by_one e has k =
        subst (Covered f) (sym (after_same edges' m' head _ stays ∙ ap (λ s. both s no_pair) (pair_named_lem F e has)))
        (one-edge (edge m (nat_abs e)) f k)

    by_two : (e d : ℤ) → no_edge m e || no_edge m d ≡ false
        → Memᴰ f (faces_beside (edge m (nat_abs e)) ++ faces_beside (edge m (nat_abs d)))
        → Covered f (affected_after false edges' h h' (named_pairs edges (nat_abs h.edges) (e ∷ d ∷ [])))
    by_two e d has k =
        let q = or-false (no_edge m e) (no_edge m d) has in
        subst (Covered f) (sym (after_same edges' m' head _ stays
        ∙ ap₂ both (pair_named_lem F e q.0) (pair_named_lem F d q.1)))
        (two_edges (edge m (nat_abs e)) (edge m (nat_abs d)) f k)

  -- ---- an edge drawn

  module _ {edges' : List ℤ} {h' : Head} (m' : Map) (head : head_of limit m' ≡ h')
      (wide : Wide edge_width edge_cells m'.edges) (n : ℕ)
      (cells : filled n (flat_map edge_cells m'.edges) ≡ edges') (a : Affected) (f : ℕ) where
    by_drawn : Memᴰ f (faces_beside_last m'.edges) → Covered f (affected_after true edges' h h' a)
    by_drawn k =
        subst (λ (c : ℕ). Covered f (both (pair_last edges' c) no_pair))
        (ap (λ (x : Head). nat_abs x.edges) head) (go (length m'.edges) refl)
      where
        empty : (es : List Edge) → length es ≡ 0 → faces_beside_last es ≡ []
        empty [] e = refl
        empty (x ∷ es) e = absurd (omega arith)

        go : (c : ℕ) → length m'.edges ≡ c → Covered f (both (pair_last edges' c) no_pair)
        go zero e = absurd (Memᴰ.not-nil (subst (Memᴰ f) (empty m'.edges e) k))
        go (suc c) e = one-edge (edge_at edges' c) f (subst (Memᴰ f) (last_pair m'.edges wide n cells c e) k)

  -- ---- an edge removed

  module _ (edges' : List ℤ) {h' : Head} (how : Variant) (z : ℤ) (has : no_edge m z ≡ false)
      (head : head_of limit (remove_edge how (nat_abs z) m) ≡ h') (f : ℕ) where
    abbrev e : ℕ
    e = nat_abs z

    next-after : (remove_edge how e m).next.faces ≡ m.next.faces + bit (makes_face how e m)
    unfolding remove_edge renamed_faces
    next-after = ap (λ k. k.faces + bit (makes_face how e m))
        (undrawn-next e (face_left how e m) (renamed_faces (edge m e) (face_left how e m) m))

    -- the faces after it: those that are not renamed, and one that is made
    abbrev left : List ℕ
    left = keep (λ g. same g (renamed (edge m e) (face_left how e m) g)) m.faces

    faces_after : (remove_edge how e m).faces ≡ cond (makes_face how e m) (left ++ face_left how e m ∷ []) left
    unfolding remove_edge
    faces_after = refl

    by_removed : Memᴰ f (remove_edge how e m).faces → Memᴰ f (m.next.faces ∷ faces_beside (edge m e))
        → Covered f (affected_after false edges' h h' (named_pairs edges (nat_abs h.edges) (z ∷ [])))
    by_removed i k = go (makes_face how e m) refl
      where
        kept : Memᴰ f left → f < m.next.faces
        kept j = face_below m (formed-map F) f (keep_in _ m.faces j).0

        go : (b : Bool) → makes_face how e m ≡ b
            → Covered f (affected_after false edges' h h' (named_pairs edges (nat_abs h.edges) (z ∷ [])))
        go false q = elim (Memᴰ.cases_cons k) [
          | inl x ↦ let below = kept (subst (Memᴰ f) (faces_after ∙ rw q) i) in absurd (omega arith)
          | inr j ↦ by_one edges' (remove_edge how e m) head (next-after ∙ rw q (add-zero m.next.faces)) f z has j
        ]
        go true q =
            let made : face_left how e m ≡ m.next.faces = rw q in
            let risen : (remove_edge how e m).next.faces ≢ m.next.faces =
            λ x. let y : m.next.faces + 1 ≡ m.next.faces = sym (next-after ∙ rw q) ∙ x in omega arith in
            subst (Covered f) (sym (after-made edges' (remove_edge how e m) head _ risen))
            (Memᴰ.tail (Memᴰ.head (new made ∙ next_is)))
          where
            -- a side is renamed, so that it is not kept
            gone : face_left how e m ≡ m.next.faces → Memᴰ f left → Memᴰ f (faces_beside (edge m e)) → ⊥
            gone made j s =
                let stays = same_true f (renamed (edge m e) (face_left how e m) f) (keep_in _ m.faces j).1 in
                let below = kept j in
                let is : renamed (edge m e) (face_left how e m) f ≡ face_left how e m = rw (side f (edge m e) s) in
                omega (arith, stays, is, made, below)

            new : face_left how e m ≡ m.next.faces → f ≡ m.next.faces
            new made =
                let after : (remove_edge how e m).faces ≡ left ++ face_left how e m ∷ [] = faces_after ∙ rw q in
                elim (Memᴰ.append_cases left (subst (Memᴰ f) after i)) [
                  | inl j ↦ elim (Memᴰ.cases_cons k) [ inl x ↦ x | inr s ↦ absurd (gone made j s) ]
                  | inr j ↦ Memᴰ.eq_of_singleton j ∙ made
                ]

  -- ---- the kinds

  no_named : (s : Sizes) (e : ℤ) (rs : Reasons) → first_reason ((4, no_edge m e) ∷ rs) ≡ 0 → no_edge m e ≡ false
  no_named s e rs z = (first_zero 4 (no_edge m e) rs (lit< tt) z).0

  remove_iso_next : (e : ℕ) → (remove_iso_edge e m).next.faces ≡ m.next.faces
  unfolding remove_iso_edge
  remove_iso_next e = ap (λ k. k.faces) (undrawn-next e (edge m e).left m)

  change-next : (e : ℕ) (c : Curve) → (change_edge_geom e c m).next.faces ≡ m.next.faces
  unfolding change_edge_geom at_edge
  change-next e c = refl

  split-next : (how : Variant) (e : ℕ) (p : Point) → (split how e p m).next.faces ≡ m.next.faces
  unfolding split
  split-next how e p = add-zero m.next.faces

  heal-next : (how : Variant) (e d : ℕ) → (heal how e d m).next.faces ≡ m.next.faces
  unfolding heal
  heal-next how e d = add-zero m.next.faces

  module _ (s : Sizes) {edges' : List ℤ} {h' : Head} (n : ℕ) (f : ℕ) where
    pub covers : (k : Ticket) → first_reason (reasons s m k) ≡ 0 → head_of limit (carried m k).0 ≡ h'
        → Wide edge_width edge_cells (carried m k).0.edges
        → filled n (flat_map edge_cells (carried m k).0.edges) ≡ edges'
        → Memᴰ f (carried m k).0.faces → Memᴰ f (affected m k)
        → Covered f (affected_after (draws k) edges' h h' (named_pairs edges (nat_abs h.edges) (named_edges k)))
    unfolding carried reasons
    covers (AddIsoNode g x y) z head wide cells i j = absurd (Memᴰ.not-nil j)
    covers (MoveIsoNode v x y) z head wide cells i j = absurd (Memᴰ.not-nil j)
    covers (RemoveIsoNode v) z head wide cells i j = absurd (Memᴰ.not-nil j)
    covers (AddIsoEdge u v c) z head wide cells i j =
        by_drawn (carried m (AddIsoEdge u v c)).0 head wide n cells (both no_pair no_pair) f j
    covers (RemoveIsoEdge e) z head wide cells i j =
        by_one edges' (remove_iso_edge (nat_abs e) m) head (remove_iso_next (nat_abs e)) f e (no_named s e _ z) j
    covers (ChangeEdgeGeom e c) z head wide cells i j =
        by_one edges' (change_edge_geom (nat_abs e) (curve_in c) m) head (change-next (nat_abs e) (curve_in c)) f e
        (no_named s e _ z) j
    covers (NewEdgesSplit e x y) z head wide cells i j =
        by_one edges' (split New (nat_abs e) (point x y) m) head (split-next New (nat_abs e) (point x y)) f e
        (no_named s e _ z) j
    covers (ModEdgeSplit e x y) z head wide cells i j =
        by_one edges' (split Mod (nat_abs e) (point x y) m) head (split-next Mod (nat_abs e) (point x y)) f e
        (no_named s e _ z) j
    covers (NewEdgeHeal e d) z head wide cells i j =
        by_two edges' (heal New (nat_abs e) (nat_abs d) m) head (heal-next New (nat_abs e) (nat_abs d)) f e d
        (first_zero 4 _ _ (lit< tt) z).0 j
    covers (ModEdgeHeal e d) z head wide cells i j =
        by_two edges' (heal Mod (nat_abs e) (nat_abs d) m) head (heal-next Mod (nat_abs e) (nat_abs d)) f e d
        (first_zero 4 _ _ (lit< tt) z).0 j
    covers (AddEdgeNewFaces u v c) z head wide cells i j =
        by_drawn (carried m (AddEdgeNewFaces u v c)).0 head wide n cells (both no_pair no_pair) f j
    covers (AddEdgeModFace u v c) z head wide cells i j =
        by_drawn (carried m (AddEdgeModFace u v c)).0 head wide n cells (both no_pair no_pair) f j
    covers (RemEdgeNewFace e) z head wide cells i j = by_removed edges' New e (no_named s e _ z) head f i j
    covers (RemEdgeModFace e) z head wide cells i j = by_removed edges' Mod e (no_named s e _ z) head f i j
