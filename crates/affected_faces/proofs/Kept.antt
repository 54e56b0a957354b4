-- A ticket that is carried out keeps the rectangle of every face that is there after it and that it does not affect
-- (specs/Claims.antt). Assumes nothing.
use mathlib.Core.Path.{◌≡◌, refl, sym, ap, ◌∙◌}
use mathlib.Core.Logic.{◌≢◌}
use mathlib.Core.Bool.{Bool, true, false, cond}
use mathlib.Core.List.Memᴰ
use mathlib.Core.List.{[], ◌∷◌, ◌++◌, map, Memᴰ}
use Prim.Native.Nat.{ℕ}
use native.Mathlib.Omega.{arith}
use lib.IntN.{nat_abs}
use Rattle.lists.specs.Tests.{same}
use Rattle.lists.specs.Members.{Distinct}
use Rattle.lists.proofs.Bools.{same_true}
use Rattle.lists.proofs.Lookups.{without}
use Rattle.lists.proofs.Maps.{map_twice}
use Rattle.curves.specs.Curves.{Curve, point}
use Rattle.map.specs.declared.Variant.{Variant}
use Rattle.map.specs.declared.Variant.TheVariants.{New, Mod}
use Rattle.map.specs.Rows.{Edge, Map, Sizes, edge, at_edge, at_nodes}
use Rattle.map.specs.Form.{formed}
use Rattle.map.specs.Tickets.{Ticket, AddIsoNode, MoveIsoNode, RemoveIsoNode, AddIsoEdge, RemoveIsoEdge, ChangeEdgeGeom}
use Rattle.map.specs.Tickets.{NewEdgesSplit, ModEdgeSplit, NewEdgeHeal, ModEdgeHeal, AddEdgeNewFaces, AddEdgeModFace}
use Rattle.map.specs.Tickets.{RemEdgeNewFace, RemEdgeModFace}
use Rattle.map.specs.Reasons.{first_reason, reasons, curve_in}
use Rattle.map.specs.Ticket.{carried}
use Rattle.map.specs.Edits.{add_iso_node, move_iso_node, remove_iso_node, add_iso_edge, remove_iso_edge, with_curve}
use Rattle.map.specs.Edits.{change_edge_geom, heal, lower_face, makes_face, face_left, renamed_faces, remove_edge}
use Rattle.map.proofs.Laws.{formed_is}
use Rattle.map_laws.proofs.Readings.{number_of}
use Rattle.map_laws.proofs.Reasons.{add_new, add-mod}
use Rattle.affected_faces.specs.Affected.{faces_beside, faces_beside_last, affected}
use Rattle.affected_faces.specs.Claims.{RectanglesKept}
use Rattle.affected_faces.proofs.Stretches.{part, stretch_of, stretches, stretch_number, along, along_without, Off}
use Rattle.affected_faces.proofs.Stretches.{off_sides, off_part, row_off, off_blank, same-rectangle}
use Rattle.affected_faces.proofs.Rows.{undrawn-stretches, renamed-stretches}
use Rattle.affected_faces.proofs.Halves.{split-along, heal-along}
use Rattle.affected_faces.proofs.Added.{drawn-along, off_drawn, add_edge-along}

module _ (f : ℕ) (m : Map) where
  -- kind 4
  add-lone-along : (u v : ℕ) (c : Curve) → (Memᴰ f (faces_beside_last (add_iso_edge u v c m).edges) → ⊥)
      → along (stretches f (add_iso_edge u v c m)) ≡ along (stretches f m)
  unfolding add_iso_edge
  add-lone-along u v c n = drawn-along f u v c _ m (off_drawn f u v c _ m n)

  module _ (dis : Distinct (map number_of m.edges)) (e : ℕ) (off : Off f (edge m e).left (edge m e).right) where
    -- kind 5
    remove_lone_along : along (stretches f (remove_iso_edge e m)) ≡ along (stretches f m)
    unfolding remove_iso_edge
    remove_lone_along = ap along (undrawn-stretches f e (edge m e).left m)
        ∙ along_without e (stretches f m) (off_blank f m dis e off)

    -- kind 6
    change-stretches : (c : Curve) → stretches f (change_edge_geom e c m) ≡ stretches f m
    unfolding change_edge_geom at_edge
    change-stretches c = map_twice (stretch_of f) _ (stretch_of f) m.edges (λ r k. go (same r.number e) r refl k)
      where
        go : (b : Bool) (r : Edge) → same r.number e ≡ b → Memᴰ r m.edges
            → stretch_of f (cond b (with_curve c r) r) ≡ stretch_of f r
        go true r q k =
            let h = row_off f m dis e off r k (same_true r.number e q) in
            let old : part f r ≡ [] = off_part f r h in
            let new : part f (with_curve c r) ≡ [] = off_part f (with_curve c r) h in
            λ i. record { number = r.number; part = (new ∙ sym old) i }
        go false r q k = refl

    -- kinds 13 and 14
    not_left : (how : Variant) → f ≢ m.next.faces → f ≢ face_left how e m
    not_left how ne = go (makes_face how e m)
      where
        go : (b : Bool) → f ≢ cond b m.next.faces (lower_face e m)
        go true q = ne q
        go false q =
            let l = off.left in
            let r = off.right in
            omega (arith, l, r, q)

    remove_edge-along : (how : Variant) → f ≢ m.next.faces
        → along (stretches f (remove_edge how e m)) ≡ along (stretches f m)
    unfolding remove_edge
    remove_edge-along how ne =
        let φ = face_left how e m in
        ap along (undrawn-stretches f e φ (renamed_faces (edge m e) φ m)
        ∙ ap (without stretch_number e) (renamed-stretches f (edge m e) φ m off (not_left how ne)))
        ∙ along_without e (stretches f m) (off_blank f m dis e off)

-- ---- the kinds

module _ (s : Sizes) (m : Map) (h : formed m ≡ true) (f : ℕ) where
  dis : Distinct (map number_of m.edges)
  dis = (formed_is m h).numbers.edges.distinct

  off_edge : (e : ℕ) → (Memᴰ f (faces_beside (edge m e)) → ⊥) → Off f (edge m e).left (edge m e).right
  off_edge e n = off_sides f (edge m e) n

  heal_kept : (how : Variant) (e g : ℕ) → (Memᴰ f (faces_beside (edge m e) ++ faces_beside (edge m g)) → ⊥)
      → along (stretches f (heal how e g m)) ≡ along (stretches f m)
  heal_kept how e g n = heal-along f m dis e (off_edge e (λ k. n (Memᴰ.append_left (faces_beside (edge m g)) k))) g
      (off_edge g (λ k. n (Memᴰ.append_right (faces_beside (edge m e)) k))) how

  remove_kept : (how : Variant) (e : ℕ) → (Memᴰ f (m.next.faces ∷ faces_beside (edge m e)) → ⊥)
      → along (stretches f (remove_edge how e m)) ≡ along (stretches f m)
  remove_kept how e n = remove_edge-along f m dis e (off_edge e (λ k. n (Memᴰ.tail k))) how
      (λ q. n (Memᴰ.head q))

  carried-along : (t : Ticket) → first_reason (reasons s m t) ≡ 0 → Memᴰ f (carried m t).0.faces
      → (Memᴰ f (affected m t) → ⊥) → along (stretches f (carried m t).0) ≡ along (stretches f m)
  unfolding carried add_iso_node move_iso_node remove_iso_node at_nodes
  carried-along (AddIsoNode g x y) z k n = refl
  carried-along (MoveIsoNode v x y) z k n = refl
  carried-along (RemoveIsoNode v) z k n = refl
  carried-along (AddIsoEdge u v c) z k n = add-lone-along f m (nat_abs u) (nat_abs v) (curve_in c) n
  carried-along (RemoveIsoEdge e) z k n = remove_lone_along f m dis (nat_abs e) (off_edge (nat_abs e) n)
  carried-along (ChangeEdgeGeom e c) z k n =
      ap along (change-stretches f m dis (nat_abs e) (off_edge (nat_abs e) n) (curve_in c))
  carried-along (NewEdgesSplit e x y) z k n =
      split-along f m dis (nat_abs e) (off_edge (nat_abs e) n) New (point x y)
  carried-along (ModEdgeSplit e x y) z k n =
      split-along f m dis (nat_abs e) (off_edge (nat_abs e) n) Mod (point x y)
  carried-along (NewEdgeHeal e g) z k n = heal_kept New (nat_abs e) (nat_abs g) n
  carried-along (ModEdgeHeal e g) z k n = heal_kept Mod (nat_abs e) (nat_abs g) n
  carried-along (AddEdgeNewFaces u v c) z k n = add_edge-along h (add_new s m u v c z) f k n
  carried-along (AddEdgeModFace u v c) z k n = add_edge-along h (add-mod s m u v c z) f k n
  carried-along (RemEdgeNewFace e) z k n = remove_kept New (nat_abs e) n
  carried-along (RemEdgeModFace e) z k n = remove_kept Mod (nat_abs e) n

pub rectangles_kept : RectanglesKept
rectangles_kept s m t h z f k n = same-rectangle f m (carried m t).0 (carried-along s m h f t z k n)
