-- The stretches of a boundary after each way of changing rows. Assumes nothing.
use mathlib.Core.Path.{◌≡◌, refl, sym, ap, ◌∙◌}
use mathlib.Core.Logic.{◌≢◌, inl, inr}
use mathlib.Core.Bool.{Bool, true, false, cond, not, ◌||◌}
use mathlib.Core.List.{List, [], ◌∷◌, ◌++◌, map, map-append}
use Prim.Native.Nat.{ℕ}
use Rattle.lists.specs.Tests.{same}
use Rattle.lists.proofs.Bools.{same_true, same_false, or-true}
use Rattle.lists.proofs.Keeps.{keep-map}
use Rattle.lists.proofs.Lookups.{without}
use Rattle.lists.proofs.Maps.{map_twice, map_square}
use Rattle.curves.specs.Curves.{Curve}
use Rattle.planar_maps.specs.Map.{Dart, fwd, bwd, rev}
use Rattle.map.specs.Rows.{Edge, Map, at_edge, at_nodes, without_edge}
use Rattle.map.specs.Darts.{next}
use Rattle.map.specs.Links.{with_links, redirect, lead, link_in, link_edge, unlink_edge}
use Rattle.map.specs.Edits.{drawn, undrawn, with_sides, renamed, renamed_faces}
use Rattle.map_laws.proofs.LinkedIn.{drawn_row, appended}
use Rattle.affected_faces.proofs.Stretches.{stretch_of, stretches, stretch_number, replaced, Off}

module _ (f : ℕ) where
  -- ---- links

  pub redirect-stretches : (old new : Dart) (m : Map) → stretches f (redirect old new m) ≡ stretches f m
  unfolding redirect
  redirect-stretches old new m = map_twice (stretch_of f) _ (stretch_of f) m.edges (λ e k. refl)

  lead-stretches : (d c : Dart) (m : Map) → stretches f (lead d c m) ≡ stretches f m
  unfolding lead at_edge
  lead-stretches d c m = map_twice (stretch_of f) _ (stretch_of f) m.edges
      (λ e k. go (same e.number d.edge) d.back e)
    where
      go : (b s : Bool) (e : Edge) → stretch_of f
          (cond b (cond s (with_links e.next_left c e) (with_links c e.next_right e)) e) ≡ stretch_of f e
      go true true e = refl
      go true false e = refl
      go false s e = refl

  link_in-stretches : (p : Dart) (there : List Dart) (m : Map) → stretches f (link_in p there m) ≡ stretches f m
  unfolding link_in
  link_in-stretches p there m = lead-stretches (rev p) _ _ ∙ redirect-stretches _ p m

  link_edge-stretches : (e : ℕ) (m : Map) → stretches f (link_edge e m) ≡ stretches f m
  unfolding link_edge
  link_edge-stretches e m = link_in-stretches (bwd e) _ _ ∙ link_in-stretches (fwd e) _ m

  -- ---- rows put in, left out and replaced

  pub drawn-stretches : (u v : ℕ) (c : Curve) (φ : ℕ) (m : Map)
      → stretches f (drawn u v c φ m) ≡ stretches f m ++ stretch_of f (drawn_row m u v c φ) ∷ []
  unfolding drawn at_nodes
  drawn-stretches u v c φ m =
      link_edge-stretches m.next.edges (appended m u v c φ)
      ∙ map-append (stretch_of f) m.edges (drawn_row m u v c φ ∷ [])

  pub without_stretches : (e : ℕ) (es : List Edge)
      → map (stretch_of f) (without_edge e es) ≡ without stretch_number e (map (stretch_of f) es)
  without_stretches e es = sym (keep-map (stretch_of f) (λ r. not (same r.number e))
      (λ s. not (same s.number e)) es (λ r k. refl))

  pub undrawn-stretches : (e φ : ℕ) (m : Map)
      → stretches f (undrawn e φ m) ≡ without stretch_number e (stretches f m)
  unfolding undrawn at_nodes unlink_edge
  undrawn-stretches e φ m =
      without_stretches e (redirect (bwd e) (next m₁ (fwd e)) m₁).edges
      ∙ ap (without stretch_number e)
      (redirect-stretches (bwd e) (next m₁ (fwd e)) m₁ ∙ redirect-stretches (fwd e) (next m (bwd e)) m)
    where
      m₁ : Map
      m₁ = redirect (fwd e) (next m (bwd e)) m

  pub replaced_stretches : (e : ℕ) (row : Edge) (m : Map)
      → stretches f (at_edge e (λ r. row) m) ≡ map (replaced e (stretch_of f row)) (stretches f m)
  unfolding at_edge
  replaced_stretches e row m = map_square (stretch_of f) _ (replaced e (stretch_of f row)) (stretch_of f) m.edges
      (λ r k. go (same r.number e) r)
    where
      go : (b : Bool) (r : Edge) → stretch_of f (cond b row r) ≡ cond b (stretch_of f row) (stretch_of f r)
      go true r = refl
      go false r = refl

  -- ---- faces

  -- sides that are the face where the old ones are
  pub record Sided (e : Edge) (l r : ℕ) : Type 0 where
    pub left : same l f ≡ same e.left f
    pub right : same r f ≡ same e.right f

  pub sided_stretch : (e : Edge) (l r : ℕ) → Sided e l r → stretch_of f (with_sides l r e) ≡ stretch_of f e
  sided_stretch e l r h = rw (h.left, h.right)

  pub renamed-stretches : (row : Edge) (φ : ℕ) (m : Map) → Off f row.left row.right → f ≢ φ
      → stretches f (renamed_faces row φ m) ≡ stretches f m
  unfolding renamed_faces
  renamed-stretches row φ m off ne = map_twice (stretch_of f) _ (stretch_of f) m.edges (λ r k.
      sided_stretch r _ _ (record { left = go r.left; right = go r.right }))
    where
      other : (b : Bool) (g : ℕ) → (b ≡ true → same g f ≡ false) → same (cond b φ g) f ≡ same g f
      other true g h = same_false φ f (λ q. ne (sym q)) ∙ sym (h refl)
      other false g h = refl

      go : (g : ℕ) → same (renamed row φ g) f ≡ same g f
      go g = other (same g row.left || same g row.right) g (λ q. same_false g f (λ z.
          elim (or-true (same g row.left) (same g row.right) q) [
            | inl p ↦ off.left (sym z ∙ same_true g row.left p)
            | inr p ↦ off.right (sym z ∙ same_true g row.right p)
          ]))
