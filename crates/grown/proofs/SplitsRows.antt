-- Rows where an edge is split or healed: the new names of departures, and a row replaced or left out. Assumes nothing.
use mathlib.Core.Path.{◌≡◌, refl, sym, ap, ap₂, ◌∙◌, subst}
use mathlib.Core.Logic.{inl, inr, ◌≢◌}
use mathlib.Core.Bool.{true, cond, not}
use mathlib.Core.List.Permᴰ
use mathlib.Core.List.{List, ◌∷◌, map, map-map, Memᴰ, Permᴰ}
use Prim.Native.Nat.{ℕ}
use borrow.Author.Tests.{not-true}
use Rattle.lists.specs.Members.{Distinct}
use Rattle.lists.proofs.Bools.{equal?, same_refl, same_false, differ}
use Rattle.planar_maps.specs.Map.{Dart, fwd, bwd}
use Rattle.planar_maps.proofs.Rings.{same_dart_refl}
use Rattle.planar_maps.proofs.Hooks.{same_dart-false, fwd≢bwd, with_fwd, with_bwd, with_other}
use Rattle.map.specs.Rows.{Edge, Map, edge, has_edge, without_edge}
use Rattle.map.specs.Links.{with_links, instead, redirect}
use Rattle.map.proofs.Laws.{edge_there_lem}
use Rattle.map_laws.proofs.Readings.{number_of, missing, mapped_edge}
use Rattle.grown.proofs.Renumber.{ways}
use Rattle.grown.proofs.Halved.{departs}
use Rattle.lists.specs.Tests.{same}
use Rattle.lists.proofs.Members.{map_cong}
use Rattle.lists.proofs.Keeps.{keep_in, keep-map}
use Rattle.lists.proofs.Lookups.{without_perm}

-- `new` for `old`, and else nothing
pub instead_it : (x y : Dart) → instead x y x ≡ y
instead_it x y = rw (same_dart_refl x)

pub instead_other : (x y d : Dart) → d ≢ x → instead x y d ≡ d
instead_other x y d ne = rw (same_dart-false d x ne)

-- the new names of departures
abbrev pub half_names : ℕ → ℕ → ℕ → Dart → Dart
half_names e a b d = instead (bwd e) (bwd b) (instead (fwd e) (fwd a) d)

-- the row with the new names
abbrev pub relinked : ℕ → ℕ → ℕ → Edge → Edge
relinked e a b r = with_links (half_names e a b r.next_left) (half_names e a b r.next_right) r

pub names_are : (e a b : ℕ) (d : Dart) → half_names e a b d ≡ departs e (fwd a) (fwd b) d
names_are e a b d = elim (equal? d.edge e) [
  | inl q ↦ elim (ways d) [
    | inl w ↦ subst (λ z. half_names e a b z ≡ departs e (fwd a) (fwd b) z) (sym (w ∙ ap fwd q))
        (ap (instead (bwd e) (bwd b)) (instead_it (fwd e) (fwd a)) ∙ instead_other (bwd e) (bwd b) (fwd a) fwd≢bwd
        ∙ sym (with_fwd e (fwd a) (bwd b) (λ z. z)))
    | inr w ↦ subst (λ z. half_names e a b z ≡ departs e (fwd a) (fwd b) z) (sym (w ∙ ap bwd q))
        (ap (instead (bwd e) (bwd b)) (instead_other (fwd e) (fwd a) (bwd e) (λ p. fwd≢bwd (sym p)))
        ∙ instead_it (bwd e) (bwd b) ∙ sym (with_bwd e (fwd a) (bwd b) (λ z. z)))
  ]
  | inr ne ↦ ap (instead (bwd e) (bwd b)) (instead_other (fwd e) (fwd a) d (λ p. ne (ap (λ (d : Dart). d.edge) p)))
      ∙ instead_other (bwd e) (bwd b) d (λ p. ne (ap (λ (d : Dart). d.edge) p))
      ∙ sym (with_other e (fwd a) (bwd b) (λ z. z) d ne)
]

-- the departures of e renamed in all rows
module _ (m : Map) (e a b : ℕ) where
  abbrev pub parted : Map
  parted = redirect (bwd e) (bwd b) (redirect (fwd e) (fwd a) m)

  pub parted_edges : parted.edges ≡ map (relinked e a b) m.edges
  unfolding redirect
  parted_edges = map-map _ _ m.edges

  pub parted_row : has_edge m e ≡ true → edge parted e ≡ relinked e a b (edge m e)
  parted_row has = mapped_edge m parted (relinked e a b) parted_edges (λ r k. refl) e has

-- ---- rows replaced and left out

-- the others are not e
pub rest_other : (e : ℕ) (es : List Edge) {q : Edge} → Memᴰ q (without_edge e es) → q.number ≢ e
rest_other e es {q} k = differ q.number e
    (not-true (same q.number e) (keep_in (λ (r : Edge). not (same r.number e)) es k).1)

module _ (m : Map) (e : ℕ) (f : Edge → Edge) (keeps : (r : Edge) → (f r).number ≡ r.number)
    (once : Distinct (map number_of m.edges)) (has : has_edge m e ≡ true) where
  -- the row e before the others
  pub rows_m : Permᴰ m.edges (edge m e ∷ without_edge e m.edges)
  unfolding edge
  rows_m = without_perm number_of missing m.edges e once has

  -- the row e replaced among rows that were mapped
  pub replaced : (x : Edge) → Permᴰ (map (λ r. cond (same r.number e) x r) (map f m.edges))
      (x ∷ map f (without_edge e m.edges))
  replaced x = subst (λ l. Permᴰ l (x ∷ map f (without_edge e m.edges))) (sym (map-map put f m.edges))
      (subst (Permᴰ (map (λ r. put (f r)) m.edges)) (ap₂ ◌∷◌ it others) (Permᴰ.map (λ r. put (f r)) rows_m))
    where
      put : Edge → Edge
      put r = cond (same r.number e) x r

      it : put (f (edge m e)) ≡ x
      it = rw (keeps (edge m e), (edge_there_lem m e has).1, same_refl e)

      others : map (λ r. put (f r)) (without_edge e m.edges) ≡ map f (without_edge e m.edges)
      others = map_cong (λ r. put (f r)) f (without_edge e m.edges)
          (λ q k. rw (keeps q, same_false q.number e (rest_other e m.edges k)))

  -- and left out
  pub left_out : without_edge e (map f m.edges) ≡ map f (without_edge e m.edges)
  left_out = keep-map f (λ r. not (same r.number e)) (λ r. not (same r.number e)) m.edges
      (λ r k. ap (λ (n : ℕ). not (same n e)) (keeps r))
