-- A map with its links renamed: it has the same edges, and what led to one directed edge leads to another. Assumes
-- nothing.
use mathlib.Core.Path.{◌≡◌, refl, ap, ◌∙◌}
use mathlib.Core.Bool.{Bool, true, false, cond}
use mathlib.Core.Option.{some, map}
use Prim.Native.Nat.{ℕ}
use Rattle.lists.specs.Tests.{same}
use Rattle.lists.proofs.Members.{find_some}
use Rattle.lists.proofs.Lookups.{find-map, has_map}
use Rattle.planar_maps.specs.Map.{Dart}
use Rattle.map.specs.Rows.{Edge, Map, find_edge, edge, has_edge}
use Rattle.map.specs.Darts.{next}
use Rattle.map.specs.Links.{with_links, instead, redirect}
use Rattle.map.proofs.Laws.{edge_is}

module _ (old new : Dart) (m : Map) where
  abbrev renamed : Edge → Edge
  renamed e = with_links (instead old new e.next_left) (instead old new e.next_right) e

  pub redirect_has : (k : ℕ) → has_edge (redirect old new m) k ≡ has_edge m k
  unfolding redirect
  redirect_has k = has_map (λ (e : Edge). e.number) renamed m.edges k (λ r i. refl)

  found : (k : ℕ) (r : Edge) → find_edge m k ≡ some r → find_edge (redirect old new m) k ≡ some (renamed r)
  unfolding redirect
  found k r e = find-map (λ (e : Edge). e.number) renamed m.edges k (λ r i. refl) ∙ ap (map renamed) e

  -- what follows in it
  pub redirect-next : (d : Dart) → has_edge m d.edge ≡ true → next (redirect old new m) d ≡ instead old new (next m d)
  unfolding next
  redirect-next d h =
      let s = find_some (λ x. same x.number d.edge) m.edges h in
      let was : edge m d.edge ≡ s.0 = edge_is m d.edge s.0 s.3 in
      let now : edge (redirect old new m) d.edge ≡ renamed s.0 =
      edge_is (redirect old new m) d.edge _ (found d.edge s.0 s.3) in
      rw (was, now) (go d.back s.0)
    where
      go : (b : Bool) (r : Edge) → cond b (instead old new r.next_right) (instead old new r.next_left)
          ≡ instead old new (cond b r.next_right r.next_left)
      go true r = refl
      go false r = refl
