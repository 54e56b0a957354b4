-- The rows of a heal: the new names of departures and the healed row. The arc of a row by one of its directed edges.
-- Assumes nothing.
use mathlib.Core.Path.{◌≡◌, refl, sym, ap, ap₂, ◌∙◌}
use mathlib.Core.Bool.{Bool, true, false, not, cond}
use mathlib.Core.List.{map, map-map, Memᴰ}
use Prim.Native.Nat.{ℕ}
use Rattle.curves.specs.Edits.{joined}
use Rattle.planar_maps.specs.Map.{Dart, fwd, bwd, rev}
use Rattle.map.specs.Rows.{Edge, Map, edge, has_edge}
use Rattle.map.specs.Darts.{directed, leaves, next, course}
use Rattle.map.specs.Links.{with_links, instead, redirect}
use Rattle.map.proofs.Laws.{edge_there_lem}
use Rattle.map_laws.proofs.Readings.{arc_of, tail_in, leaves_row, dart_has, redirect-next, redirect_relinked}
use Rattle.grown.proofs.Renumber.{runs}

-- the new names of departures
abbrev pub whole_names : ℕ → Dart → Dart → Dart → Dart
whole_names h c d z = instead (rev d) (bwd h) (instead c (fwd h) z)

-- the row with the new names
abbrev pub relinked : ℕ → Dart → Dart → Edge → Edge
relinked h c d r = with_links (whole_names h c d r.next_left) (whole_names h c d r.next_right) r

-- the joined departures c and d renamed in all rows
module _ (m : Map) (h : ℕ) (c d : Dart) where
  abbrev pub rejoined : Map
  rejoined = redirect (rev d) (bwd h) (redirect c (fwd h) m)

  pub rejoined_edges : rejoined.edges ≡ map (relinked h c d) m.edges
  unfolding redirect
  rejoined_edges = map-map _ _ m.edges

  pub rejoined_next : (z : Dart) → has_edge m z.edge ≡ true → next rejoined z ≡ whole_names h c d (next m z)
  rejoined_next z k =
      redirect-next (rev d) (bwd h) (redirect c (fwd h) m) z ((redirect_relinked c (fwd h) m).has z.edge ∙ k)
      ∙ ap (λ x. instead (rev d) (bwd h) x) (redirect-next c (fwd h) m z k)

-- the healed row
abbrev pub healed_row : Map → ℕ → ℕ → Dart → Dart → Edge
healed_row m e h c d =
    record {
      number = h;
      start = leaves m c;
      end = leaves m (rev d);
      next_left = whole_names h c d (next m d);
      next_right = whole_names h c d (next m (rev c));
      left = (edge m e).left;
      right = (edge m e).right;
      curve = joined (course m c) (course m d);
    }

-- the arc of a row, by one of its directed edges
pub runs_row : (m : Map) (z : Dart) → Memᴰ z (directed m) → arc_of (edge m z.edge)
    ≡ runs z (leaves m z) (leaves m (rev z))
runs_row m z k = λ i. record {
  num = (edge_there_lem m z.edge (dart_has m k)).1 i;
  from = (at_start_lem z.back ∙ ap₂ (λ x y. cond z.back y x) (sym (leaves_row m z)) (sym (leaves_row m (rev z)))) i;
  to = (at_end_lem z.back ∙ ap₂ (λ x y. cond z.back x y) (sym (leaves_row m z)) (sym (leaves_row m (rev z)))) i;
}
  where
    at_start_lem : (b : Bool) → (edge m z.edge).start
        ≡ cond b (tail_in (not b) (edge m z.edge)) (tail_in b (edge m z.edge))
    at_start_lem true = refl
    at_start_lem false = refl

    at_end_lem : (b : Bool) → (edge m z.edge).end
        ≡ cond b (tail_in b (edge m z.edge)) (tail_in (not b) (edge m z.edge))
    at_end_lem true = refl
    at_end_lem false = refl
