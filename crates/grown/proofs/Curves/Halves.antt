-- The lines and places of a map after a split and a heal. Assumes nothing.
use mathlib.Core.Path.{◌≡◌, refl, ap, ◌∙◌}
use mathlib.Core.Bool.{Bool, true, false, cond}
use mathlib.Core.List.{map-append, List, [], ◌∷◌, ◌++◌, map}
use mathlib.Core.Option.{get_or}
use Prim.Native.Nat.{ℕ, ◌+◌}
use Rattle.lists.specs.Tests.{same}
use Rattle.lists.proofs.Maps.{map_square}
use Rattle.plane.specs.declared.Point.{Point}
use Rattle.planar_maps.specs.Map.{Dart, fwd, bwd, rev}
use Rattle.map.specs.declared.Variant.TheVariants.{New, Mod}
use Rattle.map.specs.Rows.{Edge, Map, edge, at_edge, without_edge}
use Rattle.map.specs.Darts.{leaves, arrives}
use Rattle.map.specs.Links.{redirect}
use Rattle.map.specs.Edits.{start_half, end_half, split, joint, parts, healed_curve, heal}
use Rattle.map_laws.proofs.Readings.{without}
use Rattle.grown.proofs.Curves.Survey.{Line, line_of, place_of, lines, places, place_number, line_number}
use Rattle.grown.proofs.Curves.Cut.{first_half, second_half}
use Rattle.grown.proofs.Curves.Rows.{Alike, alike_join, redirect_alike, redirect-line, without_lines}
use Rattle.grown.proofs.Curves.Rows.{without_places, Becomes}

-- the row e replaced
abbrev pub replaced : ℕ → Line → Line → Line
replaced e l r = cond (same r.number e) l r

replaced_lines : (e : ℕ) (row : Edge) (m : Map) → map line_of (at_edge e (λ r. row) m).edges
    ≡ map (replaced e (line_of row)) (lines m)
unfolding at_edge
replaced_lines e row m = map_square line_of _ (replaced e (line_of row)) line_of m.edges
    (λ r k. go (same r.number e) r)
  where
    go : (b : Bool) (r : Edge) → line_of (cond b row r) ≡ cond b (line_of row) (line_of r)
    go true r = refl
    go false r = refl

-- two links led elsewhere
module _ (old new old' new' : Dart) (m : Map) where
  abbrev led : Map
  led = redirect old' new' (redirect old new m)

  led_alike : Alike m led
  led_alike = alike_join (redirect_alike old new m) (redirect_alike old' new' (redirect old new m))

  led_line : (e : ℕ) → line_of (edge led e) ≡ line_of (edge m e)
  led_line e = redirect-line old' new' (redirect old new m) e ∙ redirect-line old new m e

-- ---- split

-- the map with the departures of e renamed to those of its halves a and b
abbrev renamed : ℕ → ℕ → ℕ → Map → Map
renamed e a b m = led (fwd e) (fwd a) (bwd e) (bwd b) m

module _ (e a b : ℕ) (p : Point) (m : Map) where
  others : map line_of (without_edge e (renamed e a b m).edges) ≡ without line_number e (lines m)
  others = without_lines e (renamed e a b m).edges
      ∙ ap (without line_number e) (led_alike (fwd e) (fwd a) (bwd e) (bwd b) m).lines

  first : first_half (line_of (edge (renamed e a b m) e)) m.next.nodes a p
      ≡ first_half (line_of (edge m e)) m.next.nodes a p
  first = ap (λ (l : Line). first_half l m.next.nodes a p) (led_line (fwd e) (fwd a) (bwd e) (bwd b) m e)

  second : second_half (line_of (edge (renamed e a b m) e)) m.next.nodes b p
      ≡ second_half (line_of (edge m e)) m.next.nodes b p
  second = ap (λ (l : Line). second_half l m.next.nodes b p) (led_line (fwd e) (fwd a) (bwd e) (bwd b) m e)

  kept : (row : Edge) → line_of row ≡ first_half (line_of (edge (renamed e a b m) e)) m.next.nodes a p
      → map line_of (at_edge e (λ r. row) (renamed e a b m)).edges
      ≡ map (replaced e (first_half (line_of (edge m e)) m.next.nodes a p)) (lines m)
  kept row q = replaced_lines e row (renamed e a b m)
      ∙ (λ i. map (replaced e ((q ∙ first) i)) ((led_alike (fwd e) (fwd a) (bwd e) (bwd b) m).lines i))

module _ (e : ℕ) (p : Point) (m : Map) where
  -- kind 7
  pub split_new_becomes :
      Becomes (split New e p m)
      (without line_number e (lines m) ++ (first_half (line_of (edge m e)) m.next.nodes m.next.edges p
      ∷ second_half (line_of (edge m e)) m.next.nodes (m.next.edges + 1) p ∷ []))
      (places m ++ (record { number = m.next.nodes; at = p } ∷ []))
  unfolding split
  split_new_becomes =
      let a = m.next.edges in
      record {
        lines = map-append line_of (without_edge e (renamed e a (a + 1) m).edges) (_ ∷ _ ∷ [])
            ∙ (λ i. others e a (a + 1) p m i ++ (first e a (a + 1) p m i ∷ second e a (a + 1) p m i ∷ []));
        places = map-append place_of m.nodes (_ ∷ []);
      }

  -- kind 8
  pub split_mod_becomes :
      Becomes (split Mod e p m)
      (map (replaced e (first_half (line_of (edge m e)) m.next.nodes e p)) (lines m)
      ++ (second_half (line_of (edge m e)) m.next.nodes m.next.edges p ∷ []))
      (places m ++ (record { number = m.next.nodes; at = p } ∷ []))
  unfolding split
  split_mod_becomes =
      let row = start_half (edge (renamed e e m.next.edges m) e) m.next.nodes e m.next.edges p in
      let row' = end_half (edge (renamed e e m.next.edges m) e) m.next.nodes e m.next.edges p in
      record {
        lines = map-append line_of (at_edge e (λ r. row) (renamed e e m.next.edges m)).edges (row' ∷ [])
            ∙ (λ i. kept e e m.next.edges p m row refl i ++ (second e e m.next.edges p m i ∷ []));
        places = map-append place_of m.nodes (_ ∷ []);
      }

-- ---- heal

-- the line of the healed edge, numbered h
abbrev pub healed_row : ℕ → ℕ → ℕ → Map → Line
healed_row h e f m = record {
  number = h;
  start = leaves m (parts m e f).0;
  end = arrives m (parts m e f).1;
  curve = healed_curve m e f;
}

module _ (e f : ℕ) (m : Map) where
  -- the map with the departures of both edges renamed to those of h
  abbrev rejoined : ℕ → Map
  rejoined h = led (parts m e f).0 (fwd h) (rev (parts m e f).1) (bwd h) m

  same_lines : (h : ℕ) → map line_of (rejoined h).edges ≡ lines m
  same_lines h = (led_alike (parts m e f).0 (fwd h) (rev (parts m e f).1) (bwd h) m).lines

  -- kind 9
  pub heal_new_becomes :
      Becomes (heal New e f m) (without line_number e (without line_number f (lines m))
      ++ (healed_row m.next.edges e f m ∷ [])) (without place_number (get_or (joint m e f) 0) (places m))
  unfolding heal
  heal_new_becomes =
      let h = m.next.edges in
      record {
        lines = map-append line_of (without_edge e (without_edge f (rejoined h).edges)) (_ ∷ [])
            ∙ ap (λ (l : List Line). l ++ (healed_row h e f m ∷ []))
            (without_lines e (without_edge f (rejoined h).edges)
            ∙ ap (without line_number e)
            (without_lines f (rejoined h).edges ∙ ap (without line_number f) (same_lines h)));
        places = without_places (get_or (joint m e f) 0) m.nodes;
      }

  -- kind 10
  pub heal_mod_becomes :
      Becomes (heal Mod e f m) (without line_number f (map (replaced e (healed_row e e f m)) (lines m)))
      (without place_number (get_or (joint m e f) 0) (places m))
  unfolding heal
  heal_mod_becomes =
      record {
        lines = without_lines f (at_edge e _ (rejoined e)).edges
            ∙ ap (without line_number f)
            (replaced_lines e _ (rejoined e) ∙ ap (map (replaced e (healed_row e e f m))) (same_lines e));
        places = without_places (get_or (joint m e f) 0) m.nodes;
      }
