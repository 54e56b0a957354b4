-- A split and a heal keep the boundary of every face that is on no side of the edges. Assumes nothing.
use mathlib.Core.Path.{◌≡◌, refl, sym, ap, ◌∙◌}
use mathlib.Core.Bool.{Bool, true, false, cond, not}
use mathlib.Core.List.Memᴰ
use mathlib.Core.List.{List, [], ◌∷◌, map, map-append, Memᴰ}
use Prim.Native.Nat.{ℕ, ◌+◌}
use Rattle.lists.specs.Tests.{same}
use Rattle.lists.specs.Members.{Distinct}
use Rattle.lists.proofs.Keeps.{keep_in}
use Rattle.lists.proofs.Lookups.{without}
use Rattle.plane.specs.declared.Point.{Point}
use Rattle.planar_maps.specs.Map.{Dart, fwd, bwd, rev}
use Rattle.map.specs.declared.Variant.{Variant}
use Rattle.map.specs.declared.Variant.TheVariants.{New, Mod}
use Rattle.map.specs.Rows.{Edge, Map, edge, at_edge, without_edge}
use Rattle.map.specs.Links.{redirect}
use Rattle.map.specs.Darts.{leaves, arrives, next}
use Rattle.map.specs.Edits.{start_half, end_half, split, parts, healed_curve, heal}
use Rattle.map_laws.proofs.Readings.{number_of, face_in, bears_row, redirect_relinked}
use Rattle.affected_faces.proofs.Stretches.{Stretch, part, stretch_of, stretches, stretch_number, along}
use Rattle.affected_faces.proofs.Stretches.{along_more, along_one, along-two, Blank, along_without, replaced}
use Rattle.affected_faces.proofs.Stretches.{along_replaced, Off, off_part, off_blank}
use Rattle.affected_faces.proofs.Rows.{redirect-stretches, without_stretches, replaced_stretches}

-- stretches that are blank stay so when others are left out, and when one without points is put in
blank_without : {e : ℕ} (g : ℕ) (ss : List Stretch) → Blank e ss → Blank e (without stretch_number g ss)
blank_without g ss h s k = h s (keep_in (λ s. not (same s.number g)) ss k).0

blank_replaced : {e : ℕ} (g : ℕ) (x : Stretch) (ss : List Stretch) → x.part ≡ [] → Blank e ss
    → Blank e (map (replaced g x) ss)
blank_replaced {e} g x ss n h s k q = go (Memᴰ.of_map (replaced g x) ss k)
  where
    pick : (b : Bool) (t : Stretch) → Memᴰ t ss → cond b x t ≡ s → s.part ≡ []
    pick true t j p = sym (ap (λ (s : Stretch). s.part) p) ∙ n
    pick false t j p = sym (ap (λ (s : Stretch). s.part) p) ∙ h t j (ap stretch_number p ∙ q)

    go : (t : Stretch) × Memᴰ t ss × (replaced g x t ≡ s) → s.part ≡ []
    go w = pick (same w.0.number g) w.0 w.1 w.2

-- two links led elsewhere
module _ (old new old' new' : Dart) (m : Map) (f : ℕ) where
  abbrev led : Map
  led = redirect old' new' (redirect old new m)

  led_stretches : stretches f led ≡ stretches f m
  led_stretches = redirect-stretches f old' new' (redirect old new m) ∙ redirect-stretches f old new m

  side : (d : Dart) → face_in d.back (edge led d.edge) ≡ face_in d.back (edge m d.edge)
  side d = sym (bears_row led d) ∙ (redirect_relinked old' new' (redirect old new m)).bears d
      ∙ (redirect_relinked old new m).bears d ∙ bears_row m d

  led_off : (e : ℕ) → Off f (edge m e).left (edge m e).right → Off f (edge led e).left (edge led e).right
  led_off e h = record { left = λ q. h.left (q ∙ side (fwd e)); right = λ q. h.right (q ∙ side (bwd e)) }

module _ (f : ℕ) (m : Map) (dis : Distinct (map number_of m.edges)) (e : ℕ)
    (off : Off f (edge m e).left (edge m e).right) where
  -- ---- split

  module _ (a b : ℕ) where
    abbrev halved : Map
    halved = led (fwd e) (fwd a) (bwd e) (bwd b) m f

    halved_off : Off f (edge halved e).left (edge halved e).right
    halved_off = led_off (fwd e) (fwd a) (bwd e) (bwd b) m f e off

    -- a row of its sides has no points of the boundary
    half_part : (r : Edge) → r.left ≡ (edge halved e).left → r.right ≡ (edge halved e).right → part f r ≡ []
    half_part r p q = off_part f r (record {
      left = λ z. halved_off.left (z ∙ p);
      right = λ z. halved_off.right (z ∙ q);
    })

    without_along : along (map (stretch_of f) (without_edge e halved.edges)) ≡ along (stretches f m)
    without_along = ap along (without_stretches f e halved.edges
        ∙ ap (without stretch_number e) (led_stretches (fwd e) (fwd a) (bwd e) (bwd b) m f))
        ∙ along_without e (stretches f m) (off_blank f m dis e off)

    at_along : (r : Edge) → part f r ≡ [] → along (stretches f (at_edge e (λ x. r) halved)) ≡ along (stretches f m)
    at_along r h = ap along (replaced_stretches f e r halved
        ∙ ap (map (replaced e (stretch_of f r))) (led_stretches (fwd e) (fwd a) (bwd e) (bwd b) m f))
        ∙ along_replaced e (stretch_of f r) (stretches f m) h (off_blank f m dis e off)

  -- kinds 7 and 8
  pub split-along : (how : Variant) (p : Point) → along (stretches f (split how e p m)) ≡ along (stretches f m)
  unfolding split
  split-along New p =
      let n = m.next.nodes in
      let a = m.next.edges in
      let b = m.next.edges + 1 in
      let x = start_half (edge (halved a b) e) n a b p in
      let y = end_half (edge (halved a b) e) n a b p in
      ap along (map-append (stretch_of f) (without_edge e (halved a b).edges) (x ∷ y ∷ []))
      ∙ along_more (map (stretch_of f) (without_edge e (halved a b).edges)) (stretch_of f x ∷ stretch_of f y ∷ [])
      (along-two (stretch_of f x) (stretch_of f y) (half_part a b x refl refl) (half_part a b y refl refl))
      ∙ without_along a b
  split-along Mod p =
      let n = m.next.nodes in
      let b = m.next.edges in
      let x = start_half (edge (halved e b) e) n e b p in
      let y = end_half (edge (halved e b) e) n e b p in
      ap along (map-append (stretch_of f) (at_edge e (λ r. x) (halved e b)).edges (y ∷ []))
      ∙ along_more (stretches f (at_edge e (λ r. x) (halved e b))) (stretch_of f y ∷ [])
      (along_one (stretch_of f y) (half_part e b y refl refl))
      ∙ at_along e b x (half_part e b x refl refl)

  -- ---- heal

  module _ (g : ℕ) (off' : Off f (edge m g).left (edge m g).right) where
    module _ (h : ℕ) where
      abbrev rejoined : Map
      rejoined = led (parts m e g).0 (fwd h) (rev (parts m e g).1) (bwd h) m f

      rejoined_stretches : stretches f rejoined ≡ stretches f m
      rejoined_stretches = led_stretches (parts m e g).0 (fwd h) (rev (parts m e g).1) (bwd h) m f

      abbrev healed : Edge
      healed = record {
        number = h;
        start = leaves m (parts m e g).0;
        end = arrives m (parts m e g).1;
        next_left = next rejoined (parts m e g).1;
        next_right = next rejoined (rev (parts m e g).0);
        left = (edge m e).left;
        right = (edge m e).right;
        curve = healed_curve m e g;
      }

      healed_part : part f healed ≡ []
      healed_part = off_part f healed (record { left = off.left; right = off.right })

    -- kinds 9 and 10
    pub heal-along : (how : Variant) → along (stretches f (heal how e g m)) ≡ along (stretches f m)
    unfolding heal
    heal-along New =
        let h = m.next.edges in
        let ss = stretches f m in
        ap along (map-append (stretch_of f) (without_edge e (without_edge g (rejoined h).edges)) (healed h ∷ []))
        ∙ along_more (map (stretch_of f) (without_edge e (without_edge g (rejoined h).edges)))
        (stretch_of f (healed h) ∷ []) (along_one (stretch_of f (healed h)) (healed_part h))
        ∙ ap along (without_stretches f e (without_edge g (rejoined h).edges)
        ∙ ap (without stretch_number e) (without_stretches f g (rejoined h).edges
        ∙ ap (without stretch_number g) (rejoined_stretches h)))
        ∙ along_without e (without stretch_number g ss) (blank_without g ss (off_blank f m dis e off))
        ∙ along_without g ss (off_blank f m dis g off')
    heal-along Mod =
        let ss = stretches f m in
        let x = stretch_of f (healed e) in
        ap along (without_stretches f g (at_edge e (λ r. healed e) (rejoined e)).edges
        ∙ ap (without stretch_number g) (replaced_stretches f e (healed e) (rejoined e)
        ∙ ap (map (replaced e x)) (rejoined_stretches e)))
        ∙ along_without g (map (replaced e x) ss)
        (blank_replaced e x ss (healed_part e) (off_blank f m dis g off'))
        ∙ along_replaced e x ss (healed_part e) (off_blank f m dis e off)
