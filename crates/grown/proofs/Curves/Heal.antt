-- Surveyed kept by kinds 9 and 10: two edges joined. Assumes nothing.
use mathlib.Core.Path.{◌≡◌, refl, sym, ap, ap₂, ◌∙◌, subst}
use mathlib.Core.Bool.{Bool, true, false, not, cond}
use mathlib.Core.List.Memᴰ
use mathlib.Core.List.{List, [], ◌∷◌, ◌++◌, map, append-nil, Memᴰ}
use mathlib.Core.Option.{get_or}
use mathlib.Core.Logic.{◌⊎◌, inl, inr, ◌≢◌}
use Prim.Native.Nat.{ℕ, ◌≤◌}
use lib.ListN.{length}
use Rattle.lists.proofs.Bools.{same_false}
use Rattle.lists.proofs.Keeps.{keep_swap, keep_append}
use Rattle.lists.proofs.Lookups.{Located, located}
use Rattle.curves.specs.Curves.{Curve, points, max_points}
use Rattle.curves.specs.Edits as edits
use Rattle.curves.specs.Edits.{joined}
use Rattle.planar_maps.specs.Map.{Dart, fwd, bwd, rev}
use Rattle.map.specs.declared.Variant.{Variant}
use Rattle.map.specs.declared.Variant.TheVariants.{New, Mod}
use Rattle.map.specs.Rows.{Edge, Map, edge, has_edge}
use Rattle.map.specs.Darts.{directed, leaves}
use Rattle.map.specs.Edits.{heal, joint, parts, healed_curve}
use Rattle.map.proofs.Laws.{edge_there_lem}
use Rattle.map_laws.proofs.Readings.{without, edge_at, row_has, dart_has, has_dart, leaves_row, course_row}
use Rattle.map_laws.proofs.Reasons.{Heal}
use Rattle.grown.specs.Good.{Surveyed, Good}
use Rattle.grown.proofs.Curves.Survey.{Line, line_of, lines, places, place_number, line_number, Survey, lines_once}
use Rattle.grown.proofs.Curves.Survey.{survey, surveyed_by}
use Rattle.grown.proofs.Curves.Sites.{Clear}
use Rattle.grown.proofs.Curves.Join.{tail_place, head_place, healed_line, Seam, survey_heal}
use Rattle.grown.proofs.Curves.Halves.{replaced, healed_row, heal_new_becomes, heal_mod_becomes}
use Rattle.grown.proofs.Joint.{Seamed, seamed}

-- the line of a directed edge
abbrev line_at : Map → Dart → Line
line_at m d = line_of (edge m d.edge)

module _ (m : Map) (d : Dart) where
  leaves_tail : leaves m d ≡ (tail_place d.back (line_at m d)).number
  leaves_tail = leaves_row m d

  arrives_head : leaves m (rev d) ≡ (head_place d.back (line_at m d)).number
  arrives_head = leaves_row m (rev d) ∙ go d.back
    where
      go : (b : Bool) → cond (not b) (edge m d.edge).end (edge m d.edge).start
          ≡ cond b (edge m d.edge).start (edge m d.edge).end
      go true = refl
      go false = refl

module _ (m : Map) (G : Good m) (e f : ℕ) (h : Heal m e f) where
  abbrev c : Dart
  c = (parts m e f).0

  abbrev d : Dart
  d = (parts m e f).1

  abbrev n : ℕ
  n = get_or (joint m e f) 0

  w : Seamed m e f n c d
  w = seamed m e f h

  has_c : has_edge m c.edge ≡ true
  has_c = dart_has m w.first_in

  has_d : has_edge m d.edge ≡ true
  has_d = dart_has m w.second_in

  number_c : (line_at m c).number ≡ c.edge
  number_c = (edge_there_lem m c.edge has_c).1

  number_d : (line_at m d).number ≡ d.edge
  number_d = (edge_there_lem m d.edge has_d).1

  -- another edge does not end at the joint
  other : (r : Edge) → Memᴰ r m.edges → r.number ≢ c.edge → r.number ≢ d.edge → Clear n (line_of r)
  other r k u v =
      record {
        start = λ q. away (fwd r.number) u v (has_dart m (fwd r.number) (row_has m k))
            (leaves_row m (fwd r.number) ∙ ap (λ (x : Edge). x.start) row ∙ q);
        end = λ q. away (bwd r.number) u v (has_dart m (bwd r.number) (row_has m k))
            (leaves_row m (bwd r.number) ∙ ap (λ (x : Edge). x.end) row ∙ q);
      }
    where
      row : edge m r.number ≡ r
      row = edge_at m G.woven.planar.edges_once k

      away : (z : Dart) → z.edge ≢ c.edge → z.edge ≢ d.edge → Memᴰ z (directed m) → leaves m z ≡ n → ⊥
      away z u v i q = elim (w.only z i q) [
        | inl r ↦ u (ap (λ (x : Dart). x.edge) r)
        | inr r ↦ v
            (ap (λ (x : Dart). x.edge) r)
      ]

  seam : Seam (lines m) n c.back (line_at m c) d.back (line_at m d)
  seam =
      record {
        first = Memᴰ.map line_of (edge_there_lem m c.edge has_c).0;
        second = Memᴰ.map line_of (edge_there_lem m d.edge has_d).0;
        two = λ q. w.two (sym number_c ∙ sym q ∙ number_d);
        arrives = sym (arrives_head m c) ∙ w.meet.arrives;
        leaves = sym (leaves_tail m d) ∙ w.meet.departs;
        from = λ q. w.from (leaves_tail m c ∙ q);
        to = λ q. w.to (arrives_head m d ∙ q);
        others = λ k i u v. let x = Memᴰ.of_map line_of m.edges i in subst (Clear n) x.2
            (other x.0 x.1 (λ q. u (sym (ap line_number x.2) ∙ q ∙ sym number_c))
            (λ q. v (sym (ap line_number x.2) ∙ q ∙ sym number_d)));
      }

  curves : healed_curve m e f ≡ joined (edits.course c.back (line_at m c).curve)
      (edits.course d.back (line_at m d).curve)
  unfolding healed_curve
  curves = ap₂ joined (course_row m c) (course_row m d)

  -- the line of the healed edge
  healed : (k : ℕ) → healed_line k c.back (line_at m c) d.back (line_at m d) ≡ healed_row k e f m
  healed k = λ i. record {
    number = k;
    start = sym (leaves_tail m c) i;
    end = sym (arrives_head m d) i;
    curve = sym curves i;
  }

  -- what is left of the lines, whichever part is of e
  left : without line_number (line_at m d).number (without line_number (line_at m c).number (lines m))
      ≡ without line_number e (without line_number f (lines m))
  left = rw (number_c, number_d) (go w.meet.edges)
    where
      go : ((c.edge ≡ e) × (d.edge ≡ f)) ⊎ ((c.edge ≡ f) × (d.edge ≡ e))
          → without line_number d.edge (without line_number c.edge (lines m))
          ≡ without line_number e (without line_number f (lines m))
      go (inl q) = (λ i. without line_number (q.1 i) (without line_number (q.0 i) (lines m))) ∙ keep_swap _ _ (lines m)
      go (inr q) = λ i. without line_number (q.1 i) (without line_number (q.0 i) (lines m))

  heals : (k : ℕ) (ks js : List Line) → without line_number e (without line_number f (lines m)) ≡ ks ++ js
      → Survey (ks ++ (healed_row k e f m ∷ js)) (without place_number n (places m))
  heals k ks js q = subst (λ (l : Line). Survey (ks ++ (l ∷ js)) (without place_number n (places m))) (healed k)
      (survey_heal (lines m) (places m) n k c.back (line_at m c) d.back (line_at m d) (survey m G)
      (lines_once m G) seam
      (subst (λ (x : Curve). length (points x) ≤ max_points) curves h.most) ks js (left ∙ q))

  -- the healed line stands last, or where e stood
  pub surveyed_heal : (how : Variant) → Surveyed (heal how e f m)
  surveyed_heal New = let b = heal_new_becomes e f m in surveyed_by (heal New e f m) b.lines b.places
      (heals m.next.edges (without line_number e (without line_number f (lines m))) []
      (sym (append-nil (without line_number e (without line_number f (lines m))))))
  surveyed_heal Mod = let b = heal_mod_becomes e f m in
      surveyed_by (heal Mod e f m) (b.lines ∙ lined) b.places
      (heals e (others k.before) (others k.after) split)
    where
      others : List Line → List Line
      others l = without line_number f l

      number_e : (edge m e).number ≡ e
      number_e = (edge_there_lem m e h.has).1

      k : Located line_number (line_of (edge m e)) (lines m)
      k = located line_number (lines m) (lines_once m G) (Memᴰ.map line_of (edge_there_lem m e h.has).0)

      healed_row_lem : Line
      healed_row_lem = healed_row e e f m

      placed : map (replaced e healed_row_lem) (lines m) ≡ k.before ++ (healed_row_lem ∷ k.after)
      placed = ap (λ (i : ℕ). map (replaced i healed_row_lem) (lines m)) (sym number_e) ∙ k.changed (λ r. healed_row_lem)

      lined : others (map (replaced e healed_row_lem) (lines m)) ≡ others k.before ++ (healed_row_lem ∷ others k.after)
      lined = ap others placed ∙ keep_append _ k.before (healed_row_lem ∷ k.after)
          ∙ ap (λ (b : Bool). others k.before ++ cond (not b) (healed_row_lem ∷ others k.after) (others k.after))
          (same_false e f h.differ)

      split : without line_number e (others (lines m)) ≡ others k.before ++ others k.after
      split = keep_swap _ _ (lines m) ∙ ap (λ (i : ℕ). others (without line_number i (lines m))) (sym number_e)
          ∙ ap others k.others ∙ keep_append _ k.before k.after
