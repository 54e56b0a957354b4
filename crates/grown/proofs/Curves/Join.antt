-- A survey with two lines joined at a place where no other line ends (kinds 9 and 10). Assumes nothing.
use mathlib.Core.Path.{◌≡◌, refl, sym, ap, ◌∙◌, subst}
use mathlib.Core.Bool.{Bool, true, false, not, cond}
use mathlib.Core.List.Memᴰ
use mathlib.Core.List.{map-append, List, [], ◌∷◌, ◌++◌, map, Memᴰ}
use mathlib.Core.Logic.{inl, inr, ◌≢◌}
use Prim.Native.Nat.{ℕ, ◌≤◌}
use lib.ListN.{length}
use borrow.Author.Tests.{not-true}
use Rattle.lists.specs.Members.{Distinct, All}
use Rattle.lists.proofs.Bools.{same_false, differ}
use Rattle.lists.proofs.Keeps.{keep_in, keep_has, distinct_map_keep}
use Rattle.lists.proofs.Lookups.{Located, located}
use Rattle.lists.proofs.Members.{between_cases}
use Rattle.curves.specs.Curves.{Curve, last_point, points, max_points}
use Rattle.curves.specs.Edits.{joined, course}
use Rattle.geometry.specs.Drawing.{NoEnd, ClearCurves, Drawn, GoodCurve}
use Rattle.geometry.proofs.Drawing.{Taken, take, put-taken, heal-taken, good_course, clear-course, clear_sym, all_take}
use Rattle.geometry.proofs.Theorems.{join_last}
use Rattle.geometry.proofs.Turning.{last_turned}
use Rattle.map_laws.proofs.Readings.{without}
use Rattle.grown.proofs.Curves.Kept.{kept_course, kept_joined}
use Rattle.grown.proofs.Curves.Survey.{Line, Place, curve_in, place_number, line_number, Sited, Survey}
use Rattle.grown.proofs.Curves.Sites.{number-one, point-one, unplot, Clear, sited_without}

-- the place where a line, taken one way round or the other, leaves and the one where it arrives
abbrev pub tail_place : Bool → Line → Place
tail_place s l = record { number = cond s l.end l.start; at = (course s l.curve).first }

abbrev pub head_place : Bool → Line → Place
head_place s l = record { number = cond s l.start l.end; at = last_point (course s l.curve) }

tail_in_lem : {ps : List Place} (s : Bool) (l : Line) → Sited ps l → Memᴰ (tail_place s l) ps
tail_in_lem false l h = h.start
tail_in_lem true l h = h.end

head_in_lem : {ps : List Place} (s : Bool) (l : Line) → Sited ps l → Memᴰ (head_place s l) ps
head_in_lem false l h = h.end
head_in_lem true l h = Memᴰ.cast (λ t. record { number = l.start; at = last_turned l.curve.first l.curve.rest t })
    h.start

-- the join of c and d, numbered e
abbrev pub healed_line : ℕ → Bool → Line → Bool → Line → Line
healed_line e s c t d = record {
  number = e;
  start = (tail_place s c).number;
  end = (head_place t d).number;
  curve = joined (course s c.curve) (course t d.curve);
}

-- c arrives at n and d leaves it; no other end of a line is there
pub record Seam (ls : List Line) (n : ℕ) (s : Bool) (c : Line) (t : Bool) (d : Line) : Type 0 where
  pub first : Memᴰ c ls
  pub second : Memᴰ d ls
  pub two : d.number ≢ c.number
  pub arrives : (head_place s c).number ≡ n
  pub leaves : (tail_place t d).number ≡ n
  pub from : (tail_place s c).number ≢ n
  pub to : (head_place t d).number ≢ n
  pub others : (k : Line) → Memᴰ k ls → k.number ≢ c.number → k.number ≢ d.number → Clear n k

module _ (ls : List Line) (ps : List Place) (n e : ℕ) (s : Bool) (c : Line) (t : Bool) (d : Line) (S : Survey ls ps)
    (dis : Distinct (map line_number ls)) (w : Seam ls n s c t d)
    (most : length (points (joined (course s c.curve) (course t d.curve))) ≤ max_points) where
  abbrev rest : List Line
  rest = without line_number d.number (without line_number c.number ls)

  abbrev c' : Curve
  c' = course s c.curve

  abbrev d' : Curve
  d' = course t d.curve

  tail_c : Memᴰ (tail_place s c) ps
  tail_c = tail_in_lem s c (S.sited c w.first)

  head_c : Memᴰ (head_place s c) ps
  head_c = head_in_lem s c (S.sited c w.first)

  tail_d : Memᴰ (tail_place t d) ps
  tail_d = tail_in_lem t d (S.sited d w.second)

  head_d : Memᴰ (head_place t d) ps
  head_d = head_in_lem t d (S.sited d w.second)

  joint : d'.first ≡ last_point c'
  joint = ap (λ (p : Place). p.at) (number-one S.plotted tail_d head_c (w.leaves ∙ sym w.arrives))

  open_c : last_point c' ≢ c'.first
  open_c k = w.from (ap place_number (point-one S.plotted tail_c head_c (sym k)) ∙ w.arrives)

  open_d : last_point d' ≢ d'.first
  open_d k = w.to (ap place_number (point-one S.plotted head_d tail_d k) ∙ w.leaves)

  -- the other lines
  other : (k : Line) → Memᴰ k rest → Memᴰ k ls × Clear n k
  other k m =
      let f = keep_in _ (without line_number c.number ls) m in
      let g = keep_in _ ls f.0 in (
        g.0,
        w.others k g.0 (differ k.number c.number (not-true _ g.1))
            (differ k.number d.number (not-true _ f.1)),
      )

  away : (k : Line) → Memᴰ k rest → NoEnd (last_point c') k.curve
  away k m =
      let o = other k m in
      record {
        first = λ q. o.1.start (sym (ap place_number (point-one S.plotted head_c (S.sited k o.0).start q))
            ∙ w.arrives);
        last = λ q. o.1.end (sym (ap place_number (point-one S.plotted head_c (S.sited k o.0).end q))
            ∙ w.arrives);
      }

  away_all : (l : List Line) → ((k : Line) → Memᴰ k l → NoEnd (last_point c') k.curve)
      → All (NoEnd (last_point c')) (map curve_in l)
  away_all [] h = tt
  away_all (k ∷ l) h = (h k (Memᴰ.head refl), away_all l (λ j i. h j (Memᴰ.tail i)))

  h : Located line_number c ls
  h = located line_number ls dis w.first

  -- d among the others of c
  h' : Located line_number d (without line_number c.number ls)
  h' = located line_number (without line_number c.number ls) (distinct_map_keep line_number _ ls dis)
      (keep_has _ ls w.second (ap not (same_false d.number c.number w.two)))

  abbrev xs : List Curve
  xs = map curve_in h.before

  abbrev ys : List Curve
  ys = map curve_in h.after

  abbrev us : List Curve
  us = map curve_in h'.before

  abbrev vs : List Curve
  vs = map curve_in h'.after

  around_c : Drawn (xs ++ (c.curve ∷ ys))
  around_c = subst Drawn (ap (map curve_in) h.is ∙ map-append curve_in h.before (c ∷ h.after)) S.drawn

  around_d : xs ++ ys ≡ us ++ (d.curve ∷ vs)
  around_d = sym (map-append curve_in h.before h.after) ∙ ap (map curve_in) (sym h.others ∙ h'.is)
      ∙ map-append curve_in h'.before (d ∷ h'.after)

  left : map curve_in rest ≡ us ++ vs
  left = ap (map curve_in) h'.others ∙ map-append curve_in h'.before h'.after

  taken : Taken (joined c' d') (map curve_in rest)
  taken = subst (Taken (joined c' d')) (sym left)
      (heal-taken xs ys us vs c.curve d.curve s t around_d around_c joint open_c open_d
      (subst (All (NoEnd (last_point c'))) left (away_all rest away)))

  -- the two curves are good and share common ends only
  taken_c : Taken c.curve (xs ++ ys)
  taken_c = take xs ys c.curve around_c

  taken_d : Taken d.curve (us ++ vs)
  taken_d = take us vs d.curve (subst Drawn around_d taken_c.drawn)

  good_c : GoodCurve c'
  good_c = good_course s c.curve taken_c.good

  good_d : GoodCurve d'
  good_d = good_course t d.curve taken_d.good

  clear : ClearCurves c' d'
  clear = clear-course s c.curve d' (clear_sym d' c.curve
      (clear-course t d.curve c.curve (clear_sym c.curve d.curve
      (all_take (ClearCurves c.curve) us vs d.curve
      (subst (All (ClearCurves c.curve)) around_d taken_c.clear)).0)))

  healed_sited : Sited (without place_number n ps) (healed_line e s c t d)
  healed_sited = sited_without ps n (healed_line e s c t d) (record { start = w.from; end = w.to })
      (record {
        kept = kept_joined c' d' good_c.some good_d.some joint most
            (kept_course s c.curve (S.sited c w.first).kept)
            (kept_course t d.curve (S.sited d w.second).kept);
        start = tail_c;
        end = Memᴰ.cast (λ i. record {
          number = (head_place t d).number;
          at = join_last c' d' joint open_c good_c good_d open_d clear i;
        }) head_d;
      })

  -- the join stands anywhere in what is left
  pub survey_heal : (ks js : List Line) → rest ≡ ks ++ js
      → Survey (ks ++ (healed_line e s c t d ∷ js)) (without place_number n ps)
  survey_heal ks js q =
      record {
        drawn = rw (map-append curve_in ks (healed_line e s c t d ∷ js))
            (put-taken (map curve_in ks) (map curve_in js) (ap (map curve_in) q ∙ map-append curve_in ks js) taken);
        sited = λ k m. elim (between_cases ks (healed_line e s c t d) js m) [
          | inl i ↦ subst (Sited (without place_number n ps)) (sym i) healed_sited
          | inr i ↦ let o = other k (subst (Memᴰ k) (sym q) i) in sited_without ps n k o.1 (S.sited k o.0)
        ];
        plotted = unplot _ ps S.plotted;
      }
