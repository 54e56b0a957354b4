-- A survey with one line cut at a point that is no place yet (kinds 7 and 8). Assumes nothing.
use mathlib.Core.Path.{◌≡◌, refl, sym, ap, ◌∙◌, subst}
use mathlib.Core.Bool.{true, cond}
use mathlib.Core.List.Memᴰ
use mathlib.Core.List.{map-append, List, [], ◌∷◌, ◌++◌, map, Memᴰ}
use mathlib.Core.Logic.{◌⊎◌, inl, inr, ◌≢◌}
use Prim.Native.Nat.{ℕ}
use Rattle.lists.specs.Members.{Distinct}
use Rattle.lists.specs.Tests.{same}
use Rattle.lists.proofs.Keeps.{keep_in}
use Rattle.lists.proofs.Lookups.{Located, located}
use Rattle.lists.proofs.Members.{between_cases}
use Rattle.plane.specs.declared.Point.{Point}
use Rattle.plane.specs.Points.{InRange}
use Rattle.curves.specs.Curves.{last_point}
use Rattle.curves.specs.Tests.{on_curve}
use Rattle.curves.specs.Edits.{front, back}
use Rattle.geometry.specs.Spots.{spot}
use Rattle.geometry.specs.Drawing.{OnCurve, Drawn, GoodCurve}
use Rattle.geometry.proofs.Drawing.{take}
use Rattle.geometry.proofs.Edits.{split_new, split-mod}
use Rattle.geometry.proofs.Theorems.{cut_ends, on_curve_iff}
use Rattle.map_laws.proofs.Readings.{without}
use Rattle.grown.proofs.Curves.Kept.{kept_front, kept_back}
use Rattle.grown.proofs.Curves.Survey.{Line, Place, curve_in, at_in, place_number, line_number, Sited, Survey}
use Rattle.grown.proofs.Curves.Sites.{plot, sited_more}

-- the halves of the line, from its start to the new place n and from there to its end
abbrev pub first_half : Line → ℕ → ℕ → Point → Line
first_half l n a p = record { number = a; start = l.start; end = n; curve = front p l.curve }

abbrev pub second_half : Line → ℕ → ℕ → Point → Line
second_half l n b p = record { number = b; start = n; end = l.end; curve = back p l.curve }

module _ (ls : List Line) (ps : List Place) (l : Line) (n a b : ℕ) (p : Point) (S : Survey ls ps)
    (dis : Distinct (map line_number ls)) (i : Memᴰ l ls)
    (on : on_curve l.curve p ≡ true) (r : InRange p) (new : Memᴰ n (map place_number ps) → ⊥)
    (free : Memᴰ p (map at_in ps) → ⊥) where
  abbrev place : Place
  place = record { number = n; at = p }

  h : Located line_number l ls
  h = located line_number ls dis i

  -- neither end is the point, which is no place
  not_first : l.curve.first ≢ p
  not_first e = free (Memᴰ.cast (sym e) (Memᴰ.map at_in (S.sited l i).start))

  not_last : last_point l.curve ≢ p
  not_last e = free (Memᴰ.cast (sym e) (Memᴰ.map at_in (S.sited l i).end))

  on_curve_lem : OnCurve (spot p) l.curve
  on_curve_lem = (on_curve_iff l.curve p).0 on

  old : Drawn (map curve_in h.before ++ (l.curve ∷ map curve_in h.after))
  old = subst Drawn (ap (map curve_in) h.is ∙ map-append curve_in h.before (l ∷ h.after)) S.drawn

  good : GoodCurve l.curve
  good = (take (map curve_in h.before) (map curve_in h.after) l.curve old).good

  there : Memᴰ place (ps ++ (place ∷ []))
  there = Memᴰ.append_right ps (Memᴰ.head refl)

  ends : (last_point (front p l.curve) ≡ p) × (last_point (back p l.curve) ≡ last_point l.curve)
  ends = cut_ends p l.curve not_first not_last on_curve_lem good

  first_sited : Sited (ps ++ (place ∷ [])) (first_half l n a p)
  first_sited =
      record {
        kept = kept_front p l.curve not_first not_last on_curve_lem (S.sited l i).kept r;
        start = Memᴰ.append_left (place ∷ []) (S.sited l i).start;
        end = Memᴰ.cast (λ t. record { number = n; at = ends.0 t }) there;
      }

  second_sited : Sited (ps ++ (place ∷ [])) (second_half l n b p)
  second_sited =
      record {
        kept = kept_back p l.curve not_first not_last on_curve_lem (S.sited l i).kept r;
        start = there;
        end = Memᴰ.cast (λ t. record { number = l.end; at = ends.1 t })
            (Memᴰ.append_left (place ∷ []) (S.sited l i).end);
      }

  rest_sited : (k : Line) → Memᴰ k (h.before ++ h.after) → Sited (ps ++ (place ∷ [])) k
  rest_sited k m = sited_more ps place k (S.sited k (keep_in _ ls (subst (Memᴰ k) (sym h.others) m)).0)

  -- kind 7: both halves come last
  pub survey_split_new : Survey (without line_number l.number ls ++ (first_half l n a p ∷ second_half l n b p ∷ []))
      (ps ++ (place ∷ []))
  survey_split_new = subst (λ (k : List Line). Survey (k ++ halves) (ps ++ (place ∷ []))) (sym h.others) survey
    where
      halves : List Line
      halves = first_half l n a p ∷ second_half l n b p ∷ []

      drawn : Drawn (map curve_in ((h.before ++ h.after) ++ halves))
      drawn = rw (map-append curve_in (h.before ++ h.after) halves, map-append curve_in h.before h.after)
          (split_new (map curve_in h.before) (map curve_in h.after) p l.curve not_first not_last on_curve_lem old)

      sited : (k : Line) → Memᴰ k (h.before ++ h.after) ⊎ Memᴰ k halves → Sited (ps ++ (place ∷ [])) k
      sited k (inl m) = rest_sited k m
      sited k (inr m) = elim (Memᴰ.cases_cons m) [
        | inl e ↦ subst (Sited (ps ++ (place ∷ []))) (sym e) first_sited
        | inr j ↦ subst (Sited (ps ++ (place ∷ []))) (sym (Memᴰ.eq_of_singleton j)) second_sited
      ]

      survey : Survey ((h.before ++ h.after) ++ halves) (ps ++ (place ∷ []))
      survey = record {
        drawn = drawn;
        sited = λ k m. sited k (Memᴰ.append_cases (h.before ++ h.after) m);
        plotted = plot ps place S.plotted r new free;
      }

  -- kind 8: the first half stays where the line was
  pub survey_split_mod : Survey (map (λ r. cond (same r.number l.number) (first_half l n a p) r) ls
      ++ (second_half l n b p ∷ [])) (ps ++ (place ∷ []))
  survey_split_mod = subst (λ (k : List Line). Survey (k ++ (second_half l n b p ∷ [])) (ps ++ (place ∷ [])))
      (sym (h.changed (λ r. first_half l n a p))) survey
    where
      first : List Line
      first = h.before ++ (first_half l n a p ∷ h.after)

      drawn : Drawn (map curve_in (first ++ (second_half l n b p ∷ [])))
      drawn = rw (
        map-append curve_in first (second_half l n b p ∷ []),
        map-append curve_in h.before (first_half l n a p ∷ h.after),
      )
          (split-mod (map curve_in h.before) (map curve_in h.after) p l.curve not_first not_last on_curve_lem old)

      sited : (k : Line) → Memᴰ k first ⊎ Memᴰ k (second_half l n b p ∷ []) → Sited (ps ++ (place ∷ [])) k
      sited k (inl m) = elim (between_cases h.before (first_half l n a p) h.after m) [
        | inl e ↦ subst (Sited (ps ++ (place ∷ []))) (sym e) first_sited
        | inr j ↦ rest_sited k j
      ]
      sited k (inr m) = subst (Sited (ps ++ (place ∷ []))) (sym (Memᴰ.eq_of_singleton m)) second_sited

      survey : Survey (first ++ (second_half l n b p ∷ [])) (ps ++ (place ∷ []))
      survey = record {
        drawn = drawn;
        sited = λ k m. sited k (Memᴰ.append_cases first m);
        plotted = plot ps place S.plotted r new free;
      }
