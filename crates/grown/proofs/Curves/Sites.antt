-- Surveys with places and lines more, fewer and changed. Assumes nothing.
use mathlib.Core.Path.{◌≡◌, refl, sym, ap, ◌∙◌, subst}
use mathlib.Core.Bool.{Bool, true, false, not, cond, true≢false}
use mathlib.Core.List.Memᴰ
use mathlib.Core.List.{map-append, List, [], ◌∷◌, ◌++◌, map, map-map, Memᴰ}
use mathlib.Core.Logic.{◌⊎◌, inl, inr, ◌≢◌}
use Prim.Native.Nat.{ℕ}
use Rattle.lists.specs.Members.{Distinct, All}
use Rattle.lists.specs.Tests.{same}
use Rattle.lists.specs.Scans.{keep}
use Rattle.lists.proofs.Bools.{same_true, same_false, same_eq}
use Rattle.lists.proofs.Keeps.{keep_in, keep_has, distinct_map_keep, all_keep, pairs_keep}
use Rattle.lists.proofs.Perms.{distinct_map, distinct_injective, distinct_of, map_last, perm_distinct}
use Rattle.lists.proofs.Lookups.{Located, located}
use Rattle.lists.proofs.Members.{between_cases, each_last}
use Rattle.plane.specs.declared.Point.{Point}
use Rattle.plane.specs.Points.{InRange}
use Rattle.curves.specs.Curves.{Curve}
use Rattle.curves.specs.Tests.{is_simple, meet_wrongly}
use Rattle.geometry.specs.Meaning.{Some, Differ}
use Rattle.geometry.specs.Drawing.{GoodCurve, ClearCurves, Drawn}
use Rattle.geometry.proofs.Edits.{change, append}
use Rattle.map_laws.proofs.Readings.{without}
use Rattle.grown.proofs.Curves.Survey.{Line, Place, curve_in, at_in, place_number, line_number, start_of, end_of}
use Rattle.grown.proofs.Curves.Survey.{Plotted, Sited, Survey}

-- ---- places

-- places with one number, and places with one point, are one
module _ {ps : List Place} (P : Plotted ps) {p q : Place} (k : Memᴰ p ps) (l : Memᴰ q ps) where
  pub number-one : p.number ≡ q.number → p ≡ q
  number-one = distinct_injective place_number ps P.numbered p q k l

  pub point-one : p.at ≡ q.at → p ≡ q
  point-one = distinct_injective at_in ps P.apart p q k l

-- a place more
pub plot : (ps : List Place) (p : Place) → Plotted ps → InRange p.at
    → (Memᴰ p.number (map place_number ps) → ⊥) → (Memᴰ p.at (map at_in ps) → ⊥)
    → Plotted (ps ++ (p ∷ []))
plot ps p P r n a =
    record {
      in_range = each_last ps P.in_range r;
      apart = perm_distinct (map_last at_in ps p) (a, P.apart);
      numbered = perm_distinct (map_last place_number ps p) (n, P.numbered);
    }

-- places left out
pub unplot : (p : Place → Bool) (ps : List Place) → Plotted ps → Plotted (keep p ps)
unplot p ps P = record {
  in_range = λ q m. P.in_range q (keep_in p ps m).0;
  apart = distinct_map_keep at_in p ps P.apart;
  numbered = distinct_map_keep place_number p ps P.numbered;
}

-- the place n moved to p
abbrev pub moved : ℕ → Point → Place → Place
moved n p q = cond (same q.number n) (record { number = n; at = p }) q

module _ (n : ℕ) (p : Point) (ps : List Place) (P : Plotted ps) (r : InRange p)
    (free : (q : Place) → Memᴰ q ps → q.number ≢ n → q.at ≢ p) where
  moved_number : (q : Place) → (moved n p q).number ≡ q.number
  moved_number q = go (same q.number n) refl
    where
      go : (b : Bool) → same q.number n ≡ b → place_number (cond b (record { number = n; at = p }) q) ≡ q.number
      go true e = sym (same_true q.number n e)
      go false e = refl

  abbrev Case : Place → Type 0
  Case q = ((q.number ≡ n) × ((moved n p q).at ≡ p)) ⊎ ((q.number ≢ n) × (moved n p q ≡ q))

  moved_case : (q : Place) → Case q
  moved_case q = go (same q.number n) refl
    where
      go : (b : Bool) → same q.number n ≡ b
          → ((q.number ≡ n) × (at_in (cond b (record { number = n; at = p }) q) ≡ p))
          ⊎ ((q.number ≢ n) × (cond b (record { number = n; at = p }) q ≡ q))
      go true e = inl (same_true q.number n e, refl)
      go false e = inr ((λ k. true≢false (sym (same_eq q.number n k) ∙ e)), refl)

  replot : Plotted (map (moved n p) ps)
  replot =
      record {
        in_range = λ q m. let w = Memᴰ.of_map (moved n p) ps m in
            subst (λ (z : Place). InRange z.at) w.2 (range w.0 w.1 (moved_case w.0));
        apart = rw (map-map at_in (moved n p) ps)
            (distinct_map (λ q. (moved n p q).at) ps (distinct_of at_in ps P.apart)
            (λ x y k l. one x y k l (moved_case x) (moved_case y)));
        numbered = rw (map-map place_number (moved n p) ps)
            (distinct_map (λ q. (moved n p q).number) ps (distinct_of at_in ps P.apart)
            (λ x y k l e. number-one P k l (sym (moved_number x) ∙ e ∙ moved_number y)));
      }
    where
      range : (q : Place) → Memᴰ q ps → Case q → InRange (moved n p q).at
      range q k (inl e) = subst InRange (sym e.1) r
      range q k (inr e) = subst (λ (z : Place). InRange z.at) (sym e.1) (P.in_range q k)

      one : (x y : Place) → Memᴰ x ps → Memᴰ y ps → Case x → Case y → (moved n p x).at ≡ (moved n p y).at → x
          ≡ y
      one x y k l (inl e) (inl f) h = number-one P k l (e.0 ∙ sym f.0)
      one x y k l (inl e) (inr f) h = absurd (free y l f.0 (sym (ap at_in f.1) ∙ sym h ∙ e.1))
      one x y k l (inr e) (inl f) h = absurd (free x k e.0 (sym (ap at_in e.1) ∙ h ∙ f.1))
      one x y k l (inr e) (inr f) h = point-one P k l (sym (ap at_in e.1) ∙ h ∙ ap at_in f.1)

  -- another place stays
  unmoved : (q : Place) → Memᴰ q ps → q.number ≢ n → Memᴰ q (map (moved n p) ps)
  unmoved q k f = go (moved_case q)
    where
      go : Case q → Memᴰ q (map (moved n p) ps)
      go (inl e) = absurd (f e.0)
      go (inr e) = Memᴰ.cast (sym e.1) (Memᴰ.map (moved n p) k)

-- ---- lines stay where they are when the places that they name do

-- no end of the line is the place n
pub record Clear (n : ℕ) (l : Line) : Type 0 where
  pub start : l.start ≢ n
  pub end : l.end ≢ n

resite : {ps qs : List Place} (l : Line) → (Memᴰ (start_of l) ps → Memᴰ (start_of l) qs)
    → (Memᴰ (end_of l) ps → Memᴰ (end_of l) qs) → Sited ps l → Sited qs l
resite l f g s = record { kept = s.kept; start = f s.start; end = g s.end }

-- a place more
pub sited_more : (ps : List Place) (p : Place) (l : Line) → Sited ps l → Sited (ps ++ (p ∷ [])) l
sited_more ps p l = resite l (Memᴰ.append_left (p ∷ [])) (Memᴰ.append_left (p ∷ []))

-- a place left out that the line does not name
pub sited_without : (ps : List Place) (n : ℕ) (l : Line) → Clear n l → Sited ps l → Sited (without place_number n ps) l
sited_without ps n l c = resite l (λ k. keep_has _ ps k (ap not (same_false l.start n c.start)))
    (λ k. keep_has _ ps k (ap not (same_false l.end n c.end)))

-- ---- surveys with other places

pub survey_plot : (ls : List Line) (ps : List Place) (p : Place) → Survey ls ps → InRange p.at
    → (Memᴰ p.number (map place_number ps) → ⊥) → (Memᴰ p.at (map at_in ps) → ⊥)
    → Survey ls (ps ++ (p ∷ []))
survey_plot ls ps p S r n a = record {
  drawn = S.drawn;
  sited = λ l k. sited_more ps p l (S.sited l k);
  plotted = plot ps p S.plotted r n a;
}

pub survey_unplot : (ls : List Line) (ps : List Place) (n : ℕ) → Survey ls ps
    → ((l : Line) → Memᴰ l ls → Clear n l) → Survey ls (without place_number n ps)
survey_unplot ls ps n S c = record {
  drawn = S.drawn;
  sited = λ l k. sited_without ps n l (c l k) (S.sited l k);
  plotted = unplot _ ps S.plotted;
}

pub survey_move : (ls : List Line) (ps : List Place) (n : ℕ) (p : Point) → Survey ls ps → InRange p
    → ((q : Place) → Memᴰ q ps → q.number ≢ n → q.at ≢ p) → ((l : Line) → Memᴰ l ls → Clear n l)
    → Survey ls (map (moved n p) ps)
survey_move ls ps n p S r free c =
    record {
      drawn = S.drawn;
      sited = λ l k. resite l (λ i. unmoved n p ps S.plotted r free (start_of l) i (c l k).start)
          (λ i. unmoved n p ps S.plotted r free (end_of l) i (c l k).end) (S.sited l k);
      plotted = replot n p ps S.plotted r free;
    }

-- ---- surveys with other lines

pub survey_keep : (q : Line → Bool) (ls : List Line) (ps : List Place) → Survey ls ps → Survey (keep q ls) ps
survey_keep q ls ps S =
    record {
      drawn = record {
        good = all_keep curve_in q GoodCurve ls S.drawn.good;
        clear = pairs_keep curve_in q ClearCurves ls S.drawn.clear;
      };
      sited = λ l k. S.sited l (keep_in q ls k).0;
      plotted = S.plotted;
    }

-- a curve as the tests of a ticket leave it
pub record Drawable (c : Curve) (others : List Line) : Type 0 where
  pub some : Some c.rest
  pub differ : Differ c.first c.rest
  pub simple : is_simple c ≡ true
  pub meets : (l : Line) → Memᴰ l others → meet_wrongly c l.curve ≡ false

meets_all : (c : Curve) (ls : List Line) → ((l : Line) → Memᴰ l ls → meet_wrongly c l.curve ≡ false)
    → All (λ e. meet_wrongly c e ≡ false) (map curve_in ls)
meets_all c [] h = tt
meets_all c (l ∷ ls) h = (h l (Memᴰ.head refl), meets_all c ls (λ k i. h k (Memᴰ.tail i)))

-- kinds 4, 11, 12
pub survey_append : (ls : List Line) (ps : List Place) (l : Line) → Survey ls ps → Drawable l.curve ls → Sited ps l
    → Survey (ls ++ (l ∷ [])) ps
survey_append ls ps l S d s =
    record {
      drawn = rw (map-append curve_in ls (l ∷ []))
          (append (map curve_in ls) l.curve d.some d.differ d.simple (meets_all l.curve ls d.meets)
          S.drawn);
      sited = each_last ls S.sited s;
      plotted = S.plotted;
    }

-- kind 6
pub survey_change : (ls : List Line) (ps : List Place) (l : Line) (f : Line → Line) → Survey ls ps
    → Distinct (map line_number ls) → Memᴰ l ls
    → Drawable (f l).curve (without line_number l.number ls) → Sited ps (f l)
    → Survey (map (λ r. cond (same r.number l.number) (f r) r) ls) ps
survey_change ls ps l f S dis i d s = subst (λ (k : List Line). Survey k ps) (sym (h.changed f)) survey
  where
    h : Located line_number l ls
    h = located line_number ls dis i

    xs : List Line
    xs = h.before

    ys : List Line
    ys = h.after

    old : Drawn (map curve_in xs ++ (l.curve ∷ map curve_in ys))
    old = subst Drawn (ap (map curve_in) h.is ∙ map-append curve_in xs (l ∷ ys)) S.drawn

    others : All (λ e. meet_wrongly (f l).curve e ≡ false) (map curve_in xs ++ map curve_in ys)
    others = subst (All (λ e. meet_wrongly (f l).curve e ≡ false))
        (ap (map curve_in) h.others ∙ map-append curve_in xs ys)
        (meets_all (f l).curve (without line_number l.number ls) d.meets)

    rest : (k : Line) → Memᴰ k (xs ++ ys) → Sited ps k
    rest k m = S.sited k (keep_in _ ls (subst (Memᴰ k) (sym h.others) m)).0

    survey : Survey (xs ++ (f l ∷ ys)) ps
    survey =
        record {
          drawn = rw (map-append curve_in xs (f l ∷ ys))
              (change (map curve_in xs) (map curve_in ys) l.curve (f l).curve d.some d.differ
              d.simple others old);
          sited = λ k m. elim (between_cases xs (f l) ys m) [ inl e ↦ subst (Sited ps) (sym e) s | inr j ↦ rest k j ];
          plotted = S.plotted;
        }
