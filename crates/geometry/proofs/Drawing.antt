-- Edits keep what is drawn: curves that are simple and share no points but common ends. Assumes nothing.
use mathlib.Core.Path.{◌≡◌, refl, sym, ap, ◌∙◌, subst}
use mathlib.Core.Bool.{Bool, true, false}
use mathlib.Core.List.{List, [], ◌∷◌, ◌++◌}
use mathlib.Core.Logic.{◌⊎◌, inl, inr, ◌≢◌}
use Rattle.plane.specs.declared.Point.{Point}
use Rattle.lists.specs.Members.{All, Pairs}
use Rattle.lists.proofs.Appends.{each_append}
use Rattle.curves.specs.Curves.{last_of, Curve, last_point}
use Rattle.curves.specs.Tests.{meet_wrongly, is_simple}
use Rattle.curves.specs.Edits.{cut, join, front, back, joined, course}
use Rattle.geometry.specs.Spots.{Spot, spot, At}
use Rattle.geometry.specs.Meaning.{On, Some, Differ, Simple, End, Clear}
use Rattle.geometry.specs.Drawing.{OnCurve, GoodCurve, ClearCurves, NoEnd, Drawn}
use Rattle.geometry.proofs.Segments.{at_one}
use Rattle.geometry.proofs.Chains.{end_on, arc-simple}
use Rattle.geometry.proofs.Cutting.{Cloven, cut_cloven}
use Rattle.geometry.proofs.Joining.{Joined, heal-joined}
use Rattle.geometry.proofs.Turning.{some_turned, differ_turned, simple-turned, clear-turned}
use Rattle.geometry.proofs.Truth.{unmet_clear, simple-true}

-- ---- lists

module _ {A : Type 0} (R : A → Type 0) where
  all_front : (xs ys : List A) → All R (xs ++ ys) → All R xs
  all_front [] ys h = tt
  all_front (x ∷ xs) ys h = (h.0, all_front xs ys h.1)

  all_back : (xs ys : List A) → All R (xs ++ ys) → All R ys
  all_back [] ys h = h
  all_back (x ∷ xs) ys h = all_back xs ys h.1

  pub all_put : (xs ys : List A) (c : A) → R c → All R (xs ++ ys) → All R (xs ++ (c ∷ ys))
  all_put xs ys c r h = each_append R xs (c ∷ ys) (all_front xs ys h) (r, all_back xs ys h)

  pub all_take : (xs ys : List A) (c : A) → All R (xs ++ (c ∷ ys)) → R c × All R (xs ++ ys)
  all_take xs ys c h = (
    (all_back xs (c ∷ ys) h).0,
    each_append R xs ys (all_front xs (c ∷ ys) h) (all_back xs (c ∷ ys) h).1,
  )

pub all_map : {A : Type 0} (R S : A → Type 0) → ((x : A) → R x → S x) → (l : List A) → All R l → All S l
all_map R S f [] h = tt
all_map R S f (x ∷ l) h = (f x h.0, all_map R S f l h.1)

pub all_map₂ : {A : Type 0} (Q R S : A → Type 0) → ((x : A) → Q x → R x → S x) → (l : List A) → All Q l → All R l
    → All S l
all_map₂ Q R S f [] h k = tt
all_map₂ Q R S f (x ∷ l) h k = (f x h.0 k.0, all_map₂ Q R S f l h.1 k.1)

-- one element out of the list, and into it
module _ {A : Type 0} (R : A → A → Type 0) (turn : (x y : A) → R x y → R y x) where
  pub pairs_take : (xs ys : List A) (c : A) → Pairs R (xs ++ (c ∷ ys)) → All (R c) (xs ++ ys) × Pairs R (xs ++ ys)
  pairs_take [] ys c h = h
  pairs_take (x ∷ xs) ys c h =
      let k = all_take (R x) xs ys c h.0 in
      let t = pairs_take xs ys c h.1 in
      ((turn x c k.0, t.0), (k.1, t.1))

  pub pairs_put : (xs ys : List A) (c : A) → All (R c) (xs ++ ys) → Pairs R (xs ++ ys) → Pairs R (xs ++ (c ∷ ys))
  pairs_put [] ys c h k = (h, k)
  pairs_put (x ∷ xs) ys c h k = (all_put (R x) xs ys c (turn c x h.0) k.0, pairs_put xs ys c h.1 k.1)

pub clear_sym : (c d : Curve) → ClearCurves c d → ClearCurves d c
clear_sym c d h P o p = let k = h P p o in (k.1, k.0)

-- ---- one curve more, one less

pub put : (xs ys : List Curve) (c : Curve) → GoodCurve c → All (ClearCurves c) (xs ++ ys) → Drawn (xs ++ ys)
    → Drawn (xs ++ (c ∷ ys))
put xs ys c g h d = record {
  good = all_put GoodCurve xs ys c g d.good;
  clear = pairs_put ClearCurves clear_sym xs ys c h d.clear;
}

pub record Taken (c : Curve) (l : List Curve) : Type 0 where
  pub good : GoodCurve c
  pub clear : All (ClearCurves c) l
  pub drawn : Drawn l

pub take : (xs ys : List Curve) (c : Curve) → Drawn (xs ++ (c ∷ ys)) → Taken c (xs ++ ys)
take xs ys c d =
    let g = all_take GoodCurve xs ys c d.good in
    let k = pairs_take ClearCurves clear_sym xs ys c d.clear in
    record { good = g.0; clear = k.0; drawn = record { good = g.1; clear = k.1 } }

pub put-taken : (xs ys : List Curve) {c : Curve} {l : List Curve} → l ≡ xs ++ ys → Taken c l → Drawn (xs ++ (c ∷ ys))
put-taken xs ys {c} e t = put xs ys c t.good (subst (All (ClearCurves c)) e t.clear) (subst Drawn e t.drawn)

-- a curve that passes the tests (kinds 4, 11, 12; with `take` before it, kind 6)
pub add : (xs ys : List Curve) (c : Curve) → Some c.rest → Differ c.first c.rest → is_simple c ≡ true
    → All (λ d. meet_wrongly c d ≡ false) (xs ++ ys)
    → Drawn (xs ++ ys) → Drawn (xs ++ (c ∷ ys))
add xs ys c s n e w d =
    put xs ys c (record { some = s; differ = n; simple = simple-true c.first c.rest e })
    (all_map (λ d. meet_wrongly c d ≡ false) (ClearCurves c)
    (λ d f. unmet_clear c d f) (xs ++ ys) w) d

-- ---- halves

end_on_some : (P : Spot) (a : Point) (r : List Point) → Some r → End P a r → On P a r
end_on_some P a [] h e = absurd h
end_on_some P a (b ∷ r) h e = end_on a b r e

module _ {m a : Point} {r u v : List Point} (h : Cloven m a r u v) where
  front-clear : (b : Point) (s : List Point) → Clear a r b s → Clear a u b s
  front-clear b s c P o p = let k = c P (h.on_front P o) p in (go k.0, k.1)
    where
      shared : At P m ⊎ (At P a × (last_of a r ≡ a)) → End P a u
      shared (inl e) = inr (subst (At P) (sym h.joint) e)
      shared (inr e) = inl e.0

      go : End P a r → End P a u
      go (inl e) = inl e
      go (inr e) = shared (h.shared P o (end_on_some P m v h.some_back (inr (subst (At P) (sym h.last) e))))

  back-clear : (b : Point) (s : List Point) → Clear a r b s → Clear m v b s
  back-clear b s c P o p = let k = c P (h.on_back P o) p in (go k.0, k.1)
    where
      shared : At P m ⊎ (At P a × (last_of a r ≡ a)) → End P m v
      shared (inl e) = inl e
      shared (inr e) = inr (subst (At P) (sym (h.last ∙ e.1)) e.0)

      go : End P a r → End P m v
      go (inl e) = shared (h.shared P (end_on_some P a u h.some_front (inl e)) o)
      go (inr e) = inr (subst (At P) (sym h.last) e)

  halves_clear : Clear a u m v
  halves_clear P o p = go (h.shared P o p)
    where
      go : At P m ⊎ (At P a × (last_of a r ≡ a)) → End P a u × End P m v
      go (inl e) = (inr (subst (At P) (sym h.joint) e), inl e)
      go (inr e) = (inl e.0, inr (subst (At P) (sym (h.last ∙ e.1)) e.0))

-- the cut's halves, for the curve c out of a drawing and m on it
pub record Split (m : Point) (c : Curve) (l : List Curve) : Type 0 where
  pub front_good : GoodCurve (front m c)
  pub back_good : GoodCurve (back m c)
  pub front-clear : All (ClearCurves (front m c)) l
  pub back-clear : All (ClearCurves (back m c)) l
  pub halves : ClearCurves (back m c) (front m c)
  pub cloven : Cloven m c.first c.rest (front m c).rest (back m c).rest

pub split : (m : Point) (c : Curve) (l : List Curve) → c.first ≢ m → last_point c ≢ m → OnCurve (spot m) c → Taken c l
    → Split m c l
split m c l n e o t =
    record {
      front_good = record {
        some = h.some_front;
        differ = h.front_differ;
        simple = arc-simple c.first (front m c).rest h.front-arc;
      };
      back_good = record {
        some = h.some_back;
        differ = h.back_differ;
        simple = arc-simple m (back m c).rest h.back-arc;
      };
      front-clear = all_map (ClearCurves c) (ClearCurves (front m c)) (λ d. front-clear h d.first d.rest) l
          t.clear;
      back-clear = all_map (ClearCurves c) (ClearCurves (back m c)) (λ d. back-clear h d.first d.rest) l
          t.clear;
      halves = clear_sym (front m c) (back m c) (halves_clear h);
      cloven = h;
    }
  where
    h : Cloven m c.first c.rest (cut m c.first c.rest).front (cut m c.first c.rest).back
    h = cut_cloven m c.first c.rest n e o t.good.differ t.good.simple

-- the front half stands anywhere in what is left, and the back half anywhere after that
pub split-drawn : (xs ys us vs ps qs : List Curve) (m : Point) (c : Curve) → c.first ≢ m → last_point c ≢ m
    → OnCurve (spot m) c → Drawn (xs ++ (c ∷ ys))
    → us ++ vs ≡ xs ++ ys → ps ++ qs ≡ us ++ (front m c ∷ vs) → Drawn (ps ++ (back m c ∷ qs))
split-drawn xs ys us vs ps qs m c n e o d p q =
    put ps qs (back m c) s.back_good
    (subst (All (ClearCurves (back m c))) (sym q)
    (all_put (ClearCurves (back m c)) us vs (front m c) s.halves
    (subst (All (ClearCurves (back m c))) (sym p) s.back-clear)))
    (subst Drawn (sym q) (put us vs (front m c) s.front_good
    (subst (All (ClearCurves (front m c))) (sym p) s.front-clear) (subst Drawn (sym p) t.drawn)))
  where
    t : Taken c (xs ++ ys)
    t = take xs ys c d

    s : Split m c (xs ++ ys)
    s = split m c (xs ++ ys) n e o t

-- ---- either way round

pub good_course : (b : Bool) (c : Curve) → GoodCurve c → GoodCurve (course b c)
good_course false c g = g
good_course true c g =
    record {
      some = some_turned c.first c.rest g.some;
      differ = differ_turned c.first c.rest g.differ;
      simple = simple-turned c.first c.rest g.differ g.simple;
    }

pub clear-course : (b : Bool) (c d : Curve) → ClearCurves c d → ClearCurves (course b c) d
clear-course false c d h = h
clear-course true c d h = clear-turned c.first c.rest d.first d.rest h

-- ---- the join

module _ (c d : Curve) (joint : d.first ≡ last_point c)
    (h : Joined c.first c.rest d.rest (join c.first c.rest d.rest)) where
  join-clear : (e : Curve) → NoEnd (last_point c) e → ClearCurves c e → ClearCurves d e → ClearCurves (joined c d) e
  join-clear e w f g P o p = go (h.on_either P o)
    where
      never : At P (last_point c) → End P e.first e.rest → ⊥
      never k (inl l) = w.first (at_one k l)
      never k (inr l) = w.last (at_one k l)

      on_first : End P c.first c.rest × End P e.first e.rest → End P c.first (joined c d).rest
          × End P e.first e.rest
      on_first k = (ends k.0, k.1)
        where
          ends : End P c.first c.rest → End P c.first (joined c d).rest
          ends (inl l) = inl l
          ends (inr l) = absurd (never l k.1)

      on_second : End P d.first d.rest × End P e.first e.rest → End P c.first (joined c d).rest
          × End P e.first e.rest
      on_second k = (ends k.0, k.1)
        where
          ends : End P d.first d.rest → End P c.first (joined c d).rest
          ends (inl l) = absurd (never (subst (At P) joint l) k.1)
          ends (inr l) = inr (subst (At P) (ap (λ (z : Point). last_of z d.rest) joint ∙ sym h.last) l)

      go : On P c.first c.rest ⊎ On P (last_point c) d.rest → End P c.first (joined c d).rest
          × End P e.first e.rest
      go (inl k) = on_first (f P k p)
      go (inr k) = on_second (g P (subst (λ (z : Point). On P z d.rest) (sym joint) k) p)

pub record Healed (c d : Curve) (l : List Curve) : Type 0 where
  pub good : GoodCurve (joined c d)
  pub clear : All (ClearCurves (joined c d)) l
  pub is : Joined c.first c.rest d.rest (joined c d).rest

-- c and d out of a drawing, in the order of the healed curve; no curve that is left ends at the joint
pub heal : (c d : Curve) (l : List Curve) → d.first ≡ last_point c → last_point c ≢ c.first → last_point d ≢ d.first
    → GoodCurve c → GoodCurve d → ClearCurves c d → All (ClearCurves c) l → All (ClearCurves d) l
    → All (NoEnd (last_point c)) l
    → Healed c d l
heal c d l e n n' g g' k h h' w =
    record {
      good = record { some = j.some; differ = j.differ; simple = j.simple };
      clear = all_map₂ (NoEnd (last_point c)) (λ x. ClearCurves c x × ClearCurves d x) (ClearCurves (joined c d))
          (λ x a b. join-clear c d e j x a b.0 b.1) l w
          (all_map₂ (ClearCurves c) (ClearCurves d) (λ x. ClearCurves c x × ClearCurves d x) (λ x a b. (a, b)) l h h');
      is = j;
    }
  where
    j : Joined c.first c.rest d.rest (join c.first c.rest d.rest)
    j = heal-joined c.first c.rest d.rest g.some g'.some g.differ
        (subst (λ (z : Point). Differ z d.rest) e g'.differ) n
        (subst (λ (z : Point). last_of z d.rest ≢ z) e n') g.simple
        (subst (λ (z : Point). Simple z d.rest) e g'.simple)
        (subst (λ (z : Point). Clear c.first c.rest z d.rest) e k)

-- the two curves go, each taken one way round or the other, and the join can stand anywhere
pub heal-taken : (xs ys us vs : List Curve) (c d : Curve) (s t : Bool) → xs ++ ys ≡ us ++ (d ∷ vs)
    → Drawn (xs ++ (c ∷ ys))
    → (course t d).first ≡ last_point (course s c) → last_point (course s c) ≢ (course s c).first
    → last_point (course t d) ≢ (course t d).first
    → All (NoEnd (last_point (course s c))) (us ++ vs) → Taken (joined (course s c) (course t d)) (us ++ vs)
heal-taken xs ys us vs c d s t p w e n n' f = record { good = h.good; clear = h.clear; drawn = l.drawn }
  where
    c' : Curve
    c' = course s c

    d' : Curve
    d' = course t d

    k : Taken c (xs ++ ys)
    k = take xs ys c w

    l : Taken d (us ++ vs)
    l = take us vs d (subst Drawn p k.drawn)

    both : ClearCurves c d × All (ClearCurves c) (us ++ vs)
    both = all_take (ClearCurves c) us vs d (subst (All (ClearCurves c)) p k.clear)

    h : Healed c' d' (us ++ vs)
    h = heal c' d' (us ++ vs) e n n' (good_course s c k.good) (good_course t d l.good)
        (clear-course s c d' (clear_sym d' c (clear-course t d c (clear_sym c d both.0))))
        (all_map (ClearCurves c) (ClearCurves c') (clear-course s c) (us ++ vs) both.1)
        (all_map (ClearCurves d) (ClearCurves d') (clear-course t d) (us ++ vs) l.clear) f

-- ---- with the points of nodes: what two curves share is one point that ends both
pub common_point : (c d : Curve) → ClearCurves c d → (P : Spot) → OnCurve P c → OnCurve P d → (q : Point) × At P q
    × ((q ≡ c.first) ⊎ (q ≡ last_point c)) × ((q ≡ d.first) ⊎ (q ≡ last_point d))
common_point c d h P o p = go (h P o p).0 (h P o p).1
  where
    same_end : (q : Point) → At P q → End P d.first d.rest → (q ≡ d.first) ⊎ (q ≡ last_point d)
    same_end q k (inl l) = inl (at_one k l)
    same_end q k (inr l) = inr (at_one k l)

    go : End P c.first c.rest → End P d.first d.rest → (q : Point) × At P q
        × ((q ≡ c.first) ⊎ (q ≡ last_point c)) × ((q ≡ d.first) ⊎ (q ≡ last_point d))
    go (inl k) l = (c.first, k, inl refl, same_end c.first k l)
    go (inr k) l = (last_point c, k, inr refl, same_end (last_point c) k l)
