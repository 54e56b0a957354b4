-- The cut at the first place inside the ends: two curves of two points or more, which one after the other draw the
-- curve, and whose only new point is the joint. Assumes nothing.
use Rattle.std.specs.Prelude.{Option, Some as At, None}
use mathlib.Core.Path.{◌≡◌, refl, sym, ap, ◌∙◌, subst}
use mathlib.Core.Bool.{Bool, true, false, cond, not, ◌&&◌, true≢false, false≢true}
use mathlib.Core.List.Memᴰ
use mathlib.Core.List.{List, [], ◌∷◌, ◌++◌, Memᴰ}
use mathlib.Core.Logic.{◌↔◌, ◌⊎◌, inl, inr, ◌≢◌}
use Prim.Native.Nat.{ℕ, suc, ◌+◌, ◌≤◌}
use native.Mathlib.Nat.{add-zero, zero-add}
use native.Mathlib.Omega.{arith}
use borrow.Author.Tests.{not-true}
use lib.ListN.{length, length-append}
use Rattle.lists.proofs.Bools.{and-true, and_is, &&-false}
use Rattle.plane.specs.declared.Point.{Point}
use Rattle.plane.specs.Points.{same_point}
use Rattle.plane.specs.Segments.{on_segment}
use Rattle.plane.proofs.Laws.{same_point-true}
use Rattle.curves.specs.Curves.{Curve, points, last_of, last_point}
use Rattle.curves.specs.Tests.{neighbours_differ}
use Rattle.curves.specs.Edits.{Halves, cut_here, cut, front, back}
use Rattle.curves.specs.Inner.{is_last, inside, inside_from, inner_place, cut_at, cut_found, inner_front, inner_back}
use Rattle.geometry.specs.Spots as spots
use Rattle.geometry.specs.Spots.{Spot, spot}
use Rattle.geometry.specs.Meaning.{Some, On, Differ}
use Rattle.geometry.specs.Drawing.{OnCurve}
use Rattle.geometry.proofs.Segments.{at_last, at_spot}
use Rattle.geometry.proofs.Meeting.{same_point_differ, same_point-false, on_segment-true, on_segment_is}
use Rattle.geometry.proofs.Meeting.{differs_true, differs_is}
use Rattle.geometry.proofs.Alike.{alike_refl, alike_cons, alike_insert}
use Rattle.geometry.proofs.Chains.{on_front, on_back, on_split, last_append, differ_front, differ_back}
use Rattle.geometry.proofs.Chains.{some_length}
use Rattle.geometry.proofs.Cutting.{Place}

-- h are halves of a ∷ r that join at m, and m alone may be new
record Parts (m a : Point) (r : List Point) (h : Halves) : Type 0 where
  place : Place m a r h
  front-given : (p : Point) → Memᴰ p h.front → (p ≡ m) ⊎ Memᴰ p r
  back-given : (p : Point) → Memᴰ p h.back → Memᴰ p r

-- ---- on the segment a b

-- m lies there, after a, and not on the curve's last point
parts_here : (m a b : Point) (r : List Point) (e : Bool) (h : Halves) → on_segment m a b ≡ true → same_point m b ≡ e
    → a ≢ m → not (is_last r && e) ≡ true → Parts m a (b ∷ r) (cut_here true e m b r h)
parts_here m a b [] true h o s n l = absurd (false≢true l)
parts_here m a b (c ∷ r) true h o s n l = record {
  place = record {
    joint = sym (same_point-true m b s);
    some_front = tt;
    some_back = tt;
    alike = alike_refl a (b ∷ c ∷ r) tt;
    count = inl refl;
  };
  front-given = λ p k. inr (Memᴰ.head (Memᴰ.eq_of_singleton k));
  back-given = λ p k. Memᴰ.tail k;
}
parts_here m a b r false h o s n l = record {
  place = record {
    joint = refl;
    some_front = tt;
    some_back = tt;
    alike = alike_insert (record { on = on_segment-true m a b o; not_first = n; not_last = same_point_differ m b s }) r;
    count = inr refl;
  };
  front-given = λ p k. inl (Memᴰ.eq_of_singleton k);
  back-given = λ p k. k;
}

-- beyond it
parts-later : (m a b : Point) (r : List Point) (h : Halves) → Parts m b r h
    → Parts m a (b ∷ r) (cut_here false false m b r h)
parts-later m a b r h p = record {
  place = record {
    joint = p.place.joint;
    some_front = tt;
    some_back = p.place.some_back;
    alike = alike_cons a b p.place.alike;
    count = elim p.place.count [ inl e ↦ inl (ap suc e) | inr e ↦ inr (ap suc e) ];
  };
  front-given = λ q k. elim (Memᴰ.cases_cons k) [
    | inl e ↦ inr (Memᴰ.head e)
    | inr j ↦ elim (p.front-given q j) [ inl e ↦ inl e | inr i ↦ inr (Memᴰ.tail i) ]
  ];
  back-given = λ q k. Memᴰ.tail (p.back-given q k);
}

-- ---- the first place

-- not before a, where the curve starts there
after_start : (starts : Bool) (m a : Point) → (starts ≡ false → a ≢ m) → not (starts && same_point m a) ≡ true → a ≢ m
after_start true m a n h e = same_point_differ m a (not-true _ h) (sym e)
after_start false m a n h e = n refl e

-- a segment that is passed does not end in m, unless it is the last
passed : (starts : Bool) (m a b c : Point) (r : List Point) → a ≢ b → inside starts m a b (c ∷ r) ≡ false → b ≢ m
passed starts m a b c r n h e = true≢false (sym here ∙ h)
  where
    on : on_segment m a b ≡ true
    on = on_segment_is (at_last a (subst (λ (z : Point). spots.At (spot m) z) (sym e) (at_spot m)))

    off : same_point m a ≡ false
    off = same_point-false m a (λ q. n (sym q ∙ sym e))

    here : inside starts m a b (c ∷ r) ≡ true
    here = and_is (and_is on (ap (λ (t : Bool). not (starts && t)) off ∙ ap not (&&-false starts))) refl

never : {A : Type 0} (n : ℕ) → None ≡ At n → A
never n e = let z : ◌≡◌ {A = ℕ} 0 1 = cc in absurd (omega arith)

inside-cut : (starts : Bool) (k : ℕ) (m a : Point) (r : List Point) → (starts ≡ false → a ≢ m) → Differ a r → (n : ℕ)
    → inside_from starts k m a r ≡ At n → (j : ℕ) × (n ≡ k + j) × Parts m a r (cut_at j m a r)
inside-cut starts k m a [] u d n e = never n e
inside-cut starts k m a (b ∷ r) u d n e = go (inside starts m a b r) refl e (inside-cut false (k + 1) m b r)
  where
    later : (r : List Point) → inside starts m a b r ≡ false → inside_from false (k + 1) m b r ≡ At n → false ≡ false
        → b ≢ m
    later [] h f z = never n f
    later (c ∷ r) h f z = passed starts m a b c r d.0 h

    go : (t : Bool) → inside starts m a b r ≡ t → cond t (At k) (inside_from false (k + 1) m b r) ≡ At n
        → ((false ≡ false → b ≢ m) → Differ b r → (n : ℕ) → inside_from false (k + 1) m b r ≡ At n
        → (j : ℕ) × (n ≡ k + 1 + j) × Parts m b r (cut_at j m b r))
        → (j : ℕ) × (n ≡ k + j) × Parts m a (b ∷ r) (cut_at j m a (b ∷ r))
    go true h f ih =
        let q : k ≡ n = cc in
        let h₁ = and-true _ (not (is_last r && same_point m b)) h in
        let h₂ = and-true (on_segment m a b) (not (starts && same_point m a)) h₁.0 in
        (0, omega arith, parts_here m a b r (same_point m b) _ h₂.0 refl (after_start starts m a u h₂.1) h₁.1)
    go false h f ih =
        let x = ih (later r h f) d.1 n f in
        let q : n ≡ k + 1 + x.0 = x.1 in
        (suc x.0, omega arith, parts-later m a b r (cut_at x.0 m b r) x.2)

-- ---- the halves, where there is a place inside the ends

module _ (c : Curve) (m : Point) (n : ℕ) (differ : neighbours_differ c ≡ true) (found : inner_place c m ≡ At n) where
  apart : Differ c.first c.rest
  apart = differs_true c.first c.rest differ

  here : Parts m c.first c.rest (cut_at n m c.first c.rest)
  unfolding inner_place
  here =
      let x = inside-cut true 0 m c.first c.rest (λ z. absurd (true≢false z)) apart n found in
      let q : x.0 ≡ n = omega (arith, x.1) in
      subst (λ (j : ℕ). Parts m c.first c.rest (cut_at j m c.first c.rest)) q x.2

  abbrev halves : Halves
  halves = cut_found (inner_place c m) m c

  parts : Parts m c.first c.rest halves
  parts = subst (λ (o : Option ℕ). Parts m c.first c.rest (cut_found o m c)) (sym found) here

  both : Differ c.first (halves.front ++ halves.back)
  both = parts.place.alike.differ apart

  -- two points or more
  pub inner_some : Some (inner_front m c).rest × Some (inner_back m c).rest
  unfolding inner_front inner_back
  inner_some = (parts.place.some_front, parts.place.some_back)

  -- the ends: the first points are the curve's and m by definition
  pub inner_ends : (last_point (inner_front m c) ≡ m) × (last_point (inner_back m c) ≡ last_point c)
  unfolding inner_front inner_back
  inner_ends = (
    parts.place.joint,
    ap (λ (z : Point). last_of z halves.back) (sym parts.place.joint)
        ∙ sym (parts.place.alike.last ∙ last_append c.first halves.front halves.back),
  )

  pub inner_differ : (neighbours_differ (inner_front m c) ≡ true) × (neighbours_differ (inner_back m c) ≡ true)
  unfolding inner_front inner_back
  inner_differ = (
    differs_is c.first halves.front (differ_front c.first halves.front halves.back both),
    differs_is m halves.back (subst (λ (z : Point). Differ z halves.back) parts.place.joint
        (differ_back c.first halves.front halves.back both)),
  )

  -- the same spots
  pub inner_points : (P : Spot) → OnCurve P c ↔ (OnCurve P (inner_front m c) ⊎ OnCurve P (inner_back m c))
  unfolding inner_front inner_back
  inner_points P = subst (λ (z : Point). On P a r ↔ (On P a f ⊎ On P z b)) parts.place.joint (
    (λ o. on_split P a f b (parts.place.alike.on P o)),
    λ o. parts.place.alike.on' P (elim o [ inl k ↦ on_front P a f b k | inr k ↦ on_back P a f b k ]),
  )
    where
      a : Point
      a = c.first

      r : List Point
      r = c.rest

      f : List Point
      f = halves.front

      b : List Point
      b = halves.back

  -- neither has more points than the curve
  pub inner_fewer : (length (points (inner_front m c)) ≤ length (points c))
      × (length (points (inner_back m c)) ≤ length (points c))
  unfolding inner_front inner_back
  inner_fewer =
      let f = some_length halves.front parts.place.some_front in
      let b = some_length halves.back parts.place.some_back in
      let size = length-append halves.front halves.back in
      elim parts.place.count [ inl e ↦ (omega arith, omega arith) | inr e ↦ (omega arith, omega arith) ]

  -- and m alone may be new
  pub inner_given : (p : Point) → Memᴰ p (points (inner_front m c)) ⊎ Memᴰ p (points (inner_back m c))
      → (p ≡ m) ⊎ Memᴰ p (points c)
  unfolding inner_front inner_back
  inner_given p (inl k) = elim (Memᴰ.cases_cons k) [
    | inl e ↦ inr (Memᴰ.head e)
    | inr j ↦ elim (parts.front-given p j) [ inl e ↦ inl e | inr i ↦ inr (Memᴰ.tail i) ]
  ]
  inner_given p (inr k) = elim (Memᴰ.cases_cons k) [
    | inl e ↦ inl e
    | inr j ↦ inr (Memᴰ.tail (parts.back-given p j))
  ]

-- ---- where m is no end of the curve, this is the cut at the first place of all

-- o is the place on a ∷ r, counted from k, and h the halves there
abbrev Answers : ℕ → Point → Point → List Point → Option ℕ → Halves → Type 0
Answers k m a r o h = ((o ≡ None) × (h ≡ record { front = r; back = [] }))
    ⊎ ((n : ℕ) × (o ≡ At (k + n)) × (h ≡ cut_at n m a r))

-- inside its ends is on it
inside_on : (starts : Bool) (m a b : Point) (r : List Point) → (starts ≡ true → same_point m a ≡ false)
    → last_of b r ≢ m → inside starts m a b r ≡ on_segment m a b
inside_on starts m a b r u l = rw (first starts u, last r l) (always (on_segment m a b))
  where
    first : (t : Bool) → (t ≡ true → same_point m a ≡ false) → t && same_point m a ≡ false
    first true h = h refl
    first false h = refl

    last : (r : List Point) → last_of b r ≢ m → is_last r && same_point m b ≡ false
    last [] h = same_point-false m b (λ e. h (sym e))
    last (c ∷ r) h = refl

    always : (t : Bool) → t && true && true ≡ t
    always true = refl
    always false = refl

cut_answers : (starts : Bool) (k : ℕ) (m a : Point) (r : List Point) → (starts ≡ true → same_point m a ≡ false)
    → last_of a r ≢ m → Answers k m a r (inside_from starts k m a r) (cut m a r)
cut_answers starts k m a [] u l = inl (refl, refl)
cut_answers starts k m a (b ∷ r) u l =
    subst (λ (t : Bool). Answers k m a (b ∷ r) (cond t (At k) later) (cut_here (on_segment m a b) (same_point m b) m b r
    (cut m b r))) (sym (inside_on starts m a b r u l))
    (go (on_segment m a b) (same_point m b) refl (cut_answers false (k + 1) m b r (λ e. absurd (false≢true e)) l))
  where
    later : Option ℕ
    later = inside_from false (k + 1) m b r

    front_first : Halves → Halves
    front_first h = record { front = b ∷ h.front; back = h.back }

    go : (t e : Bool) → same_point m b ≡ e → Answers (k + 1) m b r later (cut m b r)
        → Answers k m a (b ∷ r) (cond t (At k) later) (cut_here t (same_point m b) m b r (cut m b r))
    go true true q h = inr (0, ap At (sym (add-zero k)), rw q)
    go true false q h = inr (0, ap At (sym (add-zero k)), rw q)
    go false e q (inl h) = inl (h.0, ap front_first h.1)
    go false e q (inr h) = let n : k + 1 + h.0 ≡ k + suc h.0 = omega arith in
        inr (suc h.0, h.1 ∙ ap At n, ap front_first h.2)

pub inner_cut : (c : Curve) (m : Point) → c.first ≢ m → last_point c ≢ m
    → (inner_front m c ≡ front m c) × (inner_back m c ≡ back m c)
unfolding inner_place inner_front inner_back
inner_cut c m n l = let e = go (inside_from true 0 m c.first c.rest)
    (cut_answers true 0 m c.first c.rest (λ t. same_point-false m c.first (λ q. n (sym q))) l) in (
      (λ i. record { first = c.first; rest = (e i).front }),
      λ i. record { first = m; rest = (e i).back },
    )
  where
    go : (o : Option ℕ) → Answers 0 m c.first c.rest o (cut m c.first c.rest)
        → cut_found o m c ≡ cut m c.first c.rest
    go o (inl h) = ap (λ (o : Option ℕ). cut_found o m c) h.0 ∙ sym h.1
    go o (inr h) = ap (λ (o : Option ℕ). cut_found o m c) (h.1 ∙ ap At (zero-add h.0)) ∙ sym h.2
