-- A connected graph with only bridges for edges is listed from 0 of the kind false on, each vertex followed by those
-- beyond it: none would be listed twice, and all are listed. Assumes nothing.
use mathlib.Core.Path.{◌≡◌, refl, sym, ap, ap₂, ◌∙◌, subst}
use mathlib.Core.Logic.{◌⊎◌, inl, inr}
use mathlib.Core.Bool.{Bool, true, false, not, beq, ◌&&◌, true≢false, not-not}
use mathlib.Core.List.Memᴰ
use mathlib.Core.List.{List, [], ◌∷◌, ◌++◌, Memᴰ}
use mathlib.Core.Option.{Option, none, some}
use Prim.Native.Nat.{ℕ, zero, suc, ◌+◌, ◌<◌, ◌≤◌}
use native.Mathlib.Omega.{arith}
use borrow.Author.Tests.{not-false}
use lib.ListN.{length}
use Rattle.lists.specs.Tests.{same}
use Rattle.lists.specs.Members.{Distinct}
use Rattle.lists.proofs.Bools.{which, not-true, agree, same_refl, same_true, differ, beq_refl, beq_true, or-true}
use Rattle.lists.proofs.Bools.{or_left, or_right, and-true, and_is}
use Rattle.lists.proofs.Appends.{any_append}
use Rattle.lists.proofs.Keeps.{keep_in, keep_has, distinct_keep}
use Rattle.lists.proofs.Counts.{count_all}
use Rattle.nesting.specs.Contents.{is_it, Line, line, listed, fresh, others, each, lines}
use Rattle.nesting.proofs.Branches.{Set, Graph, Edge, Even, Connected, Bridges, Branch, end_false, end_true, size}
use Rattle.nesting.proofs.Branches.{branch, opposite, disjoint, smaller}

-- ---- what is listed

module _ (ls : List Line) where
  listed_more : (l : Line) (c : Bool) (x : ℕ) → listed ls c x ≡ true → listed (ls ++ l ∷ []) c x ≡ true
  listed_more l c x h = any_append _ ls (l ∷ []) ∙ or_left _ h

  listed_here : (d : ℕ) (b : Bool) (v : ℕ) → listed (ls ++ line d b v ∷ []) b v ≡ true
  listed_here d b v = any_append _ ls (line d b v ∷ [])
      ∙ or_right (listed ls b v) _ (or_left false (and_is (beq_refl b) (same_refl v)))

  listed_new : (d : ℕ) (b : Bool) (v : ℕ) (c : Bool) (x : ℕ) → listed (ls ++ line d b v ∷ []) c x ≡ true
      → (listed ls c x ≡ true) ⊎ ((c ≡ b) × (x ≡ v))
  listed_new d b v c x h =
      elim (or-true (listed ls c x) _ (sym (any_append _ ls (line d b v ∷ [])) ∙ h)) [
        | inl k ↦ inl k
        | inr k ↦ elim (or-true (beq b c && same v x) false k) [
          | inl j ↦ let q = and-true (beq b c) (same v x) j in
              inr (sym (beq_true b c q.0), sym (same_true v x q.1))
          | inr j ↦ absurd (true≢false (sym j))
        ]
      ]

-- ---- the walk

-- the neighbours of each vertex, each once
pub record Neighbours (G : Graph) (beneath : Bool → ℕ → List ℕ) : Type 0 where
  pub once : (b : Bool) (v : ℕ) → Distinct (beneath b v)
  pub joined : (b : Bool) (v w : ℕ) → Memᴰ v (G.vertices b) → Memᴰ w (beneath b v)
      → Edge G (end_false b v w) (end_true b v w)
  pub near : (b : Bool) (v w : ℕ) → Edge G (end_false b v w) (end_true b v w) → Memᴰ w (beneath b v)

far_end : (G : Graph) (b : Bool) (v w : ℕ) → Edge G (end_false b v w) (end_true b v w) → Memᴰ w (G.vertices (not b))
far_end G false v w e = e.right
far_end G true v w e = e.left

module _ (G : Graph) (beneath : Bool → ℕ → List ℕ) where
  -- S within T
  abbrev In : Set → Set → Type 0
  In S T = (c : Bool) (x : ℕ) → Memᴰ x (G.vertices c) → S c x ≡ true → T c x ≡ true

  -- nothing that is listed is in T
  abbrev Free : Set → List Line → Type 0
  Free T ls = (c : Bool) (x : ℕ) → Memᴰ x (G.vertices c) → listed ls c x ≡ true → T c x ≡ false

  -- more is listed: what is new is in T, and with it all its neighbours are listed
  record Grown (T : Set) (ls after : List Line) : Type 0 where
    more : (c : Bool) (x : ℕ) → listed ls c x ≡ true → listed after c x ≡ true
    new : (c : Bool) (x : ℕ) → Memᴰ x (G.vertices c) → listed after c x ≡ true
        → (listed ls c x ≡ true) ⊎ (T c x ≡ true)
    closed : (c : Bool) (x : ℕ) → listed after c x ≡ true
        → (listed ls c x ≡ true) ⊎ ((y : ℕ) → Memᴰ y (beneath c x) → listed after (not c) y ≡ true)

  grown_none : (T : Set) (ls : List Line) → Grown T ls ls
  grown_none T ls = record { more = λ c x h. h; new = λ c x m h. inl h; closed = λ c x h. inl h }

  grown_join : {S T : Set} {ls mid after : List Line} → In S T → Grown S ls mid → Grown T mid after → Grown T ls after
  grown_join s p q = record {
    more = λ c x h. q.more c x (p.more c x h);
    new = λ c x m h. elim (q.new c x m h) [
      | inl k ↦ elim (p.new c x m k) [ inl j ↦ inl j | inr j ↦ inr (s c x m j) ]
      | inr k ↦ inr k
    ];
    closed = λ c x h. elim (q.closed c x h) [
      | inl k ↦ elim (p.closed c x k) [ inl j ↦ inl j | inr j ↦ inr (λ y m. q.more (not c) y (j y m)) ]
      | inr k ↦ inr k
    ];
  }

  -- v, of the kind b, is to be listed with what is in T
  record Ready (T : Set) (b : Bool) (v : ℕ) (led : Option ℕ) (ls : List Line) : Type 0 where
    there : Memᴰ v (G.vertices b)
    inside : T b v ≡ true
    free : Free T ls
    back : (u : ℕ) → is_it u led ≡ true → listed ls (not b) u ≡ true
    inner : (w : ℕ) → Memᴰ w (beneath b v) → is_it w led ≡ false → (S : Set) → Branch G b v w S → In S T

  abbrev Done : Set → Bool → ℕ → List Line → Option (List Line) → Type 0
  Done T b v ls o = (after : List Line) × (o ≡ some after) × Grown T ls after × (listed after b v ≡ true)

  abbrev Walked : ℕ → Type 0
  Walked k = (T : Set) (b : Bool) (v : ℕ) (led : Option ℕ) (d : ℕ) (ls : List Line) → Ready T b v led ls → size G T ≤ k
      → Done T b v ls (lines k beneath b v led d ls)

  module _ (N : Neighbours G beneath) (C : Connected G) (B : Bridges G) where
    module _ (k : ℕ) (ih : Walked k) (T : Set) (b : Bool) (v : ℕ) (led : Option ℕ) (d : ℕ)
        (there : Memᴰ v (G.vertices b)) (inside : T b v ≡ true) (le : size G T ≤ suc k)
        (inner : (w : ℕ) → Memᴰ w (beneath b v) → is_it w led ≡ false → (S : Set) → Branch G b v w S → In S T) where
      abbrev down : ℕ → List Line → Option (List Line)
      down w = lines k beneath (not b) w (some v) (suc d)

      -- the neighbours, one after the other
      loop : (ws : List ℕ) → Distinct ws → ((w : ℕ) → Memᴰ w ws → Memᴰ w (beneath b v) × (is_it w led ≡ false))
          → (cur : List Line) → listed cur b v ≡ true
          → ((w : ℕ) → Memᴰ w ws → (S : Set) → Branch G b v w S → Free S cur)
          → (after : List Line) × (each down ws (some cur) ≡ some after) × Grown T cur after
          × ((w : ℕ) → Memᴰ w ws → listed after (not b) w ≡ true)
      loop [] dis at cur here free = (cur, refl, grown_none T cur, λ w m. absurd (Memᴰ.not-nil m))
      loop (w ∷ ws) dis at cur here free =
          let a = at w (Memᴰ.head refl) in
          let e = N.joined b v w there a.0 in
          let br = branch G B b v w e in
          let s : In br.0 T = inner w a.0 a.1 br.0 br.1 in
          let less = smaller G br.0 T s b v there br.1.off inside in
          let r = ih br.0 (not b) w (some v) (suc d) cur (record {
            there = far_end G b v w e;
            inside = br.1.on;
            free = free w (Memᴰ.head refl) br.0 br.1;
            back = λ u q. subst (λ c. listed cur c u ≡ true) (sym (not-not b))
                (ap (listed cur b) (same_true u v q) ∙ here);
            inner = λ w₂ m₂ ne S₂ h c x j on. not-false (br.0 c x)
                (disjoint G C (not b) (far_end G b v w e) h (opposite G b br.1) (differ w₂ v ne) c x j on);
          }) (omega arith) in
          let rest = loop ws dis.1 (λ w' m. at w' (Memᴰ.tail m)) r.0 (r.2.more b v here)
          (λ w' m S h c x j on. elim (r.2.new c x j on) [
            | inl q ↦ free w' (Memᴰ.tail m) S h c x j q
            | inr q ↦ disjoint G C b there br.1 h (λ z. dis.0 (subst (λ y. Memᴰ y ws) (sym z) m)) c x j q
          ]) in (
            rest.0,
            ap (each down ws) r.1 ∙ rest.1,
            grown_join s r.2 rest.2,
            λ y m. elim (Memᴰ.cases_cons m) [
              | inl q ↦ rest.2.more (not b) y (ap (listed r.0 (not b)) q ∙ r.3)
              | inr q ↦ rest.3 y q
            ],
          )

    step : (k : ℕ) → Walked k → Walked (suc k)
    unfolding lines
    step k ih T b v led d ls h le = (
      r.0,
      ap (λ o. each (λ w. lines k beneath (not b) w (some v) (suc d)) ws (fresh o ls (line d b v))) off ∙ r.1,
      record { more = λ c x q. r.2.more c x (listed_more ls (line d b v) c x q); new = new; closed = closed },
      r.2.more b v (listed_here ls d b v),
    )
      where
        off : listed ls b v ≡ false
        off = not-true (listed ls b v) (λ e. true≢false (sym h.inside ∙ h.free b v h.there e))

        ws : List ℕ
        ws = others led (beneath b v)

        first : List Line
        first = ls ++ line d b v ∷ []

        at : (w : ℕ) → Memᴰ w ws → Memᴰ w (beneath b v) × (is_it w led ≡ false)
        at w m = let q = keep_in (λ y. not (is_it y led)) (beneath b v) m in
            (q.0, not-true (is_it w led) (λ e. true≢false (sym q.1 ∙ ap not e)))

        r : (after : List Line) × (each (λ w. lines k beneath (not b) w (some v) (suc d)) ws (some first) ≡ some after)
            × Grown T first after × ((w : ℕ) → Memᴰ w ws → listed after (not b) w ≡ true)
        r = loop k ih T b v led d h.there h.inside le h.inner ws
            (distinct_keep (λ y. not (is_it y led)) (beneath b v) (N.once b v)) at first (listed_here ls d b v)
            (λ w m S br c x j on. elim (listed_new ls d b v c x on) [
              | inl q ↦
                  not-true (S c x)
                  (λ z. true≢false (sym (h.inner w (at w m).0 (at w m).1 S br c x j z) ∙ h.free c x j q))
              | inr q ↦ ap₂ S q.0 q.1 ∙ br.off
            ])

        new : (c : Bool) (x : ℕ) → Memᴰ x (G.vertices c) → listed r.0 c x ≡ true
            → (listed ls c x ≡ true) ⊎ (T c x ≡ true)
        new c x m q = elim (r.2.new c x m q) [
          | inl j ↦ elim (listed_new ls d b v c x j) [ inl z ↦ inl z | inr z ↦ inr (ap₂ T z.0 z.1 ∙ h.inside) ]
          | inr j ↦ inr j
        ]

        near : (y : ℕ) → Memᴰ y (beneath b v) → listed r.0 (not b) y ≡ true
        near y m = elim (which (is_it y led)) [
          | inl e ↦ r.2.more (not b) y (listed_more ls (line d b v) (not b) y (h.back y e))
          | inr e ↦ r.3 y (keep_has (λ y. not (is_it y led)) (beneath b v) m (ap not e))
        ]

        around : (c : Bool) (x : ℕ) → c ≡ b → x ≡ v → (y : ℕ) → Memᴰ y (beneath c x)
            → listed r.0 (not c) y ≡ true
        around c x p q y m = rw p (near y (subst (λ (l : List ℕ). Memᴰ y l) (ap₂ beneath p q) m))

        closed : (c : Bool) (x : ℕ) → listed r.0 c x ≡ true
            → (listed ls c x ≡ true) ⊎ ((y : ℕ) → Memᴰ y (beneath c x) → listed r.0 (not c) y ≡ true)
        closed c x q = elim (r.2.closed c x q) [
          | inl j ↦ elim (listed_new ls d b v c x j) [ inl z ↦ inl z | inr z ↦ inr (around c x z.0 z.1) ]
          | inr j ↦ inr j
        ]

    walked : (k : ℕ) → Walked k
    walked zero T b v led d ls h le =
        absurd
        (empty (smaller G (λ c x. false) T (λ c x m e. absurd (true≢false (sym e))) b v h.there refl h.inside) le)
      where
        empty : size G (λ c x. false) < size G T → size G T ≤ zero → ⊥
        empty p q = omega arith
    walked (suc k) T b v led d ls h le = step k (walked k) T b v led d ls h le

    -- from 0 of the kind false on, every vertex is listed
    pub all_listed : Memᴰ 0 (G.vertices false) → (k : ℕ)
        → length (G.vertices false) + length (G.vertices true) ≤ k → (after : List Line)
        × (lines k beneath false 0 none 0 [] ≡ some after)
        × ((b : Bool) (x : ℕ) → Memᴰ x (G.vertices b) → listed after b x ≡ true)
    all_listed zero_in k le = (r.0, r.1, λ b x m. C (listed r.0) even b x m ∙ r.3)
      where
        r : Done (λ c x. true) false 0 [] (lines k beneath false 0 none 0 [])
        r = walked k (λ c x. true) false 0 none 0 [] (record {
          there = zero_in;
          inside = refl;
          free = λ c x m e. absurd (true≢false (sym e));
          back = λ u e. absurd (true≢false (sym e));
          inner = λ w m e S h c x j on. refl;
        }) (omega (arith, count_all (G.vertices false), count_all (G.vertices true)))

        near : (c : Bool) (x y : ℕ) → Memᴰ y (beneath c x) → listed r.0 c x ≡ true
            → listed r.0 (not c) y ≡ true
        near c x y m e = elim (r.2.closed c x e) [ inl q ↦ absurd (true≢false (sym q)) | inr q ↦ q y m ]

        even : Even G (listed r.0)
        even x y e = agree (listed r.0 false x) (listed r.0 true y) (near false x y (N.near false x y e))
            (near true y x (N.near true y x e))
