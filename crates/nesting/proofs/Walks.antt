-- What `lines` lists, over any neighbours: the list by its rule alone, and nothing twice; a bound on the depth changes
-- nothing where it is no less than what is not yet listed. Assumes nothing.
use mathlib.Core.Path.{◌≡◌, refl, sym, ap, ◌∙◌, subst}
use mathlib.Core.Logic.{inl, inr}
use mathlib.Core.Bool.{Bool, true, false, not, beq, ◌&&◌, true≢false}
use mathlib.Core.List.{List, [], ◌∷◌, ◌++◌, map, flat_map, append-nil, append_assoc, map-append, Memᴰ}
use mathlib.Core.List.Memᴰ
use mathlib.Core.List.Permᴰ
use mathlib.Core.Option.{Option, none, some, none-ne-some}
use Prim.Native.Nat.{ℕ, zero, suc, ◌+◌, ◌<◌, ◌≤◌}
use native.Mathlib.Omega.{arith}
use lib.ListN.{length, length-map, length-append}
use Rattle.lists.specs.Tests.{same}
use Rattle.lists.specs.Members.{Distinct}
use Rattle.lists.proofs.Bools.{which, not-true, same_refl, same_true, beq_refl, beq_true, or-true, or_left, or_right}
use Rattle.lists.proofs.Bools.{and-true, and_is}
use Rattle.lists.proofs.Keeps.{keep_in}
use Rattle.lists.proofs.Perms.{perm_in, perm_distinct, map_last, perm_of_distinct, distinct_front, distinct_apart}
use Rattle.nesting.specs.Contents.{is_it, Line, line, listed, fresh, others, each, lines}
use Rattle.nesting.specs.Claims.{Part, part_of, unchecked}

-- what the lines are of
abbrev pub keys : List Line → List Part
keys ls = map part_of ls

-- what is listed are the keys
pub key_in : (ls : List Line) (b : Bool) (x : ℕ) → Memᴰ (b, x) (keys ls) → listed ls b x ≡ true
key_in [] b x m = absurd (Memᴰ.not-nil m)
key_in (l ∷ ls) b x m = elim (Memᴰ.cases_cons m) [
  | inl e ↦
      or_left (listed ls b x) (and_is (ap (λ z. beq z b) (sym (ap (λ (k : Part). k.0) e)) ∙ beq_refl b)
      (ap (λ z. same z x) (sym (ap (λ (k : Part). k.1) e)) ∙ same_refl x))
  | inr k ↦ or_right (beq l.piece b && same l.number x) (listed ls b x) (key_in ls b x k)
]

pub in_keys : (ls : List Line) (b : Bool) (x : ℕ) → listed ls b x ≡ true → Memᴰ (b, x) (keys ls)
in_keys [] b x h = absurd (true≢false (sym h))
in_keys (l ∷ ls) b x h = elim (or-true (beq l.piece b && same l.number x) (listed ls b x) h) [
  | inl e ↦ let q = and-true (beq l.piece b) (same l.number x) e in
      Memᴰ.head (λ i. (sym (beq_true l.piece b q.0) i, sym (same_true l.number x q.1) i))
  | inr k ↦ Memᴰ.tail (in_keys ls b x k)
]

-- one more line, of what was not listed
keys_more : (ls : List Line) (d : ℕ) (b : Bool) (x : ℕ) → listed ls b x ≡ false → Distinct (keys ls)
    → Distinct (keys (ls ++ line d b x ∷ []))
keys_more ls d b x off dis = perm_distinct (map_last part_of ls (line d b x))
    (λ m. true≢false (sym (key_in ls b x m) ∙ off), dis)

pub each_none : (f : ℕ → List Line → Option (List Line)) (ws : List ℕ) → each f ws none ≡ none
each_none f [] = refl
each_none f (w ∷ ws) = refl

module _ (beneath : Bool → ℕ → List ℕ) where
  -- what is listed for y under x, and the list by its rule
  abbrev down : ℕ → Bool → ℕ → ℕ → ℕ → List Line → Option (List Line)
  down k b x d y = lines k beneath (not b) y (some x) (suc d)

  abbrev ruled : ℕ → Bool → ℕ → ℕ → ℕ → List Line
  ruled k b x d y = unchecked k beneath (not b) y (some x) (suc d)

  -- ---- what is listed is the list by its rule, and nothing twice

  abbrev More : List Line → List Line → List Line → Type 0
  More ls new after = (after ≡ ls ++ new) × (Distinct (keys ls) → Distinct (keys after))

  abbrev LinesRule : ℕ → Type 0
  LinesRule k = (b : Bool) (x : ℕ) (led : Option ℕ) (d : ℕ) (ls after : List Line)
      → lines k beneath b x led d ls ≡ some after → More ls (unchecked k beneath b x led d) after

  module _ (k : ℕ) (ih : LinesRule k) (b : Bool) (x d : ℕ) where
    listing : (ws : List ℕ) (ls after : List Line) → each (down k b x d) ws (some ls) ≡ some after
        → More ls (flat_map (ruled k b x d) ws) after
    unfolding flat_map
    listing [] ls after e = let q : ls ≡ after = cc in
        (sym q ∙ sym (append-nil ls), λ h. subst (λ l. Distinct (keys l)) q h)
    listing (w ∷ ws) ls after e = go (down k b x d w ls) refl e (listing ws)
      where
        go : (o : Option (List Line)) → down k b x d w ls ≡ o → each (down k b x d) ws o ≡ some after
            → ((mid after : List Line) → each (down k b x d) ws (some mid) ≡ some after
            → More mid (flat_map (ruled k b x d) ws) after)
            → More ls (ruled k b x d w ++ flat_map (ruled k b x d) ws) after
        go none q e rest = absurd (none-ne-some _ (sym (each_none (down k b x d) ws) ∙ e))
        go (some mid) q e rest =
            let p = ih (not b) w (some x) (suc d) ls mid q in
            let r = rest mid after e in (
              r.0 ∙ ap (λ l. l ++ flat_map (ruled k b x d) ws) p.0
                  ∙ append_assoc ls (ruled k b x d w) (flat_map (ruled k b x d) ws),
              λ h. r.1 (p.1 h),
            )

  pub lines_rule : (k : ℕ) → LinesRule k
  unfolding lines
  lines_rule zero b x led d ls after e = absurd (none-ne-some _ e)
  lines_rule (suc k) b x led d ls after e =
      go (listed ls b x) refl e (listing k (lines_rule k) b x d (others led (beneath b x)))
    where
      go : (o : Bool) → listed ls b x ≡ o
          → each (down k b x d) (others led (beneath b x)) (fresh o ls (line d b x)) ≡ some after
          → ((mid after : List Line) → each (down k b x d) (others led (beneath b x)) (some mid) ≡ some after
          → More mid (flat_map (ruled k b x d) (others led (beneath b x))) after)
          → More ls (line d b x ∷ flat_map (ruled k b x d) (others led (beneath b x))) after
      go true q e rest = absurd (none-ne-some _ (sym (each_none (down k b x d) (others led (beneath b x))) ∙ e))
      go false q e rest = let r = rest (ls ++ line d b x ∷ []) after e in (
        r.0 ∙ append_assoc ls (line d b x ∷ []) (flat_map (ruled k b x d) (others led (beneath b x))),
        λ h. r.1 (keys_more ls d b x q h),
      )

  -- ---- where the list by its rule has nothing twice, it is listed

  -- n is no less than all that is listed in the end
  abbrev RuleLines : ℕ → Type 0
  RuleLines k = (n : ℕ) (b : Bool) (x : ℕ) (led : Option ℕ) (d : ℕ) (ls : List Line)
      → Distinct (keys (ls ++ unchecked k beneath b x led d)) → length (ls ++ unchecked k beneath b x led d) ≤ n
      → n < length ls + k → lines k beneath b x led d ls ≡ some (ls ++ unchecked k beneath b x led d)

  module _ (k : ℕ) (ih : RuleLines k) (n : ℕ) (b : Bool) (x d : ℕ) where
    each-listed : (ws : List ℕ) (ls : List Line) → Distinct (keys (ls ++ flat_map (ruled k b x d) ws))
        → length (ls ++ flat_map (ruled k b x d) ws) ≤ n → n < length ls + k
        → each (down k b x d) ws (some ls) ≡ some (ls ++ flat_map (ruled k b x d) ws)
    unfolding flat_map
    each-listed [] ls dis le lt = ap some (sym (append-nil ls))
    each-listed (w ∷ ws) ls dis le lt =
        ap (each (down k b x d) ws) (ih n (not b) w (some x) (suc d) ls front (omega (arith, long, ap length assoc)) lt)
        ∙ each-listed ws mid (subst (λ l. Distinct (keys l)) (sym assoc) dis) (omega (arith, ap length assoc))
        (omega (arith, grown)) ∙ ap some assoc
      where
        mid : List Line
        mid = ls ++ ruled k b x d w

        rest : List Line
        rest = flat_map (ruled k b x d) ws

        assoc : mid ++ rest ≡ ls ++ (ruled k b x d w ++ rest)
        assoc = append_assoc ls (ruled k b x d w) rest

        grown : length mid ≡ length ls + length (ruled k b x d w)
        grown = length-append ls (ruled k b x d w)

        long : length (mid ++ rest) ≡ length mid + length rest
        long = length-append mid rest

        front : Distinct (keys mid)
        front = distinct_front (keys mid) (keys rest)
            (subst Distinct (map-append part_of mid rest) (subst (λ l. Distinct (keys l)) (sym assoc) dis))

  pub rule_lines : (k : ℕ) → RuleLines k
  unfolding lines
  rule_lines zero n b x led d ls dis le lt = absurd (omega (arith, length-append ls []))
  rule_lines (suc k) n b x led d ls dis le lt =
      ap (λ o. each (down k b x d) ws (fresh o ls (line d b x))) off
      ∙ each-listed k (rule_lines k) n b x d ws (ls ++ line d b x ∷ [])
      (subst (λ l. Distinct (keys l)) (sym assoc) dis) (omega (arith, ap length assoc))
      (omega (arith, length-append ls (line d b x ∷ []))) ∙ ap some assoc
    where
      ws : List ℕ
      ws = others led (beneath b x)

      assoc : (ls ++ line d b x ∷ []) ++ flat_map (ruled k b x d) ws ≡ ls ++ line d b x ∷ flat_map (ruled k b x d) ws
      assoc = append_assoc ls (line d b x ∷ []) (flat_map (ruled k b x d) ws)

      off : listed ls b x ≡ false
      off = not-true (listed ls b x) (λ h.
          distinct_apart (keys ls) (keys (line d b x ∷ flat_map (ruled k b x d) ws))
          (subst Distinct (map-append part_of ls (line d b x ∷ flat_map (ruled k b x d) ws)) dis) (b, x)
          (in_keys ls b x h) (Memᴰ.head refl))

  -- ---- within a list of faces and pieces that has all neighbours

  module _ (all : List Part)
      (closed : (b : Bool) (x y : ℕ) → Memᴰ y (beneath b x) → Memᴰ (not b, y) all) where
    -- the neighbours but one
    near : (b : Bool) (x : ℕ) (led : Option ℕ) (w : ℕ) → Memᴰ w (others led (beneath b x))
        → Memᴰ (not b, w) all
    near b x led w m = closed b x w (keep_in (λ y. not (is_it y led)) (beneath b x) m).0

    -- it has all that the rule lists
    abbrev RuleWithin : ℕ → Type 0
    RuleWithin k = (b : Bool) (x : ℕ) (led : Option ℕ) (d : ℕ) → Memᴰ (b, x) all → (z : Part)
        → Memᴰ z (keys (unchecked k beneath b x led d)) → Memᴰ z all

    each_within : (k : ℕ) → RuleWithin k → (b : Bool) (x d : ℕ) (ws : List ℕ)
        → ((w : ℕ) → Memᴰ w ws → Memᴰ (not b, w) all) → (z : Part)
        → Memᴰ z (keys (flat_map (ruled k b x d) ws)) → Memᴰ z all
    unfolding flat_map
    each_within k ih b x d [] at z m = absurd (Memᴰ.not-nil m)
    each_within k ih b x d (w ∷ ws) at z m =
        elim (Memᴰ.append_cases (keys (ruled k b x d w))
        (subst (Memᴰ z) (map-append part_of (ruled k b x d w) (flat_map (ruled k b x d) ws)) m)) [
          | inl j ↦ ih (not b) w (some x) (suc d) (at w (Memᴰ.head refl)) z j
          | inr j ↦ each_within k ih b x d ws (λ v n. at v (Memᴰ.tail n)) z j
        ]

    pub rule_within : (k : ℕ) → RuleWithin k
    rule_within zero b x led d m z h = absurd (Memᴰ.not-nil h)
    rule_within (suc k) b x led d m z h = elim (Memᴰ.cases_cons h) [
      | inl e ↦ Memᴰ.cast e m
      | inr j ↦ each_within k (rule_within k) b x d (others led (beneath b x)) (near b x led) z j
    ]

    -- nothing is listed twice, and only what is in it
    pub record Sound (ls : List Line) : Type 0 where
      pub once : Distinct (keys ls)
      pub inside : (z : Part) → Memᴰ z (keys ls) → Memᴰ z all

    inside_more : (ls new : List Line) → ((z : Part) → Memᴰ z (keys ls) → Memᴰ z all)
        → ((z : Part) → Memᴰ z (keys new) → Memᴰ z all) → (z : Part) → Memᴰ z (keys (ls ++ new))
        → Memᴰ z all
    inside_more ls new p q z m =
        elim (Memᴰ.append_cases (keys ls) (subst (Memᴰ z) (map-append part_of ls new) m)) [
          | inl j ↦ p z j
          | inr j ↦ q z j
        ]

    pub lines_sound : (k : ℕ) (b : Bool) (x : ℕ) (led : Option ℕ) (d : ℕ) (ls after : List Line) → Memᴰ (b, x) all
        → lines k beneath b x led d ls ≡ some after → Sound ls → Sound after
    lines_sound k b x led d ls after m e s = let r = lines_rule k b x led d ls after e in
        record {
          once = r.1 s.once;
          inside = λ z j. inside_more ls (unchecked k beneath b x led d) s.inside (rule_within k b x led d m) z
              (subst (λ l. Memᴰ z (keys l)) r.0 j);
        }

    pub line_sound : (b : Bool) (x d : ℕ) (ls : List Line) → Memᴰ (b, x) all → listed ls b x ≡ false → Sound ls
        → Sound (ls ++ line d b x ∷ [])
    line_sound b x d ls m off s = record {
      once = keys_more ls d b x off s.once;
      inside = inside_more ls (line d b x ∷ []) s.inside (λ z j. Memᴰ.cast (Memᴰ.eq_of_singleton j) m);
    }

    -- where there are as many lines as there are faces and pieces, each is listed
    full : (ls : List Line) → Sound ls → length all ≤ length ls → (b : Bool) (x : ℕ) → Memᴰ (b, x) all
        → listed ls b x ≡ true
    full ls s le b x m = key_in ls b x (perm_in (Permᴰ.symm
        (perm_of_distinct (keys ls) all s.once s.inside (omega (arith, length-map ls part_of)))) m)

    -- ---- all bounds on the depth list the same that are no less than the count of what is not yet listed

    abbrev DepthAlike : ℕ → ℕ → Type 0
    DepthAlike k k' = (b : Bool) (x : ℕ) (led : Option ℕ) (d : ℕ) (ls : List Line) → Memᴰ (b, x) all → Sound ls
        → length all ≤ length ls + k → length all ≤ length ls + k'
        → lines k beneath b x led d ls ≡ lines k' beneath b x led d ls

    module _ (k k' : ℕ) (ih : DepthAlike k k') (b : Bool) (x d : ℕ) where
      pub each_alike : (ws : List ℕ) → ((w : ℕ) → Memᴰ w ws → Memᴰ (not b, w) all) → (ls : List Line)
          → Sound ls → length all ≤ length ls + k → length all ≤ length ls + k'
          → each (down k b x d) ws (some ls) ≡ each (down k' b x d) ws (some ls)
      each_alike [] at ls s p q = refl
      each_alike (w ∷ ws) at ls s p q =
          ap (each (down k b x d) ws) same-down
          ∙ go (down k' b x d w ls) (sym same-down) (each_alike ws (λ v n. at v (Memᴰ.tail n)))
        where
          here : Memᴰ (not b, w) all
          here = at w (Memᴰ.head refl)

          same-down : down k b x d w ls ≡ down k' b x d w ls
          same-down = ih (not b) w (some x) (suc d) ls here s p q

          go : (o : Option (List Line)) → o ≡ down k b x d w ls
              → ((mid : List Line) → Sound mid → length all ≤ length mid + k → length all ≤ length mid + k'
              → each (down k b x d) ws (some mid) ≡ each (down k' b x d) ws (some mid))
              → each (down k b x d) ws o ≡ each (down k' b x d) ws o
          go none e rest = each_none (down k b x d) ws ∙ sym (each_none (down k' b x d) ws)
          go (some mid) e rest =
              let r = lines_rule k (not b) w (some x) (suc d) ls mid (sym e) in
              let long = ap length r.0 ∙ length-append ls (ruled k b x d w) in
              rest mid (lines_sound k (not b) w (some x) (suc d) ls mid here (sym e) s) (omega arith) (omega arith)

    -- one would be listed twice
    pub stop : (k : ℕ) (b : Bool) (x : ℕ) (led : Option ℕ) (d : ℕ) (ls : List Line) → listed ls b x ≡ true
        → lines (suc k) beneath b x led d ls ≡ none
    unfolding lines
    stop k b x led d ls e = ap (λ o. each (down k b x d) (others led (beneath b x)) (fresh o ls (line d b x))) e
        ∙ each_none (down k b x d) (others led (beneath b x))

    pub depth_alike : (k k' : ℕ) → DepthAlike k k'
    unfolding lines
    depth_alike zero zero b x led d ls m s p q = refl
    depth_alike zero (suc k') b x led d ls m s p q = sym (stop k' b x led d ls (full ls s (omega arith) b x m))
    depth_alike (suc k) zero b x led d ls m s p q = stop k b x led d ls (full ls s (omega arith) b x m)
    depth_alike (suc k) (suc k') b x led d ls m s p q = elim (which (listed ls b x)) [
      | inl e ↦ stop k b x led d ls e ∙ sym (stop k' b x led d ls e)
      | inr e ↦
          let long = length-append ls (line d b x ∷ []) in
          rw e (each_alike k k' (depth_alike k k') b x d (others led (beneath b x)) (near b x led)
          (ls ++ line d b x ∷ []) (line_sound b x d ls m e s) (omega arith) (omega arith))
    ]
