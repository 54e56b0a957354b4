-- Numbers, faces and marks kept where edges are replaced by others; kinds 7 and 8, a split. Assumes nothing.
use mathlib.Core.Path.{◌≡◌, refl, sym, ap, ◌∙◌, subst}
use mathlib.Core.Logic.{◌⊎◌, inl, inr, ◌≢◌}
use mathlib.Core.Bool.{Bool, true, false, cond, not}
use mathlib.Core.List.{List, [], ◌∷◌, ◌++◌, map, map-append, append_assoc, Memᴰ}
use mathlib.Core.Option.{Option, none, some}
use Prim.Native.Nat.{ℕ, ◌+◌, ◌≤◌}
use native.Mathlib.Nat.{add-zero}
use native.Mathlib.Omega.{arith}
use borrow.Author.Tests.{not-true}
use Rattle.lists.specs.Tests.{same}
use Rattle.lists.proofs.Bools.{same_true, same_eq, which}
use Rattle.lists.proofs.Keeps.{keep_in, keep_has, keep-map}
use Rattle.lists.proofs.Rising.{Rising, rising_keep}
use Rattle.lists.proofs.Lookups.{replaced_numbers, replaced_in}
use Rattle.planar_maps.specs.Map.{Dart, fwd, bwd}
use Rattle.plane.specs.declared.Point.{Point}
use Rattle.map.specs.declared.Variant.{Variant}
use Rattle.map.specs.declared.Variant.TheVariants.{New, Mod}
use Rattle.map.specs.Rows.{Node, Edge, Map, edge, has_edge, at_edge, without_edge}
use Rattle.map.specs.Links.{with_links, instead, redirect}
use Rattle.map.specs.Edits.{is_mod, start_half, end_half, split}
use Rattle.map.proofs.Laws.{edge_there_lem}
use Rattle.map_laws.proofs.Readings.{mapped_kept, Outline, outline_of, outlines, outline_number, relinked_join}
use Rattle.map_laws.proofs.Readings.{redirect_relinked}
use Rattle.map_laws.proofs.RowChanges.{node_number}
use Rattle.map_laws.proofs.Outlines.{outlines_map, outlines_without, less_outline, counts_are}
use Rattle.grown.proofs.Numbers.Ranked.{Met, EndsAt, Sided, Ranked, RankedMap, ranked_shape}
use Rattle.grown.proofs.Numbers.Nodes.{ranked_more_node}
use Rattle.grown.proofs.Numbers.Edges.{rising_outlines, outline_at, ranked_distinct}

-- ---- outlines replaced

-- those that `out` takes are replaced by the new ones
pub record Replaced (os os' : List Outline) (out : Outline → Bool) (news : List Outline) : Type 0 where
  pub back : (x : Outline) → Memᴰ x os' → Memᴰ x news ⊎ (Memᴰ x os × (out x ≡ false))
  pub new : (x : Outline) → Memᴰ x news → Memᴰ x os'
  pub rest : (x : Outline) → Memᴰ x os → out x ≡ false → Memᴰ x os'

-- what ended at the node k before and does after
pub record Meeting (os : List Outline) (out : Outline → Bool) (news : List Outline) (k : ℕ) : Type 0 where
  pub gone : (o : Outline) → Memᴰ o os → out o ≡ true → EndsAt o k → Met news k
  pub come : (x : Outline) → Memᴰ x news → EndsAt x k → Met os k

pub replaced_ranked : {ns : List Node} {os os' : List Outline} {out : Outline → Bool} {news : List Outline}
    {fs : List ℕ} {a b b' c : ℕ} → Replaced os os' out news
    → Rising 1 b' (map outline_number os') → 1 ≤ b' → ((x : Outline) → Memᴰ x news → Sided fs x)
    → ((n : Node) → Memᴰ n ns → Meeting os out news n.number)
    → Ranked ns os fs a b c → Ranked ns os' fs a b' c
replaced_ranked {ns} {os} {os'} {out} {news} {fs} p rise low side meeting r = record {
  nodes = r.nodes;
  edges = rise;
  faces = r.faces;
  zero = r.zero;
  placed = λ n k. record {
    inside = (r.placed n k).inside;
    met = λ e. after n k ((r.placed n k).met e);
    bare = λ x. (r.placed n k).bare (before n k x);
  };
  sided = λ o k. elim (p.back o k) [ inl j ↦ side o j | inr j ↦ r.sided o j.0 ];
  first_node = r.first_node;
  first_edge = low;
}
  where
    after : (n : Node) → Memᴰ n ns → Met os n.number → Met os' n.number
    after n k x = elim (which (out x.0)) [
      | inl e ↦ let y = (meeting n k).gone x.0 x.1 e x.2 in (y.0, p.new y.0 y.1, y.2)
      | inr e ↦ (x.0, p.rest x.0 x.1 e, x.2)
    ]

    before : (n : Node) → Memᴰ n ns → Met os' n.number → Met os n.number
    before n k x =
        elim (p.back x.0 x.1) [ inl j ↦ (meeting n k).come x.0 j x.2 | inr j ↦ (x.0, j.0, x.2) ]

-- the outline with the number e replaced in its place
abbrev pub placing : ℕ → Outline → Outline → Outline
placing e x o = cond (same o.arc.num e) x o

pub placing-numbers : (e : ℕ) (x : Outline) (os : List Outline) → x.arc.num ≡ e
    → map outline_number (map (placing e x) os) ≡ map outline_number os
placing-numbers e x os h = replaced_numbers outline_number e x os h

pub placing_in : (e : ℕ) (x o : Outline) (os : List Outline) → Memᴰ o os → o.arc.num ≡ e
    → Memᴰ x (map (placing e x) os)
placing_in e x o os k h = mathlib.Core.List.Memᴰ.cast (ap (λ (b : Bool). cond b x o) (sym (same_eq o.arc.num e h)))
    (mathlib.Core.List.Memᴰ.map (placing e x) k)

pub placing_rest : (e : ℕ) (x o : Outline) (os : List Outline) → Memᴰ o os → same o.arc.num e ≡ false
    → Memᴰ o (map (placing e x) os)
placing_rest e x o os k h = mathlib.Core.List.Memᴰ.cast (ap (λ (b : Bool). cond b x o) (sym h)) (mathlib.Core.List.Memᴰ.map (placing e x) k)

pub placing-back : (e : ℕ) (x o : Outline) (os : List Outline) → Memᴰ o (map (placing e x) os)
    → (o ≡ x) ⊎ (Memᴰ o os × (same o.arc.num e ≡ false))
placing-back e x o os k = replaced_in outline_number e x os k

-- ---- a split

abbrev pub start_part : Outline → ℕ → ℕ → Outline
start_part o a n = record { arc = record { num = a; from = o.arc.from; to = n }; left = o.left; right = o.right }

abbrev pub end_part : Outline → ℕ → ℕ → Outline
end_part o b n = record { arc = record { num = b; from = n; to = o.arc.to }; left = o.left; right = o.right }

-- the outlines after a split of the outline o with the number e at the node n, x being the next number
abbrev pub split_outlines : Variant → ℕ → ℕ → ℕ → Outline → List Outline → List Outline
split_outlines how e n x o os = cond (is_mod how) (map (placing e (start_part o e n)) os ++ end_part o x n ∷ [])
    (less_outline e os ++ start_part o x n ∷ end_part o (x + 1) n ∷ [])

abbrev pub split_parts : Variant → ℕ → ℕ → ℕ → Outline → List Outline
split_parts how e n x o = start_part o (cond (is_mod how) e x) n ∷ end_part o (cond (is_mod how) x (x + 1)) n ∷ []

module _ (e n x : ℕ) (o : Outline) (os : List Outline) (k : Memᴰ o os) (h : o.arc.num ≡ e) where
  split_rising : (how : Variant) → 1 ≤ x → Rising 1 x (map outline_number os)
      → Rising 1 (x + cond (is_mod how) 1 2) (map outline_number (split_outlines how e n x o os))
  split_rising Mod low r = rising_outlines x (map (placing e (start_part o e n)) os) (end_part o x n) low refl
      (subst (Rising 1 x) (sym (placing-numbers e (start_part o e n) os refl)) r)
  split_rising New low r =
      subst (λ (i : ℕ). Rising 1 i (map outline_number (less_outline e os ++ start_part o x n ∷ end_part o (x + 1) n ∷ [])))
      (twice x) (subst (λ (l : List Outline). Rising 1 (x + 1 + 1) (map outline_number l))
      (append_assoc (less_outline e os) (start_part o x n ∷ []) (end_part o (x + 1) n ∷ [])) last)
    where
      twice : (i : ℕ) → i + 1 + 1 ≡ i + 2
      twice i = omega arith

      less : Rising 1 x (map outline_number (less_outline e os))
      less =
          subst (Rising 1 x) (keep-map outline_number (λ o. not (same o.arc.num e)) (λ i. not (same i e)) os
          (λ o j. refl)) (rising_keep 1 x (λ i. not (same i e)) (map outline_number os) r)

      last : Rising 1 (x + 1 + 1) (map outline_number
          ((less_outline e os ++ start_part o x n ∷ []) ++ end_part o (x + 1) n ∷ []))
      last = rising_outlines (x + 1) (less_outline e os ++ start_part o x n ∷ []) (end_part o (x + 1) n) (omega arith) refl
          (rising_outlines x (less_outline e os) (start_part o x n) low refl less)

  split_replaced : (how : Variant)
      → Replaced os (split_outlines how e n x o os) (λ q. same q.arc.num e) (split_parts how e n x o)
  split_replaced Mod = record {
    back = λ q j. elim (mathlib.Core.List.Memᴰ.append_cases (map (placing e (start_part o e n)) os) j) [
      | inl i ↦ elim (placing-back e (start_part o e n) q os i) [ inl y ↦ inl (mathlib.Core.List.Memᴰ.head y) | inr y ↦ inr y ]
      | inr i ↦ inl (mathlib.Core.List.Memᴰ.tail i)
    ];
    new = λ q j. elim (mathlib.Core.List.Memᴰ.cases_cons j) [
      | inl y ↦ mathlib.Core.List.Memᴰ.append_left (end_part o x n ∷ []) (mathlib.Core.List.Memᴰ.cast y (placing_in e (start_part o e n) o os k h))
      | inr i ↦ mathlib.Core.List.Memᴰ.append_right (map (placing e (start_part o e n)) os) i
    ];
    rest = λ q j y. mathlib.Core.List.Memᴰ.append_left (end_part o x n ∷ []) (placing_rest e (start_part o e n) q os j y);
  }
  split_replaced New = record {
    back = λ q j. elim (mathlib.Core.List.Memᴰ.append_cases (less_outline e os) j) [
      | inl i ↦ let y = keep_in (λ q. not (same q.arc.num e)) os i in
          inr (y.0, not-true (same q.arc.num e) y.1)
      | inr i ↦ inl i
    ];
    new = λ q j. mathlib.Core.List.Memᴰ.append_right (less_outline e os) j;
    rest = λ q j y. mathlib.Core.List.Memᴰ.append_left (start_part o x n ∷ end_part o (x + 1) n ∷ [])
        (keep_has (λ q. not (same q.arc.num e)) os j (ap not y));
  }

  -- at a node other than the new one the halves end where the whole did
  split-meeting : (how : Variant) → ((q : Outline) → Memᴰ q os → q.arc.num ≡ e → q ≡ o) → (i : ℕ) → i ≢ n
      → Meeting os (λ q. same q.arc.num e) (split_parts how e n x o) i
  split-meeting how only i ne = record {
    gone = λ q j y z. elim (subst (λ (w : Outline). EndsAt w i) (only q j (same_true q.arc.num e y)) z) [
      | inl u ↦ (start_part o (cond (is_mod how) e x) n, mathlib.Core.List.Memᴰ.head refl, inl u)
      | inr u ↦ (end_part o (cond (is_mod how) x (x + 1)) n, mathlib.Core.List.Memᴰ.tail (mathlib.Core.List.Memᴰ.head refl), inr u)
    ];
    come = λ q j z. elim (mathlib.Core.List.Memᴰ.cases_cons j) [
      | inl y ↦ elim (subst (λ (w : Outline). EndsAt w i) y z) [ inl u ↦ (o, k, inl u) | inr u ↦ absurd (ne (sym u)) ]
      | inr y ↦ elim (subst (λ (w : Outline). EndsAt w i) (mathlib.Core.List.Memᴰ.eq_of_singleton y) z) [
        | inl u ↦ absurd (ne (sym u))
        | inr u ↦ (o, k, inr u)
      ]
    ];
  }

-- ---- kinds 7 and 8

redirect_outline : (old new : Dart) (m : Map) (e : ℕ) → outline_of (edge (redirect old new m) e) ≡ outline_of (edge m e)
unfolding redirect
redirect_outline old new m e = mapped_kept m (redirect old new m)
    (λ e. with_links (instead old new e.next_left) (instead old new e.next_right) e) refl (λ r k. refl) outline_of
    (λ r. refl) e

-- both departures renamed
abbrev pub renaming : Dart → Dart → Dart → Dart → Map → Map
renaming p p' q q' m = redirect q q' (redirect p p' m)

pub renaming_outlines : (p p' q q' : Dart) (m : Map) → outlines (renaming p p' q q' m) ≡ outlines m
renaming_outlines p p' q q' m = (relinked_join (redirect_relinked p p' m) (redirect_relinked q q' (redirect p p' m))
    ).outlines

renaming_outline : (p p' q q' : Dart) (m : Map) (e : ℕ)
    → outline_of (edge (renaming p p' q q' m) e) ≡ outline_of (edge m e)
renaming_outline p p' q q' m e = redirect_outline q q' (redirect p p' m) e ∙ redirect_outline p p' m e

pub split_outlines_lem : (how : Variant) (e : ℕ) (p : Point) (m : Map)
    → outlines (split how e p m) ≡ split_outlines how e m.next.nodes m.next.edges (outline_of (edge m e))
    (outlines m)
unfolding split at_edge
split_outlines_lem Mod e p m =
    let n = m.next.nodes in
    let x = m.next.edges in
    let m' = renaming (fwd e) (fwd e) (bwd e) (bwd x) m in
    let first = start_half (edge m' e) n e x p in
    let second = end_half (edge m' e) n e x p in
    map-append outline_of (at_edge e (λ r. first) m').edges (second ∷ [])
    ∙ ap (λ (l : List Outline). l ++ outline_of second ∷ [])
    (outlines_map (λ r. cond (same r.number e) first r) (placing e (outline_of first)) m'.edges
    (λ r k. at (same r.number e) first r))
    ∙ ap (λ (l : List Outline). map (placing e (outline_of first)) l ++ outline_of second ∷ [])
    (renaming_outlines (fwd e) (fwd e) (bwd e) (bwd x) m)
    ∙ ap (λ (o : Outline). map (placing e (start_part o e n)) (outlines m) ++ end_part o x n ∷ [])
    (renaming_outline (fwd e) (fwd e) (bwd e) (bwd x) m e)
  where
    at : (b : Bool) (f r : Edge) → outline_of (cond b f r) ≡ cond b (outline_of f) (outline_of r)
    at true f r = refl
    at false f r = refl
split_outlines_lem New e p m =
    let n = m.next.nodes in
    let x = m.next.edges in
    let m' = renaming (fwd e) (fwd x) (bwd e) (bwd (x + 1)) m in
    let first = start_half (edge m' e) n x (x + 1) p in
    let second = end_half (edge m' e) n x (x + 1) p in
    map-append outline_of (without_edge e m'.edges) (first ∷ second ∷ [])
    ∙ ap (λ (l : List Outline). l ++ outline_of first ∷ outline_of second ∷ [])
    (outlines_without e m'.edges ∙ ap (less_outline e)
    (renaming_outlines (fwd e) (fwd x) (bwd e) (bwd (x + 1)) m))
    ∙ ap (λ (o : Outline). less_outline e (outlines m) ++ start_part o x n ∷ end_part o (x + 1) n ∷ [])
    (renaming_outline (fwd e) (fwd x) (bwd e) (bwd (x + 1)) m e)

pub split_ranked : (how : Variant) (e : ℕ) (p : Point) (m : Map) → has_edge m e ≡ true → RankedMap m
    → RankedMap (split how e p m)
unfolding split
split_ranked how e p m h r =
    let n = m.next.nodes in
    let x = m.next.edges in
    let o = outline_of (edge m e) in
    let os = outlines m in
    let k : Memᴰ o os = mathlib.Core.List.Memᴰ.map outline_of (edge_there_lem m e h).0 in
    let q : o.arc.num ≡ e = (edge_there_lem m e h).1 in
    let only : (y : Outline) → Memᴰ y os → y.arc.num ≡ e → y ≡ o = outline_at m e (ranked_distinct m r) in
    let y = x + cond (is_mod how) 1 2 in
    let halves : Ranked m.nodes (split_outlines how e n x o os) m.faces n y m.next.faces =
    replaced_ranked (split_replaced e n x o os k q how) (split_rising e n x o os k q how r.first_edge r.edges)
    (omega (arith, r.first_edge)) (sides how o (r.sided o k))
    (λ y j. split-meeting e n x o os k q how only y.number (old y j)) r in
    ranked_shape {m = split how e p m} (record {
      nodes = refl;
      outlines = split_outlines_lem how e p m;
      faces = refl;
      next = counts_are refl refl (add-zero m.next.faces);
    })
    (ranked_more_node (record { number = n; at = p; face = none }) refl
    (record {
      inside = none_inside;
      met = λ y. (
        start_part o (cond (is_mod how) e x) n,
        (split_replaced e n x o os k q how).new _ (mathlib.Core.List.Memᴰ.head refl),
        inr refl,
      );
      bare = λ y. refl;
    }) halves)
  where
    sides : (b : Variant) (o : Outline) → Sided m.faces o → (y : Outline)
        → Memᴰ y (split_parts b e m.next.nodes m.next.edges o) → Sided m.faces y
    sides b o s y j = elim (mathlib.Core.List.Memᴰ.cases_cons j) [
      | inl z ↦ subst (Sided m.faces) (sym z) s
      | inr i ↦ subst (Sided m.faces) (sym (mathlib.Core.List.Memᴰ.eq_of_singleton i)) s
    ]

    old : (y : Node) → Memᴰ y m.nodes → y.number ≢ m.next.nodes
    old y j z = let b = r.nodes.bounds y.number (mathlib.Core.List.Memᴰ.map node_number j) in omega arith

    none_inside : (f : ℕ) → ◌≡◌ {A = Option ℕ} none (some f) → Memᴰ f m.faces
    none_inside f z = let i : ◌≡◌ {A = ℕ} 0 1 = cc in absurd (omega arith)
