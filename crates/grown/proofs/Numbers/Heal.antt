-- Numbers, faces and marks kept by kinds 9 and 10, a heal. Assumes nothing.
use mathlib.Core.Path.{◌≡◌, refl, sym, ap, ◌∙◌, subst}
use mathlib.Core.Logic.{◌⊎◌, inl, inr, ◌≢◌}
use mathlib.Core.Bool.{Bool, true, false, cond, not, ◌||◌}
use mathlib.Core.List.Memᴰ
use mathlib.Core.List.{List, [], ◌∷◌, ◌++◌, map, map-append, Memᴰ}
use mathlib.Core.Option.{get_or}
use Prim.Native.Nat.{ℕ, ◌+◌, ◌≤◌}
use native.Mathlib.Nat.{add-zero}
use native.Mathlib.Omega.{arith}
use borrow.Author.Tests.{not-true}
use Rattle.lists.specs.Tests.{same}
use Rattle.lists.specs.Scans.{is_some}
use Rattle.lists.proofs.Bools.{same_true, same_false, differ, or-true, or-false, or_no}
use Rattle.lists.proofs.Keeps.{keep_in, keep_has, keep-map}
use Rattle.lists.proofs.Rising.{Rising, rising_keep}
use Rattle.planar_maps.specs.Map.{Dart, fwd, bwd, rev}
use Rattle.planar_maps.proofs.Turns.{rev-rev}
use Rattle.map.specs.declared.Variant.{Variant}
use Rattle.map.specs.declared.Variant.TheVariants.{New, Mod}
use Rattle.map.specs.Rows.{Node, Edge, Map, edge, has_edge, at_edge, without_node, without_edge}
use Rattle.map.specs.Darts.{leaves, arrives, next}
use Rattle.map.specs.Edits.{is_mod, joint, parts, healed_curve, heal}
use Rattle.map.proofs.Laws.{edge_there_lem}
use Rattle.map_laws.proofs.Readings.{leaves_row, tail_in, Outline, outline_of, outlines, outline_number}
use Rattle.map_laws.proofs.Outlines.{outlines_map, outlines_without, less_outline, counts_are}
use Rattle.grown.proofs.Numbers.Ranked.{EndsAt, Sided, RankedMap, ranked_shape}
use Rattle.grown.proofs.Numbers.Nodes.{ranked_less_nodes}
use Rattle.grown.proofs.Numbers.Edges.{rising_outlines, outline_at, ranked_distinct}
use Rattle.grown.proofs.Numbers.Split.{Replaced, Meeting, replaced_ranked, placing, placing-numbers, placing_in}
use Rattle.grown.proofs.Numbers.Split.{placing_rest, placing-back, renaming, renaming_outlines}
use Rattle.grown.proofs.Joint.{meets}

-- ---- the joint

-- the node to join at
abbrev pub joint_of : Map → ℕ → ℕ → ℕ
joint_of m e f = get_or (joint m e f) 0

-- one end of the edge is j, the other x
pub record Far (j x : ℕ) (e : Edge) : Type 0 where
  pub only : (k : ℕ) → k ≢ j → (e.start ≡ k) ⊎ (e.end ≡ k) → x ≡ k
  pub ends : (k : ℕ) → x ≡ k → (e.start ≡ k) ⊎ (e.end ≡ k)

far_start : {j : ℕ} (e : Edge) → e.end ≡ j → Far j e.start e
far_start e h = record { only = λ k ne x. elim x [ inl q ↦ q | inr q ↦ absurd (ne (sym q ∙ h)) ]; ends = λ k q. inl q }

far_end : {j : ℕ} (e : Edge) → e.start ≡ j → Far j e.end e
far_end e h = record { only = λ k ne x. elim x [ inl q ↦ absurd (ne (sym q ∙ h)) | inr q ↦ q ]; ends = λ k q. inr q }

-- a directed edge that arrives at j
far_of_lem : (m : Map) (j : ℕ) (z : Dart) → leaves m (rev z) ≡ j → Far j (leaves m z) (edge m z.edge)
far_of_lem m j z q = subst (λ (x : ℕ). Far j x (edge m z.edge)) (sym (leaves_row m z))
    (go z.back (sym (leaves_row m (rev z)) ∙ q))
  where
    go : (b : Bool) → tail_in (not b) (edge m z.edge) ≡ j → Far j (tail_in b (edge m z.edge)) (edge m z.edge)
    go true p = far_end (edge m z.edge) p
    go false p = far_start (edge m z.edge) p

module _ (m : Map) (e f : ℕ) (h : is_some (joint m e f) ≡ true) where
  abbrev Between : Dart × Dart → Type 0
  Between c =
      (Far (joint_of m e f) (leaves m c.0) (edge m e) × Far (joint_of m e f) (arrives m c.1) (edge m f))
      ⊎ (Far (joint_of m e f) (arrives m c.1) (edge m e) × Far (joint_of m e f) (leaves m c.0) (edge m f))

  -- the healed edge runs between the far ends
  far : Between (parts m e f)
  far = elim (meets m e f h).edges [
    | inl q ↦ inl (of q.0 start, of q.1 end)
    | inr q ↦ inr
        (of q.1 end, of q.0 start)
  ]
    where
      start : Far (joint_of m e f) (leaves m (parts m e f).0) (edge m (parts m e f).0.edge)
      start = far_of_lem m (joint_of m e f) (parts m e f).0 (meets m e f h).arrives

      end : Far (joint_of m e f) (leaves m (rev (parts m e f).1)) (edge m (parts m e f).1.edge)
      end = far_of_lem m (joint_of m e f) (rev (parts m e f).1)
          (ap (leaves m) (rev-rev (parts m e f).1) ∙ (meets m e f h).departs)

      of : {x i k : ℕ} → i ≡ k → Far (joint_of m e f) x (edge m i) → Far (joint_of m e f) x (edge m k)
      of {x} q = subst (λ (i : ℕ). Far (joint_of m e f) x (edge m i)) q

-- ---- the outlines

abbrev pub healed_outline : Variant → ℕ → ℕ → Map → Outline
healed_outline how e f m =
    record {
      arc = record {
        num = cond (is_mod how) e m.next.edges;
        from = leaves m (parts m e f).0;
        to = arrives m (parts m e f).1;
      };
      left = (edge m e).left;
      right = (edge m e).right;
    }

-- the healed row h, with links of m'
abbrev healed_edge : ℕ → ℕ → ℕ → Map → Map → Edge
healed_edge e f h m m' =
    record {
      number = h;
      start = leaves m (parts m e f).0;
      end = arrives m (parts m e f).1;
      next_left = next m' (parts m e f).1;
      next_right = next m' (rev (parts m e f).0);
      left = (edge m e).left;
      right = (edge m e).right;
      curve = healed_curve m e f;
    }

abbrev pub heal_outlines : Variant → ℕ → ℕ → Outline → List Outline → List Outline
heal_outlines how e f x os = cond (is_mod how) (less_outline f (map (placing e x) os))
    (less_outline e (less_outline f os) ++ x ∷ [])

pub heal_outlines_lem : (how : Variant) (e f : ℕ) (m : Map) → outlines (heal how e f m)
    ≡ heal_outlines how e f (healed_outline how e f m) (outlines m)
unfolding heal at_edge
heal_outlines_lem Mod e f m =
    let c = (parts m e f).0 in
    let d = (parts m e f).1 in
    let m' = renaming c (fwd e) (rev d) (bwd e) m in
    let row : Edge = healed_edge e f e m m' in
    outlines_without f (at_edge e (λ r. row) m').edges
    ∙ ap (less_outline f) (outlines_map (λ r. cond (same r.number e) row r) (placing e (outline_of row)) m'.edges
    (λ r k. at (same r.number e) row r)
    ∙ ap (map (placing e (outline_of row))) (renaming_outlines c (fwd e) (rev d) (bwd e) m))
  where
    at : (b : Bool) (x r : Edge) → outline_of (cond b x r) ≡ cond b (outline_of x) (outline_of r)
    at true x r = refl
    at false x r = refl
heal_outlines_lem New e f m =
    let c = (parts m e f).0 in
    let d = (parts m e f).1 in
    let h = m.next.edges in
    let m' = renaming c (fwd h) (rev d) (bwd h) m in
    let row : Edge = healed_edge e f h m m' in
    map-append outline_of (without_edge e (without_edge f m'.edges)) (row ∷ [])
    ∙ ap (λ (l : List Outline). l ++ outline_of row ∷ [])
    (outlines_without e (without_edge f m'.edges)
    ∙ ap (less_outline e) (outlines_without f m'.edges
    ∙ ap (less_outline f) (renaming_outlines c (fwd h) (rev d) (bwd h) m)))

less_rising : {b : ℕ} (e : ℕ) (os : List Outline) → Rising 1 b (map outline_number os)
    → Rising 1 b (map outline_number (less_outline e os))
less_rising {b} e os r = subst (Rising 1 b)
    (keep-map outline_number (λ o. not (same o.arc.num e)) (λ i. not (same i e)) os (λ o j. refl))
    (rising_keep 1 b (λ i. not (same i e)) (map outline_number os) r)

less_in : (e : ℕ) (os : List Outline) (q : Outline) → Memᴰ q (less_outline e os) → Memᴰ q os
    × (same q.arc.num e ≡ false)
less_in e os q k = let y = keep_in (λ q. not (same q.arc.num e)) os k in
    (y.0, not-true (same q.arc.num e) y.1)

less_has : (e : ℕ) (os : List Outline) (q : Outline) → Memᴰ q os → same q.arc.num e ≡ false
    → Memᴰ q (less_outline e os)
less_has e os q k h = keep_has (λ q. not (same q.arc.num e)) os k (ap not h)

module _ (e f b : ℕ) (x : Outline) (os : List Outline) where
  heal_rising : (how : Variant) → x.arc.num ≡ cond (is_mod how) e b → 1 ≤ b → Rising 1 b (map outline_number os)
      → Rising 1 (b + cond (is_mod how) 0 1) (map outline_number (heal_outlines how e f x os))
  heal_rising Mod h low r = subst (λ (i : ℕ). Rising 1 i (map outline_number (less_outline f (map (placing e x) os))))
      (sym (add-zero b)) (less_rising f (map (placing e x) os) (subst (Rising 1 b) (sym (placing-numbers e x os h)) r))
  heal_rising New h low r = rising_outlines b (less_outline e (less_outline f os)) x low h
      (less_rising e (less_outline f os) (less_rising f os r))

  abbrev out : Outline → Bool
  out q = same q.arc.num e || same q.arc.num f

  heal_replaced : (how : Variant) → x.arc.num ≡ cond (is_mod how) e b → e ≢ f → (o : Outline) → Memᴰ o os
      → o.arc.num ≡ e → Replaced os (heal_outlines how e f x os) out (x ∷ [])
  heal_replaced Mod h ne o k q = record {
    back = λ y j. let i = less_in f (map (placing e x) os) y j in
        elim (placing-back e x y os i.0) [
          | inl z ↦ inl (Memᴰ.head z)
          | inr z ↦ inr
              (z.0, or_no z.1 i.1)
        ];
    new = λ y j. Memᴰ.cast (Memᴰ.eq_of_singleton j)
        (less_has f (map (placing e x) os) x (placing_in e x o os k q)
        (same_false x.arc.num f (λ z. ne (sym h ∙ z))));
    rest = λ y j z. let w = or-false (same y.arc.num e) (same y.arc.num f) z in
        less_has f (map (placing e x) os) y (placing_rest e x y os j w.0) w.1;
  }
  heal_replaced New h ne o k q = record {
    back = λ y j. elim (Memᴰ.append_cases (less_outline e (less_outline f os)) j) [
      | inl i ↦ let u = less_in e (less_outline f os) y i in let v = less_in f os y u.0 in
          inr (v.0, or_no u.1 v.1)
      | inr i ↦ inl i
    ];
    new = λ y j. Memᴰ.append_right (less_outline e (less_outline f os)) j;
    rest = λ y j z. let w = or-false (same y.arc.num e) (same y.arc.num f) z in
        Memᴰ.append_left (x ∷ []) (less_has e (less_outline f os) y (less_has f os y j w.1) w.0);
  }

-- ---- kinds 9 and 10

pub heal_ranked : (how : Variant) (e f : ℕ) (m : Map) → has_edge m e ≡ true → has_edge m f ≡ true → e ≢ f
    → is_some (joint m e f) ≡ true → RankedMap m → RankedMap (heal how e f m)
unfolding heal
heal_ranked how e f m he hf ne h r =
    ranked_shape {m = heal how e f m}
    (record {
      nodes = refl;
      outlines = heal_outlines_lem how e f m;
      faces = refl;
      next = counts_are (add-zero m.next.nodes) refl (add-zero m.next.faces);
    })
    (replaced_ranked (heal_replaced e f b x os how refl ne oe (in_row e he) (edge_there_lem m e he).1)
    (heal_rising e f b x os how refl r.first_edge r.edges) (omega (arith, r.first_edge)) side meeting
    (ranked_less_nodes (joint_of m e f) r))
  where
    os : List Outline
    os = outlines m

    b : ℕ
    b = m.next.edges

    x : Outline
    x = healed_outline how e f m

    oe : Outline
    oe = outline_of (edge m e)

    in_row : (i : ℕ) → has_edge m i ≡ true → Memᴰ (outline_of (edge m i)) (outlines m)
    in_row i k = Memᴰ.map outline_of (edge_there_lem m i k).0

    side : (y : Outline) → Memᴰ y (healed_outline how e f m ∷ []) → Sided m.faces y
    side y j = subst (Sided m.faces) (sym (Memᴰ.eq_of_singleton j))
        (r.sided (outline_of (edge m e)) (in_row e he))

    -- an end of either edge, other than the joint, is an end of the healed one, and the other way round
    gone : (k : ℕ) → k ≢ joint_of m e f → (((edge m e).start ≡ k) ⊎ ((edge m e).end ≡ k))
        ⊎ (((edge m f).start ≡ k) ⊎ ((edge m f).end ≡ k)) → (leaves m (parts m e f).0 ≡ k)
        ⊎ (arrives m (parts m e f).1 ≡ k)
    gone k nj z = elim (far m e f h) [
      | inl w ↦ elim z [ inl y ↦ inl (w.0.only k nj y) | inr y ↦ inr (w.1.only k nj y) ]
      | inr w ↦ elim z [ inl y ↦ inr (w.0.only k nj y) | inr y ↦ inl (w.1.only k nj y) ]
    ]

    come : (k : ℕ) → (leaves m (parts m e f).0 ≡ k) ⊎ (arrives m (parts m e f).1 ≡ k)
        → (((edge m e).start ≡ k) ⊎ ((edge m e).end ≡ k)) ⊎ (((edge m f).start ≡ k) ⊎ ((edge m f).end ≡ k))
    come k z = elim (far m e f h) [
      | inl w ↦ elim z [ inl y ↦ inl (w.0.ends k y) | inr y ↦ inr (w.1.ends k y) ]
      | inr w ↦ elim z [ inl y ↦ inr (w.1.ends k y) | inr y ↦ inl (w.0.ends k y) ]
    ]

    at : (i : ℕ) (o : Outline) → Memᴰ o (outlines m) → same o.arc.num i ≡ true → (k : ℕ) → EndsAt o k
        → ((edge m i).start ≡ k) ⊎ ((edge m i).end ≡ k)
    at i o j q k z = subst (λ (w : Outline). EndsAt w k)
        (outline_at m i (ranked_distinct m r) o j (same_true o.arc.num i q)) z

    meeting : (n : Node) → Memᴰ n (without_node (joint_of m e f) m.nodes)
        → Meeting (outlines m) (out e f m.next.edges (healed_outline how e f m) (outlines m))
        (healed_outline how e f m ∷ []) n.number
    meeting n j = record {
      gone = λ o i q z. (
        healed_outline how e f m,
        Memᴰ.head refl,
        gone n.number away (elim (or-true (same o.arc.num e) (same o.arc.num f) q) [
          | inl y ↦ inl
              (at e o i y n.number z)
          | inr y ↦ inr (at f o i y n.number z)
        ]),
      );
      come = λ y i z. elim (come n.number
          (subst (λ (w : Outline). EndsAt w n.number) (Memᴰ.eq_of_singleton i) z)) [
            | inl w ↦
                (outline_of (edge m e), in_row e he, w)
            | inr w ↦ (outline_of (edge m f), in_row f hf, w)
          ];
    }
      where
        away : n.number ≢ joint_of m e f
        away = differ n.number (joint_of m e f)
            (not-true (same n.number (joint_of m e f))
            (keep_in (λ q. not (same q.number (joint_of m e f))) m.nodes j).1)
