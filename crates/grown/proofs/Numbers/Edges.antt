-- Numbers, faces and marks kept by an edge drawn or undrawn, and by faces shared out or renamed: kinds 4, 5 and 11 to
-- 14. Assumes nothing.
use mathlib.Core.Path.{◌≡◌, refl, sym, ap, ◌∙◌, subst}
use mathlib.Core.Logic.{◌⊎◌, inl, inr}
use mathlib.Core.Bool.{Bool, true, false, cond, not, ◌&&◌, true≢false}
use mathlib.Core.List.Memᴰ
use mathlib.Core.List.{List, [], ◌∷◌, ◌++◌, map, map-map, map-append, Memᴰ}
use mathlib.Core.Option.{Option, none, some}
use Prim.Native.Nat.{ℕ, ◌+◌, ◌≤◌}
use native.Mathlib.Omega.{arith}
use Rattle.lists.specs.Tests.{same}
use Rattle.lists.specs.Scans.{is_some}
use Rattle.lists.specs.Members.{Distinct}
use Rattle.lists.proofs.Bools.{same_true, same_eq, which, or-true, or-false}
use Rattle.lists.proofs.Keeps.{keep_in, keep_has, keep-map}
use Rattle.lists.proofs.Rising.{Rising, rising_append, rising_keep, rising_distinct}
use Rattle.lists.proofs.Members.{each_last}
use Rattle.planar_maps.specs.Pieces.{nums}
use Rattle.curves.specs.Curves.{Curve}
use Rattle.map.specs.Rows.{Node, Edge, Map, edge, has_edge, at_nodes}
use Rattle.map.specs.Darts.{arcs, edge_ends}
use Rattle.map.specs.Links.{unlink_edge}
use Rattle.map.specs.Edits.{with_face, is_either, drawn, undrawn}
use Rattle.map_laws.proofs.Readings.{edge_at, number_of, has_number, Outline, outline_of, outlines, outline_number}
use Rattle.map_laws.proofs.Outlines.{drawn_outline, drawn-shape, marked, less_outline, unlink-shape, undrawn_face_list}
use Rattle.map_laws.proofs.Outlines.{undrawn-next}
use Rattle.grown.proofs.Numbers.Ranked.{Met, EndsAt, Placed, Ranked, RankedMap, ends_met, met_ends, ranked_shape}
use Rattle.grown.proofs.Numbers.Nodes.{rising_nodes, placed_map, lone_placed}

-- ---- an edge drawn

-- a row that is appended takes the next number
pub rising_outlines : (b : ℕ) (os : List Outline) (o : Outline) → 1 ≤ b → o.arc.num ≡ b
    → Rising 1 b (map outline_number os) → Rising 1 (b + 1) (map outline_number (os ++ o ∷ []))
rising_outlines b os o low e r = subst (Rising 1 (b + 1))
    (ap (λ (k : ℕ). map outline_number os ++ k ∷ []) (sym e) ∙ sym (map-append outline_number os (o ∷ [])))
    (rising_append 1 b (map outline_number os) low r)

module _ {os : List Outline} {fs : List ℕ} (u v : ℕ) (o : Outline) (from : o.arc.from ≡ u) (to : o.arc.to ≡ v) where
  -- its ends lose their faces
  marked_placed : (n : Node) → Placed os fs n → Placed (os ++ o ∷ []) fs (marked u v n)
  marked_placed n p = go (is_either u v n) refl
    where
      here : (same n.number u ≡ true) ⊎ (same n.number v ≡ true) → EndsAt o n.number
      here (inl e) = inl (from ∙ sym (same_true n.number u e))
      here (inr e) = inr (to ∙ sym (same_true n.number v e))

      away : is_either u v n ≡ false → EndsAt o n.number → ⊥
      away h (inl e) = true≢false (sym (same_eq n.number u (sym e ∙ from))
          ∙ (or-false (same n.number u) (same n.number v) h).0)
      away h (inr e) = true≢false (sym (same_eq n.number v (sym e ∙ to))
          ∙ (or-false (same n.number u) (same n.number v) h).1)

      no_face_lem : (f : ℕ) → ◌≡◌ {A = Option ℕ} none (some f) → ⊥
      no_face_lem f e = let z : ◌≡◌ {A = ℕ} 0 1 = cc in omega arith

      go : (b : Bool) → is_either u v n ≡ b → Placed (os ++ o ∷ []) fs (cond b (with_face none n) n)
      go true h = record {
        inside = λ f e. absurd (no_face_lem f e);
        met = λ e. (
          o,
          Memᴰ.append_right os (Memᴰ.head refl),
          here (or-true (same n.number u) (same n.number v) h),
        );
        bare = λ x. refl;
      }
      go false h = record {
        inside = p.inside;
        met = λ e. let x = p.met e in (x.0, Memᴰ.append_left (o ∷ []) x.1, x.2);
        bare = λ x. elim (Memᴰ.append_cases os x.1) [
          | inl k ↦ p.bare (x.0, k, x.2)
          | inr k ↦ absurd (away h (subst (λ (q : Outline). EndsAt q n.number) (Memᴰ.eq_of_singleton k) x.2))
        ];
      }

marked_number : (u v : ℕ) (n : Node) → (marked u v n).number ≡ n.number
marked_number u v n = go (is_either u v n)
  where
    go : (b : Bool) → (cond b (with_face none n) n).number ≡ n.number
    go true = refl
    go false = refl

pub drawn_ranked : (u v : ℕ) (c : Curve) (f : ℕ) (m : Map) → Memᴰ f m.faces → RankedMap m
    → RankedMap (drawn u v c f m)
drawn_ranked u v c f m k r = ranked_shape {m = drawn u v c f m} (drawn-shape u v c f m) (record {
  nodes = rising_nodes m.next.nodes (marked u v) m.nodes (λ n j. marked_number u v n) r.nodes;
  edges = rising_outlines m.next.edges (outlines m) o r.first_edge refl r.edges;
  faces = r.faces;
  zero = r.zero;
  placed = placed_map (marked u v) m.nodes (λ n j. marked_placed u v o refl refl n (r.placed n j));
  sided = each_last (outlines m) r.sided (k, k);
  first_node = r.first_node;
  first_edge = omega arith;
})
  where
    o : Outline
    o = drawn_outline m.next.edges u v f

-- ---- an edge undrawn

nums_outlines : (m : Map) → nums (arcs m) ≡ map outline_number (outlines m)
nums_outlines m = map-map _ _ m.edges ∙ sym (map-map outline_number outline_of m.edges)

-- no two edges have one number
pub outlines_distinct : {b : ℕ} (m : Map) → Rising 1 b (map outline_number (outlines m)) → Distinct (nums (arcs m))
outlines_distinct m r = subst Distinct (sym (nums_outlines m))
    (rising_distinct (map outline_number (outlines m)) r.rises)

pub ranked_distinct : (m : Map) → RankedMap m → Distinct (nums (arcs m))
ranked_distinct m r = outlines_distinct m r.edges

pub outline_has : (m : Map) (o : Outline) → Memᴰ o (outlines m) → has_edge m o.arc.num ≡ true
outline_has m o k = has_number number_of m.edges o.arc.num
    (subst (Memᴰ o.arc.num) (map-map outline_number outline_of m.edges) (Memᴰ.map outline_number k))

-- the outline with a number is that of its row
pub outline_at : (m : Map) (e : ℕ) → Distinct (nums (arcs m)) → (o : Outline) → Memᴰ o (outlines m) → o.arc.num
    ≡ e → o ≡ outline_of (edge m e)
outline_at m e dis o k q = go (Memᴰ.of_map outline_of m.edges k)
  where
    go : (x : Edge) × Memᴰ x m.edges × (outline_of x ≡ o) → o ≡ outline_of (edge m e)
    go x = sym x.2 ∙ ap outline_of (sym (edge_at m dis x.1) ∙ ap (edge m) (ap outline_number x.2 ∙ q))

module _ (m : Map) (e f : ℕ) (dis : Distinct (nums (arcs m))) {fs : List ℕ} {a b c : ℕ} (k : Memᴰ f fs)
    (r : Ranked m.nodes (outlines m) fs a b c) where
  left_edges : Rising 1 b (map outline_number (less_outline e (outlines m)))
  left_edges = subst (Rising 1 b) (keep-map outline_number (λ o. not (same o.arc.num e)) (λ i. not (same i e))
      (outlines m) (λ o j. refl)) (rising_keep 1 b (λ i. not (same i e)) (map outline_number (outlines m)) r.edges)

  still_distinct : Distinct (nums (arcs (unlink_edge e m)))
  still_distinct = subst Distinct (sym (nums_outlines (unlink_edge e m)
      ∙ ap (map outline_number) (unlink-shape e m).outlines))
      (rising_distinct (map outline_number (less_outline e (outlines m))) left_edges.rises)

  -- a node left bare takes the face
  abbrev bared : Node → Node
  bared n = cond (is_either (edge m e).start (edge m e).end n && same (edge_ends (unlink_edge e m) n.number) 0)
      (with_face (some f) n) n

  less_met : (i : ℕ) → Met (outlines (unlink_edge e m)) i → Met (less_outline e (outlines m)) i
  less_met i x = subst (λ (os : List Outline). Met os i) (unlink-shape e m).outlines x

  less_more : (i : ℕ) → Met (less_outline e (outlines m)) i → Met (outlines m) i
  less_more i x = (x.0, (keep_in (λ o. not (same o.arc.num e)) (outlines m) x.1).0, x.2)

  bared_placed : (n : Node) → Memᴰ n m.nodes → Placed (less_outline e (outlines m)) fs (bared n)
  bared_placed n j = go (is_either (edge m e).start (edge m e).end n) refl
      (same (edge_ends (unlink_edge e m) n.number) 0) refl
    where
      -- where n is no end of e, the edge that ends there is another
      other : is_either (edge m e).start (edge m e).end n ≡ false → Met (outlines m) n.number
          → Met (less_outline e (outlines m)) n.number
      other h x = elim (which (same x.0.arc.num e)) [
        | inl q ↦ absurd (at_end_lem (subst (λ (o : Outline). EndsAt o n.number)
            (outline_at m e dis x.0 x.1 (same_true x.0.arc.num e q)) x.2))
        | inr q ↦ (x.0, keep_has (λ o. not (same o.arc.num e)) (outlines m) x.1 (ap not q), x.2)
      ]
        where
          parts : (same n.number (edge m e).start ≡ false) × (same n.number (edge m e).end ≡ false)
          parts = or-false (same n.number (edge m e).start) (same n.number (edge m e).end) h

          at_end_lem : ((edge m e).start ≡ n.number) ⊎ ((edge m e).end ≡ n.number) → ⊥
          at_end_lem (inl q) = true≢false (sym (same_eq n.number (edge m e).start (sym q)) ∙ parts.0)
          at_end_lem (inr q) = true≢false (sym (same_eq n.number (edge m e).end (sym q)) ∙ parts.1)

      stays : (is_some n.face ≡ false → Met (less_outline e (outlines m)) n.number)
          → Placed (less_outline e (outlines m)) fs n
      stays h = record {
        inside = (r.placed n j).inside;
        met = h;
        bare = λ x. (r.placed n j).bare (less_more n.number x);
      }

      go : (p : Bool) → is_either (edge m e).start (edge m e).end n ≡ p → (q : Bool)
          → same (edge_ends (unlink_edge e m) n.number) 0 ≡ q
          → Placed (less_outline e (outlines m)) fs (cond (p && q) (with_face (some f) n) n)
      go true h true g = lone_placed (with_face (some f) n) f refl k
          (λ x. true≢false (sym g ∙ met_ends (unlink_edge e m) n.number still_distinct
          (subst (λ (os : List Outline). Met os n.number) (sym (unlink-shape e m).outlines) x)))
      go true h false g = stays (λ _. less_met n.number (ends_met (unlink_edge e m) n.number g))
      go false h q g = stays (λ s. other h ((r.placed n j).met s))

  bared_number : (n : Node) → (bared n).number ≡ n.number
  bared_number n = go (is_either (edge m e).start (edge m e).end n && same (edge_ends (unlink_edge e m) n.number) 0)
    where
      go : (p : Bool) → (cond p (with_face (some f) n) n).number ≡ n.number
      go true = refl
      go false = refl

  undrawn_list : Ranked (map bared m.nodes) (less_outline e (outlines m)) fs a b c
  undrawn_list = record {
    nodes = rising_nodes a bared m.nodes (λ n j. bared_number n) r.nodes;
    edges = left_edges;
    faces = r.faces;
    zero = r.zero;
    placed = placed_map bared m.nodes bared_placed;
    sided = λ o j. r.sided o (keep_in (λ o. not (same o.arc.num e)) (outlines m) j).0;
    first_node = r.first_node;
    first_edge = r.first_edge;
  }

  pub undrawn_ranked : Ranked (undrawn e f m).nodes (outlines (undrawn e f m)) fs a b c
  unfolding undrawn at_nodes
  undrawn_ranked =
      let N : (undrawn e f m).nodes ≡ map bared m.nodes = ap (map bared) (unlink-shape e m).nodes in
      let O : outlines (undrawn e f m) ≡ less_outline e (outlines m) = (unlink-shape e m).outlines in
      rw (N, O) undrawn_list

pub undrawn-map : (e f : ℕ) (m : Map) → Memᴰ f m.faces → RankedMap m → RankedMap (undrawn e f m)
undrawn-map e f m k r =
    ranked_shape {m = undrawn e f m} (record {
      nodes = refl;
      outlines = refl;
      faces = undrawn_face_list e f m;
      next = undrawn-next e f m;
    }) (undrawn_ranked m e f (ranked_distinct m r) k r)
