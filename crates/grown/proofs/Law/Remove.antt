-- Kinds 5, 13 and 14: what a map reads after an edge is unlinked, and that it keeps the law. Curves may cross. Assumes
-- nothing.
use mathlib.Core.Path.{◌≡◌, refl, sym, ap, ◌∙◌, subst}
use mathlib.Core.Logic.{inl, inr, ◌≢◌}
use mathlib.Core.Bool.{Bool, true, cond, not, true≢false, ◌&&◌}
use mathlib.Core.List.{List, ◌∷◌, Memᴰ, Permᴰ, map}
use Prim.Native.Nat.{ℕ}
use Rattle.lists.specs.Tests.{same}
use Rattle.lists.specs.Scans.{keep}
use Rattle.lists.specs.Members.{Distinct}
use Rattle.lists.proofs.Bools.{same_false, same_refl}
use Rattle.lists.proofs.Keeps.{keep_in, keep_has}
use Rattle.lists.proofs.Maps.{map_twice}
use Rattle.curves.specs.Curves.{start_way}
use Rattle.planar_maps.specs.Map.{Arc, Dart, fwd, bwd, rev, darts}
use Rattle.planar_maps.specs.Pieces.{nums}
use Rattle.planar_maps.specs.Rings.{same_dart}
use Rattle.planar_maps.proofs.Rings.{rev_in}
use Rattle.planar_maps.proofs.Hooks.{fwd≢bwd}
use Rattle.planar_maps.proofs.Turns.{rev-rev}
use Rattle.rotation.specs.Law.{Apart, others}
use Rattle.rotation.specs.Law as rotation
use Rattle.rotation.proofs.Whole.{unlink_edge_law}
use Rattle.rotation.proofs.Tells.{is_yes, is_no}
use Rattle.rotation.proofs.Ties.{tells}
use Rattle.map.specs.declared.Variant.{Variant}
use Rattle.map.specs.Rows.{Map, edge, has_edge, Node, Edge, at_nodes}
use Rattle.map.specs.Darts.{arcs, directed, leaves, next, bears, way, edge_ends}
use Rattle.map.specs.Links.{instead, redirect, unlink_edge}
use Rattle.map.specs.Edits.{undrawn, remove_iso_edge, face_left, renamed, renamed_node, renamed_faces, with_sides, remove_edge}
use Rattle.map.specs.Edits.{with_face, is_either}
use Rattle.map.proofs.Laws.{edge_there_lem}
use Rattle.map_laws.proofs.Readings.{Relinked, relinked_join, redirect_relinked, redirect-next, tail_in, next_in, face_in}
use Rattle.map_laws.proofs.Readings.{course_in, leaves_row, next_row, bears_row, course_row, way_row, bears-left}
use Rattle.map_laws.proofs.Readings.{bears_right, dart_has, has_dart}
use Rattle.map_laws.proofs.RowChanges.{less_edge, less_directed, less_perm, node_numbers, numbers_kept, node_number}
use Rattle.map_laws.proofs.Departures.{from_in, from_has, law_agree, differ_part}
use Rattle.map_laws.proofs.LawOrder.{law_order}
use Rattle.grown.proofs.Sides.{sides_arcs, sides_has, sides_leaves, sides_next, sides_way, sides_bears}
use Rattle.grown.proofs.Law.Lawful.{Obeys, Lawful}
use Rattle.grown.proofs.Curves.Apart.{apart}
use Rattle.grown.proofs.Renumber.{ways}
use mathlib.Core.Option.{Option, none, some}

-- not a way of the edge e
abbrev not_of : ℕ → Dart → Bool
not_of e d = not (same d.edge e)

left_of_lem : (m X : Map) (e : ℕ) → directed X ≡ keep (not_of e) (directed m) → {d : Dart} → Memᴰ d (directed X)
    → Memᴰ d (directed m) × (d.edge ≢ e)
left_of_lem m X e q {d} k = let j = keep_in (not_of e) (directed m) (subst (Memᴰ d) q k) in
    (j.0, λ p. true≢false (sym j.1 ∙ ap (λ x. not (same x e)) p ∙ ap not (same_refl e)))

-- X is m without the edge e, unlinked; μ says what faces became
pub record Taken (m X : Map) (e : ℕ) (μ : ℕ → ℕ) : Type 0 where
  pub from : ℕ
  pub to : ℕ
  pub nodes : node_numbers X ≡ node_numbers m
  pub perm : Permᴰ (arcs m) (record { num = e; from = from; to = to } ∷ arcs X)
  pub darts : directed X ≡ keep (not_of e) (directed m)
  pub leaves : (d : Dart) → Memᴰ d (directed X) → leaves X d ≡ leaves m d
  pub way : (d : Dart) → Memᴰ d (directed X) → way X d ≡ way m d
  pub next : (d : Dart) → Memᴰ d (directed X) → next X d ≡ rotation.unlink_edge same_dart rev (fwd e) (next m) d
  pub bears : (d : Dart) → Memᴰ d (directed X) → bears X d ≡ μ (bears m d)

-- ---- m₁ reads as m, but for the faces; X has the rows of m₁ unlinked

module _ (m m₁ X : Map) (e : ℕ) (μ : ℕ → ℕ) (dis : Distinct (nums (arcs m))) (has : has_edge m e ≡ true)
    (arcs₁ : arcs m₁ ≡ arcs m) (has₁ : (x : ℕ) → has_edge m₁ x ≡ has_edge m x)
    (leaves₁ : (d : Dart) → leaves m₁ d ≡ leaves m d) (way₁ : (d : Dart) → way m₁ d ≡ way m d)
    (next₁ : (d : Dart) → next m₁ d ≡ next m d)
    (bears₁ : (d : Dart) → Memᴰ d (directed m) → bears m₁ d ≡ μ (bears m d))
    (E : X.edges ≡ (unlink_edge e m₁).edges) (N : node_numbers X ≡ node_numbers m) where
  -- the links after the start's departure is gone, and after both
  m₂ : Map
  m₂ = redirect (fwd e) (next m₁ (bwd e)) m₁

  m₃ : Map
  m₃ = redirect (bwd e) (next m₂ (fwd e)) m₂

  R : Relinked m₁ m₃
  unfolding m₂ m₃
  R = relinked_join (redirect_relinked (fwd e) (next m₁ (bwd e)) m₁) (redirect_relinked (bwd e) (next m₂ (fwd e)) m₂)

  rows : X.edges ≡ keep (λ r. not (same r.number e)) m₃.edges
  unfolding unlink_edge m₂ m₃
  rows = E

  has₃ : (x : ℕ) → has_edge m₃ x ≡ has_edge m x
  has₃ x = R.has x ∙ has₁ x

  arcs₃ : arcs m₃ ≡ arcs m
  arcs₃ = R.arcs ∙ arcs₁

  X-darts : directed X ≡ keep (not_of e) (directed m)
  X-darts = less_directed m₃ X e rows ∙ ap (λ (es : List Arc). keep (not_of e) (darts es)) arcs₃

  kept : {d : Dart} → Memᴰ d (directed X) → Memᴰ d (directed m) × (d.edge ≢ e)
  kept = left_of_lem m X e X-darts

  -- the old row
  row : (d : Dart) → Memᴰ d (directed X) → edge X d.edge ≡ edge m₃ d.edge
  row d k = less_edge m₃ X e rows d.edge (kept k).1

  X-next : (d : Dart) → Memᴰ d (directed X) → next X d ≡ rotation.unlink_edge same_dart rev (fwd e) (next m) d
  unfolding m₂ m₃
  X-next d k = next_row X d ∙ ap (next_in d.back) (row d k) ∙ sym (next_row m₃ d)
      ∙ redirect-next (bwd e) (next m₂ (fwd e)) m₂ d
      ((redirect_relinked (fwd e) (next m₁ (bwd e)) m₁).has d.edge ∙ here d (kept k).0)
      ∙ ap (λ (y : Dart). instead (bwd e) (next m₂ (fwd e)) y) (step d (here d (kept k).0))
      ∙ ap (λ (y : Dart). cond (same_dart (rotation.redirect same_dart (fwd e) (next m (bwd e)) (next m) d) (bwd e)) y
      (rotation.redirect same_dart (fwd e) (next m (bwd e)) (next m) d)) (step (fwd e) (has₁ e ∙ has))
    where
      here : (d : Dart) → Memᴰ d (directed m) → has_edge m₁ d.edge ≡ true
      here d k = has₁ d.edge ∙ dart_has m k

      step : (x : Dart) → has_edge m₁ x.edge ≡ true → next m₂ x
          ≡ rotation.redirect same_dart (fwd e) (next m (bwd e)) (next m) x
      step x h = redirect-next (fwd e) (next m₁ (bwd e)) m₁ x h
          ∙ ap (λ (g : Dart → Dart). rotation.redirect same_dart (fwd e) (g (bwd e)) g x) (λ i y. next₁ y i)

  taken : Taken m X e μ
  taken = record {
    from = (edge m₃ e).start;
    to = (edge m₃ e).end;
    nodes = N;
    perm = subst (λ (es : List Arc). Permᴰ es
        (record { num = e; from = (edge m₃ e).start; to = (edge m₃ e).end } ∷ arcs X)) arcs₃
        (subst (λ (n : ℕ). Permᴰ (arcs m₃)
        (record { num = n; from = (edge m₃ e).start; to = (edge m₃ e).end } ∷ arcs X)) (edge_there_lem m₃ e (has₃ e ∙ has)).1
        (less_perm m₃ X e rows (subst (λ (es : List Arc). Distinct (nums es)) (sym arcs₃) dis) (has₃ e ∙ has)));
    darts = X-darts;
    leaves = λ d k. leaves_row X d ∙ ap (tail_in d.back) (row d k) ∙ sym (leaves_row m₃ d) ∙ R.leaves d ∙ leaves₁ d;
    way = λ d k. way_row X d ∙ ap start_way (course_row X d ∙ ap (course_in d.back) (row d k) ∙ sym (course_row m₃ d))
        ∙ sym (way_row m₃ d) ∙ R.way d ∙ way₁ d;
    next = X-next;
    bears = λ d k. bears_row X d ∙ ap (face_in d.back) (row d k) ∙ sym (bears_row m₃ d) ∙ R.bears d
        ∙ bears₁ d (kept k).0;
  }

-- ---- an edge undrawn: nodes keep their numbers, faces stay

module _ (e g : ℕ) (m : Map) where
  undrawn_nodes : node_numbers (undrawn e g m) ≡ node_numbers m
  unfolding undrawn at_nodes unlink_edge redirect
  undrawn_nodes = numbers_kept (λ n. is_either (edge m e).start (edge m e).end n
      && same (edge_ends (unlink_edge e m) n.number) 0) (with_face (some g)) m.nodes (λ n. refl)

  undrawn_edges : (undrawn e g m).edges ≡ (unlink_edge e m).edges
  unfolding undrawn at_nodes
  undrawn_edges = refl

-- ---- the directed edges that are left, and the law

module _ {m X : Map} {e : ℕ} {μ : ℕ → ℕ} (t : Taken m X e μ) where
  pub left : {d : Dart} → Memᴰ d (directed X) → Memᴰ d (directed m) × (d.edge ≢ e)
  left = left_of_lem m X e t.darts

  pub stays : {d : Dart} → Memᴰ d (directed m) → d.edge ≢ e → Memᴰ d (directed X)
  stays {d} k ne = subst (λ (l : List Dart). Memᴰ d l) (sym t.darts)
      (keep_has (not_of e) (directed m) k (ap not (same_false d.edge e ne)))

-- the law is kept
taken_obeys : (m X : Map) (e : ℕ) (μ : ℕ → ℕ) → Apart (leaves m) (way m) (directed m) → Obeys m → has_edge m e ≡ true
    → Taken m X e μ → Obeys X
taken_obeys m X e μ apart law has t = law_agree (directed X) t.leaves t.way N (next X)
    (λ d k. t.next (rev d) (rev_in (arcs X) k))
    (law_order same_dart tells (leaves m) (way m) two (directed X) to fro (rotation.reverse_leads rev N)
    (λ n. differ_part (λ d k. let j = from_in (leaves m) two n k in
    from_has (leaves m) (directed m) n (inside j.0).0 j.1) (apart n))
    (unlink_edge_law same_dart rev (leaves m) (way m) tells rev-rev (directed m) (next m) (fwd e) law
    (has_dart m (fwd e) has) (has_dart m (bwd e) has) (λ p. fwd≢bwd (sym p)) apart))
  where
    N : Dart → Dart
    N = rotation.unlink_edge same_dart rev (fwd e) (next m)

    two : List Dart
    two = others same_dart (bwd e) (others same_dart (fwd e) (directed m))

    tells_no : (d c : Dart) → not (same_dart d c) ≡ true → d ≢ c
    tells_no d c h p = true≢false (sym h ∙ ap not (is_yes tells d c p))

    inside : {d : Dart} → Memᴰ d two → Memᴰ d (directed m) × ((d ≢ fwd e) × (d ≢ bwd e))
    inside {d} k =
        let i = keep_in (λ q. not (same_dart q (bwd e))) (others same_dart (fwd e) (directed m)) k in
        let j = keep_in (λ q. not (same_dart q (fwd e))) (directed m) i.0 in
        (j.0, (tells_no d (fwd e) j.1, tells_no d (bwd e) i.1))

    to : (d : Dart) → Memᴰ d two → Memᴰ d (directed X)
    to d k = stays t (inside k).0 (λ p. elim
        (ways d) [ inl q ↦ (inside k).1.0 (q ∙ ap fwd p) | inr q ↦ (inside k).1.1 (q ∙ ap bwd p) ])

    fro : (d : Dart) → Memᴰ d (directed X) → Memᴰ d two
    fro d k = keep_has (λ q. not (same_dart q (bwd e))) (others same_dart (fwd e) (directed m))
        (keep_has (λ q. not (same_dart q (fwd e))) (directed m) (left t k).0
        (ap not (is_no tells d (fwd e) (λ p. (left t k).1 (ap (λ (d : Dart). d.edge) p)))))
        (ap not (is_no tells d (bwd e) (λ p. (left t k).1 (ap (λ (d : Dart). d.edge) p))))

-- ---- the kinds

module _ (m : Map) (L : Lawful m) (e : ℕ) (has : has_edge m e ≡ true) where
  pub lone-taken : Taken m (remove_iso_edge e m) e (λ g. g)
  unfolding remove_iso_edge
  lone-taken = taken m m (remove_iso_edge e m) e (λ g. g) L.once has refl (λ x. refl) (λ d. refl) (λ d. refl)
      (λ d. refl) (λ d k. refl) (undrawn_edges e (edge m e).left m) (undrawn_nodes e (edge m e).left m)

  -- kind 5
  pub remove_lone_obeys : Obeys (remove_iso_edge e m)
  remove_lone_obeys = taken_obeys m (remove_iso_edge e m) e (λ g. g) L.apart L.law has lone-taken

  module _ (how : Variant) where
    -- the face that is left, and what others become
    abbrev g : ℕ
    g = face_left how e m

    abbrev μ : ℕ → ℕ
    μ = renamed (edge m e) (face_left how e m)

    abbrev m₁ : Map
    m₁ = renamed_faces (edge m e) (face_left how e m) m

    rows₁ : m₁.edges ≡ map (λ r. with_sides (μ r.left) (μ r.right) r) m.edges
    unfolding renamed_faces
    rows₁ = refl

    nodes : node_numbers m₁ ≡ node_numbers m
    unfolding renamed_faces
    nodes = map_twice node_number _ node_number m.nodes (λ n k. number n n.face)
      where
        number : (n : Node) (f : Option ℕ) → (renamed_node (edge m e) g n f).number ≡ n.number
        number n none = refl
        number n (some f) = refl

    pub edge-taken : Taken m (remove_edge how e m) e μ
    unfolding remove_edge
    edge-taken = taken m m₁ (remove_edge how e m) e μ L.once has (sides_arcs m m₁ l r rows₁)
        (sides_has m m₁ l r rows₁) (sides_leaves m m₁ l r rows₁) (sides_way m m₁ l r rows₁) (sides_next m m₁ l r rows₁)
        (sides_bears m m₁ l r rows₁ (λ d. μ (bears m d)) (λ q k. ap μ (sym (bears-left m L.once k)))
        (λ q k. ap μ (sym (bears_right m L.once k)))) (undrawn_edges e g m₁) (undrawn_nodes e g m₁ ∙ nodes)
      where
        l : Edge → ℕ
        l q = μ q.left

        r : Edge → ℕ
        r q = μ q.right

    -- kinds 13 and 14
    pub remove_edge_obeys : Obeys (remove_edge how e m)
    remove_edge_obeys = taken_obeys m (remove_edge how e m) e μ L.apart L.law has edge-taken
