-- An edge joins two pieces: the higher root leads to the lower, and the label of a piece is the lower of the two.
-- Assumes nothing.
use mathlib.Core.Path.{◌≡◌, refl, sym, ap, ap₂, subst, ◌∙◌}
use mathlib.Core.Logic.{inl, inr}
use mathlib.Core.Bool.{Bool, true, cond, ◌&&◌, ◌||◌}
use mathlib.Core.List.{List, [], ◌∷◌}
use Prim.Native.Nat.{ℕ, suc, ◌+◌, ◌*◌, ◌-◌, ◌≤◌, ◌<◌, min}
use native.Mathlib.Omega.{arith}
use borrow.Author.Tests.{ltb-true}
use lib.IntN.{ℤ, pos, nat_abs}
use lib.ListN.{length, get_or, set, drop, length-set, length-map, drop_of_length-le, get_or-map}
use lib.Seq.{drop-cons, get_or-set_same, get_or-set_other}
use lib.Signed.{lt_z, non_neg}
use Rattle.lists.specs.Tests.{same}
use Rattle.lists.specs.Scans.{all_of}
use Rattle.lists.proofs.Bools.{eq2, equal?, and-true}
use Rattle.planar_maps.specs.Map.{Arc}
use Rattle.planar_maps.specs.Pieces.{merge, label}
use Rattle.planar_maps.proofs.Chains.{merge_cases, merge_right}
use Rattle.tables.proofs.Order.{rise, lt_or_ge}
use Rattle.tables.proofs.Rows.{all_table}
use Rattle.map.specs.Limits.{node_width, max_nodes}
use Rattle.map.specs.Rows.{Edge, has_node}
use Rattle.map.specs.Darts.{arcs}
use Rattle.map.proofs.Linked.{arc_of}
use Rattle.map_rows.specs.Rows.{NodeRows, node_at, node_map, edge_at, edges_of, edge_map}
use Rattle.map_rows.proofs.Rows.{node_cells_lem, node-row_of, node_rows_rising, edges_length, edges_get_d, edges_table}
use Rattle.map_rows.proofs.Rows.{EdgeCells, edge_cells_lem, edge-row_of}
use Rattle.piece_labels.specs.Labels.{Ended, Leading, piece_at}
use Rattle.piece_labels.proofs.Roots.{Root}

-- ---- two labels made one, the lower first

merge_high : (s t : ℕ) → s ≤ t → merge s t t ≡ s
merge_high s t h = omega (arith, merge_right s t)

merge_else : (s t x : ℕ) → s ≤ t → (x ≡ t → x ≡ s) → merge s t x ≡ x
merge_else s t x h f = elim (merge_cases s t x) [
  | inl p ↦ elim p.1 [ inl e ↦ omega (arith, p.0) | inr e ↦ omega (arith, p.0, f e) ]
  | inr p ↦ p.0
]

merge_swap : (s t x : ℕ) → merge s t x ≡ merge t s x
merge_swap s t x = let e : min s t ≡ min t s = omega arith in
    ap₂ (λ (b : Bool) (m : ℕ). cond b m x) (eq2 (λ a b. a || b) (λ a b. b || a) tt (same x s) (same x t)) e

-- ---- numbers of nodes rise with their rows

abbrev number_at : List ℤ → ℕ → ℕ
number_at nodes i = (node_at nodes i).number

-- the labels of two rows become the lower of the two
abbrev merge_at : List ℤ → ℕ → ℕ → ℕ → ℕ
merge_at nodes i j x = merge (number_at nodes i) (number_at nodes j) x

module _ {nodes : List ℤ} {n : ℕ} (t : NodeRows nodes n) where
  number_rise : (i j : ℕ) → i < j → j < n → number_at nodes i < number_at nodes j
  number_rise i j h k =
      let cell : (i : ℕ) → i < n → pos (number_at nodes i) ≡ get_or nodes (i * node_width) (pos 0) =
      λ i h. sym (node_cells_lem nodes i (node-row_of t i h).ranges).number in
      ltb-true (number_at nodes i) (number_at nodes j)
      (ap₂ lt_z (cell i (omega arith)) (cell j k)
      ∙ rise (λ i. get_or nodes (i * node_width) (pos 0)) n (node_rows_rising t).rising i j h k)

  number-order : (i j : ℕ) → i ≤ j → j < n → number_at nodes i ≤ number_at nodes j
  number-order i j h k = elim (equal? i j) [
    | inl e ↦ let f = ap (number_at nodes) e in omega arith
    | inr e ↦ omega (arith, number_rise i j (omega arith) k)
  ]

  pub number_once : (i j : ℕ) → i < n → j < n → number_at nodes i ≡ number_at nodes j → i ≡ j
  number_once i j h k e = elim (equal? i j) [
    | inl f ↦ f
    | inr f ↦ elim (lt_or_ge i j) [
      | inl l ↦ absurd (omega (arith, number_rise i j l k))
      | inr l ↦ absurd (omega (arith, number_rise j i (omega arith) h))
    ]
  ]

  -- ---- the labels after the join of a root to a lower one

  module _ {es : List Arc} {labels : List ℕ} (g : Leading es nodes n labels) (lo hi : ℕ) (h : lo ≤ hi) (k : hi < n)
      (low : get_or labels lo 0 ≡ lo) (high : get_or labels hi 0 ≡ hi) (es' : List Arc) (is : (i : ℕ) → piece_at es' nodes i
      ≡ merge_at nodes lo hi (piece_at es nodes i)) where
    at_high : get_or (set labels hi lo) hi 0 ≡ lo
    at_high = get_or-set_same labels hi lo 0 (omega (arith, g.size))

    at_other : (i : ℕ) → ((i ≡ hi) → ⊥) → get_or (set labels hi lo) i 0 ≡ get_or labels i 0
    at_other i e = get_or-set_other labels hi i lo 0 e

    -- a lowest node stays the lowest, unless it is that of the higher root
    kept : (i : ℕ) → piece_at es nodes i ≡ number_at nodes i
        → (number_at nodes i ≡ number_at nodes hi → number_at nodes i ≡ number_at nodes lo)
        → piece_at es' nodes i ≡ number_at nodes i
    kept i e f = is i ∙ ap (merge_at nodes lo hi) e
        ∙ merge_else (number_at nodes lo) (number_at nodes hi) (number_at nodes i) (number-order lo hi h k) f

    lowered : piece_at es' nodes hi ≡ number_at nodes lo
    lowered = is hi ∙ ap (merge_at nodes lo hi) (g.ends hi k high)
        ∙ merge_high (number_at nodes lo) (number_at nodes hi) (number-order lo hi h k)

    joined : Leading es' nodes n (set labels hi lo)
    joined = record {
      size = length-set labels hi lo ∙ g.size;
      falls = λ i t. elim (equal? i hi) [
        | inl e ↦ subst (λ (i : ℕ). get_or (set labels hi lo) i 0 ≤ i) (sym e) (omega (arith, at_high))
        | inr e ↦ omega (arith, at_other i e, g.falls i t)
      ];
      within = λ i t. elim (equal? i hi) [
        | inl e ↦ subst (λ (i : ℕ). piece_at es' nodes (get_or (set labels hi lo) i 0) ≡ piece_at es' nodes i) (sym e)
            (ap (piece_at es' nodes) at_high ∙ kept lo (g.ends lo (omega arith) low) (λ f. refl) ∙ sym lowered)
        | inr e ↦ ap (piece_at es' nodes) (at_other i e) ∙ is (get_or labels i 0)
            ∙ ap (merge_at nodes lo hi) (g.within i t) ∙ sym (is i)
      ];
      ends = λ i t f. elim (equal? i hi) [
        | inl e ↦ subst (λ (i : ℕ). get_or (set labels hi lo) i 0 ≡ i → piece_at es' nodes i ≡ number_at nodes i) (sym e)
            (λ f. lowered ∙ ap (number_at nodes) (sym at_high ∙ f)) f
        | inr e ↦ kept i (g.ends i t (sym (at_other i e) ∙ f)) (λ m. absurd (e (number_once i hi t k m)))
      ];
    }

  module _ {es : List Arc} (a : Arc) {labels : List ℕ} (g : Leading es nodes n labels) (u v x y : ℕ) (hu : u < n)
      (hv : v < n) (from : a.from ≡ number_at nodes u) (to : a.to ≡ number_at nodes v)
      (p : Root es nodes labels u x) (q : Root es nodes labels v y) where
    pieces : (i : ℕ) → piece_at (a ∷ es) nodes i ≡ merge_at nodes x y (piece_at es nodes i)
    unfolding label
    pieces i = ap₂ (λ (s t : ℕ). merge s t (piece_at es nodes i)) (ap (label es) from ∙ p.lowest)
        (ap (label es) to ∙ q.lowest)

    -- the higher root leads to the lower
    pub join_roots : (x ≤ y → Leading (a ∷ es) nodes n (set labels y x))
        × (y ≤ x → Leading (a ∷ es) nodes n (set labels x y))
    join_roots = (
      λ h. joined g x y h (omega (arith, q.below)) p.self q.self (a ∷ es) pieces,
      λ h. joined g y x h (omega (arith, p.below)) q.self p.self (a ∷ es)
          (λ i. pieces i ∙ merge_swap (number_at nodes x) (number_at nodes y) (piece_at es nodes i)),
    )

-- ---- the edges, the last first

module _ (edges : List ℤ) (e : ℕ) where
  arcs-length : length (arcs (edge_map edges e)) ≡ e
  arcs-length = length-map (edges_of edges e) arc_of ∙ edges_length edges e

  -- none at first, all in the end
  pub no_edges : drop (e - 0) (arcs (edge_map edges e)) ≡ []
  no_edges = drop_of_length-le (arcs (edge_map edges e)) {i = e - 0} (omega (arith, arcs-length))

  pub all_edges : (k : ℕ) → e ≤ k → drop (e - k) (arcs (edge_map edges e)) ≡ arcs (edge_map edges e)
  all_edges k h = let z : e - k ≡ 0 = omega arith in ap (λ (i : ℕ). drop i (arcs (edge_map edges e))) z

  pub edge_and_rest : (k : ℕ) → k < e → drop (e - (k + 1)) (arcs (edge_map edges e))
      ≡ arc_of (edge_at edges (e - (k + 1))) ∷ drop (e - k) (arcs (edge_map edges e))
  edge_and_rest k h =
      let j = e - (k + 1) in
      let r = edge_at edges j in
      let here : j < e = omega arith in
      let next : suc j ≡ e - k = omega arith in
      drop-cons (arcs (edge_map edges e)) j (arc_of r) (omega (arith, arcs-length))
      ∙ ap₂ ◌∷◌ (get_or-map arc_of (edges_of edges e) j r ∙ ap arc_of (edges_get_d edges e j r here))
      (ap (λ (i : ℕ). drop i (arcs (edge_map edges e))) next)

-- ---- the nodes of an edge

module _ {nodes edges : List ℤ} {n e : ℕ} (t : Ended nodes n edges e) (j : ℕ) (h : j < e) where
  pub ends_there : (has_node (node_map nodes n) (edge_at edges j).start ≡ true)
      × (has_node (node_map nodes n) (edge_at edges j).end ≡ true)
  ends_there =
      let there = has_node (node_map nodes n) in
      let test : Edge → Bool = λ r. there r.start && there r.end in
      and-true (there (edge_at edges j).start) (there (edge_at edges j).end)
      (all_table test (edge_at edges) e (ap (all_of test) (sym (edges_table edges e)) ∙ t.ends) j h)

  pub cells : EdgeCells edges j
  cells = edge_cells_lem edges j (edge-row_of t.edges j h).ranges

-- what the search for such a node requires
pub asked : {nodes edges : List ℤ} {n e i : ℕ} → Ended nodes n edges e → i ≡ 4096 → {z : ℤ} {x : ℕ} → z ≡ pos x
    → has_node (node_map nodes n) x ≡ true
    → NodeRows nodes n × (n ≤ max_nodes) × (non_neg z ≡ true) × (has_node (node_map nodes n) (nat_abs z) ≡ true)
    × (i ≡ 4096)
asked {nodes} {edges} {n} t i e k =
    (t.nodes, t.few_nodes, ap non_neg e, ap (λ (y : ℤ). has_node (node_map nodes n) (nat_abs y)) e ∙ k, i)
