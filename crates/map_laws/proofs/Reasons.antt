-- What holds of a ticket that nothing turns down: for each kind the facts, from `first_reason .. ≡ 0`. Assumes nothing.
use mathlib.Core.Path.{◌≡◌}
use mathlib.Core.Bool.{Bool, true, false, cond, not, ◌&&◌, ◌||◌}
use mathlib.Core.List.{List, [], ◌∷◌, ◌++◌, Memᴰ}
use mathlib.Core.Logic.{◌≢◌}
use mathlib.Core.Option.{get_or}
use Prim.Native.Nat.{ℕ, suc, ◌+◌, ◌≤◌}
use native.Mathlib.Nat.{le_trans}
use borrow.Author.Tests.{ltb-false, not-true, not-false}
use lib.Dec.{ltb, lit<}
use lib.IntN.{ℤ, nat_abs}
use lib.ListN.{length}
use lib.Signed.{non_neg}
use Rattle.lists.specs.Tests.{same, bit}
use Rattle.lists.specs.Scans.{is_some}
use Rattle.lists.proofs.Bools.{same_true, differ, and-true, or-false}
use Rattle.plane.specs.declared.Point.{Point}
use Rattle.plane.specs.declared.Contact.TheVariants.{None}
use Rattle.plane.specs.Points.{InRange, same_point}
use Rattle.plane.proofs.Laws.{same_point-true}
use Rattle.curves.specs.Curves.{Curve, points, last_point, start_way, end_way, point, max_points}
use Rattle.curves.specs.Tests.{neighbours_differ, straight_inside, on_curve, is_simple}
use Rattle.map.specs.declared.Variant.{Variant}
use Rattle.map.specs.declared.Variant.TheVariants.{New, Mod}
use Rattle.map.specs.Limits.{last_number, most_points}
use Rattle.map.specs.Rows.{Map, Sizes, node, edge, has_node, has_edge, without_node, without_edge, counts}
use Rattle.map.specs.Darts.{edge_ends}
use Rattle.map.specs.Links.{corner_face}
use Rattle.map.specs.Tickets.{AddIsoNode, MoveIsoNode, RemoveIsoNode, AddIsoEdge, RemoveIsoEdge, ChangeEdgeGeom}
use Rattle.map.specs.Tickets.{NewEdgesSplit, ModEdgeSplit, NewEdgeHeal, ModEdgeHeal, AddEdgeNewFaces, AddEdgeModFace}
use Rattle.map.specs.Tickets.{RemEdgeNewFace, RemEdgeModFace}
use Rattle.map.specs.Edits.{is_new, is_mod, shared_nodes, joint, healed_curve, splits_face, makes_face}
use Rattle.map.specs.Reasons.{Reasons, first_reason, reasons, no_node, no_edge, outside, ends_differ, isolated}
use Rattle.map.specs.Reasons.{edge_isolated, any_node_at, edge_through, direction_taken, containing_differ, corners_differ}
use Rattle.map.specs.Reasons.{node_inside, edge_meeting, order_changes, sides_change, full, spent, split_reasons}
use Rattle.map.specs.Reasons.{heal_reasons, sent_reasons, curve_in, curve_reasons, curve_ticket_reasons, add_edge_reasons}
use Rattle.map.proofs.PointLimits.{most-fits}
use Rattle.map.proofs.Reasons.{first_zero, zero-contact, point-in_range}
use Rattle.map.proofs.RoundTrip.{stored_wider}
use Rattle.map.proofs.Surplus.{Left, sent_left}

-- ---- the facts

-- the rows after the edit fit the tables
pub record Room (s : Sizes) (m : Map) (a b c : ℕ) : Type 0 where
  pub nodes : length m.nodes + a ≤ s.nodes
  pub edges : length m.edges + b ≤ s.edges
  pub faces : length m.faces + c ≤ s.faces

-- there are numbers left for the new rows
pub record Supply (m : Map) (a b c : ℕ) : Type 0 where
  pub nodes : m.next.nodes + a ≤ suc last_number
  pub edges : m.next.edges + b ≤ suc last_number
  pub faces : m.next.faces + c ≤ suc last_number

-- a curve from the node u to the node v
pub record Sent (m : Map) (c : Curve) (u v : ℕ) : Type 0 where
  pub least : 2 ≤ length (points c)
  pub most : length (points c) ≤ max_points
  pub in_range : (p : Point) → Memᴰ p (points c) → InRange p
  pub differ : neighbours_differ c ≡ true
  pub bent : straight_inside c ≡ false
  pub simple : is_simple c ≡ true
  pub start : c.first ≡ (node m u).at
  pub end : last_point c ≡ (node m v).at

-- kind 1
pub record AddNode (s : Sizes) (m : Map) (p : Point) : Type 0 where
  pub in_range : InRange p
  pub free : any_node_at m.nodes p ≡ false
  pub off : edge_through m p ≡ false
  pub room : Room s m 1 0 0
  pub supply : Supply m 1 0 0

-- kind 2
pub record MoveNode (m : Map) (n : ℕ) (p : Point) : Type 0 where
  pub has : has_node m n ≡ true
  pub in_range : InRange p
  pub isolated : isolated m n ≡ true
  pub free : any_node_at (without_node n m.nodes) p ≡ false
  pub off : edge_through m p ≡ false

-- kind 3
pub record RemoveNode (m : Map) (n : ℕ) : Type 0 where
  pub has : has_node m n ≡ true
  pub isolated : isolated m n ≡ true

-- kind 4
pub record AddLone (s : Sizes) (m : Map) (u v : ℕ) (c : Curve) : Type 0 where
  pub has_start : has_node m u ≡ true
  pub has_end : has_node m v ≡ true
  pub sent : Sent m c u v
  pub differ : u ≢ v
  pub isolated_start : isolated m u ≡ true
  pub isolated-end : isolated m v ≡ true
  pub one_face : get_or (node m u).face 0 ≡ get_or (node m v).face 0
  pub nodes_off : node_inside m c ≡ false
  pub clear : edge_meeting m.edges c ≡ None
  pub room : Room s m 0 1 0
  pub supply : Supply m 0 1 0

-- kind 5
pub record RemoveLone (m : Map) (e : ℕ) : Type 0 where
  pub has : has_edge m e ≡ true
  pub differ : (edge m e).start ≢ (edge m e).end
  pub start_alone : edge_ends m (edge m e).start ≡ 1
  pub end_alone : edge_ends m (edge m e).end ≡ 1

-- kind 6
pub record Change (m : Map) (e : ℕ) (c : Curve) : Type 0 where
  pub has : has_edge m e ≡ true
  pub sent : Sent m c (edge m e).start (edge m e).end
  pub ways_free : direction_taken m e (edge m e).start (edge m e).end c ≡ false
  pub nodes_off : node_inside m c ≡ false
  pub clear : edge_meeting (without_edge e m.edges) c ≡ None
  pub order : order_changes m e c ≡ false
  pub sides : sides_change m e c ≡ false

-- kinds 7 (New) and 8 (Mod)
pub record Split (how : Variant) (s : Sizes) (m : Map) (e : ℕ) (p : Point) : Type 0 where
  pub has : has_edge m e ≡ true
  pub in_range : InRange p
  pub free : any_node_at m.nodes p ≡ false
  pub on : on_curve (edge m e).curve p ≡ true
  pub room : Room s m 1 1 0
  pub supply : Supply m 1 (cond (is_mod how) 1 2) 0

-- kinds 9 and 10
pub record Heal (m : Map) (e f : ℕ) : Type 0 where
  pub has : has_edge m e ≡ true
  pub has_other : has_edge m f ≡ true
  pub differ : e ≢ f
  pub joint : is_some (joint m e f) ≡ true
  pub most : length (points (healed_curve m e f)) ≤ max_points

-- how many new faces an edge that splits one takes: 11 takes two, unless it is face 0
abbrev pub new_faces : Variant → Map → ℕ → ℕ → Curve → ℕ
new_faces how m u v c = bit (splits_face u v c m)
    + bit (splits_face u v c m && is_new how && not (same (corner_face m u (start_way c)) 0))

-- kinds 11 (New) and 12 (Mod)
pub record AddEdge (how : Variant) (s : Sizes) (m : Map) (u v : ℕ) (c : Curve) : Type 0 where
  pub has_start : has_node m u ≡ true
  pub has_end : has_node m v ≡ true
  pub sent : Sent m c u v
  pub ways_free : direction_taken m m.next.edges u v c ≡ false
  pub one_face : corner_face m u (start_way c) ≡ corner_face m v (end_way c)
  pub nodes_off : node_inside m c ≡ false
  pub clear : edge_meeting m.edges c ≡ None
  pub room : Room s m 0 1 (bit (splits_face u v c m))
  pub supply : Supply m 0 1 (new_faces how m u v c)

-- kind 13
pub record RemoveEdge (m : Map) (e : ℕ) : Type 0 where
  pub has : has_edge m e ≡ true
  pub supply : Supply m 0 0 (bit (makes_face New e m))

-- ---- what the conditions say

has_node_lem : (m : Map) (z : ℤ) → no_node m z ≡ false → has_node m (nat_abs z) ≡ true
has_node_lem m z h = (and-true (non_neg z) (has_node m (nat_abs z)) (not-false (non_neg z && has_node m (nat_abs z)) h)).1

has_edge_lem : (m : Map) (z : ℤ) → no_edge m z ≡ false → has_edge m (nat_abs z) ≡ true
has_edge_lem m z h = (and-true (non_neg z) (has_edge m (nat_abs z)) (not-false (non_neg z && has_edge m (nat_abs z)) h)).1

-- 7 and 8, and what follows them
ends : (m : Map) (c : Curve) (u v : ℕ) (rest : Reasons) → Left max_points c
    → first_reason (curve_reasons m c u v ++ rest) ≡ 0 → Sent m c u v × (first_reason rest ≡ 0)
ends m c u v rest l h =
    let h₇ = first_zero 7 (not (is_simple c)) _ (lit< tt) h in
    let h₈ = first_zero 8 (ends_differ m c u v) rest (lit< tt) h₇.1 in
    let both = and-true (same_point c.first (node m u).at) (same_point (last_point c) (node m v).at)
    (not-false (same_point c.first (node m u).at && same_point (last_point c) (node m v).at) h₈.0) in (
      record {
        least = l.stored.least;
        most = l.stored.most;
        in_range = l.stored.in_range;
        differ = l.differ;
        bent = l.bent;
        simple = not-false (is_simple c) h₇.0;
        start = same_point-true c.first (node m u).at both.0;
        end = same_point-true (last_point c) (node m v).at both.1;
      },
      h₈.1,
    )

room : (s : Sizes) (m : Map) (a b c : ℕ) → full s m (counts a b c) ≡ false → Room s m a b c
room s m a b c h =
    let h₁ = or-false (ltb s.nodes (length m.nodes + a) || ltb s.edges (length m.edges + b))
    (ltb s.faces (length m.faces + c)) h in
    let h₂ = or-false (ltb s.nodes (length m.nodes + a)) (ltb s.edges (length m.edges + b)) h₁.0 in
    record {
      nodes = ltb-false s.nodes (length m.nodes + a) h₂.0;
      edges = ltb-false s.edges (length m.edges + b) h₂.1;
      faces = ltb-false s.faces (length m.faces + c) h₁.1;
    }

supply : (m : Map) (a b c : ℕ) → spent m (counts a b c) ≡ false → Supply m a b c
supply m a b c h =
    let h₁ = or-false (ltb (suc last_number) (m.next.nodes + a) || ltb (suc last_number) (m.next.edges + b))
    (ltb (suc last_number) (m.next.faces + c)) h in
    let h₂ = or-false (ltb (suc last_number) (m.next.nodes + a)) (ltb (suc last_number) (m.next.edges + b)) h₁.0 in
    record {
      nodes = ltb-false (suc last_number) (m.next.nodes + a) h₂.0;
      edges = ltb-false (suc last_number) (m.next.edges + b) h₂.1;
      faces = ltb-false (suc last_number) (m.next.faces + c) h₁.1;
    }

-- ---- the kinds

module _ (s : Sizes) (m : Map) where
  -- no more points than the map was created for
  abbrev pub Few : Curve → Type 0
  Few c = length (points c) ≤ most_points s.limit

  -- 5 and 6, and what follows them; a row can hold what is left
  left : (l : List ℤ) (rest : Reasons) → first_reason (sent_reasons (most_points s.limit) l ++ rest) ≡ 0
      → Left max_points (curve_in l) × (first_reason rest ≡ 0)
  left l rest h =
      let k = sent_left (most_points s.limit) l rest h in
      let stored = stored_wider (most-fits s.limit) k.0.stored in
      (record { stored = stored; differ = k.0.differ; bent = k.0.bent }, k.1)

  pub add_node_lem : (f x y : ℤ) → first_reason (reasons s m (AddIsoNode f x y)) ≡ 0 → AddNode s m (point x y)
  unfolding reasons
  add_node_lem f x y h =
      let h₄ = first_zero 4 _ _ (lit< tt) h in
      let h₅ = first_zero 5 (outside x y) _ (lit< tt) h₄.1 in
      let h₁₀ = first_zero 10 (any_node_at m.nodes (point x y) || edge_through m (point x y)) _ (lit< tt) h₅.1 in
      let h₁₂ = first_zero 12 _ _ (lit< tt) h₁₀.1 in
      let h₂₀ = first_zero 20 (full s m (counts 1 0 0)) _ (lit< tt) h₁₂.1 in
      let h₂₁ = first_zero 21 (spent m (counts 1 0 0)) _ (lit< tt) h₂₀.1 in
      let apart = or-false (any_node_at m.nodes (point x y)) (edge_through m (point x y)) h₁₀.0 in
      record {
        in_range = point-in_range x y h₅.0;
        free = apart.0;
        off = apart.1;
        room = room s m 1 0 0 h₂₀.0;
        supply = supply m 1 0 0 h₂₁.0;
      }

  pub move_node_lem : (n x y : ℤ) → first_reason (reasons s m (MoveIsoNode n x y)) ≡ 0 → MoveNode m (nat_abs n) (point x y)
  unfolding reasons
  move_node_lem n x y h =
      let h₄ = first_zero 4 (no_node m n) _ (lit< tt) h in
      let h₅ = first_zero 5 (outside x y) _ (lit< tt) h₄.1 in
      let h₉ = first_zero 9 (not (isolated m (nat_abs n))) _ (lit< tt) h₅.1 in
      let h₁₀ = first_zero 10 (any_node_at (without_node (nat_abs n) m.nodes) (point x y) || edge_through m (point x y)) _
      (lit< tt) h₉.1 in
      let apart = or-false (any_node_at (without_node (nat_abs n) m.nodes) (point x y)) (edge_through m (point x y))
      h₁₀.0 in
      record {
        has = has_node_lem m n h₄.0;
        in_range = point-in_range x y h₅.0;
        isolated = not-false (isolated m (nat_abs n)) h₉.0;
        free = apart.0;
        off = apart.1;
      }

  pub remove_node_lem : (n : ℤ) → first_reason (reasons s m (RemoveIsoNode n)) ≡ 0 → RemoveNode m (nat_abs n)
  unfolding reasons
  remove_node_lem n h =
      let h₄ = first_zero 4 (no_node m n) _ (lit< tt) h in
      let h₉ = first_zero 9 (not (isolated m (nat_abs n))) _ (lit< tt) h₄.1 in
      record { has = has_node_lem m n h₄.0; isolated = not-false (isolated m (nat_abs n)) h₉.0 }

  pub add-lone : (u v : ℤ) (l : List ℤ) → first_reason (reasons s m (AddIsoEdge u v l)) ≡ 0
      → AddLone s m (nat_abs u) (nat_abs v) (curve_in l)
  unfolding reasons
  add-lone u v l h =
      let a = nat_abs u in
      let b = nat_abs v in
      let h₄ = first_zero 4 (no_node m u || no_node m v) _ (lit< tt) h in
      let h₅ = left l _ h₄.1 in
      let h₇ = ends m (curve_in l) a b _ h₅.0 h₅.1 in
      let h₉ = first_zero 9 (same a b || not (isolated m a && isolated m b)) _ (lit< tt) h₇.1 in
      let h₁₂ = first_zero 12 (containing_differ m a b) _ (lit< tt) h₉.1 in
      let h₁₄ = first_zero 14 (node_inside m (curve_in l)) _ (lit< tt) h₁₂.1 in
      let h₁₅ = zero-contact (edge_meeting m.edges (curve_in l)) _ h₁₄.1 in
      let h₂₀ = first_zero 20 (full s m (counts 0 1 0)) _ (lit< tt) h₁₅.1 in
      let h₂₁ = first_zero 21 (spent m (counts 0 1 0)) _ (lit< tt) h₂₀.1 in
      let rows = or-false (no_node m u) (no_node m v) h₄.0 in
      let alone = or-false (same a b) (not (isolated m a && isolated m b)) h₉.0 in
      let both = and-true (isolated m a) (isolated m b) (not-false (isolated m a && isolated m b) alone.1) in
      record {
        has_start = has_node_lem m u rows.0;
        has_end = has_node_lem m v rows.1;
        sent = h₇.0;
        differ = differ a b alone.0;
        isolated_start = both.0;
        isolated-end = both.1;
        one_face =
            same_true _ _ (not-false (same (get_or (node m a).face 0) (get_or (node m b).face 0)) h₁₂.0);
        nodes_off = h₁₄.0;
        clear = h₁₅.0;
        room = room s m 0 1 0 h₂₀.0;
        supply = supply m 0 1 0 h₂₁.0;
      }

  pub remove_lone : (e : ℤ) → first_reason (reasons s m (RemoveIsoEdge e)) ≡ 0 → RemoveLone m (nat_abs e)
  unfolding reasons edge_isolated
  remove_lone e h =
      let r = edge m (nat_abs e) in
      let h₄ = first_zero 4 (no_edge m e) _ (lit< tt) h in
      let h₉ = first_zero 9 (not (edge_isolated m (nat_abs e))) _ (lit< tt) h₄.1 in
      let k₁ = and-true (not (same r.start r.end) && same (edge_ends m r.start) 1)
      (same (edge_ends m r.end) 1) (not-false (edge_isolated m (nat_abs e)) h₉.0) in
      let k₂ = and-true (not (same r.start r.end)) (same (edge_ends m r.start) 1) k₁.0 in
      record {
        has = has_edge_lem m e h₄.0;
        differ = differ r.start r.end (not-true (same r.start r.end) k₂.0);
        start_alone = same_true (edge_ends m r.start) 1 k₂.1;
        end_alone = same_true (edge_ends m r.end) 1 k₁.1;
      }

  pub change : (e : ℤ) (l : List ℤ) → first_reason (reasons s m (ChangeEdgeGeom e l)) ≡ 0
      → Change m (nat_abs e) (curve_in l)
  unfolding reasons
  change e l h =
      let a = (edge m (nat_abs e)).start in
      let b = (edge m (nat_abs e)).end in
      let h₄ = first_zero 4 (no_edge m e) _ (lit< tt) h in
      let h₅ = left l _ h₄.1 in
      let h₇ = ends m (curve_in l) a b _ h₅.0 h₅.1 in
      let h₁₁ = first_zero 11 (direction_taken m (nat_abs e) a b (curve_in l)) _ (lit< tt) h₇.1 in
      let h₁₄ = first_zero 14 (node_inside m (curve_in l)) _ (lit< tt) h₁₁.1 in
      let h₁₅ = zero-contact (edge_meeting (without_edge (nat_abs e) m.edges) (curve_in l)) _ h₁₄.1 in
      let h₁₉ = first_zero 19 (order_changes m (nat_abs e) (curve_in l)) _ (lit< tt) h₁₅.1 in
      let h₂₂ = first_zero 22 (sides_change m (nat_abs e) (curve_in l)) _ (lit< tt) h₁₉.1 in
      record {
        has = has_edge_lem m e h₄.0;
        sent = h₇.0;
        ways_free = h₁₁.0;
        nodes_off = h₁₄.0;
        clear = h₁₅.0;
        order = h₁₉.0;
        sides = h₂₂.0;
      }

  split : (how : Variant) (e x y : ℤ) → first_reason (split_reasons how s m e x y) ≡ 0
      → Split how s m (nat_abs e) (point x y)
  split how e x y h =
      let h₄ = first_zero 4 (no_edge m e) _ (lit< tt) h in
      let h₅ = first_zero 5 (outside x y) _ (lit< tt) h₄.1 in
      let h₁₀ = first_zero 10 (any_node_at m.nodes (point x y)) _ (lit< tt) h₅.1 in
      let h₁₃ = first_zero 13 (not (on_curve (edge m (nat_abs e)).curve (point x y))) _ (lit< tt) h₁₀.1 in
      let h₂₀ = first_zero 20 (full s m (counts 1 1 0)) _ (lit< tt) h₁₃.1 in
      let h₂₁ = first_zero 21 (spent m (counts 1 (cond (is_mod how) 1 2) 0)) _ (lit< tt) h₂₀.1 in
      record {
        has = has_edge_lem m e h₄.0;
        in_range = point-in_range x y h₅.0;
        free = h₁₀.0;
        on = not-false (on_curve (edge m (nat_abs e)).curve (point x y)) h₁₃.0;
        room = room s m 1 1 0 h₂₀.0;
        supply = supply m 1 (cond (is_mod how) 1 2) 0 h₂₁.0;
      }

  pub split_new : (e x y : ℤ) → first_reason (reasons s m (NewEdgesSplit e x y)) ≡ 0
      → Split New s m (nat_abs e) (point x y)
  unfolding reasons
  split_new e x y h = split New e x y h

  pub split-mod : (e x y : ℤ) → first_reason (reasons s m (ModEdgeSplit e x y)) ≡ 0
      → Split Mod s m (nat_abs e) (point x y)
  unfolding reasons
  split-mod e x y h = split Mod e x y h

  heals : (e f : ℤ) (rest : Reasons) → first_reason (heal_reasons s m e f ++ rest) ≡ 0
      → Heal m (nat_abs e) (nat_abs f) × (first_reason rest ≡ 0) × Few (healed_curve m (nat_abs e) (nat_abs f))
  heals e f rest h =
      let a = nat_abs e in
      let b = nat_abs f in
      let h₄ = first_zero 4 (no_edge m e || no_edge m f) _ (lit< tt) h in
      let h₁₆ = first_zero 16 (same a b || same (length (shared_nodes m a b)) 0) _ (lit< tt) h₄.1 in
      let h₁₇ = first_zero 17 (not (is_some (joint m a b))) _ (lit< tt) h₁₆.1 in
      let n = length (points (healed_curve m a b)) in
      let h₁₈ = first_zero 18 (ltb (most_points s.limit) n) rest (lit< tt) h₁₇.1 in
      let few = ltb-false (most_points s.limit) n h₁₈.0 in
      let rows = or-false (no_edge m e) (no_edge m f) h₄.0 in (
        record {
          has = has_edge_lem m e rows.0;
          has_other = has_edge_lem m f rows.1;
          differ = differ a b (or-false (same a b) (same (length (shared_nodes m a b)) 0) h₁₆.0).0;
          joint = not-false (is_some (joint m a b)) h₁₇.0;
          most = le_trans few (most-fits s.limit);
        },
        h₁₈.1,
        few,
      )

  pub heal_new : (e f : ℤ) → first_reason (reasons s m (NewEdgeHeal e f)) ≡ 0
      → Heal m (nat_abs e) (nat_abs f) × Supply m 0 1 0
  unfolding reasons
  heal_new e f h = let k = heals e f _ h in (
    k.0,
    supply m 0 1 0 (first_zero 21 (spent m (counts 0 1 0)) [] (lit< tt) k.1).0,
  )

  pub heal-mod : (e f : ℤ) → first_reason (reasons s m (ModEdgeHeal e f)) ≡ 0 → Heal m (nat_abs e) (nat_abs f)
  unfolding reasons
  heal-mod e f h = (heals e f [] h).0

  corners : (u v : ℕ) (c : Curve) → corners_differ m u v c ≡ false
      → corner_face m u (start_way c) ≡ corner_face m v (end_way c)
  unfolding corners_differ
  corners u v c h = same_true _ _ (not-false (same (corner_face m u (start_way c)) (corner_face m v (end_way c))) h)

  -- kinds 11 and 12 along a curve between nodes that are there
  pub add_along : (how : Variant) (a b : ℕ) (c : Curve) → has_node m a ≡ true → has_node m b ≡ true
      → Left max_points c → first_reason (add_edge_reasons how s m a b c) ≡ 0 → AddEdge how s m a b c
  add_along how a b c there there' l h =
      let h₇ = ends m c a b _ l h in
      let h₁₁ = first_zero 11 (direction_taken m m.next.edges a b c) _ (lit< tt) h₇.1 in
      let h₁₂ = first_zero 12 (corners_differ m a b c) _ (lit< tt) h₁₁.1 in
      let h₁₄ = first_zero 14 (node_inside m c) _ (lit< tt) h₁₂.1 in
      let h₁₅ = zero-contact (edge_meeting m.edges c) _ h₁₄.1 in
      let h₂₀ = first_zero 20 (full s m (counts 0 1 (bit (splits_face a b c m)))) _ (lit< tt) h₁₅.1 in
      let h₂₁ = first_zero 21 (spent m (counts 0 1 (new_faces how m a b c))) _ (lit< tt) h₂₀.1 in
      record {
        has_start = there;
        has_end = there';
        sent = h₇.0;
        ways_free = h₁₁.0;
        one_face = corners a b c h₁₂.0;
        nodes_off = h₁₄.0;
        clear = h₁₅.0;
        room = room s m 0 1 (bit (splits_face a b c m)) h₂₀.0;
        supply = supply m 0 1 (new_faces how m a b c) h₂₁.0;
      }

  add : (how : Variant) (u v : ℤ) (l : List ℤ)
      → first_reason (curve_ticket_reasons s (no_node m u || no_node m v) l (add_edge_reasons how s m (nat_abs u) (nat_abs v)))
      ≡ 0
      → AddEdge how s m (nat_abs u) (nat_abs v) (curve_in l)
  add how u v l h =
      let h₄ = first_zero 4 (no_node m u || no_node m v) _ (lit< tt) h in
      let h₅ = left l _ h₄.1 in
      let rows = or-false (no_node m u) (no_node m v) h₄.0 in
      add_along how (nat_abs u) (nat_abs v) (curve_in l) (has_node_lem m u rows.0) (has_node_lem m v rows.1) h₅.0 h₅.1

  pub add_new : (u v : ℤ) (l : List ℤ) → first_reason (reasons s m (AddEdgeNewFaces u v l)) ≡ 0
      → AddEdge New s m (nat_abs u) (nat_abs v) (curve_in l)
  unfolding reasons
  add_new u v l h = add New u v l h

  pub add-mod : (u v : ℤ) (l : List ℤ) → first_reason (reasons s m (AddEdgeModFace u v l)) ≡ 0
      → AddEdge Mod s m (nat_abs u) (nat_abs v) (curve_in l)
  unfolding reasons
  add-mod u v l h = add Mod u v l h

  -- the curve of a ticket that brings one
  few_sent : (missing : Bool) (l : List ℤ) (rest : Reasons)
      → first_reason ((4, missing) ∷ sent_reasons (most_points s.limit) l ++ rest) ≡ 0 → Few (curve_in l)
  few_sent missing l rest h =
      (sent_left (most_points s.limit) l rest (first_zero 4 missing _ (lit< tt) h).1).0.stored.most

  pub add_lone_few : (u v : ℤ) (l : List ℤ) → first_reason (reasons s m (AddIsoEdge u v l)) ≡ 0 → Few (curve_in l)
  unfolding reasons
  add_lone_few u v l h = few_sent _ l _ h

  pub change_few : (e : ℤ) (l : List ℤ) → first_reason (reasons s m (ChangeEdgeGeom e l)) ≡ 0 → Few (curve_in l)
  unfolding reasons
  change_few e l h = few_sent _ l _ h

  pub add_new_few : (u v : ℤ) (l : List ℤ) → first_reason (reasons s m (AddEdgeNewFaces u v l)) ≡ 0 → Few (curve_in l)
  unfolding reasons
  add_new_few u v l h = few_sent _ l _ h

  pub add_mod_few : (u v : ℤ) (l : List ℤ) → first_reason (reasons s m (AddEdgeModFace u v l)) ≡ 0 → Few (curve_in l)
  unfolding reasons
  add_mod_few u v l h = few_sent _ l _ h

  -- and the healed curve
  pub heal_new_few : (e f : ℤ) → first_reason (reasons s m (NewEdgeHeal e f)) ≡ 0
      → Few (healed_curve m (nat_abs e) (nat_abs f))
  unfolding reasons
  heal_new_few e f h = (heals e f _ h).2

  pub heal_mod_few : (e f : ℤ) → first_reason (reasons s m (ModEdgeHeal e f)) ≡ 0
      → Few (healed_curve m (nat_abs e) (nat_abs f))
  unfolding reasons
  heal_mod_few e f h = (heals e f [] h).2

  pub remove_new : (e : ℤ) → first_reason (reasons s m (RemEdgeNewFace e)) ≡ 0 → RemoveEdge m (nat_abs e)
  unfolding reasons
  remove_new e h =
      let h₄ = first_zero 4 (no_edge m e) _ (lit< tt) h in
      let h₂₁ = first_zero 21 (spent m (counts 0 0 (bit (makes_face New (nat_abs e) m)))) _ (lit< tt) h₄.1 in
      record { has = has_edge_lem m e h₄.0; supply = supply m 0 0 (bit (makes_face New (nat_abs e) m)) h₂₁.0 }

  pub remove_mod : (e : ℤ) → first_reason (reasons s m (RemEdgeModFace e)) ≡ 0 → has_edge m (nat_abs e) ≡ true
  unfolding reasons
  remove_mod e h = has_edge_lem m e (first_zero 4 (no_edge m e) _ (lit< tt) h).0
