-- `edit_heal::heal_at_rows` meets its contract: turned down by the first reason, or healed. Assumes nothing.
use mathlib.Core.Path.{◌≡◌, sym, ap, ◌∙◌, subst}
use Prim.Native.Nat.{ℕ, ◌/◌}
use native.Mathlib.Omega.{arith}
use lib.IntN.{ℤ, pos, nat_abs}
use lib.ListN.{length}
use Rattle.curves.specs.Curves.{points}
use Rattle.curve_edits.specs.declared.Line.{Line}
use Rattle.map.specs.Rows.{Map}
use Rattle.map.specs.Edits.{healed_curve}
use Rattle.map.specs.Reasons.{first_reason}
use Rattle.map_rows.specs.Rows.{edge_at, edge_map, EdgeRows}
use Rattle.map_rows.proofs.Rows.{edge-row_of}
use Rattle.reason_departures.specs.Turning.{joint_reasons}
use Rattle.outcomes.proofs.Formed.{node_rows_lem, edge_rows_lem, counted, edited-carried}
use Rattle.outcomes.proofs.Results.{number_some, edited-handed}
use Rattle.outcomes.specs.declared.Carried.{Carried}
use Rattle.outcomes.specs.Outcomes.{done_of}
use Rattle.map.specs.Refusals.{number}
use Rattle.map.specs.declared.Head.{Head}
use Rattle.map.specs.declared.Variant.{Variant}
use Rattle.edit_heal.specs.declared.Parts.{Parts}
use Rattle.std.specs.Prelude.{Ok}
use mathlib.Core.List.{List}
use Rattle.head.proofs.Words.{edges_natural, edges_read}
use Rattle.outcomes.specs.Variants.{own_or_next}
use Rattle.edit_heal.specs.Heals.{PartsOf, late_reasons, healed_value, healed_rows, joined_line}
use Rattle.edit_heal.proofs.Told.{late_few, joint_some, edges_differ, early_reason, late_reason}
use Rattle.edit_heal.proofs.Healed.{line_counted, heal-carried, joint_row, some_node, value-carried}
use Rattle.edit_heal.proofs.heal_at_rows.Goals as goal

-- the edges, and the numbers of the two
module _ (edges : List ℤ) (h : Head) (i j : ℕ) where
  abbrev m : Map
  m = edge_map edges (nat_abs h.edges)

  abbrev first : ℕ
  first = (edge_at edges i).number

  abbrev second : ℕ
  second = (edge_at edges j).number

  abbrev joint : ℕ
  joint = first_reason (joint_reasons m first second)

-- 16 and 17, where so many edges were read
early : (edges : List ℤ) (h : Head) (i j : ℕ) {n r : ℕ} → n ≡ nat_abs h.edges
    → r ≡ first_reason (joint_reasons (edge_map edges n) (first edges h i j) (second edges h i j)) → joint edges h i j ≡ r
early edges h i j e k = sym (k ∙ ap (λ (x : ℕ). first_reason (joint_reasons (edge_map edges x) (first edges h i j)
    (second edges h i j))) e)

-- 18 and 21
late : {edges : List ℤ} (h : Head) (t : EdgeRows edges (nat_abs h.edges)) (how : Variant) (i j : ℕ) {s : Parts} {l : Line}
    {r : ℕ} (ps : PartsOf edges (nat_abs h.edges) i j s) → l ≡ joined_line edges s.first s.second
    → r ≡ first_reason (late_reasons l.count h how)
    → first_reason (late_reasons (length (points (healed_curve (m edges h i j) (first edges h i j) (second edges h i j)))) h how)
    ≡ r
late h t how i j ps e k = sym (k ∙ ap (λ (x : ℕ). first_reason (late_reasons x h how))
    (ap (λ (u : Line). u.count) e ∙ line_counted t ps))

pub to_usize-e-requires : goal.to_usize-e-requires
to_usize-e-requires c = edges_natural (counted c.requires.0)

-- the edges in use
pub invariant_of-drawn : goal.invariant_of-drawn
invariant_of-drawn c = let f = c.requires.0 in
    record { ranged = rw (edges_read (counted f) c.to_usize-e.ensures) (edge_rows_lem f) }

pub check_joint-requires : goal.check_joint-requires
check_joint-requires c = let p = c.requires in
    rw (edges_read (counted p.0) c.to_usize-e.ensures) (p.1, p.2)

pub returns-in_err-check_joint : goal.returns-in_err-check_joint
returns-in_err-check_joint c =
    let a = c.args in
    let p = c.requires in
    let n = edges_read (counted p.0) c.to_usize-e.ensures in
    let r = c.in_err-check_joint.field-0.0 in
    edited-handed _ _ _ _ _ _ c.from_residual.ensures.1 _
    (early_reason p.0 a.how a.i a.j p.1 p.2 (number r) (number_some r)
    (sym (early a.edges.now a.h a.i a.j n c.in_err-check_joint.ensures)))

pub parts_of-s-requires : goal.parts_of-s-requires
parts_of-s-requires c =
    let a = c.args in
    let p = c.requires in
    let n = edges_read (counted p.0) c.to_usize-e.ensures in
    record {
      few = rw n (counted p.0).edges.most;
      first_row = rw n p.1;
      second_row = rw n p.2;
      joint = joint_some _ _ _ (sym c.in_ok-check_joint.ensures);
    }

pub joined_line-l-requires : goal.joined_line-l-requires
joined_line-l-requires c =
    let p = c.requires in
    let n = edges_read (counted p.0) c.to_usize-e.ensures in
    let s = c.parts_of-s.ensures in (
      edge-row_of (edge_rows_lem p.0) (c.parts_of-s.result.first / 2) (omega (arith, s.first_below, n)),
      edge-row_of (edge_rows_lem p.0) (c.parts_of-s.result.second / 2) (omega (arith, s.second_below, n)),
    )

pub check_late-requires : goal.check_late-requires
check_late-requires c = counted c.requires.0

pub returns-in_err-check_late : goal.returns-in_err-check_late
returns-in_err-check_late c =
    let a = c.args in
    let p = c.requires in
    let n = edges_read (counted p.0) c.to_usize-e.ensures in
    let r = c.in_err-check_late.field-0.0 in
    let parts = subst (λ (k : ℕ). PartsOf a.edges.now k a.i a.j c.parts_of-s.result) n c.parts_of-s.ensures in
    edited-handed _ _ _ _ _ _ c.from_residual-in_err-check_late.ensures.1 _
    (late_reason p.0 a.how a.i a.j p.1 p.2 (early a.edges.now a.h a.i a.j n c.in_ok-check_joint.ensures)
    ∙ late a.h (edge_rows_lem p.0) a.how a.i a.j parts c.joined_line-l.ensures c.in_err-check_late.ensures)

pub carry_out-requires : goal.carry_out-requires
carry_out-requires c =
    let a = c.args in
    let p = c.requires in
    let f = p.0 in
    let n = edges_read (counted f) c.to_usize-e.ensures in
    let passed = early a.edges.now a.h a.i a.j n c.in_ok-check_joint.ensures in
    let parts = subst (λ (k : ℕ). PartsOf a.edges.now k a.i a.j c.parts_of-s.result) n c.parts_of-s.ensures in
    record {
      counted = counted f;
      node_rows_lem = node_rows_lem f;
      edge_rows_lem = edge_rows_lem f;
      some_node = some_node f a.i a.j p.1 p.2 a.how c.parts_of-s.result parts
          (joint_some (m a.edges.now a.h a.i a.j) _ _ passed);
      first_row = p.1;
      second_row = p.2;
      apart = λ t. edges_differ (m a.edges.now a.h a.i a.j) _ _ passed (ap (λ (i : ℕ). (edge_at a.edges.now i).number) t);
      first = parts.first_below;
      second = parts.second_below;
      few_points = late_few c.joined_line-l.result.count a.h a.how (sym c.in_ok-check_late.ensures);
    }

pub returns : goal.returns
returns c =
    let u = c.carry_out.ensures in
    let a = c.args in
    let p = c.requires in
    let f = p.0 in
    let s = c.parts_of-s.result in
    let n = edges_read (counted f) c.to_usize-e.ensures in
    let passed = early a.edges.now a.h a.i a.j n c.in_ok-check_joint.ensures in
    let parts = subst (λ (k : ℕ). PartsOf a.edges.now k a.i a.j s) n c.parts_of-s.ensures in
    let none = late a.h (edge_rows_lem f) a.how a.i a.j parts c.joined_line-l.ensures c.in_ok-check_late.ensures in
    let row = joint_row f a.i a.j p.1 p.2 a.how s parts (joint_some (m a.edges.now a.h a.i a.j) _ _ passed) in
    let rows = u.edges_after ∙ ap (healed_rows a.edges.now (nat_abs a.h.edges) a.i a.j s.first
    s.second a.how (pos (own_or_next a.h a.how (first a.edges.now a.h a.i a.j)))) c.joined_line-l.ensures in
    edited-carried _ _ _ _ _ _ _ _ _ (healed_value a.h a.how) (ap (λ (d : Carried). done_of a.h (Ok d)) u.answered)
    (late_reason f a.how a.i a.j p.1 p.2 passed ∙ none)
    (heal-carried f a.i a.j p.1 p.2 a.how s parts (late_few _ a.h a.how none)
    (λ t. edges_differ (m a.edges.now a.h a.i a.j) _ _ passed (ap (λ (i : ℕ). (edge_at a.edges.now i).number) t))
    row.0 row.1 (u.nodes_after row.0 row.1) rows)
    (value-carried f a.how (pos (first a.edges.now a.h a.i a.j)) (pos (second a.edges.now a.h a.i a.j)))
