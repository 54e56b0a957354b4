-- `reason_curves::edge_meeting` meets its contract: the graver of what was found and of what the curve does with the
-- other edges from row i on is the whole. Assumes nothing.
use mathlib.Core.Path.{◌≡◌, sym, ap, ap₂, ◌∙◌}
use mathlib.Core.Bool.{true, false, not}
use mathlib.Core.List.{List}
use Prim.Native.Nat.{ℕ, ◌+◌, ◌≤◌, ◌<◌}
use native.Mathlib.Nat.{sub-zero}
use native.Mathlib.Omega.{arith}
use lib.IntN.{ℤ}
use Rattle.lists.specs.Tests.{same}
use Rattle.lists.proofs.Bools.{same_eq, same_false}
use Rattle.lists.proofs.Scans.{table_step, table-end}
use Rattle.plane.specs.declared.Contact.{Contact}
use Rattle.curves.specs.Curves.{Curve, curve_of}
use Rattle.curves.specs.Tests.{graver, meeting}
use Rattle.curves.proofs.Meetings.{graver_none, graver_assoc}
use Rattle.map.specs.Reasons.{edge_meeting}
use Rattle.map_rows.specs.Rows.{edge_at}
use Rattle.map_rows.proofs.Rows.{edge-row_of}
use Rattle.reason_curves.proofs.edge_meeting.Invariants.{from}
use Rattle.reason_curves.proofs.edge_meeting.Goals as goal
use Rattle.reason_curves.proofs.edge_meeting.Goals.{then-i-own, else-i-own}

module _ (l : List ℤ) (n own : ℕ) (c : Curve) where
  another : (i : ℕ) (found : Contact) → i < n → not (same i own) ≡ true
      → graver (graver found (meeting c (edge_at l i).curve)) (from l n own c (i + 1)) ≡ graver found (from l n own c i)
  unfolding edge_meeting
  another i found t e =
      graver_assoc found (meeting c (edge_at l i).curve) (from l n own c (i + 1))
      ∙ rw (table_step (λ (j : ℕ). j) i n t, e)

  own_row : (i : ℕ) → i < n → not (same i own) ≡ false → from l n own c (i + 1) ≡ from l n own c i
  own_row i t e = rw (table_step (λ (j : ℕ). j) i n t, e)

  over : (i : ℕ) (found : Contact) → n ≤ i → graver found (from l n own c i) ≡ found
  unfolding edge_meeting
  over i found t = rw (table-end (λ (j : ℕ). j) i n t) (graver_none found)

pub loop-i-init : goal.loop-i-init
loop-i-init c = (omega arith, rw sub-zero)

pub loop-i-preserved : goal.loop-i-preserved
loop-i-preserved c =
    let b = c in
    let a = b.args in
    let l = a.edges.rows.now in
    let d = curve_of a.c.now in
    let t = c.loop-i-test.true in (
      omega arith,
      elim c.if-i-own.branch [
        | then-i-own k ↦
            ap (λ (x : Contact). graver x (from l a.edges.count a.own d (b.loop-i.i + 1)))
            (k.found-is ∙ k.row_meeting-found.ensures)
            ∙ another l a.edges.count a.own d b.loop-i.i b.loop-i.found t (ap not (same_false _ _ k.if-i-own.true))
        | else-i-own k ↦
            ap₂ graver k.found-is (own_row l a.edges.count a.own d b.loop-i.i t (ap not (same_eq _ _ k.if-i-own.false)))
      ]
          ∙ b.loop-i.invariant.1,
    )

pub returns : goal.returns
returns c =
    let a = c.args in
    sym (over a.edges.rows.now a.edges.count a.own (curve_of a.c.now) c.loop-i.i _ c.loop-i-test.false)
    ∙ c.loop-i.invariant.1

pub row_meeting-found-requires : goal.row_meeting-found-requires
row_meeting-found-requires c = let s = c in
    (edge-row_of s.args.edges.ranged _ c.loop-i-test.true, s.requires, s.extent_of-e.ensures)
