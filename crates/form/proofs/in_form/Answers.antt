-- `form::in_form` meets its contract. Assumes nothing.
use mathlib.Core.Path.{◌≡◌, sym, ap, ◌∙◌, subst}
use mathlib.Core.Bool.{Bool}
use mathlib.Core.List.{List}
use Prim.Native.Nat.{◌≤◌}
use native.Mathlib.Omega.{arith}
use lib.IntN.{ℤ}
use mir.Syntax.{w64}
use mir.Val.{to_z, of_z}
use borrow.Author.Rules.{rules}
use Rattle.map.specs.declared.Counts.{Counts}
use Rattle.map.specs.declared.Head.{Head}
use Rattle.map.specs.Rows.{lent}
use Rattle.map.specs.Limits.{is_record, limit_of, max_nodes, max_edges, max_faces}
use Rattle.head.specs.Heads.{counts_of}
use Rattle.form_ranges.specs.Ranges.{ranged_rows, HeadFits}
use Rattle.form.proofs.Parts.{in_range, judged, unfit_head, head_known, head_natural, unranged, by_formed}
use Rattle.form.proofs.Parts.{whole_room}
use Rattle.form.proofs.in_form.Goals as goal

-- the answer on ranges, by the head's counts and the record as it is passed
ranged_told : (nodes edges faces : List ℤ) (h : Head) {k : Counts} {z : ℤ} {r : Bool} → r
    ≡ ranged_rows nodes edges faces k (limit_of z) → z ≡ h.points → k ≡ counts_of h → r ≡ in_range nodes edges faces h
ranged_told nodes edges faces h e f g = e ∙ (λ i. ranged_rows nodes edges faces (g i) (limit_of (f i)))

pub head_fits-requires : goal.head_fits-requires
head_fits-requires c =
    let a = c.args in
    subst (λ (s : Counts). (s.nodes ≤ max_nodes) × (s.edges ≤ max_edges) × (s.faces ≤ max_faces)) (sym c.sizes_of.ensures)
    (whole_room a.nodes.now a.edges.now a.faces.now a.h c.requires)

pub returns-then-not-head_fits : goal.returns-then-not-head_fits
returns-then-not-head_fits c =
    let a = c.args in
    let l = lent a.nodes.now a.edges.now a.faces.now a.h in
    sym (unfit_head a.nodes.now a.edges.now a.faces.now a.h (sym (c.if-not-head_fits.ensures l (sym c.sizes_of.ensures))))

pub counts_of-c-requires : goal.counts_of-c-requires
counts_of-c-requires c =
    let a = c.args in
    let l = lent a.nodes.now a.edges.now a.faces.now a.h in
    head_natural a.nodes.now a.edges.now a.faces.now a.h (sym (c.if-not-head_fits.ensures l (sym c.sizes_of.ensures)))

pub is_ranged-requires : goal.is_ranged-requires
is_ranged-requires c =
    let a = c.args in
    let l = lent a.nodes.now a.edges.now a.faces.now a.h in
    let back : to_z w64 (of_z w64 a.h.points) ≡ a.h.points = search rules in
    let k = head_known a.nodes.now a.edges.now a.faces.now a.h
    (sym (c.if-not-head_fits.ensures l (sym c.sizes_of.ensures))) in (
      rw c.counts_of-c.ensures k.nodes_fit,
      rw c.counts_of-c.ensures k.edges_fit,
      rw c.counts_of-c.ensures k.faces_fit,
      ap is_record back ∙ k.recorded,
    )

pub returns-else-is_ranged : goal.returns-else-is_ranged
returns-else-is_ranged c =
    let a = c.args in
    let l = lent a.nodes.now a.edges.now a.faces.now a.h in
    let back : to_z w64 (of_z w64 a.h.points) ≡ a.h.points = search rules in
    c.if-is_ranged.false
    ∙ sym (unranged a.nodes.now a.edges.now a.faces.now a.h
    (sym (c.if-not-head_fits.ensures l (sym c.sizes_of.ensures)))
    (sym (ranged_told a.nodes.now a.edges.now a.faces.now a.h c.is_ranged.ensures back c.counts_of-c.ensures)
    ∙ c.if-is_ranged.false))

pub is_formed-requires : goal.is_formed-requires
is_formed-requires c =
    let a = c.args in
    let l = lent a.nodes.now a.edges.now a.faces.now a.h in
    let back : to_z w64 (of_z w64 a.h.points) ≡ a.h.points = search rules in
    let w = whole_room a.nodes.now a.edges.now a.faces.now a.h c.requires in
    let k = subst (λ (k : Counts). HeadFits a.nodes.now a.edges.now a.faces.now k a.h) (sym c.counts_of-c.ensures)
    (head_known a.nodes.now a.edges.now a.faces.now a.h
    (sym (c.if-not-head_fits.ensures l (sym c.sizes_of.ensures)))) in (
      record {
        counted = k;
        ranged = ap (λ (z : ℤ). ranged_rows a.nodes.now a.edges.now a.faces.now c.counts_of-c.result (limit_of z)) (sym back)
            ∙ sym c.is_ranged.ensures ∙ c.if-is_ranged.true;
      },
      omega (arith, k.nodes_fit, w.0),
      omega (arith, k.edges_fit, w.1),
      omega (arith, k.faces_fit, w.2),
    )

pub returns-then-is_ranged : goal.returns-then-is_ranged
returns-then-is_ranged c =
    let a = c.args in
    let l = lent a.nodes.now a.edges.now a.faces.now a.h in
    let back : to_z w64 (of_z w64 a.h.points) ≡ a.h.points = search rules in
    c.is_formed.ensures
    ∙ ap (λ (k : Counts). judged a.nodes.now a.edges.now a.faces.now k a.h) c.counts_of-c.ensures
    ∙ sym (by_formed a.nodes.now a.edges.now a.faces.now a.h
    (sym (c.if-not-head_fits.ensures l (sym c.sizes_of.ensures)))
    (sym (ranged_told a.nodes.now a.edges.now a.faces.now a.h c.is_ranged.ensures back c.counts_of-c.ensures)
    ∙ c.if-is_ranged.true))
