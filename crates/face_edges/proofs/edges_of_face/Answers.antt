-- `face_edges::edges_of_face` meets its contract: the reasons against the call are looked at in order. Assumes nothing.
use mathlib.Core.Path.{◌≡◌, sym, ap, ap₂, ◌∙◌}
use mathlib.Core.Bool.{false}
use Prim.Native.Nat.{ℕ, ◌≤◌}
use Rattle.std.specs.Prelude.{Result}
use lib.Dec.{T}
use lib.IntN.{ℤ, nat_abs}
use lib.Signed.{non_neg}
use mir.Syntax.{w64}
use mir.Facts.{to_z-of_z, Fits-nat_abs}
use Rattle.map.specs.declared.Counts.{Counts}
use Rattle.map.specs.declared.Refusal.{Refusal}
use Rattle.map.specs.Refusals.{answer_of}
use Rattle.map.specs.Limits.{face_width}
use Rattle.map.specs.Rows.{map_of, lent}
use Rattle.map.specs.Reasons.{first_reason, no_face}
use Rattle.map.specs.Ticket.{lent_reasons, face_edges}
use Rattle.map_rows.specs.Rows.{edge_map}
use Rattle.map_rows.proofs.Rows.{face_rows_rising}
use Rattle.head.specs.Heads.{counts_of}
use Rattle.form_ranges.proofs.Parts.{face_rows_lem}
use Rattle.form.proofs.Lent.{lent_whole, lent_in_form}
use Rattle.form.proofs.Parts.{InForm, in_form_known, in_form-natural}
use Rattle.outcomes.proofs.Words.{place_told}
use Rattle.outcomes.proofs.Results.{number_some, handed_on}
use Rattle.face_edges.specs.Listing.{list_rings}
use Rattle.face_edges.proofs.Asked.{turned, face_missed, from_here, edges_are, rings_of, face_there, face_none}
use Rattle.face_edges.proofs.edges_of_face.Goals as goal

-- the tables are whole and in form
none : (c : goal.In_ok-check_lent) → let a = c.args in
    first_reason (lent_reasons (lent a.nodes.now a.edges.now a.faces.now a.h)) ≡ 0
none c = sym c.in_ok-check_lent.ensures

known : (c : goal.In_ok-check_lent) → let a = c.args in
    InForm a.nodes.now a.edges.now a.faces.now (counts_of a.h) a.h
known c = let a = c.args in
    in_form_known a.nodes.now a.edges.now a.faces.now a.h (lent_in_form _ (none c))

-- the face exists
there : (c : goal.In-Some) →
    let a = c.args in
    T (non_neg a.face) × (nat_abs a.face ≤ 999999)
    × (no_face (map_of (lent a.nodes.now a.edges.now a.faces.now a.h)) a.face ≡ false)
there c =
    let a = c.args in
    face_there a.nodes.now a.edges.now a.faces.now a.h (known c.before.before.before) a.face
    c.in-Some.field-0 (place_told face_width a.faces.now (ap (λ (k : Counts). k.faces) c.counts_of-c.ensures)
    (to_z-of_z {w = w64} c.ranges.face) c.find_row.ensures c.in-Some.is)

-- ---- the answers

pub returns-in_err-check_lent : goal.returns-in_err-check_lent
returns-in_err-check_lent c =
    let a = c.args in
    let e = c.in_err-check_lent.field-0.0 in
    ap (λ (r : Result ℤ Refusal). record { list = a.list.now; answer = answer_of r })
    (handed_on c.from_residual.result e c.from_residual.ensures.1)
    ∙ sym (turned (lent a.nodes.now a.edges.now a.faces.now a.h) a.face a.list.now (number_some e)
    (sym c.in_err-check_lent.ensures))

pub counts_of-c-requires : goal.counts_of-c-requires
counts_of-c-requires c = let a = c.args in
    in_form-natural a.nodes.now a.edges.now a.faces.now a.h (lent_in_form _ (none c))

pub find_row-requires : goal.find_row-requires
find_row-requires c =
    rw c.counts_of-c.ensures (face_rows_rising (face_rows_lem (known c.before).named.in_order))

pub returns-in_default : goal.returns-in_default
returns-in_default c =
    let a = c.args in
    let l = lent a.nodes.now a.edges.now a.faces.now a.h in
    sym (face_missed l a.face a.list.now (none c.before.before.before)
    (face_none a.nodes.now a.edges.now a.faces.now a.h (known c.before.before.before) a.face
    (place_told face_width a.faces.now (ap (λ (k : Counts). k.faces) c.counts_of-c.ensures)
    (to_z-of_z {w = w64} c.ranges.face) c.find_row.ensures c.in_default.is)))

pub overflow_cast-face : goal.overflow_cast-face
overflow_cast-face c =
    rw (to_z-of_z {w = w64} c.ranges.face) ((there c).0, Fits-nat_abs {w = w64} {z = c.args.face} tt c.ranges.face)

pub invariant_of-drawn : goal.invariant_of-drawn
invariant_of-drawn c =
    let a = c.args in
    let k = c.before.before.before.before in
    let rings = rings_of a.nodes.now a.edges.now a.faces.now a.h (known k) (lent_whole _ (none k)) in
    record { ranged = rw c.counts_of-c.ensures rings.rows }

pub list_rings-requires : goal.list_rings-requires
list_rings-requires c =
    let a = c.args in
    let e = none c.before.before.before.before.before in (
      rw c.counts_of-c.ensures (rings_of a.nodes.now a.edges.now a.faces.now a.h
          (known c.before.before.before.before.before) (lent_whole _ e)),
      rw (to_z-of_z {w = w64} c.ranges.face) (there c.before.before).1,
    )

pub returns : goal.returns
returns c =
    let a = c.args in
    let l = lent a.nodes.now a.edges.now a.faces.now a.h in
    c.list_rings.ensures
    ∙ ap₂ (λ (n : ℕ) (z : ℤ). list_rings a.edges.now n (nat_abs z) a.list.now)
    (ap (λ (k : Counts). k.edges) c.counts_of-c.ensures) (to_z-of_z {w = w64} c.ranges.face)
    ∙ sym (from_here l a.face a.list.now (none c.before.before.before.before.before.before.before)
    (there c.before.before.before.before).2
    (face_edges (edge_map a.edges.now (nat_abs a.h.edges)) (nat_abs a.face))
    (edges_are a.nodes.now a.edges.now a.faces.now a.h (nat_abs a.face)))
