-- `edit_dispatch::carry_out` meets its contract: a ticket that is turned down leaves all as it was, and after one that
-- is carried out the rectangles that it affects are set. Assumes nothing.
use mathlib.Core.Path.{refl, sym, ap, ◌∙◌, subst}
use native.Mathlib.Omega.{arith}
use lib.IntN.{nat_abs}
use lib.ListN.{length, drop}
use Rattle.std.specs.Prelude.{Result}
use Rattle.map.specs.declared.Refusal.{Refusal}
use Rattle.map.specs.Rows.{lent, rectangle}
use Rattle.map_rows.specs.Rows.{edges_of}
use Rattle.head.proofs.Words.{edges_natural, edges_read}
use Rattle.outcomes.specs.declared.Carried.{Carried}
use Rattle.outcomes.specs.Outcomes.{done_of, outcome}
use Rattle.outcomes.proofs.Formed.{counted, edge_rows_lem}
use Rattle.outcomes.proofs.Results.{number_some, handed_on}
use Rattle.edit_rectangles.specs.declared.Affected.{Affected}
use Rattle.edit_rectangles.specs.FacePairs.{AreFaces, set_four}
use Rattle.edit_rectangles.proofs.Covers.{named_edges, draws, named_pairs}
use Rattle.edit_rectangles.proofs.Settled as settling
use Rattle.edit_dispatch.specs.Shaped.{shaped, read_for}
use Rattle.edit_dispatch.proofs.Counts.{named_fit}
use Rattle.edit_dispatch.proofs.Affected.{affected_told, turned_down_lem, carried_out, decided-zero}
use Rattle.edit_dispatch.proofs.carry_out.Goals as goal

pub to_usize-e-requires : goal.to_usize-e-requires
to_usize-e-requires c = edges_natural (counted c.requires.0)

pub affected_before-before-requires : goal.affected_before-before-requires
affected_before-before-requires c = (
  rw (edges_read (counted c.requires.0) c.to_usize-e.ensures) (edge_rows_lem c.requires.0),
  rw c.edges_named.ensures (named_fit c.args.routine (length c.args.t.now) c.requires.2 c.requires.1),
)

pub returns-in_err-carried : goal.returns-in_err-carried
returns-in_err-carried c =
    let a = c.args in
    let x = c.edit_rows.new in
    let e = c.in_err-carried.field-0.0 in
    ap (λ (r : Result Carried Refusal). outcome x.nodes x.edges x.faces (done_of a.h r))
    (handed_on c.from_residual.result e c.from_residual.ensures.1)
    ∙ turned_down_lem (lent a.nodes.now a.edges.now a.faces.now a.h) _ (read_for a.routine (drop 1 a.t.now))
    c.in_err-carried.ensures (λ z. let some = number_some e in omega (arith, some, z))

-- ---- a ticket that is carried out

pub affected_after-a-requires : goal.affected_after-a-requires
affected_after-a-requires c =
    let a = c.args in
    let d = carried_out (lent a.nodes.now a.edges.now a.faces.now a.h) _ (read_for a.routine (drop 1 a.t.now))
    c.in_ok-carried.ensures refl in
    (settling.edges_natural c.requires.0 d.ticket d.none d.lent, settling.edges_in c.requires.0 d.ticket d.none d.lent)

pub set_affected-requires : goal.set_affected-requires
set_affected-requires c =
    let a = c.args in
    let d = carried_out (lent a.nodes.now a.edges.now a.faces.now a.h) _ (read_for a.routine (drop 1 a.t.now))
    c.in_ok-carried.ensures refl in
    let f = c.requires.0 in (
      settling.edges_natural f d.ticket d.none d.lent,
      settling.faces_natural f d.ticket d.none d.lent,
      settling.edges_in f d.ticket d.none d.lent,
      settling.faces_fit f d.ticket d.none d.lent,
      subst AreFaces
          (sym (affected_told a.edges.now c.edit_rows.new.edges a.h c.in_ok-carried.carried.head a.routine a.t.now
          d.reads c.edges_named.ensures (edges_read (counted f) c.to_usize-e.ensures)
          c.affected_before-before.ensures c.draws_edge.ensures c.affected_after-a.ensures))
          (settling.after_faces (draws d.ticket) c.edit_rows.new.edges a.h c.in_ok-carried.carried.head
          (named_pairs a.edges.now (nat_abs a.h.edges) (named_edges d.ticket))
          (settling.named_faces a.edges.now (nat_abs a.h.edges) (named_edges d.ticket))
          (counted f).next_face.natural),
    )

pub returns : goal.returns
returns c =
    let a = c.args in
    let l = lent a.nodes.now a.edges.now a.faces.now a.h in
    let d = carried_out l _ (read_for a.routine (drop 1 a.t.now)) c.in_ok-carried.ensures refl in
    let f = c.requires.0 in
    let k = d.ticket in
    let after = c.in_ok-carried.carried.head in
    let edges = c.edit_rows.new.edges in
    let new = rectangle (edges_of edges (nat_abs after.edges)) in
    let set = c.set_affected.ensures
    ∙ ap (λ (a : Affected). set_four (nat_abs after.faces) new a c.edit_rows.new.faces)
    (affected_told a.edges.now c.edit_rows.new.edges a.h c.in_ok-carried.carried.head a.routine a.t.now
    d.reads c.edges_named.ensures (edges_read (counted f) c.to_usize-e.ensures)
    c.affected_before-before.ensures c.draws_edge.ensures c.affected_after-a.ensures) in
    (λ i. record { lent = sym (settling.settled f k d.none d.lent set) i; answer = d.answer i })
    ∙ sym (decided-zero l k d.none) ∙ sym (ap (shaped l) d.reads)
