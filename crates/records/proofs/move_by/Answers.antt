-- Turned down, the nodes are as they were; carried out, the one record is changed.
use Rattle.std.specs.Prelude.{Result}
use Rattle.std.proofs.Common.{List, ℤ, [], ◌∷◌, ◌≡◌, w64, ◌*◌, length, pos, take, ap, sym, ◌∙◌}
use mir.Facts.{to_z-of_z}
use Rattle.map.specs.declared.Answer.{Answer}
use Rattle.map.specs.Rows.{lent}
use Rattle.map.specs.Ticket.{Outcome, ticket}
use Rattle.records.specs.declared.Moved.{Moved}
use Rattle.records.specs.Records.{node_table, moved_nodes, moved_answer}
use Rattle.records.proofs.Packing.{packed}
use Rattle.records.proofs.move_by.Goals as goal

pub returns-in-Ok : goal.returns-in-Ok
returns-in-Ok c =
    let a = c.args in
    let ys = a.nodes.now in
    let m = c.move_front in
    let z = to_z-of_z {w = w64} c.ranges.node in
    let x = to_z-of_z {w = w64} c.ranges.x in
    let y = to_z-of_z {w = w64} c.ranges.y in
    (λ j. record {
      lent = lent (node_table (c.change_node.ensures.1 j)) m.new.edges m.new.faces a.h;
      answer = c.change_node.ensures.0 j;
    })
    ∙ ap (λ (r : Result Moved Answer). record {
      lent = lent (node_table (moved_nodes ys r)) m.new.edges m.new.faces a.h;
      answer = moved_answer ys r;
    }) (sym c.in-Ok.is)
    ∙ m.ensures ys (sym (ap (take (length ys * 4)) c.pack.ensures ∙ packed a.flat.now ys c.requires))
    ∙ (λ j. ticket (lent (node_table ys) a.edges.now a.faces.now a.h) (pos 2 ∷ z j ∷ x j ∷ y j ∷ []))

pub returns-in-Err : goal.returns-in-Err
returns-in-Err c =
    let a = c.args in
    let ys = a.nodes.now in
    let m = c.move_front in
    let z = to_z-of_z {w = w64} c.ranges.node in
    let x = to_z-of_z {w = w64} c.ranges.x in
    let y = to_z-of_z {w = w64} c.ranges.y in
    ap (λ (r : Result Moved Answer). record {
      lent = lent (node_table (moved_nodes ys r)) m.new.edges m.new.faces a.h;
      answer = moved_answer ys r;
    }) (sym c.in-Err.is)
    ∙ m.ensures ys (sym (ap (take (length ys * 4)) c.pack.ensures ∙ packed a.flat.now ys c.requires))
    ∙ (λ j. ticket (lent (node_table ys) a.edges.now a.faces.now a.h) (pos 2 ∷ z j ∷ x j ∷ y j ∷ []))
