use Rattle.map.specs.Rows.{lent}
use Rattle.console.proofs.Lines.{program_served}
use Rattle.console.proofs.Printed.{program_told}
use Rattle.console.proofs.serve.Goals as goal

pub returns-clause-serves : goal.returns-clause-serves
returns-clause-serves g c =
    let w = c.serve_tables in
    program_served c.empty.result (lent w.new.nodes w.new.edges w.new.faces w.result) c.empty.ensures w.ensures.leaves

pub returns-clause-told : goal.returns-clause-told
returns-clause-told g c =
    let w = c.serve_tables in
    program_told g.R.Read.remaining g.W.Write.contents c.args.rows c.args.streams.now w.new.streams c.empty.result
    (lent w.new.nodes w.new.edges w.new.faces w.result) c.empty.ensures w.ensures.told
