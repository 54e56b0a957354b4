use Rattle.std.proofs.Common.{rules, List, [], ℕ, ap, subst}
use Rattle.map.specs.Rows.{lent}
use Rattle.map.specs.Ticket.{Outcome}
use Rattle.console.specs.Desks.{desk_now}
use Rattle.console.specs.Lines.{DeskServed, InputServed}
use Rattle.console.specs.Printed.{Took, Ends, Told}
use Rattle.console.proofs.Lines.{input_served, lent_as}
use Rattle.console.proofs.Printed.{told}
use Rattle.console.proofs.serve_tables.Goals as goal

-- no byte of the first line has come
pub returns-clause-leaves : goal.returns-clause-leaves
returns-clause-leaves g c =
    let e = c.empty_map-empty in
    let s = c.serve_input in
    let start = lent e.new.nodes e.new.edges e.new.faces e.result.head in
    let rest = desk_now s.new.self in
    let begun : DeskServed (record { lent = start; line = [] }) rest =
    subst (λ (t : List ℕ). DeskServed (record { lent = start; line = t }) rest) c.new.ensures s.ensures.leaves in
    let done = input_served begun (ap (λ (o : Outcome). o.lent) e.ensures) c.serve_rest.ensures.leaves in
    lent_as (InputServed _) done (search rules) (search rules) (search rules)

pub returns-clause-told : goal.returns-clause-told
returns-clause-told g c =
    let e = c.empty_map-empty in
    let s = c.serve_input in
    let w = c.serve_rest in
    let remaining = g.R.Read.remaining in
    let contents = g.W.Write.contents in
    let start = lent e.new.nodes e.new.edges e.new.faces e.result.head in
    let rest = desk_now s.new.self in
    let begun : (took : Took remaining contents c.args.rows c.args.streams.now s.new.streams (record { lent = start; line = [] }) rest) × Ends remaining s.new.streams took.bytes =
    subst (λ (t : List ℕ). (took : Took remaining contents c.args.rows c.args.streams.now s.new.streams (record { lent = start; line = t }) rest) × Ends remaining s.new.streams took.bytes) c.new.ensures s.ensures.told in
    let done = told remaining contents c.args.rows c.args.streams.now s.new.streams w.new.streams start _
    (desk_now w.new.self).lent rest
    begun.0 w.ensures.writes begun.1 (ap (λ (o : Outcome). o.lent) e.ensures) w.ensures.leaves in
    lent_as (Told remaining contents c.args.rows c.args.streams.now w.new.streams _) done
    (search rules) (search rules) (search rules)
