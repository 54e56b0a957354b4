-- `form_ranges::counts_fit` meets its contract. Assumes nothing.
use borrow.Author.Rules.{rules}
use mathlib.Core.Path.{◌≡◌}
use mathlib.Core.Bool.{◌&&◌}
use Rattle.tables.specs.Tables.{within}
use Rattle.form_ranges.proofs.counts_fit.Goals as goal

pub returns : goal.returns
returns c =
    let h = c.args.h in
    let a = c.args.sizes in
    let nodes : c.contains.result ≡ within 0 a.nodes h.nodes = search rules in
    let edges : c.contains-2.result ≡ within 0 a.edges h.edges = search rules in
    let faces : c.contains-3.result ≡ within 1 a.faces h.faces = search rules in
    λ i. nodes i && edges i && faces i
