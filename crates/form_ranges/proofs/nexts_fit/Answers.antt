-- `form_ranges::nexts_fit` meets its contract. Assumes nothing.
use borrow.Author.Rules.{rules}
use mathlib.Core.Path.{◌≡◌, ◌∙◌}
use mathlib.Core.Bool.{true, ◌&&◌}
use Rattle.lists.proofs.Bools.{eq3}
use Rattle.tables.specs.Tables.{within}
use Rattle.form_ranges.proofs.nexts_fit.Goals as goal

pub returns : goal.returns
returns c =
    let h = c.args.h in
    let node : c.contains.result ≡ within 1 1000000 h.next_node = search rules in
    let edge : c.contains-2.result ≡ within 1 1000000 h.next_edge = search rules in
    let face : c.contains-3.result ≡ within 1 1000000 h.next_face = search rules in
    eq3 (λ a b c. a && b && c) (λ a b c. a && (b && (c && true))) tt c.contains.result c.contains-2.result
    c.contains-3.result ∙ (λ i. node i && (edge i && (face i && true)))
