-- `edit_heal::dart_with` meets its contract. Assumes nothing.
use borrow.Author.Rules.{sfits_of}
use mathlib.Core.Path.{ap}
use Prim.Native.Nat.{◌+◌, ◌*◌}
use lib.IntN.{pos}
use lib.ListN.{get_or}
use mir.Syntax.{w64}
use mir.Val.{of_z}
use Rattle.map.specs.Limits.{edge_width}
use Rattle.tables.proofs.Order.{is_same, not_same, word_is}
use Rattle.edit_heal.proofs.dart_with.Goals as goal

pub returns-then-edges-j : goal.returns-then-edges-j
returns-then-edges-j c =
    let s = c in
    rw (is_same (get_or s.args.edges.now (s.args.j * edge_width + s.args.k) (pos 0)) s.args.node
    (word_is (sfits_of c.t9-1.given) s.ranges.node c.if-edges-j.true))

pub returns-else-edges-j : goal.returns-else-edges-j
returns-else-edges-j c =
    let s = c in
    rw (not_same (get_or s.args.edges.now (s.args.j * edge_width + s.args.k) (pos 0)) s.args.node
    (λ q. c.if-edges-j.false (ap (of_z w64) q)))
