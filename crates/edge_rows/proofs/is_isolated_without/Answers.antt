-- `edge_rows::is_isolated_without` meets its contract: all ends at the node are the row's own. Assumes nothing.
use borrow.Author.Rules.{sfits_of}
use mathlib.Core.Path.{ap, ap₂, ◌∙◌}
use mathlib.Core.Bool.{Bool, true, false}
use Prim.Native.Nat.{ℕ, ◌+◌, ◌*◌}
use lib.Dec.{eqb, lit<}
use lib.IntN.{ℤ, pos}
use lib.ListN.{get_or}
use mir.Syntax.{w64}
use mir.Val.{of_z, Fits, bool_byte}
use mir.Facts.{to_z-of_z, Fits-of_lt}
use Rattle.lists.specs.Tests.{same, bit}
use Rattle.lists.specs.Scans.{count_of}
use Rattle.lists.proofs.Counts.{byte_bit}
use Rattle.tables.proofs.Order.{word_test}
use Rattle.links.specs.Linking.{positions, leaves_node}
use Rattle.edge_rows.proofs.is_isolated_without.Goals as goal

two-fit : (x y : Bool) → Fits w64 (bool_byte x + bool_byte y)
two-fit true true = Fits-of_lt (lit< tt)
two-fit true false = Fits-of_lt (lit< tt)
two-fit false true = Fits-of_lt (lit< tt)
two-fit false false = Fits-of_lt (lit< tt)

pub overflow_add-own : goal.overflow_add-own
overflow_add-own c =
    let a = c.args in
    let l = a.edges.rows.now in
    two-fit (eqb (of_z w64 (get_or l (a.i * 32 + 1) (pos 0))) (of_z w64 a.node))
    (eqb (of_z w64 (get_or l (a.i * 32 + 2) (pos 0))) (of_z w64 a.node))

pub returns : goal.returns
unfolding same
returns c =
    let s = c in
    let a = s.args in
    let l = a.edges.rows.now in
    let u = get_or l (a.i * 32 + 1) (pos 0) in
    let v = get_or l (a.i * 32 + 2) (pos 0) in
    let fu = sfits_of c.u-1.given in
    let fv = sfits_of c.v-1.given in
    let fn = s.ranges.node in
    ap₂ same (c.edge_ends.ensures.0 ∙ ap (λ (z : ℤ). count_of (leaves_node l z) (positions a.edges.count))
    (to_z-of_z {w = w64} fn))
    (ap₂ (λ (x y : ℕ). x + y) (byte_bit (eqb (of_z w64 u) (of_z w64 a.node))
    ∙ ap bit (word_test {a = u} {b = a.node} fu fn))
    (byte_bit (eqb (of_z w64 v) (of_z w64 a.node)) ∙ ap bit (word_test {a = v} {b = a.node} fv fn)))
