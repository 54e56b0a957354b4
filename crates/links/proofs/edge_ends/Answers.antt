-- `links::edge_ends` meets its contract: what is counted, with what is left, is the count of all. Assumes nothing.
use mathlib.Core.Path.{◌≡◌, ap, ◌∙◌}
use Prim.Native.Nat.{◌+◌, ◌*◌, ◌-◌}
use native.Mathlib.Omega.{arith}
use mir.Syntax.{w64}
use mir.Val.{to_z, of_z, bool_byte}
use mir.Facts.{to_z-of_z}
use native.Mathlib.Nat.{zero-add, sub-zero}
use borrow.Author.Rules.{sfits_of}
use Rattle.lists.specs.Tests.{bit}
use Rattle.lists.proofs.Scans.{count_step, count_end}
use Rattle.darts.specs.Positions.{side_cell}
use Rattle.links.proofs.Words.{same_word, cell_test}
use Rattle.lists.specs.Scans.{count_of as count_of}
use Rattle.lists.specs.Tables.{table}
use Rattle.lists.proofs.Counts.{byte_bit, byte_most}
use Rattle.links.specs.Linking.{positions, leaves_node}
use Rattle.links.proofs.edge_ends.Goals as goal

pub loop-p-init : goal.loop-p-init
loop-p-init c = (omega arith, omega arith, rw (zero-add, sub-zero))

pub overflow_cast-n : goal.overflow_cast-n
overflow_cast-n c =
    let test = same_word c.dart_cell.result c.args.node in
    omega (arith, byte_most (test))

pub overflow_add-n : goal.overflow_add-n
overflow_add-n c =
    let test = same_word c.dart_cell.result c.args.node in
    omega (arith, byte_most (test), c.args.edges.ranged.fits)

pub loop-p-preserved : goal.loop-p-preserved
loop-p-preserved c =
    let test = same_word c.dart_cell.result c.args.node in
    let s = c in
    let a = s.args in
    let l = c.loop-p in
    let f = leaves_node a.edges.rows.now (to_z w64 (of_z w64 a.node)) in
    let here : bool_byte (test) ≡ bit (f l.p) = byte_bit (test)
    ∙ ap bit (cell_test c.dart_cell.result a.node (side_cell a.edges.rows.now l.p 1)
    (sfits_of c.dart_cell.type_inv) s.ranges.node c.dart_cell.ensures) in
    let rest = count_of f (table (λ q. q) (l.p + 1) (a.edges.count * 2 - (l.p + 1))) in
    let step = count_step (λ q. q) l.p (a.edges.count * 2) f c.loop-p-test.true in (
      omega arith,
      omega (arith, byte_most (test)),
      (let e = l.invariant.2 in omega arith),
    )

pub returns : goal.returns
returns c =
    let a = c.args in
    let l = c.loop-p in
    let end = count_end (λ q. q) l.p (a.edges.count * 2) (leaves_node a.edges.rows.now (to_z w64 (of_z w64 a.node)))
    c.loop-p-test.false in
    let e = l.invariant.2 in
    let k : l.n ≡ count_of (leaves_node a.edges.rows.now (to_z w64 (of_z w64 a.node))) (positions a.edges.count) =
    omega arith in
    (rw (to_z-of_z {w = w64} c.ranges.node) at k, omega arith)
