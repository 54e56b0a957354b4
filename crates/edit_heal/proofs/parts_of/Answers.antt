-- `edit_heal::parts_of` meets its contract: at the end of edge row i, or at its start. Assumes nothing.
use borrow.Author.Rules.{rules}
use mathlib.Core.Path.{◌≡◌, sym, ap, ◌∙◌}
use mathlib.Core.Bool.{Bool}
use Prim.Native.Nat.{◌+◌, ◌*◌}
use lib.IntN.{ℤ, pos, nat_abs}
use lib.ListN.{get_or}
use lib.Signed.{non_neg}
use mir.Syntax.{w64}
use mir.Val.{to_z, of_z}
use Rattle.integers.specs.Signs.{sent}
use Rattle.map.specs.Rows.{edge}
use Rattle.lent_rows.specs.Lent.{drawn}
use Rattle.map_rows.specs.Rows.{edge_at}
use Rattle.reason_departures.specs.Turning.{joins_at}
use Rattle.reason_departures.proofs.Ends.{start_cell, end-cell}
use Rattle.edit_heal.proofs.Joints.{parts-at_end, parts_at_start}
use Rattle.edit_heal.proofs.parts_of.Lts as lts
use Rattle.edit_heal.proofs.parts_of.Tie as tie
use Rattle.edit_heal.proofs.parts_of.Reads as reads
use Rattle.edit_heal.proofs.parts_of.Goals as goal

-- places in the code, by their names in what is generated
abbrev After-joins_at : Type 0
After-joins_at = lts.After-joins_at tie.the-claims reads.Pre reads.Post

-- the nodes of row i, as they were read
start-read : (c : goal.After-v-1)
    → let a = c.args in
    to_z w64 (of_z w64 (get_or a.edges.rows.now (a.i * 32 + 1) (pos 0)))
    ≡ pos (edge (drawn a.edges) (edge_at a.edges.rows.now a.i).number).start
start-read c = let s = c in
    sent c.u-1.given ∙ start_cell s.args.edges.ranged s.args.i s.requires.first_row

end_read : (c : goal.After-v-1)
    → let a = c.args in
    to_z w64 (of_z w64 (get_or a.edges.rows.now (a.i * 32 + 2) (pos 0)))
    ≡ pos (edge (drawn a.edges) (edge_at a.edges.rows.now a.i).number).end
end_read c = let s = c in
    sent c.v-1.given ∙ end-cell s.args.edges.ranged s.args.i s.requires.first_row

-- either may be asked for
pub joins_at-requires : goal.joins_at-requires
joins_at-requires c = let u = ap non_neg (start-read c) in let v = ap non_neg (end_read c) in search rules

-- whether the edges join at the end of row i
joins : (c : After-joins_at) {v : Bool} → c.joins_at.result ≡ v
    → let a = c.args in
    joins_at (drawn a.edges) (edge_at a.edges.rows.now a.j).number
    (edge (drawn a.edges) (edge_at a.edges.rows.now a.i).number).end ≡ v
joins c e =
    let a = c.args in
    sym (c.joins_at.ensures
    ∙ ap (λ (z : ℤ). joins_at (drawn a.edges) (edge_at a.edges.rows.now a.j).number (nat_abs z))
    (end_read c.before)) ∙ e

pub returns-then-joins_at : goal.returns-then-joins_at
returns-then-joins_at c =
    let t = c.before.before.before in
    let s = t in
    let p = s.requires in
    rw c.dart_with.ensures (parts-at_end s.args.edges.ranged s.args.i s.args.j p.first_row p.second_row _
    (sent t.v-1.given) (joins t c.if-joins_at.true))

pub returns : goal.returns
returns c =
    let t = c.before.before.before in
    let s = t in
    let p = s.requires in
    rw c.dart_with-2.ensures (parts_at_start s.args.edges.ranged s.args.i s.args.j p.first_row p.second_row _
    (sent t.u-1.given) (joins t c.if-joins_at.false) p.joint)
