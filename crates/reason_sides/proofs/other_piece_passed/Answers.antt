-- `reason_sides::other_piece_passed` meets its contract: where no start is passed over, no ring is. Assumes nothing.
use mathlib.Core.Path.{◌≡◌, sym, ◌∙◌}
use Prim.Native.Nat.{ℕ, ◌≤◌}
use native.Mathlib.Omega.{arith}
use lib.ListN.{length, take, replicate, length-replicate}
use lib.Seq.{length-take-le}
use Rattle.curves.specs.Curves.{curve_of}
use Rattle.map.specs.Limits.{max_nodes}
use Rattle.map_rows.specs.Rows.{edge_at, edge_map}
use Rattle.map_rows.proofs.Rows.{edge_member}
use Rattle.reason_sides.proofs.Others.{none_passed}
use Rattle.reason_sides.proofs.other_piece_passed.Goals as goal

pub returns-then-not-any_start_passed : goal.returns-then-not-any_start_passed
returns-then-not-any_start_passed c =
    let s = c in
    let l = s.args.edges.rows.now in
    sym (none_passed (edge_map l s.args.edges.count) (edge_at l s.args.i) (curve_of s.args.c.now)
    (edge_member l s.args.edges.count s.args.i s.requires.1)
    (sym c.any_start_passed.ensures ∙ c.if-not-any_start_passed.true))

-- there is a label for each node
room : (n : ℕ) → n ≤ max_nodes → length {A = ℕ} (take n (replicate max_nodes 0)) ≡ n
room n h = length-take-le n (replicate max_nodes 0) (omega (arith, length-replicate {A = ℕ} max_nodes 0))

pub slice_bounds-any_passed_with-end : goal.slice_bounds-any_passed_with-end
slice_bounds-any_passed_with-end c = let s = c in sym (room s.args.nodes.count s.requires.0.few_nodes)

pub any_passed_with-requires : goal.any_passed_with-requires
any_passed_with-requires c = let s = c in
    (s.requires.0, s.requires.1, s.requires.2, room s.args.nodes.count s.requires.0.few_nodes)
