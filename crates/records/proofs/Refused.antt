-- More nodes than a map may have: the ticket is turned down with 1. Assumes nothing.
use mathlib.Core.Path.{◌≡◌, ap, ◌∙◌}
use mathlib.Core.Bool.{Bool, false, ◌&&◌}
use mathlib.Core.List.{List}
use Prim.Native.Nat.{◌<◌, ◌/◌, ◌%◌}
use native.Mathlib.Omega.{arith}
use lib.IntN.{ℤ}
use lib.ListN.{length}
use lib.Dec.{leb, lit<}
use borrow.Author.Tests.{lt-leb}
use Rattle.lists.specs.Tests.{same}
use Rattle.lists.proofs.Bools.{&&-false}
use Rattle.map.specs.Limits.{node_width, max_nodes}
use Rattle.map.specs.Rows.{Lent, whole}
use Rattle.tables.specs.Tables.{whole_rows}
use Rattle.map.specs.Ticket.{ticket, refused}
use Rattle.engine.proofs.Answers.{ticket-turned}
use Rattle.map.proofs.Reasons.{first_hit}
use Rattle.records.specs.declared.Node.{Node}
use Rattle.records.specs.Records.{node_table}
use Rattle.records.proofs.Packing.{length-cells}

too_many_lem : (ys : List Node) → 1000 < length ys → whole_rows node_width 0 max_nodes (node_table ys) ≡ false
too_many_lem ys h =
    let l = length (node_table ys) in
    let e = length-cells ys in
    ap (λ (b : Bool). same (l % 4) 0 && leb 0 (l / 4) && b) (lt-leb (l / 4) 1000 (omega arith))
    ∙ &&-false (same (l % 4) 0 && leb 0 (l / 4))

pub crowded : (l : Lent) (t : List ℤ) (ys : List Node) → l.nodes ≡ node_table ys → 1000 < length ys → ticket l t
    ≡ refused l 1
unfolding whole
crowded l t ys e h = ticket-turned l (lit< tt) t (first_hit 1 _ _ (rw (e, too_many_lem ys h)))
