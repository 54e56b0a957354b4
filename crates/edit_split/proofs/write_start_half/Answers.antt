-- `edit_split::write_start_half` meets its contract. Assumes nothing.
use mathlib.Core.Path.{◌∙◌, ap}
use mathlib.Core.List.{List}
use Prim.Native.Nat.{◌*◌, ◌-◌}
use lib.IntN.{ℤ}
use lib.Seq.{paste}
use Rattle.map.specs.Limits.{edge_width}
use Rattle.map_rows.specs.Cells.{cells_of}
use Rattle.edit_split.proofs.write_start_half.Goals as goal

pub returns-in-Mod : goal.returns-in-Mod
returns-in-Mod c = rw c.in-Mod.is c.write_edge.ensures

pub returns-in-New : goal.returns-in-New
returns-in-New c =
    let r = c in
    let a = r.args in
    rw r.in-New.is (c.write_edge-in-New.ensures
    ∙ ap (λ (t : List ℤ). paste t ((a.e - 1) * edge_width) (cells_of a.s a.l) edge_width) r.remove_row.ensures)
