-- `edit_heal::write_healed` meets its contract. Assumes nothing.
use mathlib.Core.Path.{ap, ap₂, ◌∙◌}
use mathlib.Core.List.{List}
use Prim.Native.Nat.{ℕ, ◌*◌, ◌-◌}
use native.Mathlib.Omega.{arith}
use lib.IntN.{ℤ}
use lib.Seq.{paste}
use Rattle.map.specs.Limits.{edge_width}
use Rattle.tables.specs.Tables.{closed}
use Rattle.map_rows.specs.Cells.{cells_of}
use Rattle.edit_heal.proofs.Lists.{closed_below}
use Rattle.edit_heal.proofs.write_healed.Goals as goal

pub remove_row-requires-in-New-2 : goal.remove_row-requires-in-New-2
remove_row-requires-in-New-2 c =
    let r = c in
    let s = r in
    let p = s.requires.0 in (
      rw c.closed_up.ensures
          (closed_below s.args.e s.args.i s.args.j p.first_row p.second_row p.apart),
      omega (arith, p.room, r.remove_row-in-New.auto.t),
    )

pub returns-in-Mod : goal.returns-in-Mod
returns-in-Mod c =
    let w = c in
    let a = w.args in
    rw w.in-Mod.is (c.remove_row.ensures
    ∙ ap (λ (t : List ℤ). closed edge_width t a.e a.j) w.write_edge.ensures)

pub returns-in-New : goal.returns-in-New
returns-in-New c =
    let r = c in
    let q = r in
    let a = q.args in
    rw q.in-New.is (c.write_edge-in-New.ensures
    ∙ ap (λ (t : List ℤ). paste t ((a.e - 2) * edge_width) (cells_of a.s a.l) edge_width)
    (r.remove_row-in-New-2.ensures
    ∙ ap₂ (λ (t : List ℤ) (k : ℕ). closed edge_width t (a.e - 1) k) q.remove_row-in-New.ensures
    r.closed_up.ensures))
