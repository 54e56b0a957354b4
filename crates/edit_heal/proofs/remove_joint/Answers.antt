-- `edit_heal::remove_joint` meets its contract. Assumes nothing.
use Rattle.std.specs.Prelude.{Some, None}
use mathlib.Core.Path.{◌≡◌, refl, sym, ap, ◌∙◌}
use Prim.Native.Nat.{ℕ}
use native.Mathlib.Omega.{arith}
use mir.Syntax.{w64}
use mir.Facts.{to_z-of_z}
use Rattle.tables.specs.Tables.{closed}
use Rattle.map_rows.proofs.Rows.{node_rows_rising}
use Rattle.map_rows.proofs.Lookups.{node_found}
use Rattle.outcomes.proofs.Words.{place_told}
use Rattle.edit_heal.proofs.remove_joint.Goals as goal

pub find_row-requires : goal.find_row-requires
find_row-requires c = node_rows_rising c.requires

pub remove_row-requires : goal.remove_row-requires
remove_row-requires c =
    let s = c in
    let a = s.args in
    let e = place_told 4 a.nodes.now {n = a.n} refl (to_z-of_z {w = w64} {z = a.joint} s.ranges.joint)
    c.find_row.ensures c.in-Some.is in
    ((node_found a.nodes.now a.n s.requires.ranges a.joint _ e).0, s.requires.fits)

pub returns-in-Some : goal.returns-in-Some
returns-in-Some c k at =
    let s = c in
    let a = s.args in
    let i = c.in-Some.k in
    let e = place_told 4 a.nodes.now {n = a.n} refl (to_z-of_z {w = w64} {z = a.joint} s.ranges.joint)
    c.find_row.ensures
    c.in-Some.is in
    let q : Some i ≡ Some k = sym e ∙ at in
    let r : i ≡ k = cc in
    c.remove_row.ensures ∙ ap (closed 4 a.nodes.now a.n) r

pub returns-in_default : goal.returns-in_default
returns-in_default c k at =
    let s = c in
    let a = s.args in
    let e = place_told 4 a.nodes.now {n = a.n} refl (to_z-of_z {w = w64} {z = a.joint} s.ranges.joint)
    c.find_row.ensures c.in_default.is in
    let q : None ≡ Some k = sym e ∙ at in
    let z : ◌≡◌ {A = ℕ} 0 1 = cc in
    absurd (omega arith)
