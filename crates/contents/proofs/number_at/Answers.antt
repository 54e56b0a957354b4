-- `contents::number_at` meets its contract: a row's first number, natural since the row is in range. Assumes nothing.
use borrow.Author.Rules.{sfits_of}
use mathlib.Core.Path.{◌∙◌}
use Prim.Native.Nat.{◌/◌}
use native.Mathlib.Omega.{arith}
use mir.Syntax.{w64}
use mir.Facts.{to_z-of_z}
use Rattle.lists.proofs.Bools.{same_eq, same_false}
use Rattle.map_rows.proofs.Rows.{node_cells_lem, face_cell_lem}
use Rattle.contents.proofs.number_at.Goals as goal

pub overflow_mul-result : goal.overflow_mul-result
overflow_mul-result c = let h = (c.requires.node c.if-v-eq1.true).fits in omega (arith, h)

pub offset_bounds-nodes-v : goal.offset_bounds-nodes-v
offset_bounds-nodes-v c = let h = (c.requires.node c.if-v-eq1.true).fits in omega (arith, h)

pub bounds-nodes-v : goal.bounds-nodes-v
bounds-nodes-v c = let h = (c.requires.node c.if-v-eq1.true).fits in omega (arith, h)

pub returns-then-v-eq1 : goal.returns-then-v-eq1
returns-then-v-eq1 c =
    let a = c.args in
    let h = c.if-v-eq1.true in
    rw (same_eq _ _ h) (to_z-of_z {w = w64} (sfits_of c.result-1.given)
    ∙ (node_cells_lem a.nodes.now (a.v / 2) (c.requires.node h).ranges).number)

pub overflow_mul-result-else-v-eq1 : goal.overflow_mul-result-else-v-eq1
overflow_mul-result-else-v-eq1 c = let h = c.requires.face_fits c.if-v-eq1.false in omega (arith, h)

pub offset_bounds-faces-v : goal.offset_bounds-faces-v
offset_bounds-faces-v c = let h = c.requires.face_fits c.if-v-eq1.false in omega (arith, h)

pub bounds-faces-v : goal.bounds-faces-v
bounds-faces-v c = let h = c.requires.face_fits c.if-v-eq1.false in omega (arith, h)

pub returns-else-v-eq1 : goal.returns-else-v-eq1
returns-else-v-eq1 c =
    let a = c.args in
    let h = c.if-v-eq1.false in
    rw (same_false _ _ h) (to_z-of_z {w = w64} (sfits_of c.result-else-v-eq1-1.given)
    ∙ face_cell_lem a.faces.now (a.v / 2) (c.requires.face_ranges h))
