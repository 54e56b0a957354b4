-- `edit_remove::remove_and_heal` meets its contract: the faces healed where they are two, and the edge undrawn. Assumes
-- nothing.
use borrow.Author.Rules.{rules, sfits_of}
use mathlib.Core.Path.{◌≡◌, sym, ap, ◌∙◌}
use lib.IntN.{pos, nat_abs}
use lib.Signed.{non_neg}
use mir.Syntax.{w64}
use mir.Val.{of_z}
use Rattle.integers.specs.Signs.{sent}
use Rattle.lists.proofs.Bools.{same_eq, same_false}
use Rattle.map.specs.Rows.{map_of, rectangle, lent}
use Rattle.map_rows.specs.Rows.{edge_at}
use Rattle.map_rows.proofs.Rows.{edge_cells_lem}
use Rattle.tables.proofs.Order.{word_is}
use Rattle.edge_rows.proofs.Formed.{held}
use Rattle.face_rows.specs.Holds.{Healable, TablesOf, face_kept, merged_sides}
use Rattle.face_rows.proofs.Formed.{formed_healable, formed_held, formed-table, formed_unboxed}
use Rattle.face_rows.proofs.Healed.{healed_as, kept_as, healed_edge_count}
use Rattle.edit_remove.proofs.Heal.{healed_held}
use Rattle.edit_remove.proofs.Undraw.{removed_one, removed_two}
use Rattle.edit_remove.proofs.remove_and_heal.Lts as lts
use Rattle.edit_remove.proofs.remove_and_heal.Tie as tie
use Rattle.edit_remove.proofs.remove_and_heal.Reads as reads
use Rattle.edit_remove.proofs.remove_and_heal.Goals as goal

-- places in the code, by their names in what is generated
abbrev After-heal_faces-healed : Type 0
After-heal_faces-healed = lts.After-heal_faces tie.the-claims reads.Pre reads.Post

abbrev Else-left-right : Type 0
Else-left-right = lts.Else1 tie.the-claims reads.Pre reads.Post

pub undraw-head-requires : goal.undraw-head-requires
undraw-head-requires c =
    let b = c in
    let s = b in
    let a = s.args in
    let cells = edge_cells_lem a.edges.now a.i s.requires.cells.ranges in
    record {
      held = held s.requires.formed;
      row = s.requires.row;
      natural = ap non_neg (sent b.left-1.given ∙ cells.left);
    }

pub returns-then-left-right : goal.returns-then-left-right
returns-then-left-right c =
    let a = c.args in
    let row = edge_at a.edges.now a.i in
    let cells = edge_cells_lem a.edges.now a.i c.requires.cells.ranges in
    let one : row.left ≡ row.right = ap nat_abs
    (sym cells.left ∙ word_is (sfits_of c.left-1.given) (sfits_of c.right-1.given) c.if-left-right.true
    ∙ cells.right) in
    record {
      holds = removed_one c.requires.formed a.i a.makes one (c.requires.kept one) (sent c.left-1.given ∙ cells.left)
          c.undraw-head.ensures;
      value = rw (same_eq row.left row.right one);
    }

-- the two faces of the row
healable : (c : Else-left-right)
    → let a = c.args in
    let row = edge_at a.edges.now a.i in
    Healable a.nodes.now a.edges.now a.faces.now a.h (pos row.left) (pos row.right)
healable c =
    let s = c in
    let a = s.args in
    let cells = edge_cells_lem a.edges.now a.i s.requires.cells.ranges in
    formed_healable s.requires.formed a.i s.requires.row
    (λ e. c.if-left-right.false (ap (of_z w64) (cells.left ∙ ap pos e ∙ sym cells.right)))

pub heal_faces-healed-requires : goal.heal_faces-healed-requires
heal_faces-healed-requires c =
    let t = c.before.before.before in
    let b = t in
    let s = b in
    let cells = edge_cells_lem s.args.edges.now s.args.i s.requires.cells.ranges in
    rw (sent b.left-1.given ∙ cells.left, sent t.right-1.given ∙ cells.right) (healable t)

-- the tables with the two faces healed, with the rectangles before, and the face that is left
healed : (g : After-heal_faces-healed)
    → let a = g.args in
    let m = map_of (lent a.nodes.now a.edges.now a.faces.now a.h) in
    let row = edge_at a.edges.now a.i in
    let l = g.heal_faces-healed.new in
    TablesOf (rectangle m.edges) a.nodes.now a.edges.now a.faces.now a.h
    (merged_sides a.makes row m) l.nodes l.edges l.faces g.heal_faces-healed.result.head
    × (g.heal_faces-healed.result.value ≡ pos (face_kept a.makes row m))
healed g =
    let t = g in
    let b = t in
    let s = b in
    let a = s.args in
    let row = edge_at a.edges.now a.i in
    let cells = edge_cells_lem a.edges.now a.i s.requires.cells.ranges in
    let left = ap nat_abs (sent b.left-1.given ∙ cells.left) in
    let right = ap nat_abs (sent t.right-1.given ∙ cells.right) in
    let f = s.requires.formed in
    let told = g.heal_faces-healed.ensures in (
      healed_as a.makes row _ left right (told.0 _ (formed_unboxed f) (formed-table f)),
      kept_as a.makes row (map_of (lent a.nodes.now a.edges.now a.faces.now a.h)) left right
          told.1,
    )

pub undraw-head-requires-2 : goal.undraw-head-requires-2
undraw-head-requires-2 c =
    let g = c.before.before.before.before.before.before.before.before in
    let t = g.before.before.before.before in
    let a = t.args in
    let row = edge_at a.edges.now a.i in
    let r = healed g in
    let v = sent {z = c.heal_faces-healed.result.value} c.struct_told-1.given.1.0.1 in
    record {
      held = healed_held c.requires.formed row (healable t) a.makes c.requires.number r.0;
      row = rw (healed_edge_count (formed_held c.requires.formed) row a.makes r.0) c.requires.row;
      natural = ap non_neg (v ∙ r.1);
    }

pub returns : goal.returns
returns c =
    let g = c.before.before.before.before.before.before.before.before.before.before.before in
    let a = c.args in
    let row = edge_at a.edges.now a.i in
    let cells = edge_cells_lem a.edges.now a.i c.requires.cells.ranges in
    let r = healed g in
    let v = sent {z = c.heal_faces-healed.result.value} c.struct_told-1.given.1.0.1 ∙ r.1 in
    let two = same_false row.left row.right
    (λ e. c.if-left-right.false (ap (of_z w64) (cells.left ∙ ap pos e ∙ sym cells.right))) in
    record {
      holds = removed_two c.requires.formed a.i a.makes c.requires.row r.0 v c.undraw-head-2.ensures;
      value = v ∙ sym (rw two);
    }
