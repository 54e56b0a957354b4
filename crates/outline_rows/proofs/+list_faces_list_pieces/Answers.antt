-- `outline_rows::list_faces` and `list_pieces`, which call each other, meet their contracts. Assumes nothing.
use mathlib.Core.Path.{sym, ◌∙◌}
use mathlib.Core.Bool.{true, false}
use Prim.Native.Nat.{◌+◌, ◌*◌}
use native.Mathlib.Omega.{arith}
use lib.ListN.{get_or}
use Rattle.outline_rows.proofs.Steps.{left_at-most, stops_not, next_row, told_twice, told_twice_under, told_more}
use Rattle.outline_rows.proofs.+list_faces_list_pieces.Goals as goal

-- ---- list_faces

-- the row of the next that is found, below the span
pub list_faces-overflow_mul-f : goal.list_faces-overflow_mul-f
list_faces-overflow_mul-f t c = omega (arith, next_row _ _ _ _ _ c.in-Some.ensures)

pub list_faces-bounds-seen-f : goal.list_faces-bounds-seen-f
list_faces-bounds-seen-f t c = omega (arith, next_row _ _ _ _ _ c.in-Some.ensures, c.requires.marks)

-- it is listed already, or nothing is left
pub list_faces-returns-then-left-seen : goal.list_faces-returns-then-left-seen
list_faces-returns-then-left-seen t c =
    let a = c.args in
    told_twice true c.requires a.from a.led (a.p * 2 + 1) (omega arith) _ (sym c.in-Some.ensures)
    (c.in-Some.f * 2) (omega arith) c.if-left-seen.true

pub list_faces-overflow_mul-f-2 : goal.list_faces-overflow_mul-f-2
list_faces-overflow_mul-f-2 t c = omega (arith, next_row _ _ _ _ _ c.in-Some.ensures)

-- it can be noted: some is left
pub list_faces-note-requires : goal.list_faces-note-requires
list_faces-note-requires t c =
    let a = c.args in
    let r = c.requires in
    let row = next_row _ _ _ _ _ c.in-Some.ensures in
    let some = (stops_not a.left (get_or a.seen.now (c.in-Some.f * 2) 0) c.if-left-seen.false).0 in
    (some, r.lines, omega (arith, r.depth), omega (arith, row, r.marks), omega (arith, row))

-- one less is left for the other
pub list_faces-list_pieces-requires : goal.list_faces-list_pieces-requires
list_faces-list_pieces-requires t c =
    let a = c.args in
    let r = c.requires in
    let kept = c.note.auto in
    let some = (stops_not a.left (get_or a.seen.now (c.in-Some.f * 2) 0) c.if-left-seen.false).0 in (
      omega (arith, c.decreases, some),
      record {
        matrix = r.matrix;
        row = next_row _ _ _ _ _ c.in-Some.ensures;
        under = omega arith;
        depth = omega (arith, r.depth, some);
        lines = omega (arith, r.lines, kept.notes);
        marks = kept.seen ∙ r.marks;
      },
    )

pub list_faces-returns-in_err-k : goal.list_faces-returns-in_err-k
list_faces-returns-in_err-k t c =
    let a = c.args in
    rw c.from_residual.ensures (told_twice_under true c.requires a.from a.led (a.p * 2 + 1) (omega arith) _ (sym c.in-Some.ensures)
    (c.in-Some.f * 2) (omega arith) c.if-left-seen.false c.note.ensures c.list_pieces.ensures c.in_err-k.was)

pub list_faces-overflow_add-f : goal.list_faces-overflow_add-f
list_faces-overflow_add-f t c = omega (arith, next_row _ _ _ _ _ c.in-Some.ensures)

-- no more than the other leaves is left for the next turn, and the arrays keep their lengths
pub list_faces-list_faces-requires : goal.list_faces-list_faces-requires
list_faces-list_faces-requires t c =
    let a = c.args in
    let r = c.requires in
    let kept = c.list_pieces.auto in
    let noted = c.note.auto in
    let some = (stops_not a.left (get_or a.seen.now (c.in-Some.f * 2) 0) c.if-left-seen.false).0 in
    let fewer = left_at-most c.in_ok-k.was c.list_pieces.ensures.fewer in (
      omega (arith, c.decreases, some, fewer),
      record {
        matrix = r.matrix;
        row = r.row;
        under = r.under;
        depth = omega (arith, r.depth, fewer);
        lines = omega (arith, r.lines, fewer, kept.notes, noted.notes);
        marks = kept.seen ∙ noted.seen ∙ r.marks;
      },
    )

pub list_faces-returns : goal.list_faces-returns
list_faces-returns t c =
    let a = c.args in
    told_more true c.requires a.from a.led (a.p * 2 + 1) (omega arith) _ (sym c.in-Some.ensures)
    (c.in-Some.f * 2) (omega arith) c.if-left-seen.false c.note.ensures c.list_pieces.ensures _ c.in_ok-k.was
    c.list_faces.ensures

-- ---- list_pieces

-- the row of the next that is found, below the span
pub list_pieces-overflow_mul-p : goal.list_pieces-overflow_mul-p
list_pieces-overflow_mul-p t c = omega (arith, next_row _ _ _ _ _ c.in-Some.ensures)

pub list_pieces-overflow_add-p : goal.list_pieces-overflow_add-p
list_pieces-overflow_add-p t c = omega (arith, next_row _ _ _ _ _ c.in-Some.ensures)

pub list_pieces-bounds-seen-p : goal.list_pieces-bounds-seen-p
list_pieces-bounds-seen-p t c = omega (arith, next_row _ _ _ _ _ c.in-Some.ensures, c.requires.marks)

-- it is listed already, or nothing is left
pub list_pieces-returns-then-left-seen : goal.list_pieces-returns-then-left-seen
list_pieces-returns-then-left-seen t c =
    let a = c.args in
    told_twice false c.requires a.from a.led (a.f * 2) (omega arith) _ (sym c.in-Some.ensures)
    (c.in-Some.p * 2 + 1) (omega arith) c.if-left-seen.true

pub list_pieces-overflow_mul-p-2 : goal.list_pieces-overflow_mul-p-2
list_pieces-overflow_mul-p-2 t c = omega (arith, next_row _ _ _ _ _ c.in-Some.ensures)

pub list_pieces-overflow_add-p-2 : goal.list_pieces-overflow_add-p-2
list_pieces-overflow_add-p-2 t c = omega (arith, next_row _ _ _ _ _ c.in-Some.ensures)

-- it can be noted: some is left
pub list_pieces-note-requires : goal.list_pieces-note-requires
list_pieces-note-requires t c =
    let a = c.args in
    let r = c.requires in
    let row = next_row _ _ _ _ _ c.in-Some.ensures in
    let some = (stops_not a.left (get_or a.seen.now (c.in-Some.p * 2 + 1) 0) c.if-left-seen.false).0 in
    (some, r.lines, omega (arith, r.depth), omega (arith, row, r.marks), omega (arith, row))

-- one less is left for the other
pub list_pieces-list_faces-requires : goal.list_pieces-list_faces-requires
list_pieces-list_faces-requires t c =
    let a = c.args in
    let r = c.requires in
    let kept = c.note.auto in
    let some = (stops_not a.left (get_or a.seen.now (c.in-Some.p * 2 + 1) 0) c.if-left-seen.false).0 in (
      omega (arith, c.decreases, some),
      record {
        matrix = r.matrix;
        row = next_row _ _ _ _ _ c.in-Some.ensures;
        under = omega arith;
        depth = omega (arith, r.depth, some);
        lines = omega (arith, r.lines, kept.notes);
        marks = kept.seen ∙ r.marks;
      },
    )

pub list_pieces-returns-in_err-k : goal.list_pieces-returns-in_err-k
list_pieces-returns-in_err-k t c =
    let a = c.args in
    rw c.from_residual.ensures (told_twice_under false c.requires a.from a.led (a.f * 2) (omega arith) _ (sym c.in-Some.ensures)
    (c.in-Some.p * 2 + 1) (omega arith) c.if-left-seen.false c.note.ensures c.list_faces.ensures c.in_err-k.was)

pub list_pieces-overflow_add-p-3 : goal.list_pieces-overflow_add-p-3
list_pieces-overflow_add-p-3 t c = omega (arith, next_row _ _ _ _ _ c.in-Some.ensures)

-- no more than the other leaves is left for the next turn, and the arrays keep their lengths
pub list_pieces-list_pieces-requires : goal.list_pieces-list_pieces-requires
list_pieces-list_pieces-requires t c =
    let a = c.args in
    let r = c.requires in
    let kept = c.list_faces.auto in
    let noted = c.note.auto in
    let some = (stops_not a.left (get_or a.seen.now (c.in-Some.p * 2 + 1) 0) c.if-left-seen.false).0 in
    let fewer = left_at-most c.in_ok-k.was c.list_faces.ensures.fewer in (
      omega (arith, c.decreases, some, fewer),
      record {
        matrix = r.matrix;
        row = r.row;
        under = r.under;
        depth = omega (arith, r.depth, fewer);
        lines = omega (arith, r.lines, fewer, kept.notes, noted.notes);
        marks = kept.seen ∙ noted.seen ∙ r.marks;
      },
    )

pub list_pieces-returns : goal.list_pieces-returns
list_pieces-returns t c =
    let a = c.args in
    told_more false c.requires a.from a.led (a.f * 2) (omega arith) _ (sym c.in-Some.ensures)
    (c.in-Some.p * 2 + 1) (omega arith) c.if-left-seen.false c.note.ensures c.list_faces.ensures _ c.in_ok-k.was
    c.list_pieces.ensures
