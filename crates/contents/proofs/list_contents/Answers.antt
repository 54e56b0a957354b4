-- `contents::list_contents` meets its contract: the lines by rows, with the numbers of their rows, are the contents.
-- Assumes nothing.
use mathlib.Core.Path.{◌≡◌, sym, ap, ◌∙◌}
use mathlib.Core.Bool.{Bool, true}
use mathlib.Core.List.{List, ◌++◌, map}
use mathlib.Core.Option.{some}
use Prim.Native.Nat.{ℕ, ◌+◌, ◌*◌, ◌<◌, ◌≤◌}
use native.Mathlib.Omega.{arith}
use lib.IntN.{ℤ, pos, nat_abs}
use lib.ListN.{length, drop}
use mir.Syntax.{w64}
use mir.Facts.{to_z-of_z}
use Rattle.map.specs.declared.Head.{Head}
use Rattle.map.specs.Rows.{map_of, lent}
use Rattle.head.proofs.Words.{faces_natural, faces_read}
use Rattle.outcomes.specs.Outcomes.{Formed}
use Rattle.outcomes.proofs.Formed.{counted}
use Rattle.nesting.specs.Contents.{contents, contents_of}
use Rattle.outline_rows.specs.Listing.{Outlined, noted_lines}
use Rattle.map_piece_faces.specs.InFaces.{InFaces}
use Rattle.contents.specs.Lines.{numbered, LinesThere}
use Rattle.contents.proofs.Writes.{all_cells, cells_count}
use Rattle.contents.proofs.Answers.{refused, no_contents, too_short, in_list}
use Rattle.contents.proofs.Sheet.{all_parts, none_listed, listed_as, there}
use Rattle.contents.proofs.list_contents.Goals as goal

module _ {nodes edges faces : List ℤ} {h : Head} (form : Formed nodes edges faces h) {g : List ℕ} {pieces f : ℕ}
    (i : InFaces (map_of (lent nodes edges faces h)) nodes (nat_abs h.nodes) faces (nat_abs h.faces) g pieces)
    (read : f ≡ nat_abs h.faces) where
  abbrev n : ℕ
  n = f + pieces

  -- faces and pieces
  parts : n ≡ nat_abs h.faces + pieces
  parts = ap (λ k. k + pieces) read

  few : n ≤ 2000
  few = (all_parts form i parts).few

  -- the lines are noted
  module _ {notes : List ℕ} {r : Bool} (o : Outlined g n notes r) (e : r ≡ true) (long : 4000 ≤ length notes) (list : List ℤ) where
    abbrev cells : List ℤ
    cells = all_cells nodes faces notes n

    noted : contents (map_of (lent nodes edges faces h)) ≡ some (map (numbered nodes faces) (noted_lines notes n n))
    noted = listed_as form i parts o e

    count : length cells ≡ n * 3
    count = cells_count nodes faces notes n

    rows : LinesThere nodes faces notes n
    rows = there form i parts o e (omega (arith, few, long))

    -- the list is too short for them
    short : length list < n * 3
        → contents_of (lent nodes edges faces h) list ≡ refused list 20
    short s = too_short (lent nodes edges faces h) list form.whole form.in_form _ noted (omega (arith, count, s))

    -- what is written is the answer
    written : (new : List ℤ) (v : ℤ) → n * 3 ≤ length list → new ≡ cells ++ drop (n * 3) list → v ≡ pos (n * 3)
        → record { list = new; answer = record { refusal = 0; value = v } }
        ≡ contents_of (lent nodes edges faces h) list
    written new v room p w =
        (λ i. record { list = p i; answer = record { refusal = 0; value = w i } })
        ∙ ap (λ k. record {
          list = cells ++ drop k list;
          answer = record { refusal = 0; value = pos k };
        }) (sym count)
        ∙ sym (in_list (lent nodes edges faces h) list form.whole form.in_form _ noted (omega (arith, count, room)))

pub to_usize-requires : goal.to_usize-requires
to_usize-requires c = faces_natural (counted c.requires)

pub overflow_add-parts : goal.overflow_add-parts
overflow_add-parts c =
    let k = few c.requires c.relate_all-pieces.ensures (faces_read (counted c.requires) c.to_usize.ensures) in
    omega (arith, k)

pub list_all-requires : goal.list_all-requires
list_all-requires c =
    let read = faces_read (counted c.requires) c.to_usize.ensures in
    let i = c.relate_all-pieces.ensures in
    let k = few c.requires i read in
    (all_parts c.requires i (parts c.requires i read), omega (arith, k))

pub returns-then-not-list_all : goal.returns-then-not-list_all
returns-then-not-list_all c =
    let a = c.args in
    let s = c.requires in
    let i = c.relate_all-pieces.ensures in
    let read = faces_read (counted s) c.to_usize.ensures in
    sym (no_contents (lent a.nodes.now a.edges.now a.faces.now a.h) a.list.now s.whole s.in_form
    (none_listed s i (parts s i read) c.list_all.ensures c.if-not-list_all.true))

pub overflow_mul-parts : goal.overflow_mul-parts
overflow_mul-parts c =
    let k = few c.requires c.relate_all-pieces.ensures (faces_read (counted c.requires) c.to_usize.ensures) in
    omega (arith, k)

pub returns-then-list-parts : goal.returns-then-list-parts
returns-then-list-parts c =
    let a = c.args in
    let s = c.requires in
    sym (short s c.relate_all-pieces.ensures (faces_read (counted s) c.to_usize.ensures)
    c.list_all.ensures c.if-not-list_all.false (omega (arith, c.list_all.auto.notes)) a.list.now c.if-list-parts.true)

pub write_lines-requires : goal.write_lines-requires
write_lines-requires c =
    let s = c.requires in (
      rows s c.relate_all-pieces.ensures (faces_read (counted s) c.to_usize.ensures)
          c.list_all.ensures c.if-not-list_all.false (omega (arith, c.list_all.auto.notes)) c.args.list.now,
      omega (arith, c.if-list-parts.false),
    )

pub returns : goal.returns
returns c =
    let s = c.requires in
    let i = c.relate_all-pieces.ensures in
    let read = faces_read (counted s) c.to_usize.ensures in
    let k = few s i read in
    written s i read c.list_all.ensures c.if-not-list_all.false (omega (arith, c.list_all.auto.notes)) c.args.list.now
    _ _ (omega (arith, c.if-list-parts.false)) c.write_lines.ensures
    (to_z-of_z {w = w64} {z = pos ((c.to_usize.result + c.relate_all-pieces.result) * 3)} (record { sfits = omega (arith, k) }))
