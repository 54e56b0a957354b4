-- `contents::write_lines` meets its contract: what is written, and what is left, make up the whole. Assumes nothing.
use mathlib.Core.Path.{◌≡◌, refl, sym, ap, ◌∙◌}
use mathlib.Core.List.{List}
use Prim.Native.Nat.{ℕ, ◌+◌, ◌*◌, ◌-◌}
use native.Mathlib.Numerals.{add-one}
use native.Mathlib.Omega.{arith}
use lib.IntN.{ℤ}
use lib.ListN.{length}
use lib.Seq.{sets}
use Rattle.nesting.specs.Contents.{Line, line_cells}
use Rattle.outline_rows.specs.Listing.{line_at}
use Rattle.contents.specs.Lines.{numbered}
use Rattle.contents.proofs.Writes.{as_long, cells_from, more, ended, from_front}
use Rattle.contents.proofs.write_lines.Lts as lts
use Rattle.contents.proofs.write_lines.Tie as tie
use Rattle.contents.proofs.write_lines.Reads as reads
use Rattle.contents.proofs.write_lines.Goals as goal

-- places in the code, by their names in what is generated
abbrev Start : Type 0
Start = lts.Start tie.the-claims reads.Pre reads.Post goal.the-invariant-loop-j goal.the-decreases-loop-j

pub loop-j-init : goal.loop-j-init
loop-j-init c = (omega arith, refl)

kept : (s : Start) (list : List ℤ) (j : ℕ) → let a = s.args in
    let cells = cells_from a.nodes.now a.faces.now a.notes.now a.parts in
    sets list (j * 3) (cells j) ≡ sets a.list.now 0 (cells 0) → length list ≡ length a.list.now
kept s list j = let a = s.args in
    as_long a.nodes.now a.faces.now a.notes.now a.parts list a.list.now j

pub write_line-requires : goal.write_line-requires
write_line-requires c =
    let s = c.before.before.before.before.before in
    let v = c.loop-j in (
      omega (arith, s.requires.0.noted),
      s.requires.0.there (s.args.parts - (v.j + 1)) (omega arith),
      omega (arith, s.requires.1, kept s v.list v.j v.invariant.1),
    )

pub loop-j-preserved : goal.loop-j-preserved
loop-j-preserved c =
    let a = c.args in
    let v = c.loop-j in
    let w = c.write_line in
    let cells = cells_from a.nodes.now a.faces.now a.notes.now a.parts (v.j + 1) in
    let noted : ℕ → Line = λ k. line_at a.notes.now (a.parts - k) in
    let is = w.ensures ∙ ap (λ (k : ℕ). sets v.list (v.j * 3)
    (line_cells (numbered a.nodes.now a.faces.now (noted k)))) (add-one v.j) in (
      omega arith,
      ap (λ (l : List ℤ). sets l ((v.j + 1) * 3) cells) is
          ∙ more a.nodes.now a.faces.now a.notes.now a.parts v.list _ v.j (omega arith)
          v.invariant.1,
    )

pub shape_of-list : goal.shape_of-list
shape_of-list c = let v = c.loop-j in kept c.before.before.before.before v.list v.j v.invariant.1

pub returns : goal.returns
returns c =
    let a = c.args in
    let v = c.loop-j in
    sym (ended a.nodes.now a.faces.now a.notes.now a.parts v.list v.j (omega arith))
    ∙ v.invariant.1
    ∙ from_front a.nodes.now a.faces.now a.notes.now a.parts a.list.now
    c.requires.1
