-- `map_rows::write_edge` meets its contract: the two writes are one. Assumes nothing.
use borrow.Author.Rules.{rules}
use mathlib.Core.Path.{◌≡◌, refl, ◌∙◌}
use native.Mathlib.Omega.{arith}
use Prim.Native.Nat.{◌+◌, ◌*◌}
use mathlib.Core.List.{[], ◌∷◌}
use mir.Syntax.{w64}
use mir.Val.{to_z, SFits}
use mir.Facts.{to_z-of_z, to_z_pos}
use lib.IntN.{pos}
use lib.ListN.{length}
use lib.Seq.{paste}
use Rattle.tables.proofs.Cells.{paste-paste}
use Rattle.map_rows.proofs.write_edge.Goals as goal

pub returns : goal.returns
returns c =
    let s = c in
    let d = s.args.edges.now in
    let at = s.args.i * 32 in
    let r = s.args.s in
    let l = s.args.l in
    let e : length l.cells ≡ 24 = s.well_formed.1.1.1.0.1.1.1.0.1.0.1 in
    let n₁ : SFits w64 r.number = search rules in
    let n₂ : SFits w64 r.start = search rules in
    let n₃ : SFits w64 r.end = search rules in
    let n₄ : SFits w64 r.next_left = search rules in
    let n₅ : SFits w64 r.next_right = search rules in
    let n₆ : SFits w64 r.left = search rules in
    let n₇ : SFits w64 r.right = search rules in
    let count : to_z w64 l.count ≡ pos l.count = to_z_pos w64 (omega (arith, s.requires.1)) in
    let head = r.number ∷ r.start ∷ r.end ∷ r.next_left ∷ r.next_right ∷ r.left ∷ r.right ∷ pos l.count
    ∷ [] in
    let first : c.write.new.t
    ≡ paste d at head 8 =
    c.write.ensures
    ∙ (λ t. paste d at (to_z-of_z n₁ t ∷ to_z-of_z n₂ t ∷ to_z-of_z n₃ t ∷ to_z-of_z n₄ t ∷ to_z-of_z n₅ t ∷ to_z-of_z n₆ t
    ∷ to_z-of_z n₇ t ∷ count t ∷ []) 8) in
    c.write-2.ensures ∙ (λ t. paste (first t) (at + 8) l.cells (e t))
    ∙ paste-paste d head l.cells at 8 24 refl e (omega (arith, s.requires.0))
