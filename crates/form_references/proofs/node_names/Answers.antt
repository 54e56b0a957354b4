-- `form_references::node_names` meets its contract: a negative number is no face. Assumes nothing.
use borrow.Author.Rules.{sfits_of}
use mathlib.Core.Path.{◌≡◌, sym, ap, subst, ◌∙◌}
use mathlib.Core.Bool.{true, false}
use lib.IntN.{ℤ, pos, nat_abs}
use lib.ListN.{get_or}
use lib.Signed.{lt_z, pos-nat_abs}
use mir.Syntax.{w64}
use mir.Facts.{to_z-of_z}
use Rattle.lists.specs.Scans.{any_of}
use Rattle.tables.specs.Tables.{same_z, column}
use Rattle.map.specs.Rows.{node_of}
use Rattle.map_rows.proofs.Rows.{face_rows_rising}
use Rattle.form_ranges.specs.Ranges.{face_map}
use Rattle.form_references.proofs.Names.{face_named, no_face_lem, not_negative, a_face}
use Rattle.form_references.proofs.node_names.Goals as goal

pub returns-then-z-lt0 : goal.returns-then-z-lt0
unfolding node_of
returns-then-z-lt0 c =
    let s = c in
    let z = get_or s.args.row.now 3 (pos 0) in
    let t : lt_z z (pos 0) ≡ true = subst (λ (x : ℤ). lt_z x (pos 0) ≡ true)
    (to_z-of_z {w = w64} {z = z} (sfits_of c.z-1.given)) c.if-z-lt0.true in
    c.if-z-lt0.true ∙ no_face_lem (face_map s.args.faces.now s.args.n) z t

pub exists-requires : goal.exists-requires
exists-requires c = let s = c in (face_rows_rising s.requires.1, s.requires.2)

pub returns-else-z-lt0 : goal.returns-else-z-lt0
unfolding node_of
returns-else-z-lt0 c =
    let s = c in
    let a = s.args in
    let z = get_or a.row.now 3 (pos 0) in
    let f = to_z-of_z {w = w64} {z = z} (sfits_of c.z-1.given) in
    let t : lt_z z (pos 0) ≡ false = subst (λ (x : ℤ). lt_z x (pos 0) ≡ false) f c.if-z-lt0.false in
    c.exists.ensures
    ∙ ap (λ (x : ℤ). any_of (same_z x) (column 5 a.faces.now a.n)) (f ∙ sym (pos-nat_abs z (not_negative z t)))
    ∙ face_named s.requires.1 (nat_abs z)
    ∙ a_face (face_map a.faces.now a.n) z t
