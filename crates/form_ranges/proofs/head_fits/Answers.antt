-- `form_ranges::head_fits` meets its contract. Assumes nothing.
use borrow.Author.Rules.{rules}
use mathlib.Core.Path.{◌≡◌, sym, ap, ◌∙◌}
use mathlib.Core.Bool.{◌&&◌}
use mir.Syntax.{w64}
use mir.Val.{to_z, of_z}
use Rattle.map.specs.declared.Counts.{Counts}
use Rattle.map.specs.Limits.{is_record}
use Rattle.tables.specs.Tables.{within}
use Rattle.form_ranges.proofs.head_fits.Goals as goal

pub returns : goal.returns
returns c l q =
    let h = c.args.h in
    let points : to_z w64 (of_z w64 h.points) ≡ h.points = search rules in
    let counts = c.counts_fit.ensures
    ∙ ap (λ (s : Counts). within 0 s.nodes h.nodes && within 0 s.edges h.edges && within 1 s.faces h.faces) (sym q) in
    let recorded = c.is_record.ensures ∙ ap is_record points in
    λ i. counts i && c.nexts_fit.ensures i && recorded i
