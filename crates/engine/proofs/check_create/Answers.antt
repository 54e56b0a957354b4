-- `engine::check_create` meets its contract: 1 and 2 in order. Assumes nothing.
use mathlib.Core.Path.{sym, ap, ◌∙◌}
use mathlib.Core.Bool.{not}
use mir.Syntax.{w64}
use mir.Facts.{to_z-of_z}
use lib.IntN.{ℤ}
use Rattle.map.specs.Limits.{is_record}
use Rattle.map.proofs.Reasons.{first_hit, first_miss, first_none}
use Rattle.engine.proofs.check_create.Goals as goal

pub returns-then-not-is_whole : goal.returns-then-not-is_whole
returns-then-not-is_whole c = λ h. sym (first_hit 1 _ _ (ap not (sym (c.is_whole.ensures h)) ∙ c.if-not-is_whole.true-raw))

pub returns-then-not-is_record : goal.returns-then-not-is_record
returns-then-not-is_record c =
    λ h. sym (first_miss 1 _ _ (ap not (sym (c.is_whole.ensures h)) ∙ c.if-not-is_whole.false-raw)
    ∙ first_hit 2 _ _ (ap (λ (z : ℤ). not (is_record z)) (sym (to_z-of_z {w = w64} c.ranges.points))
    ∙ ap not (sym c.is_record.ensures) ∙ c.if-not-is_record.true-raw))

pub returns : goal.returns
returns c =
    λ h. sym (first_miss 1 _ _ (ap not (sym (c.is_whole.ensures h)) ∙ c.if-not-is_whole.false-raw)
    ∙ first_miss 2 _ _ (ap (λ (z : ℤ). not (is_record z)) (sym (to_z-of_z {w = w64} c.ranges.points))
    ∙ ap not (sym c.is_record.ensures) ∙ c.if-not-is_record.false-raw) ∙ first_none)
