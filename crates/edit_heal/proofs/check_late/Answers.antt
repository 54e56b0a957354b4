-- `edit_heal::check_late` meets its contract: each test answers its reason, in order. Assumes nothing.
use borrow.Author.Tests.{lt-ltb, le-ltb}
use mathlib.Core.Path.{◌≡◌, refl, sym, ap₂, ◌∙◌}
use mathlib.Core.Bool.{Bool, false, ◌&&◌}
use mathlib.Core.List.{[], ◌∷◌}
use Rattle.map.specs.Reasons.{first_reason}
use Rattle.map.proofs.Reasons.{first_hit, first_miss, first_none}
use Rattle.map.specs.declared.Variant.{Variant}
use Rattle.map.specs.declared.Variant.TheVariants.{New, Mod}
use Rattle.map.specs.contracts.Variant as variant
use Rattle.map.specs.Edits.{is_new}
use denote.Enum.Bare.{sameb}
use Rattle.edit_heal.proofs.check_late.Goals as goal
use Rattle.edit_heal.proofs.check_late.Goals.{else-eq-via-then-eq+else-is_spent, else-eq-via-else-eq}

-- the variant compared with New
asked : (how : Variant) → sameb variant.the_type how New ≡ is_new how
asked New = refl
asked Mod = refl

pub most_points-requires : goal.most_points-requires
most_points-requires c = c.requires.recorded

pub returns-then-most_points-count : goal.returns-then-most_points-count
returns-then-most_points-count c = rw (← c.most_points.ensures) (sym (first_hit 18 _ _ (lt-ltb _ _ c.if-most_points-count.true)))

pub returns-then-is_spent : goal.returns-then-is_spent
returns-then-is_spent c =
    rw (← c.most_points.ensures) (sym (first_miss 18 _ _ (le-ltb _ c.args.count c.if-most_points-count.false)
    ∙ first_hit 21 _ _ (ap₂ ◌&&◌ (sym (asked c.args.how) ∙ sym c.eq.ensures ∙ c.if-eq.true)
    (sym c.is_spent.ensures ∙ c.if-is_spent.true))))

-- neither holds
none : {x y : Bool} → x ≡ false → y ≡ false → first_reason ((18, x) ∷ (21, y) ∷ []) ≡ 0
none e f = first_miss 18 _ _ e ∙ first_miss 21 _ _ f ∙ first_none

pub returns : goal.returns
returns c =
    let few = le-ltb _ c.args.count c.if-most_points-count.false in
    let new = sym (asked c.args.how) ∙ sym c.eq.ensures in
    elim c.else-eq.branch [
      | else-eq-via-then-eq+else-is_spent w ↦ rw (← c.most_points.ensures)
          (sym (none few (ap₂ ◌&&◌ (new ∙ w.if-eq.true) (sym w.is_spent.ensures ∙ w.if-is_spent.false))))
      | else-eq-via-else-eq w ↦ rw (← c.most_points.ensures) (sym (none few (ap₂ ◌&&◌ (new ∙ w.if-eq.false) refl)))
    ]
