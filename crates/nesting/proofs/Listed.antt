-- The contents of every grown map list each face and each piece once, so that 28 never answers (specs/Claims.antt).
-- Assumes nothing.
use mathlib.Core.Path.{sym, ap, ◌∙◌, subst}
use Rattle.lists.specs.Scans.{is_some}
use Rattle.map.specs.Rows.{Lent, Sizes, map_of, whole}
use Rattle.map.specs.Form.{in_form}
use Rattle.map.specs.Grow.{grow}
use Rattle.grown.proofs.Ranges.{good_back}
use Rattle.grown.proofs.Grows.{State, grown_state}
use Rattle.nesting.specs.Claims.{HasContents, ContentsListed, ContentsNever28}
use Rattle.nesting.proofs.Exact.{reason, short, refusal_is, not_28}
use Rattle.nesting.proofs.Tree.{good_contents}

-- in any state
pub state_contents : {s : Sizes} {l : Lent} → State s l → HasContents (map_of l)
state_contents {s} x = subst HasContents (sym (ap map_of x.lent ∙ good_back x.map x.good s))
    (good_contents x.map x.good)

pub contents-listed : ContentsListed
contents-listed s h ts = state_contents (grown_state s h ts)

pub contents_never_28 : ContentsNever28
contents_never_28 s h ts list e = not_28 (whole l) (in_form l) (short l list)
    (sym (ap (λ o. reason (whole l) (in_form l) (is_some o) (short l list)) (contents-listed s h ts).listed)
    ∙ sym (refusal_is l list) ∙ e)
  where
    l : Lent
    l = (grow s ts).lent
