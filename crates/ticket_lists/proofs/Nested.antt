-- What a call of `ticket_lists::run` left has contents (specs/Claims.antt). Assumes nothing.
use mathlib.Core.Path.{sym, ap, ◌∙◌, subst}
use Rattle.map.specs.Limits.{limit_of}
use Rattle.map.specs.Rows.{Lent, map_of, sizes_for}
use Rattle.nesting.specs.Contents.{contents_of}
use Rattle.nesting.specs.Claims.{HasContents}
use Rattle.nesting.proofs.Listed.{contents-listed, contents_never_28}
use Rattle.ticket_lists.specs.Runs.{Ran}
use Rattle.ticket_lists.specs.Claims.{RunListed}
use Rattle.ticket_lists.proofs.Called.{some_face, ran_is}

pub run-listed : RunListed
run-listed l k ts r c =
    let s = sizes_for (limit_of k) l in
    let left = ap (λ (x : Ran). x.lent) (ran_is c) in (
      subst (λ (g : Lent). HasContents (map_of g)) (sym left) (contents-listed s (some_face c) ts),
      λ list e. contents_never_28 s (some_face c) ts list
          (ap (λ (g : Lent). (contents_of g list).answer.refusal) (sym left) ∙ e),
    )
