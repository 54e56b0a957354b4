-- Every list of tickets is one that two slices hold: nothing that could be sent is out of reach of a call for a whole
-- list. Assumes nothing.
use mathlib.Core.Path.{◌≡◌, refl, ap, ap₂, ◌∙◌}
use mathlib.Core.List.{List, [], ◌∷◌, map, flatten}
use lib.IntN.{ℤ}
use lib.ListN.{length}
use lib.Seq.{take-append_seam, drop-append_seam}
use Rattle.ticket_lists.specs.Runs.{tickets_of}

pub every_list : (ts : List (List ℤ)) → tickets_of (flatten ts) (map length ts) ≡ ts
unfolding flatten
every_list [] = refl
every_list (t ∷ ts) =
    ap₂ (λ (u : List ℤ) (us : List (List ℤ)). u ∷ us)
    (take-append_seam t (flatten ts))
    (ap (λ (l : List ℤ). tickets_of l (map length ts)) (drop-append_seam t (flatten ts)) ∙ every_list ts)
