-- Tables that tickets left, from the empty map on: what a list of tickets carries from one ticket to the next.
use Rattle.std.specs.Prelude.{◌≡◌, List, ℤ}
use Rattle.map.specs.Rows.{Lent, Sizes}
use Rattle.map.specs.Grow.{grow}
use Rattle.grown.specs.Claims.{Limited}

-- some tickets, in tables of some sizes within the limits, left just this
pub record GrownTables (l : Lent) : Type 0 where
  pub sizes : Sizes
  pub limited : Limited sizes
  pub tickets : List (List ℤ)
  pub left : l ≡ (grow sizes tickets).lent
