-- A split and its heal by computation: a loop, whose links name itself, and tables in form that are not grown, where a
-- straight point is lost. Assumes nothing.
use mathlib.Core.Path.{◌≡◌, refl, ap}
use mathlib.Core.Bool.{true}
use mathlib.Core.List.{List, [], ◌∷◌}
use mathlib.Core.Option.{none}
use Prim.Native.Nat.{ℕ}
use native.Mathlib.Omega.{arith}
use lib.IntN.{ℤ, pos, negsuc, nat_abs}
use lib.ListN.{get_or}
use Rattle.plane.specs.declared.Point.{Point}
use Rattle.curves.specs.Curves.{through}
use Rattle.planar_maps.specs.Map.{fwd, bwd}
use Rattle.map.specs.Limits.{TwelvePoints}
use Rattle.map.specs.Rows.{Map, Lent, Sizes, lent_of, whole, counts}
use Rattle.map.specs.Form.{in_form}
use Rattle.map.specs.Ticket.{Outcome}
use Rattle.map.specs.Grow.{grow}
use Rattle.map.proofs.Opened.{opened}
use Rattle.grown.specs.Claims.{Cancels}

abbrev small : Sizes
small = record { nodes = 4; edges = 4; faces = 2; limit = TwelvePoints }

abbrev at : ℕ → ℕ → Point
at x y = record { x = x; y = y }

-- ---- a loop cut at (10,4) and healed: edge 1 has become edge 4, in its links too

abbrev tickets : List (List ℤ)
tickets =
    (pos 1 ∷ negsuc 0 ∷ pos 0 ∷ pos 0 ∷ [])
    ∷ (pos 12 ∷ pos 1 ∷ pos 1 ∷ pos 0 ∷ pos 0 ∷ pos 10 ∷ pos 0 ∷ pos 10 ∷ pos 10 ∷ pos 0 ∷ pos 10 ∷ pos 0 ∷ pos 0 ∷ [])
    ∷ (pos 7 ∷ pos 1 ∷ pos 10 ∷ pos 4 ∷ [])
    ∷ (pos 9 ∷ pos 2 ∷ pos 3 ∷ [])
    ∷ []

abbrev loop : Map
loop =
    record {
      nodes = record { number = 1; at = at 0 0; face = none } ∷ [];
      edges =
          record {
            number = 4;
            start = 1;
            end = 1;
            next_left = fwd 4;
            next_right = bwd 4;
            left = 1;
            right = 0;
            curve = through (at 0 0 ∷ at 10 0 ∷ at 10 10 ∷ at 0 10 ∷ at 0 0 ∷ []);
          } ∷ [];
      faces = 0 ∷ 1 ∷ [];
      next = counts 3 5 2;
    }

pub loop_renewed : (grow small tickets).lent ≡ lent_of small loop
unfolding opened
loop_renewed = refl

-- ---- the claim needs a grown map: the stored curve (0,0) (5,0) (10,0), cut at (5,0) and healed, has lost the point

abbrev straight : Lent
straight = lent_of small (
    record {
      nodes = record { number = 1; at = at 0 0; face = none } ∷ record { number = 2; at = at 10 0; face = none } ∷ [];
      edges =
          record {
            number = 1;
            start = 1;
            end = 2;
            next_left = bwd 1;
            next_right = fwd 1;
            left = 0;
            right = 0;
            curve = through (at 0 0 ∷ at 5 0 ∷ at 10 0 ∷ []);
          } ∷ [];
      faces = 0 ∷ [];
      next = counts 3 2 1;
    }
    )

pub straight-in_form : (whole straight ≡ true) × (in_form straight ≡ true)
unfolding opened
straight-in_form = (refl, refl)

pub straight_lost : Cancels straight → ⊥
unfolding opened
straight_lost h =
    let points : Outcome → ℕ = λ o. nat_abs (get_or o.lent.edges 7 (pos 0)) in
    let count : ◌≡◌ {A = ℕ} 2 3 = ap points (h (pos 1) (pos 5) (pos 0) refl) in
    omega arith
