-- The reverse of a curve: its second point is the last but one, so it departs as the curve ends. Assumes nothing.
use mathlib.Core.Path.{◌≡◌, refl, sym, ap, ◌∙◌, subst}
use mathlib.Core.Bool.{true}
use mathlib.Core.List.{List, [], ◌∷◌, ◌++◌}
use native.Mathlib.Omega.{arith}
use lib.IntN.{ℤ}
use Rattle.plane.specs.declared.Point.{Point}
use Rattle.plane.specs.Directions.{way_to}
use Rattle.curves.specs.Curves.{Run, Curve, curve_of, point_at, points_from, last_of, second_of, before_last, start_way}
use Rattle.curves.specs.Curves.{end_way}
use Rattle.curves.specs.Edits.{turned, course}
use Rattle.curves.proofs.Runs.{two-points, from_step, curve_is}

second_more : (z b a : Point) (s : List Point) → second_of z ((s ++ (b ∷ [])) ++ (a ∷ [])) ≡ second_of z (s ++ (b ∷ []))
second_more z b a [] = refl
second_more z b a (c ∷ s) = refl

pub second_turned : (z a b : Point) (r : List Point) → second_of z (turned a (b ∷ r)) ≡ before_last a (b ∷ r)
second_turned z a b [] = refl
second_turned z a b (c ∷ r) = second_more z b a (turned c r) ∙ second_turned z b c r

pub end_way_lem : {c : List ℤ} → Run c → start_way (course true (curve_of c)) ≡ end_way (curve_of c)
end_way_lem {c} run =
    let e : curve_of c ≡ record { first = point_at c 0; rest = point_at c 1 ∷ points_from c 2 } = curve_is run
    ∙ ap (λ (r : List Point). record { first = point_at c 0; rest = r })
    (from_step c 1 (omega (arith, two-points run))) in
    subst (λ (d : Curve). start_way (course true d) ≡ end_way d) (sym e)
    (let z = last_of (point_at c 1) (points_from c 2) in
    ap (way_to z) (second_turned z (point_at c 0) (point_at c 1) (points_from c 2)))
