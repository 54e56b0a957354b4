-- Euler's sum and faces that are all reached give the colouring. The colours of the faces but f, and whether the cycle
-- c is taken at all, are as many unknowns as there are faces; each chord gives an equation, and there are fewer chords.
-- So some solution is not 0: with c it colours the faces for c; without c it would be a set of faces, not f, that has
-- both or no side of each edge. Assumes nothing.
use mathlib.Core.Path.{◌≡◌, sym, ap, ◌∙◌}
use mathlib.Core.Logic.{inl, inr}
use mathlib.Core.Bool.{Bool, true, false, not, ◌&&◌, true≢false}
use mathlib.Core.List.Memᴰ
use mathlib.Core.List.{List, map, Memᴰ}
use Prim.Native.Nat.{ℕ}
use native.Mathlib.Omega.{arith}
use lib.ListN.{length, length-map}
use Rattle.lists.specs.Tests.{◌⊕◌, same}
use Rattle.lists.specs.Members.{Distinct}
use Rattle.lists.specs.Functionals.{Functional, Solution}
use Rattle.lists.proofs.Bools.{eq1, eq2, ⊕-equal, which, same_refl, same_true}
use Rattle.lists.proofs.Sums.{sum_cong, sum-zero}
use Rattle.lists.proofs.Linear.{point, scaled, plus, solution}
use Rattle.planar_maps.specs.Map.{Arc, Dart, fwd, bwd, across, Cycle, Divides, Colouring, Linked}
use Rattle.planar_maps.specs.Pieces.{Within, Euler, nums}
use Rattle.planar_maps.specs.Rings.{OneTurn}
use Rattle.planar_maps.specs.Chords.{chords}
use Rattle.planar_maps.specs.Reached.{Even, Reached}
use Rattle.planar_maps.specs.Planar.{Planar}
use Rattle.planar_maps.proofs.Cycles.{rim, face_cycle, cycle-⊕}
use Rattle.planar_maps.proofs.Circles.{chords-length, cycle_of_chords}

cycle_scaled : (es : List Arc) (c : ℕ → Bool) (b : Bool) → Cycle es c → Cycle es (λ e. c e && b)
cycle_scaled es c true cycle X = sum_cong es _ _
    (λ a m. eq2 (λ x y. x && true && y) (λ x y. x && y) tt (c a.num) (across X a)) ∙ cycle X
cycle_scaled es c false cycle X =
    sum-zero es _ (λ a m. eq2 (λ x y. x && false && y) (λ x y. false) tt (c a.num) (across X a))

module _ {nodes : List ℕ} {es : List Arc} {tail : Dart → ℕ} {next : Dart → Dart} {face : Dart → ℕ} (faces : List ℕ)
    (f : ℕ) (nodes_once : Distinct nodes) (faces_once : Distinct faces) (within : Within nodes es)
    (linked : Linked es tail next face) (euler : Euler nodes es (length faces)) (reached : Reached es face faces f)
  where
    pub colouring_of_sum : Colouring es face
    colouring_of_sum c cycle = elim (which (S f)) [ inl e ↦ (kept, divides e) | inr e ↦ absurd (none e) ]
      where
        -- the colour of n, f has none: its place says whether c is taken
        without : ℕ → Functional
        without n = scaled (not (same n f)) (point n)

        -- the sides of the edge differ just when it is in c
        equation : Arc → Functional
        equation a =
            plus (scaled (c a.num) (point f)) (plus (without (face (fwd a.num))) (without (face (bwd a.num))))

        r : Solution faces (map equation (chords es))
        r = solution faces faces_once (map equation (chords es))
            (omega (arith, euler, length-map (chords es) equation, chords-length nodes es nodes_once within))

        S : ℕ → Bool
        S = r.0

        kept : ℕ → Bool
        kept n = not (same n f) && S n

        holds : (a : Arc) → Memᴰ a (chords es) → c a.num && S f ⊕ rim (λ d. kept (face d)) a.num ≡ false
        holds a m = r.1 (equation a) (Memᴰ.map equation m)

        -- a cycle with no chord has no edge
        every : (a : Arc) → Memᴰ a es → c a.num && S f ≡ rim (λ d. kept (face d)) a.num
        every a m = ⊕-equal (c a.num && S f) (rim (λ d. kept (face d)) a.num)
            (cycle_of_chords es (λ e. c e && S f ⊕ rim (λ d. kept (face d)) e)
            (cycle-⊕ es (λ e. c e && S f) (rim (λ d. kept (face d))) (cycle_scaled es c (S f) cycle)
            (face_cycle linked kept)) holds a m)

        divides : S f ≡ true → Divides es face c kept
        divides e a m = eq1 (λ x. x) (λ x. x && true) tt (c a.num) ∙ ap (λ v. c a.num && v) (sym e) ∙ every a m

        none : S f ≡ false → ⊥
        none e = true≢false (sym r.2.2 ∙ ap S (same_true g f at_f) ∙ e)
          where
            g : ℕ
            g = r.2.0

            even : Even es face kept
            even a m = ⊕-equal (kept (face (fwd a.num))) (kept (face (bwd a.num)))
                (sym (every a m) ∙ ap (λ v. c a.num && v) e ∙ eq1 (λ x. x && false) (λ x. false) tt (c a.num))

            out : not (same g f) && true ≡ false
            out = ap (λ v. not (same g f) && v) (sym r.2.2) ∙ reached kept even g r.2.1
                ∙ ap (λ v. not v && S f) (same_refl f)

            at_f : same g f ≡ true
            at_f = eq1 (λ x. x) (λ x. not (not x && true)) tt (same g f) ∙ ap not out

    pub planar_of_sum : Distinct (nums es) → OneTurn es tail next → Planar nodes es tail next face (length faces)
    planar_of_sum edges_once one-turn = record {
      nodes_once = nodes_once;
      edges_once = edges_once;
      within = within;
      linked = linked;
      one-turn = one-turn;
      colouring = colouring_of_sum;
      euler = euler;
    }
