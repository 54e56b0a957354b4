-- The curve of a run cut, joined, reversed and without surplus points, point by point. Assumes nothing.
use Rattle.std.specs.Prelude.{Some, None}
use mathlib.Core.Path.{◌≡◌, sym, ap, ◌∙◌}
use mathlib.Core.Bool.{true, false}
use mathlib.Core.List.{List, [], ◌∷◌, ◌++◌, append_assoc}
use Prim.Native.Nat.{ℕ, suc, ◌+◌, ◌-◌, ◌/◌, ◌≤◌, ◌<◌}
use native.Mathlib.Nat.{zero-add, sub-zero}
use native.Mathlib.Omega.{arith}
use lib.IntN.{ℤ}
use lib.ListN.{length}
use Rattle.lists.specs.Tables.{table}
use Rattle.plane.specs.declared.Point.{Point}
use Rattle.plane.specs.Points.{same_point}
use Rattle.plane.specs.Segments.{straight_between}
use Rattle.curves.specs.Curves.{Run, point_at, points_from, curve_of, points}
use Rattle.curves.specs.Tests.{first_place}
use Rattle.curves.specs.Edits.{front, back, join, joined, reversed, join_here, dropped, thinned, without_surplus}
use Rattle.curves.proofs.Runs.{two-points, from_step, from_end, curve_is}
use Rattle.curve_edits.specs.declared.Line.{Line}
use Rattle.curve_edits.specs.Lines.{line_of}
use Rattle.curve_edits.proofs.Places.{Found_at, cut_found_lem, cut_missing, turned-table, join-table}

-- all points of a run
pub whole-points : {l : List ℤ} → Run l → points (curve_of l) ≡ table (point_at l) 0 (length l / 2 - 0)
whole-points {l} run =
    let n : length l / 2 - 0 ≡ suc (length l / 2 - 1) = omega (arith, two-points run) in
    rw (curve_is run, n)

-- ---- cut at m

module _ {l : List ℤ} (run : Run l) (m : Point) where
  module _ (i : ℕ) (e : first_place (curve_of l) m ≡ Some i) where
    found : Found_at (point_at l) m 0 (length l / 2 - 1) i
    found = cut_found_lem (point_at l) m (length l / 2 - 1) 0 i (rw (curve_is run) at e)

    pub found_below : i + 1 < length l / 2
    found_below = omega (arith, found.high)

    pub front_found : points (front m (curve_of l)) ≡ table (point_at l) 0 (i + 1 - 0) ++ m ∷ []
    front_found =
        let n : i + 1 - 0 ≡ suc i = omega arith in
        rw (curve_is run, n) (ap (λ r. point_at l 0 ∷ r) (rw (sub-zero i) at found.front))

    pub back_vertex : same_point m (point_at l (i + 1)) ≡ true → points (back m (curve_of l)) ≡ m ∷ []
        ++ table (point_at l) (i + 2) (length l / 2 - (i + 2))
    back_vertex t =
        let n : 0 + (length l / 2 - 1) - (i + 1) ≡ length l / 2 - (i + 2) = omega arith in
        rw (curve_is run) (ap (λ r. m ∷ r) (found.back_at t ∙ ap (table (point_at l) (i + 2)) n))

    pub back_inside : same_point m (point_at l (i + 1)) ≡ false → points (back m (curve_of l)) ≡ m ∷ []
        ++ table (point_at l) (i + 1) (length l / 2 - (i + 1))
    back_inside t =
        let n : 0 + (length l / 2 - 1) - i ≡ length l / 2 - (i + 1) = omega arith in
        rw (curve_is run) (ap (λ r. m ∷ r) (found.back_in t ∙ ap (table (point_at l) (i + 1)) n))

  module _ (e : first_place (curve_of l) m ≡ None) where
    pub front_missing : points (front m (curve_of l)) ≡ table (point_at l) 0 (length l / 2 - 0)
    front_missing =
        let n : length l / 2 - 0 ≡ suc (length l / 2 - 1) = omega (arith, two-points run) in
        rw (curve_is run, n) (ap (λ h. point_at l 0 ∷ h.front)
        (cut_missing (point_at l) m (length l / 2 - 1) 0 (rw (curve_is run) at e)))

    pub back_missing : points (back m (curve_of l)) ≡ m ∷ []
    back_missing = rw (curve_is run) (ap (λ h. m ∷ h.back)
        (cut_missing (point_at l) m (length l / 2 - 1) 0 (rw (curve_is run) at e)))

-- ---- reversed

pub reversed-points : {l : List ℤ} → Run l → points (reversed (curve_of l))
    ≡ table (λ j. point_at l (length l / 2 - 1 - j)) 0 (length l / 2)
reversed-points {l} run =
    let n : suc (length l / 2 - 1) ≡ length l / 2 = omega (arith, two-points run) in
    rw (curve_is run)
    (turned-table (point_at l) (length l / 2 - 1) 0
    ∙ ap (λ k. table (λ j. point_at l (k - j)) 0 (suc (length l / 2 - 1))) (zero-add (length l / 2 - 1))
    ∙ ap (table (λ j. point_at l (length l / 2 - 1 - j)) 0) n)

-- ---- joined

module _ {l k : List ℤ} (run : Run l) (run' : Run k) where
  joint : points (joined (curve_of l) (curve_of k))
      ≡ table (point_at l) 0 (length l / 2 - 1 - 0)
      ++ join_here (straight_between (point_at l (length l / 2 - 2)) (point_at l (length l / 2 - 1)) (point_at k 1))
      (point_at l (length l / 2 - 1)) (points_from k 1)
  joint =
      let n : length l / 2 - 1 ≡ suc (length l / 2 - 2) = omega (arith, two-points run) in
      let n' : length l / 2 - 1 - 0 ≡ suc (length l / 2 - 2) = omega (arith, two-points run) in
      let last : 0 + (length l / 2 - 2) + 1 ≡ length l / 2 - 1 = omega (arith, two-points run) in
      let start : 0 + (length l / 2 - 2) ≡ length l / 2 - 2 = omega arith in
      let f = point_at l in
      let s = points_from k 1 in
      rw (curve_is run, curve_is run')
      (ap (λ q. f 0 ∷ join (f 0) (table f 1 q) s) n
      ∙ ap (λ r. f 0 ∷ r) (join-table f s (length l / 2 - 2) 0)
      ∙ (λ t. f 0 ∷ (table f 1 (length l / 2 - 2) ++ join_here (dropped (f (start t)) (f (last t)) s) (f (last t)) s))
      ∙ ap (λ r. f 0 ∷ (table f 1 (length l / 2 - 2)
      ++ join_here (dropped (f (length l / 2 - 2)) (f (length l / 2 - 1)) r) (f (length l / 2 - 1)) s))
      (from_step k 1 (two-points run'))
      ∙ ap (λ q. table f 0 q ++ join_here (straight_between (f (length l / 2 - 2)) (f (length l / 2 - 1)) (point_at k 1))
      (f (length l / 2 - 1)) s) (sym n'))

  module _ {n j : ℕ} (en : n ≡ length l / 2) (ej : j ≡ length k / 2) where
    pub joined-dropped : straight_between (point_at l (n - 2)) (point_at l (n - 1)) (point_at k 1) ≡ true
        → points (joined (curve_of l) (curve_of k)) ≡ table (point_at l) 0 (n - 1 - 0) ++ table (point_at k) 1 (j - 1)
    joined-dropped e = rw (en, ej) (rw (rw en at e) at joint)

    pub joined_kept : straight_between (point_at l (n - 2)) (point_at l (n - 1)) (point_at k 1) ≡ false
        → points (joined (curve_of l) (curve_of k)) ≡ table (point_at l) 0 (n - 1 - 0) ++ point_at l (n - 1) ∷ []
        ++ table (point_at k) 1 (j - 1)
    joined_kept e =
        rw (en, ej)
        ((rw (rw en at e) at joint)
        ∙ sym (append_assoc (table (point_at l) 0 (length l / 2 - 1 - 0)) (point_at l (length l / 2 - 1) ∷ [])
        (points_from k 1)))

-- ---- without surplus points

-- a line of what is left of the points before point i
pub record LeftSoFar (l : List ℤ) (i : ℕ) (out : Line) : Type 0 where
  pub few : out.count ≤ i
  pub kept : List Point
  pub line : out ≡ line_of kept
  -- with what would be left of the others it is what is left of all
  pub whole : kept ++ thinned (point_at l (i - 1)) (points_from l i) ≡ points (without_surplus (curve_of l))

pub thinned_start : {l : List ℤ} {out : Line} → Run l → out.count ≤ 1 → out ≡ line_of (point_at l 0 ∷ [])
    → LeftSoFar l 1 out
thinned_start {l} run n e = record { few = n; kept = point_at l 0 ∷ []; line = e; whole = rw (curve_is run) }

-- a point that is not the last
thinned_step : (l : List ℤ) (i : ℕ) → i + 1 < length l / 2 → thinned (point_at l (i - 1)) (points_from l i)
    ≡ join_here (straight_between (point_at l (i - 1)) (point_at l i) (point_at l (i + 1))) (point_at l i)
    (thinned (point_at l (i + 1 - 1)) (points_from l (i + 1)))
thinned_step l i h =
    let e : i + 1 - 1 ≡ i = omega arith in
    rw (e, from_step l i (omega arith), from_step l (i + 1) h)

module _ (l : List ℤ) (i : ℕ) {out r : Line} (t : LeftSoFar l i out) where
  pub thinned-dropped : i + 1 < length l / 2
      → straight_between (point_at l (i - 1)) (point_at l i) (point_at l (i + 1)) ≡ true → r ≡ out → LeftSoFar l (i + 1) r
  thinned-dropped h e f =
      record {
        few = rw f (omega (arith, t.few));
        kept = t.kept;
        line = f ∙ t.line;
        whole = rw (thinned_step l i h, e) at t.whole;
      }

  pub thinned_kept : {p : Point} → i + 1 < length l / 2
      → straight_between (point_at l (i - 1)) (point_at l i) (point_at l (i + 1)) ≡ false → p ≡ point_at l i
      → r.count ≡ out.count + 1 → r ≡ line_of (t.kept ++ p ∷ []) → LeftSoFar l (i + 1) r
  thinned_kept h e ep n f =
      record {
        few = omega (arith, t.few);
        kept = t.kept ++ point_at l i ∷ [];
        line = f ∙ ap (λ q. line_of (t.kept ++ q ∷ [])) ep;
        whole = append_assoc t.kept (point_at l i ∷ []) _ ∙ (rw (thinned_step l i h, e) at t.whole);
      }

  -- the last point is left
  pub thinned-end : {k : ℕ} {p : Point} → i ≡ k → k + 1 ≡ length l / 2 → p ≡ point_at l k
      → r ≡ line_of (t.kept ++ p ∷ []) → r ≡ line_of (points (without_surplus (curve_of l)))
  thinned-end e h ep f =
      let all = rw (from_step l i (omega arith), from_end l (i + 1) (omega arith)) at t.whole in
      f ∙ ap (λ q. line_of (t.kept ++ q ∷ [])) (ep ∙ ap (point_at l) (sym e)) ∙ ap line_of all
