-- A line of the points of a curve that a row can hold: its part in use is a run, from which the curve is read again.
-- Assumes nothing.
use mathlib.Core.Path.{◌≡◌, sym, ap, ◌∙◌}
use mathlib.Core.List.{List, ◌++◌}
use Prim.Native.Nat.{◌*◌, ◌-◌, ◌≤◌}
use native.Mathlib.Omega.{arith}
use lib.IntN.{pos}
use lib.ListN.{length, take, replicate, length-append, length-replicate}
use lib.Seq.{take-take, take_at, length-take-le}
use Rattle.plane.specs.declared.Point.{Point}
use Rattle.curves.specs.Curves.{Curve, Run, points, curve_of, coordinates, max_points}
use Rattle.curve_edits.specs.declared.Line.{Line}
use Rattle.curve_edits.specs.Lines.{line_of}
use Rattle.map.proofs.RoundTrip.{Stored, stored_run, curve-back, coordinates-length}

module _ (x : Line) (ps : List Point) (e : x ≡ line_of ps) where
  line_count : x.count ≡ length ps
  unfolding line_of
  line_count = ap (λ (y : Line). y.count) e

  line_long : length x.cells ≡ 24
  unfolding line_of
  line_long = ap (λ (y : Line). length y.cells) e
      ∙ length-take-le 24 (coordinates ps ++ replicate 24 (pos 0))
      (simp (length-append, length-replicate) (omega arith))

  -- the part in use, where the row has room for all
  line_part : length ps ≤ max_points → take (x.count * 2 - 0) x.cells ≡ coordinates ps
  unfolding line_of
  line_part few =
      let n : length ps * 2 - 0 ≡ length (coordinates ps) = omega (arith, coordinates-length ps) in
      ap (λ (y : Line). take (y.count * 2 - 0) y.cells) e
      ∙ take-take (length ps * 2 - 0) 24 (coordinates ps ++ replicate 24 (pos 0)) (omega (arith, few))
      ∙ take_at (coordinates ps) (replicate 24 (pos 0)) (length ps * 2 - 0) (sym n)

pub record LineRead (x : Line) (c : Curve) : Type 0 where
  pub few : x.count ≤ max_points
  pub long : length x.cells ≡ 24
  pub run : Run (take (x.count * 2 - 0) x.cells)
  pub curve : curve_of (take (x.count * 2 - 0) x.cells) ≡ c

pub line_read : {c : Curve} → Stored c → (x : Line) → x ≡ line_of (points c) → LineRead x c
line_read {c} s x e =
    let part = line_part x (points c) e s.most in
    record {
      few = omega (arith, s.most, line_count x (points c) e);
      long = line_long x (points c) e;
      run = rw part (record { is = stored_run s });
      curve = ap curve_of part ∙ curve-back c;
    }
