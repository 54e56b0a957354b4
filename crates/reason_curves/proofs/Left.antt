-- What is read of a ticket's curve: a line of what is left of the points sent, or the reason against these. Assumes
-- nothing.
use mathlib.Core.Path.{◌≡◌, ap, ◌∙◌}
use mathlib.Core.List.{List, []}
use Prim.Native.Nat.{ℕ, ◌*◌, ◌-◌, ◌≤◌}
use lib.IntN.{ℤ}
use lib.ListN.{length, take}
use Rattle.curves.specs.Curves.{curve_of, points, max_points}
use Rattle.curves.specs.Tests.{neighbours_differ, straight_inside}
use Rattle.curve_edits.specs.declared.Line.{Line}
use Rattle.curve_edits.specs.Lines.{line_of}
use Rattle.map.specs.Limits.{PointLimit, most_points}
use Rattle.map.specs.Reasons.{first_reason, sent_reasons, curve_in}
use Rattle.map.proofs.PointLimits.{most-fits}
use Rattle.map.proofs.RoundTrip.{run_stored, stored_wider}
use Rattle.map.proofs.Surplus.{Left, sent_left}
use Rattle.map_rows.proofs.Lines.{line_read}
use Rattle.reason_curves.specs.Sent.{PointsLeft}

pub points-left : {l : List ℤ} → PointsLeft l → Left max_points (curve_of l)
points-left {l} p = record { stored = run_stored l p.run.is; differ = p.differ; bent = p.bent }

-- a line read under the limit k, whose part in use is what is left
pub record ReadLine (k : ℕ) (x : Line) (sent : List ℤ) : Type 0 where
  pub few : x.count ≤ max_points
  pub long : length x.cells ≡ 24
  pub left : PointsLeft (take (x.count * 2 - 0) x.cells)
  pub curve : curve_of (take (x.count * 2 - 0) x.cells) ≡ curve_in sent
  pub passed : first_reason (sent_reasons k sent) ≡ 0

-- what the points sent leave, where nothing is against them
pub read-line : (k : PointLimit) (sent : List ℤ) (l : Line) → first_reason (sent_reasons (most_points k) sent) ≡ 0 → l
    ≡ line_of (points (curve_in sent)) → ReadLine (most_points k) l sent
read-line k sent l passed e =
    let left = (sent_left (most_points k) sent [] passed).0 in
    let read = line_read (stored_wider (most-fits k) left.stored) l e in
    record {
      few = read.few;
      long = read.long;
      left =
          record {
            run = read.run;
            differ = ap neighbours_differ read.curve ∙ left.differ;
            bent = ap straight_inside read.curve ∙ left.bent;
          };
      curve = read.curve;
      passed = passed;
    }
