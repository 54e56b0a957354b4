-- `edit_isolated::face_of` meets its contract. Assumes nothing.
use mathlib.Core.Path.{ap, ◌∙◌}
use mathlib.Core.Option
use mathlib.Core.Option.{Option}
use Prim.Native.Nat.{ℕ, ◌+◌, ◌*◌}
use lib.IntN.{pos}
use lib.ListN.{get_or}
use Rattle.integers.specs.Signs.{sent}
use Rattle.lists.specs.Scans.{is_some}
use Rattle.map.proofs.RoundTrip.{face_pos}
use Rattle.map_rows.proofs.Rows.{node_cells_lem}
use Rattle.edit_isolated.proofs.face_of.Goals as goal

pub returns : goal.returns
returns c =
    let s = c in
    let l = s.args.nodes.now in
    let g = (node_cells_lem l s.args.i s.requires.0.ranges).face in
    sent c.result-1.given ∙ face_pos (get_or l (s.args.i * 4 + 3) (pos 0)) (ap is_some g ∙ s.requires.1)
    ∙ ap (λ (f : Option ℕ). pos (Option.get_or f 0)) g
