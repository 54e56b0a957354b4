-- What is answered of a new edge that nothing is against.
use Rattle.std.specs.Prelude.{ℕ, pos}
use Rattle.curves.specs.Curves.{Curve, start_way}
use Rattle.map.specs.Rows.{Map}
use Rattle.map.specs.Links.{corner_face}
use Rattle.map.specs.Edits.{splits_face}
use Rattle.reason_edges.specs.declared.Judged.{Judged}

-- from the node a to the node b: the corner face, and whether it is split
abbrev pub judged_add : Map → ℕ → ℕ → Curve → Judged
judged_add m a b c = record { face = pos (corner_face m a (start_way c)); splits = splits_face a b c m }
