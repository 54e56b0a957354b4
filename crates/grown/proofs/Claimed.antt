-- Claims whose proofs stand elsewhere: the link law on all tables, and pieces as document 01 counts them.
use Rattle.lists.specs.Tests.{same}
use Rattle.lists.proofs.Counts.{count_map}
use Rattle.planar_maps.specs.Pieces.{label, pieces}
use Rattle.planar_maps.proofs.Chains.{root_least}
use Rattle.map.specs.Rows.{Node}
use Rattle.map.specs.Darts.{arcs}
use Rattle.grown.specs.Claims.{KeepsLaw, PiecesCounted}
use Rattle.grown.proofs.Law.Tables.{ticket-lawful}

pub keeps_law : KeepsLaw
keeps_law = ticket-lawful

pub pieces_counted : PiecesCounted
unfolding pieces
pieces_counted m = record {
  lowest = λ n. same (label (arcs m) n) n;
  takes = root_least (arcs m);
  count = count_map (λ (r : Node). r.number) (λ n. same (label (arcs m) n) n) m.nodes;
}
