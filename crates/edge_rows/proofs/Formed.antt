-- Tables in form hold a map. Assumes nothing.
use mathlib.Core.List.{List}
use lib.IntN.{ℤ}
use Rattle.map.specs.declared.Head.{Head}
use Rattle.map.specs.Rows.{lent}
use Rattle.map.proofs.RoundTrip.{whole_tables}
use Rattle.outcomes.specs.Outcomes.{Formed}
use Rattle.outcomes.proofs.Formed.{ranges, counted, edge-next, node_rows_lem, edge_rows_lem, numbers_rise}
use Rattle.edge_rows.specs.Holds.{NodeEdgeTables}

pub held : {nodes edges faces : List ℤ} {h : Head} → Formed nodes edges faces h → NodeEdgeTables nodes edges h
held {nodes} {edges} {faces} {h} f =
    record {
      node_table_lem = record {
        rows = node_rows_lem f;
        rest = (ranges f).node_rest;
        whole = (whole_tables (lent nodes edges faces h) f.whole).0;
      };
      edge-table = record {
        rows = edge_rows_lem f;
        rest = (ranges f).edge_rest;
        whole = (whole_tables (lent nodes edges faces h) f.whole).1;
      };
      counted = counted f;
      next-least = (edge-next f).1;
      below = (numbers_rise f).1;
    }
