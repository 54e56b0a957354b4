-- The map that has these nodes and edges alone.
use Rattle.std.specs.Prelude.{List, [], ℕ, ℤ}
use Rattle.map.specs.Rows.{Map, counts}
use Rattle.map_rows.specs.Rows.{nodes_of, edges_of}

abbrev pub drawn_map : List ℤ → ℕ → List ℤ → ℕ → Map
drawn_map nodes n edges e = record {
  nodes = nodes_of nodes n;
  edges = edges_of edges e;
  faces = [];
  next = counts 0 0 0;
}
