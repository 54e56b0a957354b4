-- The map that has these rows alone.
use Rattle.map.specs.Rows.{Map}
use Rattle.map_rows.specs.Rows.{node_map, edge_map}
use Rattle.lent_rows.specs.declared.Nodes.{Nodes}
use Rattle.lent_rows.specs.declared.Edges.{Edges}

abbrev pub placed : Nodes → Map
placed n = node_map n.rows.now n.count

abbrev pub drawn : Edges → Map
drawn e = edge_map e.rows.now e.count
