-- Nodes as records: the same four numbers as a row of the node table.
use mathlib.Core.List.{List, [], ◌∷◌, flat_map, map}
use Rattle.std.specs.Prelude.{ℕ, ◌+◌, ◌*◌, ℤ, pos, get_or, take, set, Option, Some, None, Result, Ok, Err, zero, suc}
use Rattle.lists.specs.Tables.{place}
use Rattle.map.specs.declared.Answer.{Answer}
use Rattle.map.specs.Limits.{node_width}
use Rattle.tables.specs.Tables.{same_z}
use Rattle.outcomes.specs.Outcomes.{lookup_refusal}
use Rattle.records.specs.declared.Node.{Node}
use Rattle.records.specs.declared.Moved.{Moved}

-- number, x, y and containing face
abbrev pub record_cells : Node → List ℤ
record_cells n = n.number ∷ n.x ∷ n.y ∷ n.face ∷ []

-- the node table that the records are
abbrev pub node_table : List Node → List ℤ
node_table ns = flat_map record_cells ns

-- the node that row i of a node table is
abbrev pub row_node : List ℤ → ℕ → Node
row_node l i = record {
  number = get_or l (i * node_width) (pos 0);
  x = get_or l (i * node_width + 1) (pos 0);
  y = get_or l (i * node_width + 2) (pos 0);
  face = get_or l (i * node_width + 3) (pos 0);
}

-- the row of a number among the first n records, or that it is missing
abbrev pub node_row : List Node → ℕ → ℤ → Option ℕ
node_row ns n number = place (same_z number) 0 (map (λ r. r.number) (take n ns))

-- the record at the row that was found; a missing one changes nothing
abbrev pub changed_at : List Node → Node → Option ℕ → List Node
changed_at ns n (Some i) = set ns i n
changed_at ns n None = ns

-- a where a call was carried out, b where it was turned down
abbrev pub unless_refused : {A : Type 0} → ℕ → A → A → A
unless_refused zero a b = a
unless_refused (suc r) a b = b

-- the records after kind 2, which changes one where it was carried out, and its answer
abbrev pub moved_nodes : List Node → Result Moved Answer → List Node
moved_nodes ns (Ok m) = changed_at ns m.node (node_row ns m.count m.node.number)
moved_nodes ns (Err a) = ns

abbrev pub moved_answer : List Node → Result Moved Answer → Answer
moved_answer ns (Ok m) = record { refusal = lookup_refusal (node_row ns m.count m.node.number); value = pos 0 }
moved_answer ns (Err a) = a
