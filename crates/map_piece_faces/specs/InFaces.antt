-- Pieces and faces of a map by rows, and the matrix that says which piece lies in which face.
use Rattle.std.specs.Prelude.{◌≡◌, Bool, true, false, not, ◌&&◌, ◌||◌, ℕ, ◌+◌, ◌*◌, ◌<◌, ◌≤◌, ℤ, pos, length, get_or, Option, Some, None}
use mathlib.Core.List.{List, ◌++◌, map, Memᴰ}
use Rattle.lists.specs.Tests.{same}
use Rattle.lists.specs.Scans.{any_of, keep, count_of}
use Rattle.lists.specs.Tables.{table, place}
use Rattle.tables.specs.Tables.{same_z, column}
use Rattle.map.specs.Limits.{node_width, face_width, max_nodes, max_faces}
use Rattle.map.specs.Rows.{Map}
use Rattle.map.specs.Darts.{arcs, piece_of, piece_count}
use Rattle.map.specs.declared.Counts.{Counts}
use Rattle.map_rows.specs.Rows.{node_at, face_at, edge_map}
use Rattle.darts.specs.Positions.{RowsNamed}
use Rattle.piece_labels.specs.Labels.{Labelled}
use Rattle.piece_faces.specs.Bits.{cells, Relates, related, Closed}
use Rattle.nesting.specs.Contents.{listed_under}
use Rattle.nesting.specs.Claims.{Part}

-- ---- rows related, as the functions find them

-- the row of the node that each directed edge leaves, by its label, and that of the face that it bears
pub record DartRows (starts bears labels : List ℕ) (m : ℕ) : Type 0 where
  pub starts_fit : m ≤ length starts
  pub bears_fit : m ≤ length bears
  pub labelled : (q : ℕ) → q < m → get_or starts q 0 < length labels
  pub pieces : (i : ℕ) → get_or labels i 0 < max_nodes
  pub faces : (q : ℕ) → q < m → get_or bears q 0 < max_faces

-- the directed edge at position q relates piece row p to face row f
abbrev pub dart_relates : List ℕ → List ℕ → List ℕ → ℕ → ℕ → ℕ → Bool
dart_relates starts bears labels p f q = same p (get_or labels (get_or starts q 0) 0) && same f (get_or bears q 0)

-- it is the row that was found
abbrev pub is_found : ℕ → Option ℕ → Bool
is_found g (Some k) = same g k
is_found g None = false

-- node row i is in face row g, of f, and is row p
abbrev pub node_relates : List ℤ → List ℤ → ℕ → ℕ → ℕ → ℕ → Bool
node_relates nodes faces f p g i =
    same p i && is_found g (place (same_z (get_or nodes (i * node_width + 3) (pos 0))) 0 (column face_width faces f))

-- row i is labelled with itself
abbrev pub is_root : List ℕ → ℕ → Bool
is_root labels i = same (get_or labels i 0) i

-- what stands in the matrix, by rows, labels and rows named
pub record Related (nodes edges faces : List ℤ) (c : Counts) (g : List ℕ) (pieces : ℕ) : Type 0 where
  pub starts : List ℕ
  pub bears : List ℕ
  pub labels : List ℕ
  pub starts_named : RowsNamed node_width nodes c.nodes edges 1 starts (c.edges * 2)
  pub bears-named : RowsNamed face_width faces c.faces edges 5 bears (c.edges * 2)
  pub labelled : Labelled (arcs (edge_map edges c.edges)) nodes c.nodes labels
  pub relates : Relates g (λ p f. any_of (dart_relates starts bears labels p f) (table (λ q. q) 0 (c.edges * 2))
      || any_of (node_relates nodes faces c.faces p f) (table (λ i. i) 0 c.nodes))
  pub counted : pieces ≡ count_of (is_root labels) (table (λ i. i) 0 c.nodes)

-- ---- the map's pieces and faces by rows

-- the number of a face row (false) or a node row (true)
abbrev pub number_of : List ℤ → List ℤ → Bool → ℕ → ℕ
number_of nodes faces false x = face_at faces x
number_of nodes faces true x = (node_at nodes x).number

-- the lowest node of a piece stands in row i
abbrev pub is_piece : Map → List ℤ → ℕ → Bool
is_piece m nodes i = same (piece_of m (node_at nodes i).number) (node_at nodes i).number

-- all faces and pieces, by rows
abbrev pub row_parts : Map → List ℤ → ℕ → ℕ → List Part
row_parts m nodes n f =
    map (λ x. (false, x)) (table (λ i. i) 0 f) ++ map (λ x. (true, x)) (keep (is_piece m nodes) (table (λ i. i) 0 n))

-- the matrix has for each face the pieces in it, and for each piece the faces it is in; and there are so many pieces
pub record InFaces (m : Map) (nodes : List ℤ) (n : ℕ) (faces : List ℤ) (f : ℕ) (g : List ℕ) (pieces : ℕ) : Type 0 where
  pub matrix : length g ≡ cells
  pub under : (b : Bool) (x : ℕ) → Memᴰ (b, x) (row_parts m nodes n f)
      → map (number_of nodes faces (not b)) (related g b x) ≡ listed_under m b (number_of nodes faces b x)
  pub closed : Closed g (row_parts m nodes n f)
  pub counted : pieces ≡ piece_count m
