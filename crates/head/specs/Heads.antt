-- The head's seven numbers: what is asked of them, what they are after an edit, and 20 and 21 read from them.
use Rattle.std.specs.Prelude.{◌≡◌, Bool, true, ◌||◌, List, [], ◌∷◌, ℕ, suc, ◌+◌, ◌-◌, ◌/◌, ◌≤◌, ltb, ℤ, pos, nat_abs, length, get_or}
use Rattle.map.specs.declared.Counts.{Counts}
use Rattle.map.specs.declared.Head.{Head}
use Rattle.map.specs.Limits.{max_nodes, max_edges, max_faces, last_number, is_record, node_width, edge_width, face_width}
use Rattle.map.specs.Rows.{counts}
use Rattle.map.specs.Reasons.{Reasons}

-- a number that is not negative, and at most n
pub record UpTo (n : ℕ) (z : ℤ) : Type 0 where
  pub natural : z ≡ pos (nat_abs z)
  pub most : nat_abs z ≤ n

-- counts and next numbers within the limits, and 6 or 12 recorded, as tables in form have them
pub record Counted (h : Head) : Type 0 where
  pub nodes : UpTo max_nodes h.nodes
  pub edges : UpTo max_edges h.edges
  pub faces : UpTo max_faces h.faces
  pub next_node : UpTo (suc last_number) h.next_node
  pub next_edge : UpTo (suc last_number) h.next_edge
  pub next_face : UpTo (suc last_number) h.next_face
  pub recorded : is_record h.points ≡ true

-- the rows in use, where the counts are not negative
abbrev pub counts_of : Head → Counts
counts_of h = counts (nat_abs h.nodes) (nat_abs h.edges) (nat_abs h.faces)

-- how many rows each table has room for
abbrev pub sizes_in : List ℤ → List ℤ → List ℤ → Counts
sizes_in nodes edges faces =
    counts (length nodes / node_width) (length edges / edge_width) (length faces / face_width)

-- more than any edit adds
pub record Few (c : Counts) : Type 0 where
  pub nodes : c.nodes ≤ 1000
  pub edges : c.edges ≤ 1000
  pub faces : c.faces ≤ 1000

-- ---- the head after an edit

-- so many rows more and less, and so many numbers given; the record stays
unfoldable pub changed_head : Head → Counts → Counts → Counts → Head
changed_head h more less given =
    record {
      nodes = pos (nat_abs h.nodes + more.nodes - less.nodes);
      edges = pos (nat_abs h.edges + more.edges - less.edges);
      faces = pos (nat_abs h.faces + more.faces - less.faces);
      next_node = pos (nat_abs h.next_node + given.nodes);
      next_edge = pos (nat_abs h.next_edge + given.edges);
      next_face = pos (nat_abs h.next_face + given.faces);
      points = h.points;
    }

-- no more rows go than there are
pub record Changes (h : Head) (more less given : Counts) : Type 0 where
  pub counted : Counted h
  pub few_more : Few more
  pub few_given : Few given
  pub nodes : less.nodes ≤ nat_abs h.nodes + more.nodes
  pub edges : less.edges ≤ nat_abs h.edges + more.edges
  pub faces : less.faces ≤ nat_abs h.faces + more.faces

-- ---- 20 and 21, of the room of the tables and the head

unfoldable pub full_at : Counts → Head → Counts → Bool
full_at s h more = ltb s.nodes (nat_abs h.nodes + more.nodes) || ltb s.edges (nat_abs h.edges + more.edges)
    || ltb s.faces (nat_abs h.faces + more.faces)

unfoldable pub spent_at : Head → Counts → Bool
spent_at h needed = ltb (suc last_number) (nat_abs h.next_node + needed.nodes)
    || ltb (suc last_number) (nat_abs h.next_edge + needed.edges)
    || ltb (suc last_number) (nat_abs h.next_face + needed.faces)

abbrev pub room_at : Counts → Head → Counts → Counts → Reasons
room_at s h rows numbers = (20, full_at s h rows) ∷ (21, spent_at h numbers) ∷ []

-- so many rows and numbers are left
pub record Left (s : Counts) (h : Head) (rows numbers : Counts) : Type 0 where
  pub nodes : nat_abs h.nodes + rows.nodes ≤ s.nodes
  pub edges : nat_abs h.edges + rows.edges ≤ s.edges
  pub faces : nat_abs h.faces + rows.faces ≤ s.faces
  pub next_node : nat_abs h.next_node + numbers.nodes ≤ suc last_number
  pub next_edge : nat_abs h.next_edge + numbers.edges ≤ suc last_number
  pub next_face : nat_abs h.next_face + numbers.faces ≤ suc last_number

-- ---- a head with other numbers

-- these row counts, and the next numbers and the record that it has
abbrev pub with_counts : Head → ℤ → ℤ → ℤ → Head
with_counts h nodes edges faces =
    record {
      nodes = nodes;
      edges = edges;
      faces = faces;
      next_node = h.next_node;
      next_edge = h.next_edge;
      next_face = h.next_face;
      points = h.points;
    }

-- these next numbers, and the row counts and the record that it has
abbrev pub with_next : Head → ℤ → ℤ → ℤ → Head
with_next h node edge face =
    record {
      nodes = h.nodes;
      edges = h.edges;
      faces = h.faces;
      next_node = node;
      next_edge = edge;
      next_face = face;
      points = h.points;
    }

-- ---- the head as a list of numbers: document 01's order, then the record

abbrev pub head_in : List ℤ → Head
head_in l =
    record {
      nodes = get_or l 0 (pos 0);
      edges = get_or l 1 (pos 0);
      faces = get_or l 2 (pos 0);
      next_node = get_or l 3 (pos 0);
      next_edge = get_or l 4 (pos 0);
      next_face = get_or l 5 (pos 0);
      points = get_or l 6 (pos 0);
    }
