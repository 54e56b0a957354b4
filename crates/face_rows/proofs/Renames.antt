-- Faces renamed: a column swept after the other is what the map's definition does to its rows. Assumes nothing.
use mathlib.Core.Path.{◌≡◌, refl, sym, ap, ◌∙◌}
use mathlib.Core.Bool.{cond}
use mathlib.Core.Logic.{inl, inr}
use mathlib.Core.List.{List, [], ◌∷◌, map, flat_map}
use mathlib.Core.Option.{Option, none, some}
use Prim.Native.Nat.{ℕ, suc, ◌+◌, ◌*◌}
use lib.Dec.{lit<}
use lib.IntN.{ℤ, pos}
use lib.ListN.{length}
use Rattle.lists.specs.Tests.{same}
use Rattle.lists.specs.Tables.{sweep}
use Rattle.lists.proofs.Bools.{which}
use Rattle.map.specs.Limits.{node_width, edge_width}
use Rattle.map.specs.Rows.{Node, Edge, Map, node_cells, edge_cells, face_cell}
use Rattle.tables.specs.Tables.{replace_at, filled}
use Rattle.map.specs.Edits.{with_face, with_sides, renamed, renamed_node, renamed_faces}
use Rattle.map_rows.specs.Rows.{nodes_of, edges_of, EdgeRows}
use Rattle.tables.proofs.Order.{same-pos}
use Rattle.map_rows.proofs.Rows.{nodes_length, edges_length}
use Rattle.tables.proofs.Writes.{column_swept, wide-map}
use Rattle.tables.proofs.Filled.{Wide}
use Rattle.map.proofs.RoundTrip.{nodes_wide}
use Rattle.map_rows.proofs.RowCurves.{table_edges_wide}

-- f for the face o
abbrev once : ℕ → ℕ → ℕ → ℕ
once o f g = cond (same g o) f g

abbrev once_in : ℕ → ℕ → Option ℕ → Option ℕ
once_in o f none = none
once_in o f (some g) = some (once o f g)

abbrev once_node : ℕ → ℕ → Node → Node
once_node o f n = with_face (once_in o f n.face) n

abbrev once_left : ℕ → ℕ → Edge → Edge
once_left o f e = with_sides (once o f e.left) e.right e

abbrev once_right : ℕ → ℕ → Edge → Edge
once_right o f e = with_sides e.left (once o f e.right) e

node_row_lem : (o f : ℕ) (n : Node) → replace_at (pos o) (pos f) (node_cells n) 3 ≡ node_cells (once_node o f n)
unfolding node_cells
node_row_lem o f n = go n.face
  where
    go : (q : Option ℕ) → replace_at (pos o) (pos f)
        (pos n.number ∷ pos n.at.x ∷ pos n.at.y ∷ face_cell q ∷ []) 3 ≡ pos n.number ∷ pos n.at.x
        ∷ pos n.at.y ∷ face_cell (once_in o f q) ∷ []
    go none = refl
    go (some g) = elim (which (same g o)) [ inl e ↦ rw (same-pos g o, e) | inr e ↦ rw (same-pos g o, e) ]

left_row : (o f : ℕ) (e : Edge) → replace_at (pos o) (pos f) (edge_cells e) 5 ≡ edge_cells (once_left o f e)
unfolding edge_cells
left_row o f e = elim (which (same e.left o)) [
  | inl h ↦ rw (same-pos e.left o, h)
  | inr h ↦ rw
      (same-pos e.left o, h)
]

right_row : (o f : ℕ) (e : Edge) → replace_at (pos o) (pos f) (edge_cells e) 6 ≡ edge_cells (once_right o f e)
unfolding edge_cells
right_row o f e = elim (which (same e.right o)) [
  | inl h ↦ rw (same-pos e.right o, h)
  | inr h ↦ rw
      (same-pos e.right o, h)
]

-- a face renamed in all rows of a column
abbrev pub swept_column : ℕ → ℕ → ℕ → ℕ → ℤ → ℤ → List ℤ → List ℤ
swept_column w k a n old new l = sweep (λ l i. replace_at old new l (i * w + k)) l a n

-- rows as long as they were

pub sides_wide : (l r : ℕ) (e : Edge) → length (edge_cells (with_sides l r e)) ≡ length (edge_cells e)
unfolding edge_cells
sides_wide l r e = refl

map_both : {A : Type 0} (f g h : A → A) → ((x : A) → g (f x) ≡ h x) → (xs : List A) → map g (map f xs) ≡ map h xs
map_both f g h e [] = refl
map_both {A} f g h e (x ∷ xs) = λ i. e x i ∷ map_both f g h e xs i

pub map_size : {A : Type 0} (f : A → A) (xs : List A) (n : ℕ) → length xs ≡ n → length (map f xs) ≡ n
map_size f xs n e = len xs ∙ e
  where
    len : (ys : List _) → length (map f ys) ≡ length ys
    len [] = refl
    len (y ∷ ys) = ap suc (len ys)

-- left and then right renamed
twice : (row : Edge) (f g : ℕ) → once row.right f (once row.left f g) ≡ renamed row f g
twice row f g =
    elim (which (same g row.left)) [
      | inl e ↦ rw e (elim (which (same f row.right)) [ inl h ↦ rw h | inr h ↦ rw h ])
      | inr e ↦ rw e
    ]

twice_node : (row : Edge) (f : ℕ) (n : Node) → once_node row.right f (once_node row.left f n)
    ≡ renamed_node row f n n.face
twice_node row f n = go n.face refl
  where
    go : (q : Option ℕ) → n.face ≡ q → with_face (once_in row.right f (once_in row.left f q)) n
        ≡ renamed_node row f n q
    go none e = λ i. record { number = n.number; at = n.at; face = sym e i }
    go (some g) e = ap (λ (k : ℕ). with_face (some k) n) (twice row f g)

twice_edge : (row : Edge) (f : ℕ) (e : Edge)
    → once_right row.right f (once_left row.right f (once_right row.left f (once_left row.left f e)))
    ≡ with_sides (renamed row f e.left) (renamed row f e.right) e
twice_edge row f e = λ i. with_sides (twice row f e.left i) (twice row f e.right i) e

module _ (row : Edge) (f : ℕ) where
  -- node rows, left renamed and then right
  pub nodes_renamed : (N n : ℕ) (ns : List Node) → length ns ≡ n
      → swept_column node_width 3 0 n (pos row.right) (pos f)
      (swept_column node_width 3 0 n (pos row.left) (pos f) (filled N (flat_map node_cells ns)))
      ≡ filled N (flat_map node_cells (map (λ n. renamed_node row f n n.face) ns))
  nodes_renamed N n ns e =
      let ns₁ = map (once_node row.left f) ns in
      ap (λ (k : ℕ). swept_column node_width 3 0 k (pos row.right) (pos f)
      (swept_column node_width 3 0 k (pos row.left) (pos f) (filled N (flat_map node_cells ns)))) (sym e)
      ∙ ap (swept_column node_width 3 0 (length ns) (pos row.right) (pos f))
      (column_swept node_width node_cells (pos row.left) (pos f) 3 (once_node row.left f) (lit< tt)
      (node_row_lem row.left f) N ns (nodes_wide ns))
      ∙ ap (λ (k : ℕ). swept_column node_width 3 0 k (pos row.right) (pos f) (filled N (flat_map node_cells ns₁)))
      (sym (map_size (once_node row.left f) ns (length ns) refl))
      ∙ column_swept node_width node_cells (pos row.right) (pos f) 3 (once_node row.right f) (lit< tt)
      (node_row_lem row.right f) N ns₁ (nodes_wide ns₁)
      ∙ ap (λ (r : List Node). filled N (flat_map node_cells r))
      (map_both (once_node row.left f) (once_node row.right f) (λ n. renamed_node row f n n.face)
      (twice_node row f) ns)

  -- a column of the edges
  one_left : (o : ℕ) (N n : ℕ) (es : List Edge) → length es ≡ n → Wide edge_width edge_cells es
      → swept_column edge_width 5 0 n (pos o) (pos f) (filled N (flat_map edge_cells es))
      ≡ filled N (flat_map edge_cells (map (once_left o f) es))
  one_left o N n es e w =
      ap (λ (k : ℕ). swept_column edge_width 5 0 k (pos o) (pos f) (filled N (flat_map edge_cells es))) (sym e)
      ∙ column_swept edge_width edge_cells (pos o) (pos f) 5 (once_left o f) (lit< tt) (left_row o f) N es w

  one_right : (o : ℕ) (N n : ℕ) (es : List Edge) → length es ≡ n → Wide edge_width edge_cells es
      → swept_column edge_width 6 0 n (pos o) (pos f) (filled N (flat_map edge_cells es))
      ≡ filled N (flat_map edge_cells (map (once_right o f) es))
  one_right o N n es e w =
      ap (λ (k : ℕ). swept_column edge_width 6 0 k (pos o) (pos f) (filled N (flat_map edge_cells es))) (sym e)
      ∙ column_swept edge_width edge_cells (pos o) (pos f) 6 (once_right o f) (lit< tt) (right_row o f) N es w

  abbrev both_sides : ℕ → Edge → Edge
  both_sides o e = with_sides (once o f e.left) (once o f e.right) e

  -- both sides
  one-both : (o : ℕ) (N n : ℕ) (es : List Edge) → length es ≡ n → Wide edge_width edge_cells es
      → swept_column edge_width 6 0 n (pos o) (pos f)
      (swept_column edge_width 5 0 n (pos o) (pos f) (filled N (flat_map edge_cells es)))
      ≡ filled N (flat_map edge_cells (map (both_sides o) es))
  one-both o N n es e w =
      let es₁ = map (once_left o f) es in
      ap (swept_column edge_width 6 0 n (pos o) (pos f)) (one_left o N n es e w)
      ∙ one_right o N n es₁ (map_size (once_left o f) es n e)
      (wide-map edge_width edge_cells (once_left o f) (λ x e. sides_wide (once o f x.left) x.right x ∙ e) es w)
      ∙ ap (λ (r : List Edge). filled N (flat_map edge_cells r))
      (map_both (once_left o f) (once_right o f) (both_sides o) (λ x. refl) es)

  pub edges_renamed : (N n : ℕ) (es : List Edge) → length es ≡ n → Wide edge_width edge_cells es
      → swept_column edge_width 6 0 n (pos row.right) (pos f)
      (swept_column edge_width 5 0 n (pos row.right) (pos f)
      (swept_column edge_width 6 0 n (pos row.left) (pos f)
      (swept_column edge_width 5 0 n (pos row.left) (pos f) (filled N (flat_map edge_cells es)))))
      ≡ filled N (flat_map edge_cells (map (λ r. with_sides (renamed row f r.left) (renamed row f r.right) r) es))
  edges_renamed N n es e w =
      let es₁ = map (both_sides row.left) es in
      ap (λ (l : List ℤ). swept_column edge_width 6 0 n (pos row.right) (pos f)
      (swept_column edge_width 5 0 n (pos row.right) (pos f) l)) (one-both row.left N n es e w)
      ∙ one-both row.right N n es₁ (map_size (both_sides row.left) es n e)
      (wide-map edge_width edge_cells (both_sides row.left)
      (λ x e. sides_wide (once row.left f x.left) (once row.left f x.right) x ∙ e) es w)
      ∙ ap (λ (r : List Edge). filled N (flat_map edge_cells r))
      (map_both (both_sides row.left) (both_sides row.right)
      (λ r. with_sides (renamed row f r.left) (renamed row f r.right) r) (twice_edge row f) es)

-- what the two sweeps leave in the tables
module _ (row : Edge) (f : ℕ) (m : Map) (left right face : ℤ) (il : left ≡ pos row.left)
    (ir : right ≡ pos row.right) (ifc : face ≡ pos f) where
  pub node_table_lem : (nodes : List ℤ) (n : ℕ) → m.nodes ≡ nodes_of nodes n
      → filled (length nodes) (flat_map node_cells (nodes_of nodes n)) ≡ nodes
      → filled (length nodes) (flat_map node_cells (renamed_faces row f m).nodes)
      ≡ swept_column node_width 3 0 n right face (swept_column node_width 3 0 n left face nodes)
  unfolding renamed_faces
  node_table_lem nodes n en cells =
      ap (λ (ns : List Node). filled (length nodes)
      (flat_map node_cells (map (λ n. renamed_node row f n n.face) ns))) en
      ∙ sym (nodes_renamed row f (length nodes) n (nodes_of nodes n) (nodes_length nodes n))
      ∙ (λ i. swept_column node_width 3 0 n (sym ir i) (sym ifc i)
      (swept_column node_width 3 0 n (sym il i) (sym ifc i) (cells i)))

  pub edge-table : (edges : List ℤ) (e : ℕ) → m.edges ≡ edges_of edges e → EdgeRows edges e
      → filled (length edges) (flat_map edge_cells (edges_of edges e)) ≡ edges
      → filled (length edges) (flat_map edge_cells (renamed_faces row f m).edges)
      ≡ swept_column edge_width 6 0 e right face
      (swept_column edge_width 5 0 e right face
      (swept_column edge_width 6 0 e left face (swept_column edge_width 5 0 e left face edges)))
  unfolding renamed_faces
  edge-table edges e ee rows cells =
      ap (λ (es : List Edge). filled (length edges)
      (flat_map edge_cells (map (λ r. with_sides (renamed row f r.left) (renamed row f r.right) r) es))) ee
      ∙ sym (edges_renamed row f (length edges) e (edges_of edges e) (edges_length edges e)
      (table_edges_wide edges e rows.fits rows.ranges))
      ∙ (λ i. swept_column edge_width 6 0 e (sym ir i) (sym ifc i)
      (swept_column edge_width 5 0 e (sym ir i) (sym ifc i)
      (swept_column edge_width 6 0 e (sym il i) (sym ifc i)
      (swept_column edge_width 5 0 e (sym il i) (sym ifc i) (cells i)))))
