-- Rows that directed edges name, and the parts of `named` that they tell. Assumes nothing.
use mathlib.Core.Path.{◌≡◌, refl, sym, ap, ap₂, ◌∙◌}
use mathlib.Core.Bool.{Bool, true, false, ◌&&◌}
use mathlib.Core.List.{List, [], ◌∷◌}
use mathlib.Core.Option.{Option, none, some}
use Prim.Native.Nat.{ℕ, zero, suc, ◌+◌, ◌*◌, ◌≤◌, ◌<◌}
use native.Mathlib.Omega.{arith}
use lib.IntN.{ℤ, pos}
use lib.ListN.{get_or}
use Rattle.lists.specs.Scans.{all_of}
use Rattle.lists.specs.Tables.{table}
use Rattle.lists.proofs.Bools.{eq4, &&-false}
use Rattle.tables.proofs.Rows.{rows_all}
use Rattle.tables.proofs.Rising.{all_same}
use Rattle.map.specs.declared.Head.{Head}
use Rattle.map.specs.Rows.{Edge, Map, has_node, has_edge, has_face, dart_of}
use Rattle.map.specs.Form.{in_face, edge_names, edge_ranges, named}
use Rattle.map.specs.declared.Counts.{Counts}
use Rattle.map_rows.specs.Rows.{nodes_of, edges_of, edge_at}
use Rattle.map_rows.proofs.Rows.{EdgeCells, edge_cells_lem, edges_table}
use Rattle.darts.proofs.Positions.{side_even, side_odd}
use Rattle.form_ranges.specs.Ranges.{map_in, face_map, InOrder}
use Rattle.form_ranges.proofs.Parts.{node_rows_lem, edges_in_order, face_rows_lem}
use Rattle.form_references.specs.Sides.{has_row, has_link, both_sides, all_sides}
use Rattle.form_references.proofs.Names.{node-named, face_named, dart_edge}

-- ---- tests of all rows

-- two tables that two tests take alike
all_tables : {A B : Type 0} (p : A → Bool) (q : B → Bool) (f : ℕ → A) (g : ℕ → B) (a n : ℕ)
    → ((i : ℕ) → a ≤ i → i < a + n → p (f i) ≡ q (g i)) → all_of p (table f a n) ≡ all_of q (table g a n)
all_tables p q f g a zero h = refl
all_tables p q f g a (suc n) h = rw (
  h a (omega arith) (omega arith),
  all_tables p q f g (a + 1) n (λ i s t. h i (omega arith) (omega arith)),
)

-- a test of two parts
all_both : {A : Type 0} (p q : A → Bool) (l : List A) → all_of (λ r. p r && q r) l ≡ all_of p l && all_of q l
all_both p q [] = refl
all_both p q (r ∷ l) = rw (all_both p q l)
    (eq4 (λ a b c d. (a && b) && (c && d)) (λ a b c d. (a && c) && (b && d)) tt (p r) (q r) (all_of p l) (all_of q l))

-- the names of an edge, by table
module _ (m : Map) where
  abbrev pub ends_named : Edge → Bool
  ends_named e = has_node m e.start && has_node m e.end

  abbrev pub links_named : Edge → Bool
  links_named e = has_edge m e.next_left.edge && has_edge m e.next_right.edge

  abbrev pub sides_named : Edge → Bool
  sides_named e = has_face m e.left && has_face m e.right

  regroup : (a b c d e : Bool) → a && b && c && d && e ≡ (d && e) && (a && (b && c))
  regroup true b c d e = eq4 (λ b c d e. b && c && d && e) (λ b c d e. (d && e) && (b && c)) tt b c d e
  regroup false b c d e = sym (&&-false (d && e))

  pub names_parts : (l : List Edge) → all_of (edge_names m) l ≡ all_of sides_named l
      && (all_of ends_named l && all_of links_named l)
  names_parts l =
      all_same (edge_names m) (λ e. sides_named e && (ends_named e && links_named e))
      (λ e. regroup (ends_named e) (has_edge m e.next_left.edge) (has_edge m e.next_right.edge)
      (has_face m e.left) (has_face m e.right)) l
      ∙ all_both sides_named (λ e. ends_named e && links_named e) l
      ∙ ap (λ (b : Bool). all_of sides_named l && b) (all_both ends_named links_named l)

-- a test of the numbers in columns k and k + 1
pair_named_lem : (q : ℤ → Bool) (l : List ℤ) (n k : ℕ) (u v : Edge → Bool)
    → ((i : ℕ) → i < n → q (get_or l (i * 32 + k) (pos 0)) ≡ u (edge_at l i))
    → ((i : ℕ) → i < n → q (get_or l (i * 32 + (k + 1)) (pos 0)) ≡ v (edge_at l i))
    → all_sides q l k n ≡ all_of (λ e. u e && v e) (edges_of l n)
pair_named_lem q l n k u v first second =
    all_tables (both_sides q l k) (λ e. u e && v e) (λ i. i) (edge_at l) 0 n
    (λ i s h. ap₂ ◌&&◌ (ap q (side_even l i k) ∙ first i (omega arith))
    (ap q (side_odd l i k) ∙ second i (omega arith)))
    ∙ ap (all_of (λ e. u e && v e)) (sym (edges_table l n))

-- faces are looked up among the faces
in_faces_lem : (nodes edges faces : List ℤ) (c : Counts) (h : Head) (o : Option ℕ) → in_face (map_in nodes edges faces c h) o
    ≡ in_face (face_map faces c.faces) o
in_faces_lem nodes edges faces c h none = refl
in_faces_lem nodes edges faces c h (some f) = refl

-- the passes: over the nodes' faces, and over the sides, the ends and the links of edges
module _ (nodes edges faces : List ℤ) (c : Counts) where
  abbrev pub faces_pass : Bool
  faces_pass = all_of (λ n. in_face (face_map faces c.faces) n.face) (nodes_of nodes c.nodes)

  abbrev pub sides_pass : Bool
  sides_pass = all_sides (has_row 5 faces c.faces) edges 5 c.edges

  abbrev pub ends_pass : Bool
  ends_pass = all_sides (has_row 4 nodes c.nodes) edges 1 c.edges

  abbrev pub links_pass : Bool
  links_pass = all_sides (has_link edges c.edges) edges 3 c.edges

-- named rows exist where all of them pass
module _ {nodes edges faces : List ℤ} {c : Counts} {h₀ : Head} (r : InOrder nodes edges faces c h₀) (h : Head) where
  pub named-parts : named (map_in nodes edges faces c h) ≡ faces_pass nodes edges faces c
      && (sides_pass nodes edges faces c && (ends_pass nodes edges faces c && links_pass nodes edges faces c))
  unfolding named
  named-parts =
      ap₂ ◌&&◌ (all_same (λ n. in_face m n.face) (λ n. in_face (face_map faces c.faces) n.face)
      (λ n. in_faces_lem nodes edges faces c h n.face) (nodes_of nodes c.nodes))
      (names_parts m (edges_of edges c.edges) ∙ ap₂ ◌&&◌ (sym sides) (ap₂ ◌&&◌ (sym ends) (sym links)))
    where
      m : Map
      m = map_in nodes edges faces c h

      cells : (i : ℕ) → i < c.edges → EdgeCells edges i
      cells i l = edge_cells_lem edges i (rows_all 32 edges edge_ranges c.edges (edges_in_order r).ranges i l)

      face : {z : ℤ} {n : ℕ} → z ≡ pos n → has_row 5 faces c.faces z ≡ has_face m n
      face {n = n} e = ap (has_row 5 faces c.faces) e ∙ face_named (face_rows_lem r) n

      node : {z : ℤ} {n : ℕ} → z ≡ pos n → has_row 4 nodes c.nodes z ≡ has_node m n
      node {n = n} e = ap (has_row 4 nodes c.nodes) e ∙ node-named (node_rows_lem r) n

      link : (z : ℤ) {k : ℕ} → (dart_of z).edge ≡ k → has_link edges c.edges z ≡ has_edge m k
      link z e = ap (has_edge m) (dart_edge z ∙ e)

      sides : sides_pass nodes edges faces c ≡ all_of (sides_named m) (edges_of edges c.edges)
      sides = pair_named_lem (has_row 5 faces c.faces) edges c.edges 5 (λ e. has_face m e.left)
          (λ e. has_face m e.right) (λ i l. face (cells i l).left) (λ i l. face (cells i l).right)

      ends : ends_pass nodes edges faces c ≡ all_of (ends_named m) (edges_of edges c.edges)
      ends = pair_named_lem (has_row 4 nodes c.nodes) edges c.edges 1 (λ e. has_node m e.start)
          (λ e. has_node m e.end) (λ i l. node (cells i l).start) (λ i l. node (cells i l).end)

      links : links_pass nodes edges faces c ≡ all_of (links_named m) (edges_of edges c.edges)
      links = pair_named_lem (has_link edges c.edges) edges c.edges 3 (λ e. has_edge m e.next_left.edge)
          (λ e. has_edge m e.next_right.edge)
          (λ i l. link (get_or edges (i * 32 + 3) (pos 0)) (ap (λ d. d.edge) (cells i l).next_left))
          (λ i l. link (get_or edges (i * 32 + 4) (pos 0)) (ap (λ d. d.edge) (cells i l).next_right))

  module _ (faces-pass : faces_pass nodes edges faces c ≡ true) where
    module _ (sides-pass : sides_pass nodes edges faces c ≡ true) where
      pub links_tell : {b : Bool} → ends_pass nodes edges faces c ≡ true → b ≡ links_pass nodes edges faces c → b
          ≡ named (map_in nodes edges faces c h)
      links_tell ends-pass e = e ∙ sym (named-parts ∙ rw (faces-pass, sides-pass, ends-pass))

      pub no_ends : ends_pass nodes edges faces c ≡ false → false ≡ named (map_in nodes edges faces c h)
      no_ends e = sym (named-parts ∙ rw (faces-pass, sides-pass, e))

    pub no_sides : sides_pass nodes edges faces c ≡ false → false ≡ named (map_in nodes edges faces c h)
    no_sides e = sym (named-parts ∙ rw (faces-pass, e))

  pub no_faces : faces_pass nodes edges faces c ≡ false → false ≡ named (map_in nodes edges faces c h)
  no_faces e = sym (named-parts ∙ rw e)
