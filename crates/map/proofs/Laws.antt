-- Numbers of a map in form: they rise, so none stands twice and a row is found by its number; all are below the next
-- number, so a new number is new. Decoding and encoding undo each other. Assumes nothing.
use mathlib.Core.Path.{◌≡◌}
use mathlib.Core.Bool.{true, ◌&&◌}
use mathlib.Core.List.Memᴰ
use mathlib.Core.List.{List, map, Memᴰ}
use mathlib.Core.Option.{some}
use Prim.Native.Nat.{ℕ, ◌≤◌, ◌<◌}
use native.Mathlib.Omega.{arith}
use lib.ListN.{length}
use Rattle.lists.specs.Tests.{same}
use Rattle.lists.specs.Scans.{all_of, first_or}
use Rattle.lists.specs.Members.{Distinct}
use Rattle.lists.proofs.Bools.{same_true, and-true}
use Rattle.lists.proofs.Members.{all_each}
use Rattle.lists.proofs.Rising.{Rising, rising, rising_distinct}
use Rattle.lists.proofs.Lookups.{look_at, look_row}
use Rattle.curves.specs.Curves.{points, max_points}
use Rattle.map.specs.Rows.{Node, Edge, Map, Lent, Sizes, map_of, lent_of, sizes_of, whole, find_edge}
use Rattle.map.specs.Rows.{has_node, has_edge, has_face, node, edge, face_rows, rectangle}
use Rattle.map.specs.Form.{ranged, numbers, in_face, edge_names, named, curve_fits, departures_differ}
use Rattle.tables.specs.Tables.{numbered}
use Rattle.map.specs.Form.{bare_marked, links_once, links_meet, rings_bear_one, formed, has_box, boxed, in_form}
use Rattle.map.proofs.RoundTrip.{Holds, Points, reads_back, writes_back, ranged-points}

-- ---- rows by number

module _ (m : Map) where
  -- a row is found by its number
  pub edge_row_lem : Distinct (map (λ e. e.number) m.edges) → (r : Edge) → Memᴰ r m.edges
      → edge m r.number ≡ r
  unfolding edge
  edge_row_lem dis r k = look_at (λ (e : Edge). e.number) _ m.edges dis k

  -- a row that is found is the row
  pub edge_is : (e : ℕ) (r : Edge) → find_edge m e ≡ some r → edge m e ≡ r
  unfolding edge
  edge_is e r q = rw q

  -- a row that exists is a row of its number
  pub node_there_lem : (n : ℕ) → has_node m n ≡ true → Memᴰ (node m n) m.nodes × ((node m n).number ≡ n)
  unfolding node
  node_there_lem n h = look_row (λ (n : Node). n.number) _ m.nodes n h

  pub edge_there_lem : (e : ℕ) → has_edge m e ≡ true → Memᴰ (edge m e) m.edges × ((edge m e).number ≡ e)
  unfolding edge
  edge_there_lem e h = look_row (λ (e : Edge). e.number) _ m.edges e h

-- ---- numbers in form

-- what the numbers of a table obey
pub record TableNumbers (least next : ℕ) (ns : List ℕ) : Type 0 where
  pub rising : Rising least next ns
  pub distinct : Distinct ns
  pub from : (n : ℕ) → Memᴰ n ns → least ≤ n
  pub below : (n : ℕ) → Memᴰ n ns → n < next

pub numbered_is : (least next : ℕ) (ns : List ℕ) → numbered least next ns ≡ true → TableNumbers least next ns
numbered_is least next ns h =
    let r = rising least next ns h in
    record {
      rising = r;
      distinct = rising_distinct ns r.rises;
      from = λ n k. (r.bounds n k).0;
      below = λ n k. (r.bounds n k).1;
    }

-- the three tables; face 0 is the first
pub record Numbers (m : Map) : Type 0 where
  pub nodes : TableNumbers 1 m.next.nodes (map (λ n. n.number) m.nodes)
  pub edges : TableNumbers 1 m.next.edges (map (λ e. e.number) m.edges)
  pub faces : TableNumbers 0 m.next.faces m.faces
  pub zero : first_or 1 m.faces ≡ 0

pub numbers_are : (m : Map) → numbers m ≡ true → Numbers m
unfolding numbers
numbers_are m h =
    let h₁ = and-true _ (same (first_or 1 m.faces) 0) h in
    let h₂ = and-true _ (numbered 0 m.next.faces m.faces) h₁.0 in
    let h₃ = and-true _ (numbered 1 m.next.edges (map (λ e. e.number) m.edges)) h₂.0 in
    record {
      nodes = numbered_is _ _ _ h₃.0;
      edges = numbered_is _ _ _ h₃.1;
      faces = numbered_is _ _ _ h₂.1;
      zero = same_true (first_or 1 m.faces) 0 h₁.1;
    }

-- ---- a map in form

-- the conditions on rows, one by one
pub record Formed (m : Map) : Type 0 where
  pub rising : numbers m ≡ true
  pub numbers : Numbers m
  pub named : named m ≡ true
  pub curves : all_of (curve_fits m) m.edges ≡ true
  pub departures : departures_differ m ≡ true
  pub bare : bare_marked m ≡ true
  pub once : links_once m ≡ true
  pub meet : links_meet m ≡ true
  pub rings : rings_bear_one m ≡ true

pub formed_is : (m : Map) → formed m ≡ true → Formed m
unfolding formed
formed_is m h =
    let h₁ = and-true _ (rings_bear_one m) h in
    let h₂ = and-true _ (links_meet m) h₁.0 in
    let h₃ = and-true _ (links_once m) h₂.0 in
    let h₄ = and-true _ (bare_marked m) h₃.0 in
    let h₅ = and-true _ (departures_differ m) h₄.0 in
    let h₆ = and-true _ (all_of (curve_fits m) m.edges) h₅.0 in
    let h₇ = and-true (numbers m) (named m) h₆.0 in
    record {
      rising = h₇.0;
      numbers = numbers_are m h₇.0;
      named = h₇.1;
      curves = h₆.1;
      departures = h₅.1;
      bare = h₄.1;
      once = h₃.1;
      meet = h₂.1;
      rings = h₁.1;
    }

module _ (m : Map) (h : formed m ≡ true) where
  ns : Numbers m
  ns = (formed_is m h).numbers

  -- numbers in use are below the next number
  pub face_below : (f : ℕ) → Memᴰ f m.faces → f < m.next.faces
  face_below f k = ns.faces.below f k

  -- edges count from 1, and links name edges
  edge-from : (e : ℕ) → has_edge m e ≡ true → 1 ≤ e
  edge-from e k =
      let r = edge_there_lem m e k in
      let least = ns.edges.from (edge m e).number (Memᴰ.map (λ (e : Edge). e.number) r.0) in
      let same = r.1 in
      omega arith

  pub names : (r : Edge) → Memᴰ r m.edges → edge_names m r ≡ true
  unfolding named
  names r k = all_each (edge_names m) m.edges
      (and-true (all_of (λ n. in_face m n.face) m.nodes) (all_of (edge_names m) m.edges)
      (formed_is m h).named).1 r k

  pub holds : (r : Edge) → Memᴰ r m.edges → length (points r.curve) ≤ max_points → Holds r
  holds r k few =
      let h₁ = and-true _ (has_face m r.right) (names r k) in
      let h₂ = and-true _ (has_face m r.left) h₁.0 in
      let h₃ = and-true _ (has_edge m r.next_right.edge) h₂.0 in
      let h₄ = and-true (has_node m r.start && has_node m r.end) (has_edge m r.next_left.edge) h₃.0 in
      record {
        few = few;
        left = λ b z. let k = edge-from r.next_left.edge h₄.1 in absurd (omega arith);
        right = λ b z. let k = edge-from r.next_right.edge h₃.1 in absurd (omega arith);
      }

  -- a map in form, with curves of at most 12 points, is read back from the tables
  pub formed-back : (s : Sizes) → ((r : Edge) → Memᴰ r m.edges → length (points r.curve) ≤ max_points)
      → map_of (lent_of s m) ≡ m
  formed-back s few = reads_back (rectangle m.edges) s m (λ r k. holds r k (few r k))

-- in form, part by part
pub record InForm (l : Lent) : Type 0 where
  pub ranged : ranged l ≡ true
  pub formed : formed (map_of l) ≡ true
  pub boxed : all_of (has_box (rectangle (map_of l).edges)) (face_rows l) ≡ true

pub in_form_is : (l : Lent) → in_form l ≡ true → InForm l
unfolding in_form boxed
in_form_is l h =
    let h₁ = and-true (ranged l && formed (map_of l)) (boxed l) h in
    let h₂ = and-true (ranged l) (formed (map_of l)) h₁.0 in
    record { ranged = h₂.0; formed = h₂.1; boxed = h₁.1 }

-- whole tables in form are written again as they were
pub in_form-back : (l : Lent) → whole l ≡ true → in_form l ≡ true → lent_of (sizes_of l) (map_of l) ≡ l
in_form-back l w h = let i = in_form_is l h in writes_back (rectangle (map_of l).edges) l w i.ranged i.boxed

pub in_form-points : (l : Lent) → in_form l ≡ true → (e : Edge) → Memᴰ e (map_of l).edges → Points e
in_form-points l h = ranged-points l (in_form_is l h).ranged
