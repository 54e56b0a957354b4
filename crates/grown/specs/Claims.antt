-- What is claimed of every list of tickets, kinds mixed, senseless and refused ones included, for 6 points as for 12:
-- `Sizes` has the limit with it. Proved in proofs/: Grows.antt (`grows`, `never_lent`), Claimed.antt (`keeps_law`,
-- `pieces_counted`), NeverBack.antt (`gives_numbers`, `never_back`, `grown_never_back`), RedrawnSides.antt
-- (`redraw_keeps_sides`), SplitHeal.antt (`split_cancelled`, `split-renewed`, `split-spent`).
use Rattle.std.specs.Prelude.{◌≡◌, Bool, true, cond, ◌≢◌, ◌↔◌, ℕ, ◌+◌, ◌-◌, ◌≤◌, ◌<◌, ℤ, pos, nat_abs, ◌+ℤ◌}
use mathlib.Core.List.{List, [], ◌∷◌, ◌++◌, map, Memᴰ}
use Rattle.integers.specs.Order.{sgn}
use Rattle.lists.specs.Tests.{same}
use Rattle.lists.specs.Scans.{keep, count_of}
use Rattle.lists.specs.Tables.{table}
use Rattle.plane.specs.declared.Point.{Point}
use Rattle.plane.specs.Areas.{is_positive}
use Rattle.planar_maps.specs.Map.{Dart}
use Rattle.planar_maps.specs.Pieces.{Chain}
use Rattle.map.specs.declared.Head.{Head}
use Rattle.map.specs.Limits.{max_nodes, max_edges, max_faces, last_number}
use Rattle.map.specs.Rows.{Edge, Map, Lent, Sizes, map_of, lent_of, sizes_of, edge, set_edges, without_edge}
use Rattle.map.specs.Darts.{arcs, directed, bears, ring, piece_count}
use Rattle.map.specs.Faces.{encloses, ring_area}
use Rattle.map.specs.Form.{formed, in_form}
use Rattle.map.specs.Links.{with_links, obeys_law}
use Rattle.map.specs.Tickets.{ChangeEdgeGeom}
use Rattle.map.specs.Reasons.{first_reason, reasons, side_points}
use Rattle.map.specs.Ticket.{Outcome, refused, carried, lent_reasons, ticket}
use Rattle.map.specs.Grow.{after, grow}
use Rattle.map.specs.Sound.{Sound}

-- what is lent after any tickets
pub record GrownMap (l : Lent) : Type 0 where
  -- the four statements of demand 3
  pub sound : Sound (map_of l)
  -- condition 2 never answers
  pub in_form : in_form l ≡ true
  -- all links obey the link law
  pub lawful : obeys_law (map_of l) ≡ true
  -- every face number but 0 is borne by some directed edge
  pub borne :
      (f : ℕ) → Memᴰ f (map_of l).faces → f ≢ 0
      → (d : Dart) × Memᴰ d (directed (map_of l)) × (bears (map_of l) d ≡ f)

-- for all sizes that hold the empty map and all lists of tickets
abbrev pub Grows : Type 0
Grows = (s : Sizes) → 1 ≤ s.faces → (ts : List (List ℤ)) → GrownMap (grow s ts).lent

-- within the limits, and with room for face 0
pub record Limited (s : Sizes) : Type 0 where
  pub some_face : 1 ≤ s.faces
  pub nodes : s.nodes ≤ max_nodes
  pub edges : s.edges ≤ max_edges
  pub faces : s.faces ≤ max_faces

-- for all sizes within the limits and all lists of tickets neither 1 nor 2 ever answers
abbrev pub NeverLent : Type 0
NeverLent = (s : Sizes) → Limited s → (ts : List (List ℤ)) → first_reason (lent_reasons (grow s ts).lent) ≡ 0

-- ---- the link law, and pieces

-- whatever the tables: after every ticket, carried out or turned down, all links obey the law if they did before
abbrev pub KeepsLaw : Type 0
KeepsLaw = (l : Lent) (t : List ℤ) → obeys_law (map_of l) ≡ true → obeys_law (map_of (ticket l t).lent) ≡ true

-- there are as many pieces as node rows from which no chain leads to a node of lower number
pub record Pieces (m : Map) : Type 0 where
  pub lowest : ℕ → Bool
  pub takes : (n : ℕ) → (lowest n ≡ true) ↔ ((k : ℕ) → Chain (arcs m) n k → n ≤ k)
  pub count : piece_count m ≡ count_of (λ r. lowest r.number) m.nodes

abbrev pub PiecesCounted : Type 0
PiecesCounted = (m : Map) → Pieces m

-- ---- numbers are never given twice

-- one table: the numbers after are some of those before, in their order, and then next, next + 1, .. below then
pub record Given (before : List ℕ) (next : ℕ) (after : List ℕ) (then : ℕ) : Type 0 where
  pub rises : next ≤ then
  pub stays : ℕ → Bool
  pub numbers : after ≡ keep stays before ++ table (λ n. n) next (then - next)

abbrev pub node_numbers : Map → List ℕ
node_numbers m = map (λ n. n.number) m.nodes

abbrev pub edge_numbers : Map → List ℕ
edge_numbers m = map (λ e. e.number) m.edges

pub record NumbersGiven (m m' : Map) : Type 0 where
  pub nodes : Given (node_numbers m) m.next.nodes (node_numbers m') m'.next.nodes
  pub edges : Given (edge_numbers m) m.next.edges (edge_numbers m') m'.next.edges
  pub faces : Given m.faces m.next.faces m'.faces m'.next.faces

-- every ticket on all tables
abbrev pub GivesNumbers : Type 0
GivesNumbers = (l : Lent) (t : List ℤ) → NumbersGiven (map_of l) (map_of (ticket l t).lent)

-- one table: next numbers do not fall, and a number below the next one that is in use after was in use before
pub record NotBack (before : List ℕ) (next : ℕ) (after : List ℕ) (then : ℕ) : Type 0 where
  pub rises : next ≤ then
  pub old : (n : ℕ) → n < next → Memᴰ n after → Memᴰ n before

pub record NoneBack (m m' : Map) : Type 0 where
  pub nodes : NotBack (node_numbers m) m.next.nodes (node_numbers m') m'.next.nodes
  pub edges : NotBack (edge_numbers m) m.next.edges (edge_numbers m') m'.next.edges
  pub faces : NotBack m.faces m.next.faces m'.faces m'.next.faces

-- what any list of tickets does, on all tables
abbrev pub NeverBack : Type 0
NeverBack = (l : Lent) (ts : List (List ℤ)) → NoneBack (map_of l) (map_of (after l ts).lent)

-- and further tickets on every grown map
abbrev pub GrownNeverBack : Type 0
GrownNeverBack = (s : Sizes) (ts us : List (List ℤ))
    → NoneBack (map_of (grow s ts).lent) (map_of (grow s (ts ++ us)).lent)

-- ---- document 02 (i): a carried-out redrawing changes no side

-- every ring of m, by its links: its area is positive in m' exactly if it was in m, and of these points it encloses the
-- same
pub record SidesKept (m m' : Map) (ps : List Point) : Type 0 where
  pub areas :
      (d : Dart) → Memᴰ d (directed m)
      → is_positive (sgn (ring_area m' (ring m' d))) ≡ is_positive (sgn (ring_area m (ring m d)))
  pub points :
      (d : Dart) → Memᴰ d (directed m) → (p : Point) → Memᴰ p ps
      → encloses m' (ring m' d) p ≡ encloses m (ring m d) p

-- whatever map in form, grown or not: after a kind 6 that nothing turns down all rings have kept their sides, not only
-- the two beside the edge, as to the isolated nodes and to the rings on other pieces (`side_points`)
abbrev pub RedrawKeepsSides : Type 0
RedrawKeepsSides = (s : Sizes) (m : Map) (e : ℤ) (c : List ℤ) → formed m ≡ true
    → first_reason (reasons s m (ChangeEdgeGeom e c)) ≡ 0
    → SidesKept m (carried m (ChangeEdgeGeom e c)).0
    (side_points m (edge m (nat_abs e)).start)

-- ---- document 02 (vi): on every grown map a split that is healed at once gives the sheet back

-- so many numbers more given to nodes and edges
abbrev pub raised : ℕ → ℕ → Head → Head
raised a b h =
    record {
      nodes = h.nodes;
      edges = h.edges;
      faces = h.faces;
      next_node = h.next_node +ℤ pos a;
      next_edge = h.next_edge +ℤ pos b;
      next_face = h.next_face;
      points = h.points;
    }

-- carried out; every row of all three tables is as before, only the next node and edge numbers have risen
abbrev pub restored : Lent → Outcome
restored l =
    record {
      lent = record { nodes = l.nodes; edges = l.edges; faces = l.faces; head = raised 1 1 l.head };
      answer = record { refusal = 0; value = pos 0 };
    }

-- kind 8 carried out, then kind 10 on the kept edge and the new one
abbrev pub Cancels : Lent → Type 0
Cancels l =
    (e x y : ℤ) → let o = ticket l (pos 8 ∷ e ∷ x ∷ y ∷ []) in o.answer.refusal ≡ 0
    → ticket o.lent (pos 10 ∷ e ∷ l.head.next_edge ∷ []) ≡ restored l

abbrev pub SplitCancelled : Type 0
SplitCancelled = (s : Sizes) → 1 ≤ s.faces → (ts : List (List ℤ)) → Cancels (grow s ts).lent

-- h for e in a link, in the links of a row, and as a row's own number
abbrev pub link_renamed : ℕ → ℕ → Dart → Dart
link_renamed e h d = record { edge = cond (same d.edge e) h d.edge; back = d.back }

abbrev pub links_renamed : ℕ → ℕ → Edge → Edge
links_renamed e h r = with_links (link_renamed e h r.next_left) (link_renamed e h r.next_right) r

abbrev pub with_number : ℕ → Edge → Edge
with_number h r =
    record {
      number = h;
      start = r.start;
      end = r.end;
      next_left = r.next_left;
      next_right = r.next_right;
      left = r.left;
      right = r.right;
      curve = r.curve;
    }

-- the edge e with the number h: its row is the last, the rows behind it have moved up, and links that named e name h
unfoldable pub renumbered : ℕ → ℕ → Map → Map
renumbered e h m =
    set_edges (map (links_renamed e h) (without_edge e m.edges) ++ with_number h (links_renamed e h (edge m e)) ∷ []) m

-- carried out; nodes and faces are as before, the edge e has the number h, the next node and edge numbers have risen
abbrev pub renewed : ℕ → ℕ → Lent → Outcome
renewed e h l =
    let edges = (lent_of (sizes_of l) (renumbered e h (map_of l))).edges in
    record {
      lent = record { nodes = l.nodes; edges = edges; faces = l.faces; head = raised 1 3 l.head };
      answer = record { refusal = 0; value = pos h };
    }

-- kind 7 carried out, then kind 9 on the start half and the other, if an edge number is left for it
abbrev pub Renews : Lent → Type 0
Renews l =
    (e x y : ℤ) → let o = ticket l (pos 7 ∷ e ∷ x ∷ y ∷ []) in o.answer.refusal ≡ 0
    → let h = (map_of l).next.edges + 2 in h ≤ last_number
    → ticket o.lent (pos 9 ∷ l.head.next_edge ∷ (l.head.next_edge +ℤ pos 1) ∷ []) ≡ renewed (nat_abs e) h l

abbrev pub SplitRenewed : Type 0
SplitRenewed = (s : Sizes) → 1 ≤ s.faces → (ts : List (List ℤ)) → Renews (grow s ts).lent

-- and if none is left, kind 9 gets 21
abbrev pub Spends : Lent → Type 0
Spends l =
    (e x y : ℤ) → let o = ticket l (pos 7 ∷ e ∷ x ∷ y ∷ []) in o.answer.refusal ≡ 0
    → last_number < (map_of l).next.edges + 2
    → ticket o.lent (pos 9 ∷ l.head.next_edge ∷ (l.head.next_edge +ℤ pos 1) ∷ []) ≡ refused o.lent 21

abbrev pub SplitSpent : Type 0
SplitSpent = (s : Sizes) → 1 ≤ s.faces → (ts : List (List ℤ)) → Spends (grow s ts).lent
