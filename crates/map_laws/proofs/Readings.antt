-- What a map reads in its rows, and after each way of changing them: rows mapped, appended, left out, redirected.
-- Assumes nothing.
use mathlib.Core.Path.{◌≡◌, refl, sym, ap, ◌∙◌, subst}
use mathlib.Core.Logic.{◌⊎◌, inl, inr}
use mathlib.Core.Bool.{Bool, true, false, cond, not, ◌&&◌, beq}
use mathlib.Core.List.Memᴰ
use mathlib.Core.List.{List, [], map, map-map, Memᴰ}
use Prim.Native.Nat.{ℕ}
use Rattle.lists.specs.Tests.{same}
use Rattle.lists.specs.Scans.{keep}
use Rattle.lists.specs.Members.{Distinct}
use Rattle.lists.proofs.Bools.{same_true, same_eq}
use Rattle.lists.proofs.Keeps.{keep_in, keep_has, keep_cong}
use Rattle.lists.proofs.Members.{map_cong}
use Rattle.lists.proofs.Lookups.{has_map}
use Rattle.lists.proofs.Maps.{map_twice}
use Rattle.planar_maps.specs.Map.{Arc, Dart, fwd, bwd, darts}
use Rattle.planar_maps.specs.Pieces.{nums}
use Rattle.planar_maps.specs.Rings.{same_dart}
use Rattle.planar_maps.proofs.Cycles.{fwd_in, bwd_in}
use Rattle.planar_maps.proofs.Rings.{dart_cases}
use Rattle.curves.specs.Curves.{Curve, start_way, through}
use Rattle.map.specs.Rows.{Edge, Map, edge, has_edge, at_edge}
use Rattle.map.specs.Darts.{arcs, directed, leaves, next, bears, course, way, departures}
use Rattle.map.specs.Links.{with_links, instead, redirect, lead}
use Rattle.map.proofs.Laws.{edge_there_lem}
use Rattle.curves.specs.Edits as edits
pub use Rattle.lists.proofs.Lookups.{look, has, without, look_at, look_row, look_map, look_kept, has_number, number_has}
pub use Rattle.map.proofs.Redirects.{redirect-next}
pub use Rattle.map.proofs.Linked.{arc_of, nums-rows}

-- ---- a directed edge reads its row: what each side of a row says
abbrev pub tail_in : Bool → Edge → ℕ
tail_in b e = cond b e.end e.start

abbrev pub next_in : Bool → Edge → Dart
next_in b e = cond b e.next_right e.next_left

abbrev pub face_in : Bool → Edge → ℕ
face_in b e = cond b e.right e.left

abbrev pub course_in : Bool → Edge → Curve
course_in b e = edits.course b e.curve

module _ (m : Map) (d : Dart) where
  pub leaves_row : leaves m d ≡ tail_in d.back (edge m d.edge)
  unfolding leaves
  leaves_row = refl

  pub next_row : next m d ≡ next_in d.back (edge m d.edge)
  unfolding next
  next_row = refl

  pub bears_row : bears m d ≡ face_in d.back (edge m d.edge)
  unfolding bears
  bears_row = refl

  pub course_row : course m d ≡ course_in d.back (edge m d.edge)
  unfolding course
  course_row = refl

  pub way_row : way m d ≡ start_way (course m d)
  unfolding way
  way_row = refl

-- ---- the rows of a map

abbrev pub number_of : Edge → ℕ
number_of e = e.number

-- what is read where the row is missing
abbrev pub missing : Edge
missing = record {
  number = 0;
  start = 0;
  end = 0;
  next_left = fwd 0;
  next_right = fwd 0;
  left = 0;
  right = 0;
  curve = through [];
}

module _ (m : Map) where
  pub row_has : {r : Edge} → Memᴰ r m.edges → has_edge m r.number ≡ true
  row_has {r} k = has_number number_of m.edges r.number (Memᴰ.map number_of k)

  -- a row is found by its number
  pub edge_at : {r : Edge} → Distinct (nums (arcs m)) → Memᴰ r m.edges → edge m r.number ≡ r
  unfolding edge
  edge_at dis k = look_at number_of _ m.edges (subst Distinct (nums-rows m) dis) k

  -- its two ways bear its two sides
  pub bears-left : {r : Edge} → Distinct (nums (arcs m)) → Memᴰ r m.edges → bears m (fwd r.number) ≡ r.left
  bears-left {r} dis k = bears_row m (fwd r.number) ∙ ap (λ (e : Edge). e.left) (edge_at dis k)

  pub bears_right : {r : Edge} → Distinct (nums (arcs m)) → Memᴰ r m.edges
      → bears m (bwd r.number) ≡ r.right
  bears_right {r} dis k = bears_row m (bwd r.number) ∙ ap (λ (e : Edge). e.right) (edge_at dis k)

  pub arc_at : {r : Edge} → Memᴰ r m.edges → Memᴰ (arc_of r) (arcs m)
  arc_at k = Memᴰ.map arc_of k

  arc_row : {a : Arc} → Memᴰ a (arcs m) → (r : Edge) × Memᴰ r m.edges × (arc_of r ≡ a)
  arc_row k = Memᴰ.of_map arc_of m.edges k

  arc_has : {a : Arc} → Memᴰ a (arcs m) → has_edge m a.num ≡ true
  arc_has {a} k = go (arc_row k)
    where
      go : (r : Edge) × Memᴰ r m.edges × (arc_of r ≡ a) → has_edge m a.num ≡ true
      go x = subst (λ (b : Arc). has_edge m b.num ≡ true) x.2 (row_has x.1)

  -- the directed edges are those whose edge is found
  pub dart_has : {d : Dart} → Memᴰ d (directed m) → has_edge m d.edge ≡ true
  dart_has {d} k = go (dart_cases (arcs m) k)
    where
      go : (a : Arc) × Memᴰ a (arcs m) × ((d ≡ fwd a.num) ⊎ (d ≡ bwd a.num)) → has_edge m d.edge ≡ true
      go x = elim x.2 [
        | inl e ↦ subst (λ (c : Dart). has_edge m c.edge ≡ true) (sym e) (arc_has x.1)
        | inr e ↦ subst (λ (c : Dart). has_edge m c.edge ≡ true) (sym e) (arc_has x.1)
      ]

  pub has_dart : (d : Dart) → has_edge m d.edge ≡ true → Memᴰ d (directed m)
  has_dart d h = go d.back refl
    where
      there : Memᴰ (arc_of (edge m d.edge)) (arcs m)
      there = arc_at (edge_there_lem m d.edge h).0

      go : (b : Bool) → d.back ≡ b → Memᴰ d (directed m)
      go true e = Memᴰ.cast (λ i. record { edge = sym (edge_there_lem m d.edge h).1 i; back = e i }) (bwd_in there)
      go false e = Memᴰ.cast (λ i. record { edge = sym (edge_there_lem m d.edge h).1 i; back = e i }) (fwd_in there)

-- ---- departures

module _ (m : Map) (n : ℕ) where
  pub departs : {d : Dart} → Memᴰ d (departures m n) → Memᴰ d (directed m) × (leaves m d ≡ n)
  unfolding departures
  departs {d} k = let h = keep_in (λ d. same (leaves m d) n) (directed m) k in (h.0, same_true (leaves m d) n h.1)

  pub departing : {d : Dart} → Memᴰ d (directed m) → leaves m d ≡ n → Memᴰ d (departures m n)
  unfolding departures
  departing {d} k e = keep_has (λ d. same (leaves m d) n) (directed m) k (same_eq (leaves m d) n e)

-- ---- another map with the same edges reads the same

module _ (m m' : Map) (E : m'.edges ≡ m.edges) where
  pub edge_by : (e : ℕ) → edge m' e ≡ edge m e
  unfolding edge
  edge_by e = ap (λ (es : List Edge). look number_of missing es e) E

  pub leaves_by : (d : Dart) → leaves m' d ≡ leaves m d
  leaves_by d = rw (leaves_row, leaves_row, edge_by d.edge)

  pub next_by : (d : Dart) → next m' d ≡ next m d
  next_by d = rw (next_row, next_row, edge_by d.edge)

  pub bears_by : (d : Dart) → bears m' d ≡ bears m d
  bears_by d = rw (bears_row, bears_row, edge_by d.edge)

  course_by : (d : Dart) → course m' d ≡ course m d
  course_by d = rw (course_row, course_row, edge_by d.edge)

  pub way_by : (d : Dart) → way m' d ≡ way m d
  way_by d = rw (way_row, way_row, course_by d)

-- departures are told by the directed edges and where they leave
pub departures_by : (m m' : Map) → arcs m' ≡ arcs m → ((d : Dart) → Memᴰ d (directed m) → leaves m' d ≡ leaves m d)
    → (n : ℕ) → departures m' n ≡ departures m n
unfolding departures
departures_by m m' E h n = ap (λ (es : List Arc). keep (λ d. same (leaves m' d) n) (darts es)) E
    ∙ keep_cong (λ d. same (leaves m' d) n) (λ d. same (leaves m d) n) (directed m) (λ d k. rw (h d k))

-- ---- rows mapped by a function that keeps their numbers

module _ (m m' : Map) (f : Edge → Edge) (E : m'.edges ≡ map f m.edges)
    (keeps : (r : Edge) → Memᴰ r m.edges → (f r).number ≡ r.number) where
  pub mapped_has : (e : ℕ) → has_edge m' e ≡ has_edge m e
  mapped_has e = ap (λ (es : List Edge). has number_of es e) E ∙ has_map number_of f m.edges e keeps

  pub mapped_edge : (e : ℕ) → has_edge m e ≡ true → edge m' e ≡ f (edge m e)
  unfolding edge
  mapped_edge e h = ap (λ (es : List Edge). look number_of missing es e) E ∙ look_map number_of f _ m.edges e keeps h

  -- what f leaves is read as it was, in missing rows too
  pub mapped_kept : {B : Type 0} (g : Edge → B) → ((r : Edge) → g (f r) ≡ g r) → (e : ℕ) → g (edge m' e) ≡ g (edge m e)
  unfolding edge
  mapped_kept g h e = ap (λ (es : List Edge). g (look number_of missing es e)) E
      ∙ look_kept number_of f g _ m.edges e keeps h

  pub mapped_arcs : ((r : Edge) → Memᴰ r m.edges → arc_of (f r) ≡ arc_of r) → arcs m' ≡ arcs m
  mapped_arcs h = ap (map arc_of) E ∙ map_twice arc_of f arc_of m.edges h

-- ---- links changed

-- a row without its links and its curve
pub record Outline : Type 0 where
  pub arc : Arc
  pub left : ℕ
  pub right : ℕ

abbrev pub outline_of : Edge → Outline
outline_of e = record { arc = arc_of e; left = e.left; right = e.right }

abbrev pub outlines : Map → List Outline
outlines m = map outline_of m.edges

abbrev pub outline_number : Outline → ℕ
outline_number o = o.arc.num

-- m' is m with other links
pub record Relinked (m m' : Map) : Type 0 where
  pub nodes : m'.nodes ≡ m.nodes
  pub faces : m'.faces ≡ m.faces
  pub arcs : arcs m' ≡ arcs m
  pub outlines : outlines m' ≡ outlines m
  pub curves : map (λ e. e.curve) m'.edges ≡ map (λ e. e.curve) m.edges
  pub has : (e : ℕ) → has_edge m' e ≡ has_edge m e
  pub leaves : (d : Dart) → leaves m' d ≡ leaves m d
  pub bears : (d : Dart) → bears m' d ≡ bears m d
  pub course : (d : Dart) → course m' d ≡ course m d
  pub way : (d : Dart) → way m' d ≡ way m d
  pub departures : (n : ℕ) → departures m' n ≡ departures m n

-- rows alike but for their links
pub relinks : (m m' : Map) (l r : Edge → Dart) → m'.nodes ≡ m.nodes → m'.faces ≡ m.faces
    → m'.edges ≡ map (λ e. with_links (l e) (r e) e) m.edges → Relinked m m'
relinks m m' l r N F E = record {
  nodes = N;
  faces = F;
  arcs = same-arcs;
  outlines = ap (map outline_of) E ∙ map-map outline_of f m.edges;
  curves = ap (map (λ e. e.curve)) E ∙ map-map (λ e. e.curve) f m.edges;
  has = mapped_has m m' f E (λ r k. refl);
  leaves = same-leaves;
  bears = λ d. rw (bears_row, bears_row) (mapped_kept m m' f E (λ r k. refl) (face_in d.back) (λ r. refl) d.edge);
  course = same-course;
  way = λ d. rw (way_row, way_row) (ap start_way (same-course d));
  departures = departures_by m m' same-arcs (λ d k. same-leaves d);
}
  where
    f : Edge → Edge
    f e = with_links (l e) (r e) e

    same-arcs : arcs m' ≡ arcs m
    same-arcs = mapped_arcs m m' f E (λ r k. refl) (λ r k. refl)

    same-leaves : (d : Dart) → leaves m' d ≡ leaves m d
    same-leaves d =
        rw (leaves_row, leaves_row) (mapped_kept m m' f E (λ r k. refl) (tail_in d.back) (λ r. refl) d.edge)

    same-course : (d : Dart) → course m' d ≡ course m d
    same-course d =
        rw (course_row, course_row) (mapped_kept m m' f E (λ r k. refl) (course_in d.back) (λ r. refl) d.edge)

pub relinked_join : {a b c : Map} → Relinked a b → Relinked b c → Relinked a c
relinked_join x y = record {
  nodes = y.nodes ∙ x.nodes;
  faces = y.faces ∙ x.faces;
  arcs = y.arcs ∙ x.arcs;
  outlines = y.outlines ∙ x.outlines;
  curves = y.curves ∙ x.curves;
  has = λ e. y.has e ∙ x.has e;
  leaves = λ d. y.leaves d ∙ x.leaves d;
  bears = λ d. y.bears d ∙ x.bears d;
  course = λ d. y.course d ∙ x.course d;
  way = λ d. y.way d ∙ x.way d;
  departures = λ n. y.departures n ∙ x.departures n;
}

module _ (old new : Dart) (m : Map) where
  pub redirect_relinked : Relinked m (redirect old new m)
  unfolding redirect
  redirect_relinked = relinks m _ (λ e. instead old new e.next_left) (λ e. instead old new e.next_right) refl refl
      refl

module _ (x c : Dart) (m : Map) where
  abbrev led : Edge → Edge
  led e = with_links (cond (same e.number x.edge && not x.back) c e.next_left)
      (cond (same e.number x.edge && x.back) c e.next_right) e

  lead_edges : (lead x c m).edges ≡ map led m.edges
  unfolding lead at_edge
  lead_edges = map_cong _ led m.edges (λ e k. go (same e.number x.edge) x.back e)
    where
      go : (b s : Bool) (e : Edge) → cond b (cond s (with_links e.next_left c e) (with_links c e.next_right e)) e
          ≡ with_links (cond (b && not s) c e.next_left) (cond (b && s) c e.next_right) e
      go true true e = refl
      go true false e = refl
      go false s e = refl

  pub lead_relinked : Relinked m (lead x c m)
  unfolding lead at_edge
  lead_relinked = relinks m (lead x c m) (λ e. cond (same e.number x.edge && not x.back) c e.next_left)
      (λ e. cond (same e.number x.edge && x.back) c e.next_right) refl refl lead_edges

  -- x leads to c
  pub lead-next : (d : Dart) → has_edge m d.edge ≡ true → next (lead x c m) d ≡ cond (same_dart d x) c (next m d)
  unfolding same_dart
  lead-next d h = rw (
    next_row,
    next_row,
    mapped_edge m (lead x c m) led lead_edges (λ r k. refl) d.edge h,
    (edge_there_lem m d.edge h).1,
  ) (step (same d.edge x.edge) d.back x.back)
    where
      step : (b s t : Bool)
          → next_in s (with_links (cond (b && not t) c (edge m d.edge).next_left)
          (cond (b && t) c (edge m d.edge).next_right) (edge m d.edge))
          ≡ cond (b && beq s t) c (next_in s (edge m d.edge))
      step true true true = refl
      step true true false = refl
      step true false true = refl
      step true false false = refl
      step false true t = refl
      step false false t = refl
