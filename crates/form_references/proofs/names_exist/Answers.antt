-- `form_references::names_exist` meets its contract: four passes tell, and leave the rows that are named. Assumes
-- nothing.
use borrow.Author.Rules.{rules}
use mathlib.Core.Path.{◌≡◌, sym, ◌∙◌}
use mathlib.Core.Bool.{true, false≢true}
use native.Mathlib.Omega.{arith}
use lib.Dec.{lit≤}
use Rattle.map_rows.proofs.Rows.{node_rows_rising, face_rows_rising}
use Rattle.form_ranges.proofs.Parts.{node_rows_lem, edges_in_order, face_rows_lem}
use Rattle.form_references.proofs.Rows.{faces_pass, sides_pass, ends_pass, no_faces, no_sides, no_ends, links_tell}
use Rattle.form_references.proofs.names_exist.Lts as lts
use Rattle.form_references.proofs.names_exist.Tie as tie
use Rattle.form_references.proofs.names_exist.Reads as reads
use Rattle.form_references.proofs.names_exist.Goals as goal

-- places in the code, by their names in what is generated
abbrev Else-not-find_rows : Type 0
Else-not-find_rows = lts.Else2 tie.the-claims reads.Pre reads.Post

abbrev Else-not-find_rows-2 : Type 0
Else-not-find_rows-2 = lts.Else3 tie.the-claims reads.Pre reads.Post

abbrev Else-not-nodes_name_faces : Type 0
Else-not-nodes_name_faces = lts.Else1 tie.the-claims reads.Pre reads.Post

-- what the passes that succeed tell
faces-pass : (c : Else-not-nodes_name_faces) → let a =
    c.args in
    faces_pass a.nodes.now a.edges.now a.faces.now a.c ≡ true
faces-pass c = sym c.nodes_name_faces.ensures
    ∙ c.if-not-nodes_name_faces.false

sides-found : (c : Else-not-find_rows) → c.find_rows.result ≡ true
sides-found c = c.if-not-find_rows.false

sides-pass : (c : Else-not-find_rows) → let a =
    c.args in sides_pass a.nodes.now a.edges.now a.faces.now a.c ≡ true
sides-pass c = sym c.find_rows.ensures.0 ∙ sides-found c

ends_found : (c : Else-not-find_rows-2) → c.find_rows-2.result ≡ true
ends_found c = c.if-not-find_rows-2.false

ends-pass : (c : Else-not-find_rows-2) → let a =
    c.args in
    ends_pass a.nodes.now a.edges.now a.faces.now a.c ≡ true
ends-pass c = sym c.find_rows-2.ensures.0 ∙ ends_found c

pub index_rows-requires : goal.index_rows-requires
index_rows-requires c = search rules

pub nodes_name_faces-requires : goal.nodes_name_faces-requires
nodes_name_faces-requires c = let p = c.requires.0.1 in
    (p.in_ranges.counted.nodes_fit, face_rows_lem p, c.index_rows.ensures.1)

pub returns-then-not-nodes_name_faces : goal.returns-then-not-nodes_name_faces
returns-then-not-nodes_name_faces c =
    let s = c in
    let f = sym c.nodes_name_faces.ensures
    ∙ c.if-not-nodes_name_faces.true in
    ((λ h. no_faces s.requires.0.1 h f), s.requires.4, s.requires.5, s.requires.6, (λ e. absurd (false≢true e)))

pub find_rows-requires : goal.find_rows-requires
find_rows-requires c =
    let s = c in
    let p = s.requires.0.1 in (
      face_rows_rising (face_rows_lem p),
      omega (arith, s.requires.3),
      p.in_ranges.counted.edges_fit,
      lit≤ tt,
      c.index_rows.ensures.1,
      omega (arith, s.requires.2, s.requires.6),
    )

pub returns-then-not-find_rows : goal.returns-then-not-find_rows
returns-then-not-find_rows c =
    let k = c.before.before.before.before.before.before.before in
    let s = k in
    let d = c.find_rows in
    let f = sym d.ensures.0 ∙ c.if-not-find_rows.true in (
      (λ h. no_sides s.requires.0.1 h (faces-pass k) f),
      s.requires.4,
      s.requires.5,
      d.ensures.1
          ∙ s.requires.6,
      (λ e. absurd (false≢true e)),
    )

pub index_rows-requires-2 : goal.index_rows-requires-2
index_rows-requires-2 c = search rules

pub find_rows-requires-2 : goal.find_rows-requires-2
find_rows-requires-2 c =
    let s = c in
    let p = s.requires.0.1 in (
      node_rows_rising (node_rows_lem p),
      omega (arith, s.requires.1),
      p.in_ranges.counted.edges_fit,
      lit≤ tt,
      c.index_rows-2.ensures.1,
      omega (arith, s.requires.2, s.requires.4),
    )

pub returns-then-not-find_rows-2 : goal.returns-then-not-find_rows-2
returns-then-not-find_rows-2 c =
    let m = c.before.before.before.before.before.before.before.before.before.before in
    let k = m.before.before.before.before.before.before in
    let s = k in
    let d = c.find_rows-2 in
    let f = sym d.ensures.0 ∙ c.if-not-find_rows-2.true in (
      (λ h. no_ends s.requires.0.1 h (faces-pass k) (sides-pass m) f),
      d.ensures.1
          ∙ s.requires.4,
      s.requires.5,
      m.find_rows.ensures.1 ∙ s.requires.6,
      (λ e. absurd (false≢true e)),
    )

pub index_rows-requires-3 : goal.index_rows-requires-3
index_rows-requires-3 c =
    let k = c in (
      lit≤ tt,
      k.requires.0.1.in_ranges.counted.edges_fit,
      k.index_rows-2.ensures.1,
    )

pub find_nexts-requires : goal.find_nexts-requires
find_nexts-requires c =
    let s = c in (
      edges_in_order s.requires.0.1,
      s.requires.2,
      c.index_rows-3.ensures.1,
      omega (arith, s.requires.2, s.requires.5),
    )

pub returns : goal.returns
returns c =
    let l = c.before.before.before.before.before.before.before.before.before in
    let m = l.before.before.before.before.before.before.before.before.before in
    let k = m.before.before.before.before.before.before in
    let s = k in
    let d = m.find_rows.ensures in
    let g = l.find_rows-2.ensures in
    let n = c.find_nexts.ensures in (
      (λ h. links_tell s.requires.0.1 h (faces-pass k) (sides-pass m) (ends-pass l) n.0),
      g.1 ∙ s.requires.4,
      n.1 ∙ s.requires.5,
      d.1 ∙ s.requires.6,
      (λ e. (g.2 (ends_found l), n.2 e, d.2 (sides-found m))),
    )
