-- `form::is_formed` meets its contract: each part is asked once the parts before it hold. Assumes nothing.
use mathlib.Core.Path.{◌≡◌, sym, ◌∙◌}
use mathlib.Core.Bool.{true, false}
use Prim.Native.Nat.{ℕ, ◌*◌}
use native.Mathlib.Omega.{arith}
use lib.ListN.{length-replicate}
use Rattle.form_ranges.specs.Ranges.{InOrder, Named}
use Rattle.form_ranges.proofs.Parts.{node_rows_lem, edge_rows_lem, face_rows_lem}
use Rattle.darts.specs.Positions.{RowsNamed, NextsNamed}
use Rattle.form_links.proofs.Words.{flipped}
use Rattle.form.proofs.Parts.{curved, departed, linked, stop₁, stop₂, stop₃, stop₄, stop₅, last₆}
use Rattle.form.proofs.is_formed.Lts as lts
use Rattle.form.proofs.is_formed.Tie as tie
use Rattle.form.proofs.is_formed.Reads as reads
use Rattle.form.proofs.is_formed.Goals as goal

-- places in the code, by their names in what is generated
abbrev After-links_formed : Type 0
After-links_formed = lts.After-links_formed tie.the-claims reads.Pre reads.Post

abbrev Else-not-curves_fit : Type 0
Else-not-curves_fit = lts.Else3 tie.the-claims reads.Pre reads.Post

abbrev Else-not-departures_formed : Type 0
Else-not-departures_formed = lts.Else4 tie.the-claims reads.Pre reads.Post

abbrev Else-not-names_exist : Type 0
Else-not-names_exist = lts.Else2 tie.the-claims reads.Pre reads.Post

abbrev Else-not-numbers_fit : Type 0
Else-not-numbers_fit = lts.Else1 tie.the-claims reads.Pre reads.Post

abbrev Start : Type 0
Start = lts.Start tie.the-claims reads.Pre reads.Post

-- ---- what is known after each part
in_order : (c : Else-not-numbers_fit) → let a = c.args in
    InOrder a.nodes.now a.edges.now a.faces.now a.c a.h
in_order c = let f = c.numbers_fit in
    record {
      in_ranges = c.requires.0;
      numbers = sym f.ensures
          ∙ flipped f.result false c.if-not-numbers_fit.false-raw;
    }

-- where the call starts
abbrev start : Else-not-names_exist → Start
start c = c.before.before.before.before.before.before.before.before.before.before

named_in : (c : Else-not-names_exist) → let a = (start c).args in
    Named a.nodes.now a.edges.now a.faces.now a.c a.h
named_in c =
    let n = c in
    record {
      in_order = in_order c.before.before.before.before.before.before.before.before;
      named = sym (n.names_exist.ensures.0 (start c).args.h)
          ∙ flipped n.names_exist.result false c.if-not-names_exist.false-raw;
    }

-- the rows and positions that are written down
rows_in : (c : Else-not-names_exist) →
    let a = (start c).args in
    let l = c.names_exist.new in
    RowsNamed 4 a.nodes.now a.c.nodes a.edges.now 1 l.starts (a.c.edges * 2)
    × NextsNamed a.edges.now a.c.edges l.nexts (a.c.edges * 2)
    × RowsNamed 5 a.faces.now a.c.faces a.edges.now 5 l.bears (a.c.edges * 2)
rows_in c = let n = c in
    n.names_exist.ensures.4 (flipped n.names_exist.result false c.if-not-names_exist.false-raw)

curved-in : (c : Else-not-curves_fit) → let a = (start c.before.before.before).args in
    curved a.nodes.now a.edges.now a.faces.now a.c a.h ≡ true
curved-in c = let f = c.curves_fit in sym f.ensures ∙ flipped f.result false c.if-not-curves_fit.false-raw

departed-in : (c : Else-not-departures_formed) → let a = (start c.before.before.before.before.before.before).args in
    departed a.nodes.now a.edges.now a.faces.now a.c a.h ≡ true
departed-in c = let f = c.departures_formed in sym f.ensures ∙ flipped f.result false c.if-not-departures_formed.false-raw

-- the answer on links
links-told : (c : After-links_formed) →
    let a = (start c.before.before.before.before.before.before.before.before.before.before).args in
    c.links_formed.result ≡ linked a.nodes.now a.edges.now a.faces.now a.c a.h
links-told c =
    let e = c.before.before.before.before.before.before.before.before.before.before in
    let k = named_in e in
    let r = rows_in e in
    let a = (start e).args in
    c.links_formed.ensures a.nodes.now a.edges.now a.faces.now a.c.nodes a.c.faces
    (node_rows_lem k.in_order) (edge_rows_lem k) (face_rows_lem k.in_order) r.0 r.1 r.2

-- ---- the answers
pub returns-then-not-numbers_fit : goal.returns-then-not-numbers_fit
returns-then-not-numbers_fit c =
    let a = c.args in
    let f = c.numbers_fit in
    sym (stop₁ a.nodes.now a.edges.now a.faces.now a.c a.h
    (sym f.ensures ∙ flipped f.result true c.if-not-numbers_fit.true-raw))

pub names_exist-requires : goal.names_exist-requires
names_exist-requires c =
    let e = c.before.before.before in
    let s = e in (
      (s.args.h, in_order e),
      s.requires.1,
      s.requires.2,
      s.requires.3,
      length-replicate {A = ℕ} 4000 0,
      length-replicate {A = ℕ} 4000 0,
      length-replicate {A = ℕ} 4000 0,
    )

pub returns-then-not-names_exist : goal.returns-then-not-names_exist
returns-then-not-names_exist c =
    let n = c in
    let o = in_order c.before.before.before.before.before.before.before.before in
    let a = c.args in
    sym (stop₂ a.nodes.now a.edges.now a.faces.now a.c a.h o.numbers
    (sym (n.names_exist.ensures.0 a.h) ∙ flipped n.names_exist.result true c.if-not-names_exist.true-raw))

pub curves_fit-requires : goal.curves_fit-requires
curves_fit-requires c =
    let e = c.before in
    let k = named_in e in
    let f = e.names_exist.ensures in (
      node_rows_lem k.in_order,
      edge_rows_lem k,
      omega (arith, f.1, (start e).requires.2),
      (rows_in e).0,
    )

pub returns-then-not-curves_fit : goal.returns-then-not-curves_fit
returns-then-not-curves_fit c =
    let k = named_in c.before.before.before in
    let a = (start c.before.before.before).args in
    let f = c.curves_fit in
    sym (stop₃ a.nodes.now a.edges.now a.faces.now a.c a.h k.in_order.numbers k.named
    (sym f.ensures ∙ flipped f.result true c.if-not-curves_fit.true-raw))

pub departures_formed-requires : goal.departures_formed-requires
departures_formed-requires c =
    let e = c.before.before.before.before in
    let k = named_in e in
    let s = start e in
    let f = e.names_exist.ensures in
    (node_rows_lem k.in_order, edge_rows_lem k, s.requires.1, s.requires.2, omega (arith, f.1, s.requires.2), (rows_in e).0)

pub returns-then-not-departures_formed : goal.returns-then-not-departures_formed
returns-then-not-departures_formed c =
    let k = named_in c.before.before.before.before.before.before in
    let a = (start c.before.before.before.before.before.before).args in
    let f = c.departures_formed in
    sym (stop₄ a.nodes.now a.edges.now a.faces.now a.c a.h k.in_order.numbers k.named
    (curved-in c.before.before.before) (sym f.ensures ∙ flipped f.result true c.if-not-departures_formed.true-raw))

pub links_formed-requires : goal.links_formed-requires
links_formed-requires c =
    let e = c.before.before.before.before.before.before.before.before.before in
    let s = start e in
    let f = e.names_exist.ensures in (
      s.requires.2,
      omega (arith, f.1, s.requires.2),
      omega (arith, f.2, s.requires.2),
      omega (arith, f.3, s.requires.2),
      (λ p h. ((rows_in e).1 p h).0),
    )

pub returns-then-not-links_formed : goal.returns-then-not-links_formed
returns-then-not-links_formed c =
    let l = c.before in
    let d = l.before.before.before.before in
    let e = d.before.before.before.before.before.before in
    let k = named_in e in
    let a = (start e).args in
    sym (stop₅ a.nodes.now a.edges.now a.faces.now a.c a.h k.in_order.numbers k.named
    (curved-in d.before.before.before) (departed-in d)
    (sym (links-told l) ∙ flipped l.links_formed.result true c.if-not-links_formed.true-raw))

pub rectangles_fit-requires : goal.rectangles_fit-requires
rectangles_fit-requires c =
    let e = c.before.before.before.before.before.before.before.before.before.before.before.before in
    let k = named_in e in
    let s = start e in
    let f = e.names_exist.ensures in
    (edge_rows_lem k, face_rows_lem k.in_order, s.requires.2, s.requires.3, omega (arith, f.3, s.requires.2), (rows_in e).2)

pub returns : goal.returns
returns c =
    let l = c.before.before.before in
    let d = l.before.before.before.before in
    let e = d.before.before.before.before.before.before in
    let k = named_in e in
    let a = (start e).args in
    c.rectangles_fit.ensures
    ∙ sym (last₆ a.nodes.now a.edges.now a.faces.now a.c a.h k.in_order.numbers k.named
    (curved-in d.before.before.before) (departed-in d)
    (sym (links-told l) ∙ flipped l.links_formed.result false c.if-not-links_formed.false-raw))
