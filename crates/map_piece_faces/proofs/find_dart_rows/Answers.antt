-- `map_piece_faces::find_dart_rows` meets its contract: in tables in form each search finds its row. Assumes nothing.
use mathlib.Core.Path.{refl, ◌∙◌}
use native.Mathlib.Omega.{arith}
use lib.Dec.{lit≤}
use Rattle.map_piece_faces.proofs.Asked.{asked}
use Rattle.map_piece_faces.proofs.find_dart_rows.Goals as goal

pub index_rows-requires : goal.index_rows-requires
index_rows-requires c = (lit≤ tt, (asked c.requires.0).node_rows_lem.fits, refl)

pub find_rows-requires : goal.find_rows-requires
find_rows-requires c =
    let s = c in
    let a = asked s.requires.0 in (
      a.node_rows_lem,
      omega (arith, a.ended.few_nodes),
      a.ended.edges.fits,
      lit≤ tt,
      c.index_rows.ensures.1,
      omega (arith, a.ended.few_edges, s.requires.1),
    )

pub index_rows-requires-2 : goal.index_rows-requires-2
index_rows-requires-2 c =
    let i = c in
    let s = i in
    (lit≤ tt, (asked s.requires.0).face_rows_lem.fits, i.index_rows.ensures.1)

pub find_rows-requires-2 : goal.find_rows-requires-2
find_rows-requires-2 c =
    let i = c in
    let f = i in
    let s = f in
    let a = asked s.requires.0 in (
      a.face_rows_lem,
      omega (arith, a.few_faces),
      a.ended.edges.fits,
      lit≤ tt,
      i.index_rows-2.ensures.1,
      omega (arith, a.ended.few_edges, s.requires.2),
    )

pub returns : goal.returns
returns c =
    let g = c in
    let f = g in
    let s = f in
    let a = asked s.requires.0 in
    let p = f.find_rows.ensures in
    let q = g.find_rows-2.ensures in
    (p.1 ∙ s.requires.1, q.1 ∙ s.requires.2, p.2 (p.0 ∙ a.ends), q.2 (q.0 ∙ a.sides))
