-- `map_piece_faces::relate_labelled` meets its contract: the matrix gains what directed edges and nodes relate. Assumes
-- nothing.
use mathlib.Core.Bool.{false}
use Rattle.map_piece_faces.proofs.Passed.{relates_none}
use Rattle.map_piece_faces.proofs.Asked.{asked, dart_rows}
use Rattle.map_piece_faces.proofs.relate_labelled.Goals as goal

pub label_rows-requires : goal.label_rows-requires
label_rows-requires c = let s = c in
    ((asked s.requires.0).ended, s.requires.1)

pub relate_darts-requires : goal.relate_darts-requires
relate_darts-requires c =
    let l = c in
    let f = l in
    let s = f in
    let d = f.find_dart_rows.ensures in (
      dart_rows (asked s.requires.0) d.0 d.1 d.2 d.3 l.label_rows.ensures,
      (relates_none s.requires.2).size,
    )

pub relate_nodes-requires : goal.relate_nodes-requires
relate_nodes-requires c =
    let d = c in
    let l = d in
    let s = l in
    let a = asked s.requires.0 in
    let g = d.relate_darts.ensures (λ p f. false) (relates_none s.requires.2) in
    (a.node_rows_lem.fits, a.ended.few_nodes, a.face_rows_lem, a.few_faces, g.size)

pub count_roots-requires : goal.count_roots-requires
count_roots-requires c =
    let d = c in
    let l = d in
    let s = l in
    (l.label_rows.ensures.size, (asked s.requires.0).ended.few_nodes)

pub returns : goal.returns
returns c =
    let n = c in
    let d = n in
    let l = d in
    let f = l in
    let s = f in
    record {
      starts = f.find_dart_rows.new.starts;
      bears = f.find_dart_rows.new.bears;
      labels = _;
      starts_named = f.find_dart_rows.ensures.2;
      bears-named = f.find_dart_rows.ensures.3;
      labelled = l.label_rows.ensures;
      relates = n.relate_nodes.ensures _ (d.relate_darts.ensures (λ p f. false) (relates_none s.requires.2));
      counted = c.count_roots.ensures;
    }
