-- What the functions here ask of tables in form, by counts. Assumes nothing.
use mathlib.Core.Path.{◌≡◌, sym, ap, ◌∙◌, subst}
use mathlib.Core.Bool.{Bool, true, ◌&&◌}
use mathlib.Core.List.{List}
use mathlib.Core.Logic.{inl, inr}
use Prim.Native.Nat.{ℕ, ◌*◌, ◌≤◌}
use native.Mathlib.Omega.{arith}
use lib.IntN.{ℤ}
use lib.ListN.{length, get_or-eq_default}
use Rattle.lists.specs.Scans.{all_of}
use Rattle.lists.proofs.Bools.{and_left, and_right}
use Rattle.tables.specs.Tables.{Rising}
use Rattle.tables.proofs.Order.{lt_or_ge}
use Rattle.map.specs.declared.Counts.{Counts}
use Rattle.map.specs.declared.Head.{Head}
use Rattle.map.specs.Limits.{node_width, face_width, max_edges, max_faces}
use Rattle.map.specs.Rows.{Map}
use Rattle.map.specs.Darts.{arcs}
use Rattle.map.specs.Form.{edge_names}
use Rattle.map_rows.specs.Rows.{edges_of, edge_map}
use Rattle.map_rows.proofs.Rows.{node_rows_rising, face_rows_rising}
use Rattle.head.specs.Heads.{counts_of}
use Rattle.darts.specs.Positions.{RowsNamed}
use Rattle.piece_labels.specs.Labels.{Ended, Labelled}
use Rattle.form_ranges.specs.Ranges.{map_in}
use Rattle.form_ranges.proofs.Parts.{map_is}
use Rattle.form_references.proofs.Rows.{ends_named, links_named, sides_named, names_parts, faces_pass, sides_pass, ends_pass}
use Rattle.form_references.proofs.Rows.{links_pass, named-parts}
use Rattle.form.proofs.Parts.{InForm, in_form_known}
use Rattle.outcomes.specs.Outcomes.{Formed}
use Rattle.outcomes.proofs.Formed.{counted, node_rows_lem, edge_rows_lem, face_rows_lem, edges_named_lem}
use Rattle.map_piece_faces.specs.InFaces.{DartRows}

-- rows in order, within the limits, and what directed edges name is there
pub record Asked (nodes edges faces : List ℤ) (c : Counts) : Type 0 where
  pub node_rows_lem : Rising node_width nodes c.nodes
  pub face_rows_lem : Rising face_width faces c.faces
  pub few_faces : c.faces ≤ max_faces
  pub ended : Ended nodes c.nodes edges c.edges
  pub ends : ends_pass nodes edges faces c ≡ true
  pub sides : sides_pass nodes edges faces c ≡ true

-- the first two of three tests
two : (a b c : Bool) → a && (b && c) ≡ true → (a ≡ true) × (b ≡ true)
two a b c e = (and_left a (b && c) e, and_left b c (and_right a (b && c) e))

pub asked : {nodes edges faces : List ℤ} {c : Counts} → (h : Head) × Formed nodes edges faces h × (c ≡ counts_of h)
    → Asked nodes edges faces c
asked {nodes} {edges} {faces} (h, f, e) = subst (Asked nodes edges faces) (sym e) (record {
  node_rows_lem = node_rows_rising (node_rows_lem f);
  face_rows_lem = face_rows_rising (face_rows_lem f);
  few_faces = (counted f).faces.most;
  ended = record {
    nodes = node_rows_lem f;
    edges = edge_rows_lem f;
    few_nodes = (counted f).nodes.most;
    few_edges = (counted f).edges.most;
    ends = ends_there;
  };
  ends = passed.1;
  sides = passed.0;
})
  where
    c : Counts
    c = counts_of h

    m : Map
    m = map_in nodes edges faces c h

    known : InForm nodes edges faces c h
    known = in_form_known nodes edges faces h f.in_form

    passed : (sides_pass nodes edges faces c ≡ true) × (ends_pass nodes edges faces c ≡ true)
    passed =
        let p = sides_pass nodes edges faces c in
        let q = ends_pass nodes edges faces c in
        let r = links_pass nodes edges faces c in
        two p q r (and_right (faces_pass nodes edges faces c) (p && (q && r))
        (sym (named-parts known.named.in_order h) ∙ known.named.named))

    ends_there : all_of (ends_named m) (edges_of edges c.edges) ≡ true
    ends_there = let l = edges_of edges c.edges in
        (two (all_of (sides_named m) l) (all_of (ends_named m) l) (all_of (links_named m) l)
        (sym (names_parts m l) ∙ ap (λ m. all_of (edge_names m) l) (sym (map_is nodes edges faces h)) ∙ edges_named_lem f)).1

-- rows named and labels, as directed edges are related by them
pub dart_rows : {nodes edges faces : List ℤ} {c : Counts} {starts bears labels : List ℕ} → Asked nodes edges faces c
    → length starts ≡ max_edges * 2 → length bears ≡ max_edges * 2
    → RowsNamed node_width nodes c.nodes edges 1 starts (c.edges * 2)
    → RowsNamed face_width faces c.faces edges 5 bears (c.edges * 2)
    → Labelled (arcs (edge_map edges c.edges)) nodes c.nodes labels
    → DartRows starts bears labels (c.edges * 2)
dart_rows {c = c} {labels = labels} a s t ss ts w = record {
  starts_fit = omega (arith, a.ended.few_edges);
  bears_fit = omega (arith, a.ended.few_edges);
  labelled = λ q u. omega (arith, (ss q u).0, w.size);
  pieces = λ i. elim (lt_or_ge i c.nodes) [
    | inl u ↦ omega (arith, w.below i u, a.ended.few_nodes)
    | inr u ↦ omega (arith, get_or-eq_default labels 0 {n = i} (omega (arith, w.size)))
  ];
  faces = λ q u. omega (arith, (ts q u).0, a.few_faces);
}
