-- `form_references::nodes_name_faces` meets its contract: the faces of the nodes from row i on exist if and only if all
-- do. Assumes nothing.
use Prim.Native.Nat.{ℕ}
use mathlib.Core.Path.{sym, ap, ◌∙◌}
use mathlib.Core.List.{List}
use native.Mathlib.Nat.{sub-zero}
use native.Mathlib.Omega.{arith}
use lib.IntN.{ℤ}
use lib.ListN.{length}
use Rattle.lists.specs.Scans.{all_of}
use Rattle.lists.specs.Tables.{table}
use Rattle.lists.proofs.Scans.{all_hit, all_miss, all_end}
use Rattle.tables.proofs.Scans.{row_part, row_length}
use Rattle.map.specs.Rows.{node_of}
use Rattle.map.specs.Form.{in_face}
use Rattle.map_rows.specs.Rows.{node_at}
use Rattle.map_rows.proofs.Rows.{nodes_table}
use Rattle.form_ranges.specs.Ranges.{face_map}
use Rattle.form_references.proofs.nodes_name_faces.Goals as goal

pub loop-i-init : goal.loop-i-init
loop-i-init c =
    let a = c.args in (
      omega arith,
      ap (λ (k : ℕ). all_of (λ k. in_face (face_map a.faces.now a.f) k.face)
          (table (node_at a.nodes.now) 0 k)) (sub-zero a.n)
          ∙ ap (all_of (λ k. in_face (face_map a.faces.now a.f) k.face))
          (sym (nodes_table a.nodes.now a.n)),
    )

pub node_names-requires : goal.node_names-requires
node_names-requires c =
    let s = c in
    let i = c.loop-i.i in (
      ap length (row_part 4 s.args.nodes.now i)
          ∙ row_length 4 s.args.nodes.now s.args.n i s.requires.0 c.loop-i-test.true,
      s.requires.1,
      s.requires.2,
    )

pub returns-then-not-node_names : goal.returns-then-not-node_names
returns-then-not-node_names c =
    let a = c.args in
    let l = c.loop-i in
    let e = ap (λ (r : List ℤ). in_face (face_map a.faces.now a.f) (node_of r).face)
    (sym (row_part 4 a.nodes.now l.i)) ∙ sym c.node_names.ensures
    ∙ c.if-not-node_names.true in
    sym (all_miss (node_at a.nodes.now) l.i a.n (λ k. in_face (face_map a.faces.now a.f) k.face)
    c.loop-i-test.true e) ∙ l.invariant.1

pub loop-i-preserved : goal.loop-i-preserved
loop-i-preserved c =
    let a = c.args in
    let l = c.loop-i in
    let e = ap (λ (r : List ℤ). in_face (face_map a.faces.now a.f) (node_of r).face)
    (sym (row_part 4 a.nodes.now l.i)) ∙ sym c.node_names.ensures
    ∙ c.if-not-node_names.false in (
      omega arith,
      sym (all_hit (node_at a.nodes.now) l.i a.n
          (λ k. in_face (face_map a.faces.now a.f) k.face) c.loop-i-test.true e)
          ∙ l.invariant.1,
    )

pub returns : goal.returns
returns c =
    let a = c.args in
    sym (all_end (node_at a.nodes.now) c.loop-i.i a.n
    (λ k. in_face (face_map a.faces.now a.f) k.face) c.loop-i-test.false) ∙ c.loop-i.invariant.1
