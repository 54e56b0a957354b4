-- `map_piece_faces::relate_all` meets its contract: the matrix by rows is that of the map's pieces and faces. Assumes
-- nothing.
use mathlib.Core.Path.{◌≡◌, sym, ap, subst}
use mathlib.Core.List.{List}
use Prim.Native.Nat.{ℕ, ◌≤◌}
use native.Mathlib.Omega.{arith}
use lib.IntN.{ℤ, nat_abs}
use lib.ListN.{length, take, replicate, length-replicate}
use lib.Seq.{length-take-le}
use Rattle.map.specs.declared.Counts.{Counts}
use Rattle.map.specs.declared.Head.{Head}
use Rattle.map.specs.Limits.{max_nodes}
use Rattle.map.specs.Rows.{map_of, lent}
use Rattle.head.specs.Heads.{counts_of}
use Rattle.form.proofs.Parts.{in_form-natural}
use Rattle.outcomes.specs.Outcomes.{Formed}
use Rattle.outcomes.proofs.Formed.{counted}
use Rattle.map_piece_faces.specs.InFaces.{Related, InFaces}
use Rattle.map_piece_faces.proofs.Pieces.{in_faces_lem}
use Rattle.map_piece_faces.proofs.relate_all.Goals as goal

pub counts_of-c-requires : goal.counts_of-c-requires
counts_of-c-requires c = in_form-natural _ _ _ c.args.h c.requires.0.in_form

-- there are labels for all nodes
few : (c : goal.After-counts_of-c) → c.counts_of-c.result.nodes ≤ max_nodes
few c = omega (arith, (counted c.requires.0).nodes.most, ap (λ k. k.nodes) c.counts_of-c.ensures)

labels-long : (n : ℕ) → n ≤ max_nodes → length (take {A = ℕ} n (replicate max_nodes 0)) ≡ n
labels-long n h = length-take-le n (replicate max_nodes 0) (omega (arith, length-replicate {A = ℕ} max_nodes 0))

pub slice_bounds-relate_labelled-end : goal.slice_bounds-relate_labelled-end
slice_bounds-relate_labelled-end c = sym (labels-long c.counts_of-c.result.nodes (few c.before))

pub relate_labelled-requires : goal.relate_labelled-requires
relate_labelled-requires c =
    let k = c.before.before in
    let s = k in (
      (s.args.h, s.requires.0, k.counts_of-c.ensures),
      labels-long k.counts_of-c.result.nodes (few k),
      s.requires.1,
    )

told : {nodes edges faces : List ℤ} {h : Head} {c : Counts} {g : List ℕ} {r : ℕ} → Formed nodes edges faces h
    → c ≡ counts_of h → Related nodes edges faces c g r
    → InFaces (map_of (lent nodes edges faces h)) nodes (nat_abs h.nodes) faces (nat_abs h.faces) g r
told {nodes} {edges} {faces} {h} {g = g} {r} f e w =
    in_faces_lem nodes edges faces h f g r (subst (λ c. Related nodes edges faces c g r) e w)

pub returns : goal.returns
returns c = let k = c in
    told k.requires.0 k.counts_of-c.ensures c.relate_labelled.ensures

pub slice_bounds-labels-end : goal.slice_bounds-labels-end
slice_bounds-labels-end c = few c
