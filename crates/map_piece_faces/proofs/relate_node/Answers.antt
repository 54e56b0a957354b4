-- `map_piece_faces::relate_node` meets its contract: by the answer of the search. Assumes nothing.
use Rattle.std.specs.Prelude.{Option, Some}
use borrow.Author.Rules.{sfits_of}
use mathlib.Core.Path.{◌≡◌, sym, ap, ◌∙◌}
use mathlib.Core.Bool.{Bool, false, ◌&&◌, ◌||◌}
use mathlib.Core.List.{List}
use Prim.Native.Nat.{ℕ, ◌+◌, ◌*◌}
use native.Mathlib.Omega.{arith}
use lib.IntN.{ℤ, pos}
use lib.ListN.{get_or}
use mir.Syntax.{w64}
use mir.Facts.{to_z-of_z}
use Rattle.lists.specs.Tests.{same}
use Rattle.lists.specs.Tables.{place}
use Rattle.lists.proofs.Bools.{eq2}
use Rattle.tables.specs.Tables.{same_z, column}
use Rattle.tables.proofs.Lookups.{place_first}
use Rattle.map.specs.Limits.{node_width, face_width}
use Rattle.piece_faces.proofs.Matrix.{related_more}
use Rattle.map_piece_faces.specs.InFaces.{is_found}
use Rattle.map_piece_faces.proofs.Passed.{relates_as}
use Rattle.map_piece_faces.proofs.relate_node.Lts as lts
use Rattle.map_piece_faces.proofs.relate_node.Tie as tie
use Rattle.map_piece_faces.proofs.relate_node.Reads as reads
use Rattle.map_piece_faces.proofs.relate_node.Goals as goal

-- places in the code, by their names in what is generated
abbrev After-find_indexed : Type 0
After-find_indexed = lts.After-find_indexed tie.the-claims reads.Pre reads.Post

-- the row of the face that node row i names
abbrev found : List ℤ → ℕ → List ℤ → ℕ → Option ℕ
found nodes i faces f = place (same_z (get_or nodes (i * node_width + 3) (pos 0))) 0 (column face_width faces f)

nothing : (a b : Bool) → a || b && false ≡ a
nothing = eq2 (λ a b. a || b && false) (λ a b. a) tt

-- what the search answers
sought : (c : After-find_indexed) →
    let a = c.args in
    c.find_indexed.result ≡ found a.nodes.now a.i a.faces.now a.count
sought c =
    let a = c.args in
    c.find_indexed.ensures ∙ ap (λ (z : ℤ). place (same_z z) 0 (column face_width a.faces.now a.count))
    (to_z-of_z {w = w64} {z = get_or a.nodes.now (a.i * node_width + 3) (pos 0)} (sfits_of c.z-1.given))

pub relate-requires : goal.relate-requires
relate-requires c =
    let a = c.args in
    let row = place_first (same_z (get_or a.nodes.now (a.i * node_width + 3) (pos 0)))
    (λ j. get_or a.faces.now (j * face_width) (pos 0)) a.count c.in-Some.k
    (sym (sought c.before.before.before) ∙ c.in-Some.is) in
    (c.requires.5, omega (arith, c.requires.1), omega (arith, row.below, c.requires.3))

pub returns-in-Some : goal.returns-in-Some
returns-in-Some c =
    let a = c.args in
    let at : found a.nodes.now a.i a.faces.now a.count ≡ Some c.in-Some.k =
    sym (sought c.before.before.before.before.before.before) ∙ c.in-Some.is in
    λ r h. relates_as (λ p g. ap (λ (k : Option ℕ). r p g || same p a.i && is_found g k) (sym at))
    (related_more c.relate.ensures r h)
