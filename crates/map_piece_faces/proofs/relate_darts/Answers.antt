-- `map_piece_faces::relate_darts` meets its contract: the matrix has what the directed edges that are passed relate.
-- Assumes nothing.
use Rattle.std.proofs.lemmas.Slice.Zip.{zip_turn, zip_end}
use mathlib.Core.Path.{◌≡◌, ◌∙◌, subst}
use Rattle.std.proofs.lemmas.List.{get_or-take}
use mathlib.Core.List.{[], ◌∷◌, ◌++◌}
use Prim.Native.Nat.{ℕ, ◌+◌, ◌*◌, ◌<◌}
use native.Mathlib.Omega.{arith}
use lib.ListN.{length, get_or, take, length-append, length-take}
use Rattle.piece_faces.specs.Bits.{Joined}
use Rattle.piece_faces.proofs.Matrix.{related_more}
use Rattle.map_piece_faces.specs.InFaces.{dart_relates}
use Rattle.map_piece_faces.proofs.Passed.{passed_turn}
use Rattle.map_piece_faces.proofs.relate_darts.Goals as goal

pub loop-s-preserved : goal.loop-s-preserved
loop-s-preserved c =
    let a = c.args in
    let n = a.count * 2 in
    let i = length c.loop-s.yielded in
    let t = zip_turn (take n a.starts.now) (take n a.bears.now) c.loop-s.yielded _ _ c.next.new.self _ (cc) (cc)
    c.loop-s.yielded_by _ c.in-Some.is c.next.ensures.steps in
    let inside : i < n = omega (arith, t.0, length-take n a.starts.now) in
    let more : length (c.loop-s.yielded ++ (c.in-Some.s, c.in-Some.f) ∷ []) ≡ i + 1 = simp length-append in
    let start : c.in-Some.s.now ≡ get_or a.starts.now i 0 = t.2 0 ∙ get_or-take n a.starts.now i 0 inside in
    let face : c.in-Some.f.now ≡ get_or a.bears.now i 0 = t.3 0 ∙ get_or-take n a.bears.now i 0 inside in (
      omega (arith, c.relate.ensures.size, c.loop-s.invariant.0),
      passed_turn (dart_relates a.starts.now a.bears.now a.labels.now) i _ more
          a.graph.now c.loop-s.graph c.relate.new.graph c.loop-s.invariant.1 (related_more
          (subst (λ (s : ℕ). Joined c.loop-s.graph (get_or a.labels.now s 0) (get_or a.bears.now i 0) c.relate.new.graph) start
          (subst (λ (f : ℕ). Joined c.loop-s.graph (get_or a.labels.now c.in-Some.s.now 0) f c.relate.new.graph) face
          c.relate.ensures))),
    )

pub returns : goal.returns
returns c =
    let a = c.args in
    let n = a.count * 2 in
    let t = zip_end (take n a.starts.now) (take n a.bears.now) c.loop-s.yielded _ _ c.next.new.self _ (cc) (cc)
    c.loop-s.yielded_by c.in-None.is c.next.ensures.steps in
    let all : length c.loop-s.yielded ≡ n = omega (
      arith,
      t,
      length-take n a.starts.now,
      length-take n a.bears.now,
      c.requires.0.starts_fit,
      c.requires.0.bears_fit,
    ) in
    rw all at c.loop-s.invariant.1
