-- `point_location::face_at` meets its contract: a number that is not negative keeps its value. Assumes nothing.
use borrow.Author.Rules.{sfits_of}
use mathlib.Core.Path.{refl}
use lib.IntN.{pos}
use lib.ListN.{get_or}
use Rattle.integers.specs.Signs.{natural_cast, sent}
use Rattle.point_location.proofs.Cells.{face_small}
use Rattle.point_location.proofs.face_at.Goals as goal

pub overflow_cast-result : goal.overflow_cast-result
overflow_cast-result c =
    let z = get_or c.args.edges.now c.args.j (pos 0) in
    rw (sent {z = z} c.result-1.given) (natural_cast z c.requires.1 (sfits_of c.result-1.given))

pub returns : goal.returns
returns c =
    let z = get_or c.args.edges.now c.args.j (pos 0) in
    rw (sent {z = z} c.result-1.given) (refl, face_small z c.requires.1 (sfits_of c.result-1.given))
