-- `head::is_full` meets its contract. Assumes nothing.
use borrow.Author.Rules.{rules}
use mathlib.Core.Path.{◌≡◌}
use lib.Dec.{lit≤}
use mir.Syntax.{w64}
use mir.Val.{to_z, of_z}
use Rattle.head.specs.Heads.{full_at}
use Rattle.head.proofs.Heads.{wider}
use Rattle.head.proofs.is_full.Goals as goal

pub exceeds-requires : goal.exceeds-requires
exceeds-requires c =
    let s = c in
    let e : to_z w64 (of_z w64 s.args.h.nodes) ≡ s.args.h.nodes = search rules in
    (rw e (wider (lit≤ tt) s.requires.0.nodes), s.requires.1.nodes)

pub exceeds-requires-2 : goal.exceeds-requires-2
exceeds-requires-2 c =
    let s = c in
    let e : to_z w64 (of_z w64 s.args.h.edges) ≡ s.args.h.edges = search rules in
    (rw e (wider (lit≤ tt) s.requires.0.edges), s.requires.1.edges)

pub exceeds-requires-3 : goal.exceeds-requires-3
exceeds-requires-3 c =
    let s = c in
    let e : to_z w64 (of_z w64 s.args.h.faces) ≡ s.args.h.faces = search rules in
    (rw e (wider (lit≤ tt) s.requires.0.faces), s.requires.1.faces)

pub returns : goal.returns
unfolding full_at
returns c =
    let h = c.args.h in
    let n : to_z w64 (of_z w64 h.nodes) ≡ h.nodes = search rules in
    let e : to_z w64 (of_z w64 h.edges) ≡ h.edges = search rules in
    let f : to_z w64 (of_z w64 h.faces) ≡ h.faces = search rules in
    rw (
      c.exceeds.ensures,
      c.exceeds-2.ensures,
      c.exceeds-3.ensures,
      n,
      e,
      f,
    )
