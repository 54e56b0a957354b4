-- `links::link_edge` meets its contract: the rows are as required after the start is linked in. Assumes nothing.
use mathlib.Core.Path.{sym, ap, ◌∙◌, subst}
use mathlib.Core.List.{List}
use Prim.Native.Nat.{◌+◌, ◌*◌, ◌-◌}
use native.Mathlib.Omega.{arith}
use lib.IntN.{ℤ}
use Rattle.map_rows.specs.Rows.{EdgeRows}
use Rattle.links.specs.Linking.{linked_in}
use Rattle.links.proofs.LinksKept.{linked_in_kept}
use Rattle.links.proofs.link_edge.Goals as goal

pub link_in-requires-2 : goal.link_in-requires-2
link_in-requires-2 c =
    let s = c in
    let p = (s.args.count - 1) * 2 in
    let some = s.requires.1 in (
      subst (λ (t : List ℤ). EdgeRows t s.args.count) (sym c.link_in.ensures)
          (linked_in_kept s.requires.0 p (omega arith) (p + 1)),
      omega arith,
      s.requires.2,
    )

pub returns : goal.returns
returns c =
    let a = c.args in
    let p = (a.count - 1) * 2 in
    c.link_in-2.ensures ∙ ap (λ (t : List ℤ). linked_in t a.count (p + 1) (p + 1))
    c.link_in.ensures
