-- `reason_corners::end_corner` meets its contract. Assumes nothing.
use Rattle.std.specs.Prelude.{Option}
use Rattle.std.specs.Option.{unwrap_or}
use mathlib.Core.Path.{sym, ap, ◌∙◌}
use mathlib.Core.Bool.{true}
use Prim.Native.Nat.{ℕ, ◌+◌, ◌*◌}
use lib.IntN.{ℤ}
use mir.Syntax.{w64}
use mir.Val.{of_z}
use mir.Facts.{to_z-of_z}
use Rattle.links.proofs.FirstMet.{met_in}
use Rattle.tables.proofs.Order.{word_is, is_same, not_same}
use Rattle.reason_corners.specs.Drawing.{corner_at}
use Rattle.reason_corners.proofs.Ends.{corner_or, departing_below, end-apart, end_alone, end_besides}
use Rattle.reason_corners.proofs.end_corner.Goals as goal

pub returns-then-from-to : goal.returns-then-from-to
returns-then-from-to c =
    let a = c.args in
    c.unwrap_or.ensures ∙ ap (λ (r : Option ℕ). unwrap_or r (a.edges.count * 2 + 1)) c.corner-found.ensures
    ∙ corner_or a.edges.rows.now a.edges.count a.c.now true _ (a.edges.count * 2 + 1)
    ∙ ap (λ (z : ℤ). corner_at a.edges.rows.now a.edges.count a.c.now true z (a.edges.count * 2 + 1))
    (to_z-of_z {w = w64} c.ranges.to)
    ∙ end-apart a.edges.rows.now a.edges.count a.c.now a.from a.to
    (not_same a.from a.to (λ q. c.if-from-to.true (ap (of_z w64) q)))

pub returns-in-None : goal.returns-in-None
returns-in-None c =
    let a = c.args in
    let none = rw (to_z-of_z {w = w64} c.ranges.to) at c.in-None.ensures in
    end_alone a.edges.rows.now a.edges.count a.c.now a.from a.to
    (is_same a.from a.to (word_is c.ranges.from c.ranges.to c.if-from-to.false)) (sym none)

pub returns-in-Some : goal.returns-in-Some
returns-in-Some c =
    let a = c.args in
    let met = rw (to_z-of_z {w = w64} c.ranges.to) at c.in-Some.ensures in
    c.end_of_loop.ensures ∙ end_besides a.edges.rows.now a.edges.count a.c.now a.from a.to
    (is_same a.from a.to (word_is c.ranges.from c.ranges.to c.if-from-to.false)) c.in-Some.q (sym met)

pub end_of_loop-requires : goal.end_of_loop-requires
end_of_loop-requires c =
    let a = c.args in
    let below = departing_below a.edges.rows.now a.edges.count _ c.in-Some.q
    (met_in _ _ _ c.in-Some.q (sym c.in-Some.ensures)) in
    (c.requires.0, below, c.requires.1)
