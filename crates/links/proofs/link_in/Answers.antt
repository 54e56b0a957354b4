-- `links::link_in` meets its contract. Assumes nothing.
use Rattle.std.specs.Prelude.{Option, Some, None}
use Rattle.std.specs.Option.{unwrap_or}
use borrow.Author.Rules.{sfits_of}
use mathlib.Core.List.{List}
use lib.IntN.{ℤ}
use Rattle.map_rows.specs.Rows.{EdgeRows}
use mathlib.Core.Path.{◌≡◌, refl, sym, ap, ◌∙◌}
use Prim.Native.Nat.{ℕ, ◌*◌, ◌/◌, ◌<◌}
use native.Mathlib.Omega.{arith}
use mir.Syntax.{w64}
use mir.Facts.{to_z-of_z}
use Rattle.map.specs.Rows.{dart_cell}
use Rattle.map_rows.proofs.Rows.{edge-row_of}
use Rattle.darts.specs.Positions.{dart_at, side_cell, way_at}
use Rattle.links.specs.Linking.{linked_at, linked_where, first_met, departures_but}
use Rattle.links.proofs.LinksKept.{met_below}
use Rattle.links.proofs.link_in.Goals as goal

module _ {l : List ℤ} {n p : ℕ} (t : EdgeRows l n) (h : p < n * 2) (other : ℕ) where
  -- what is met is a position, and p where there is none
  met_is : (r : Option ℕ) → r ≡ first_met (way_at l) (way_at l p) (departures_but l n (side_cell l p 1) p other)
      → unwrap_or r p < n * 2
  met_is (Some q) e = met_below t p h other q (sym e)
  met_is None e = h

linked_is : (l : List ℤ) (n p : ℕ) (r : Option ℕ)
    → linked_at l n p (dart_cell (dart_at l (unwrap_or r p))) ≡ linked_where l n p r
linked_is l n p (Some q) = refl
linked_is l n p None = refl

pub dart_at-c-requires : goal.dart_at-c-requires
dart_at-c-requires c =
    let s = c.requires in
    let b = met_is s.0 s.1 c.args.other c.met.result c.met.ensures in
    edge-row_of s.0 (c.unwrap_or-q.result / 2) (omega (arith, b, c.unwrap_or-q.ensures))

pub returns : goal.returns
returns c =
    let d = c.dart_at-c in
    let a = c.args in
    let l = a.edges.now in
    c.link_at.ensures
    ∙ ap (linked_at l a.count a.p) (to_z-of_z {w = w64} (sfits_of d.type_inv) ∙ d.ensures
    ∙ ap (λ (q : ℕ). dart_cell (dart_at l q)) c.unwrap_or-q.ensures)
    ∙ linked_is l a.count a.p c.met.result ∙ ap (linked_where l a.count a.p) c.met.ensures
