-- `face_rows::sides_of` meets its contract. Assumes nothing.
use mathlib.Core.Path.{◌≡◌, sym, ap, ◌∙◌}
use mathlib.Core.Bool.{Bool, cond, not, ◌||◌}
use Prim.Native.Nat.{ℕ, ◌+◌, ◌*◌, ◌-◌}
use native.Mathlib.Omega.{arith}
use lib.IntN.{ℤ, pos, nat_abs}
use lib.Signed.{lt_z}
use mir.Syntax.{w64}
use mir.Val.{of_z, to_z, bool_byte, SFits}
use mir.Facts.{to_z-of_z}
use Rattle.integers.specs.Order.{sgn}
use Rattle.integers.specs.Signs.{sent}
use Rattle.lists.proofs.Bools.{cond_has}
use Rattle.lists.proofs.Counts.{byte_bit, byte_most}
use Rattle.plane.specs.Areas.{is_positive}
use Rattle.map.specs.Darts.{ring}
use Rattle.map.specs.Faces.{ring_area}
use Rattle.map_rows.specs.Rows.{edge_map}
use Rattle.darts.specs.Positions.{dart_at}
use Rattle.head.proofs.Words.{small_fits, plus_fits, plus_is}
use Rattle.rings.proofs.Sums.{positive_is}
use Rattle.face_rows.proofs.Words.{either}
use Rattle.face_rows.proofs.sides_of.Goals as goal
use Rattle.face_rows.proofs.sides_of.Goals.{then-goes, else-goes, then-is_left-goes, else-is_left-goes}

pub overflow_add-b : goal.overflow_add-b
overflow_add-b c = let s = c in plus_fits s.args.a s.requires.2 s.requires.3

pub overflow_add-result : goal.overflow_add-result
overflow_add-result c =
    let s = c in
    let k = byte_most (not (lt_z (pos 0) (to_z w64 (of_z w64 c.ring_area-is_left.result)))) in
    omega (arith, s.requires.1)

pub returns : goal.returns
returns c =
    let a = c.args in
    let p = c.requires in
    let area = c.ring_area-is_left in
    let doubled = ring_area (edge_map a.edges.rows.now a.edges.count)
    (ring (edge_map a.edges.rows.now a.edges.count) (dart_at a.edges.rows.now ((a.edges.count - 1) * 2))) in
    let is_left = ap (lt_z (pos 0)) (sent {z = area.result} area.type_inv ∙ area.ensures) ∙ positive_is doubled in
    let vo = to_z-of_z {w = w64} {z = a.old} c.ranges.old in
    let va = to_z-of_z {w = w64} {z = a.a} c.ranges.a in
    let first = lt_z (pos 0) (to_z w64 (of_z w64 area.result)) || not a.goes in
    let b = cond a.goes (pos (nat_abs a.a + 1)) a.old in
    let fb = cond_has (SFits w64) a.goes (small_fits (nat_abs a.a + 1) (omega (arith, p.3))) c.ranges.old in
    let vb : to_z w64 c.if-goes.b-bits ≡ b =
    elim c.if-goes.branch [
      | then-goes w ↦ w.b-is ∙ plus_is a.a p.2 p.3
          ∙ sym (ap (λ (x : Bool). cond x (pos (nat_abs a.a + 1)) a.old) w.if-goes.true)
      | else-goes w ↦ w.b-is ∙ vo ∙ sym (ap (λ (x : Bool). cond x (pos (nat_abs a.a + 1)) a.old) w.if-goes.false)
    ] in
    let both : c.if-is_left-goes.inside ≡ (cond first a.a b, cond first b a.a) =
    elim c.if-is_left-goes.branch [
      | then-is_left-goes w ↦ w.inside-is ∙ (λ i. (va i, vb i))
          ∙ sym (ap (λ (x : Bool). (cond x a.a b, cond x b a.a)) w.if-is_left-goes.true)
      | else-is_left-goes w ↦ w.inside-is ∙ (λ i. (vb i, va i))
          ∙ sym (ap (λ (x : Bool). (cond x a.a b, cond x b a.a)) w.if-is_left-goes.false)
    ] in
    let inside = either first c.ranges.a fb (ap (λ (x : ℤ × ℤ). x.0) both)
    ∙ ap (λ (x : Bool). cond (x || not a.goes) a.a b) is_left in
    let other = either first fb c.ranges.a (ap (λ (x : ℤ × ℤ). x.1) both)
    ∙ ap (λ (x : Bool). cond (x || not a.goes) b a.a) is_left in
    let place = ap (λ (x : Bool). (a.edges.count - 1) * 2 + bool_byte (not x)) is_left
    ∙ ap (λ (k : ℕ). (a.edges.count - 1) * 2 + k) (byte_bit (not (is_positive (sgn doubled)))) in
    λ i. record { old = vo i; ring = place i; inside = inside i; other = other i }
