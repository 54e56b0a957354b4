-- `edit_rectangles::affected_after` meets its contract. Assumes nothing.
use borrow.Author.Rules.{rules, sfits_of}
use mathlib.Core.Path.{◌≡◌, sym, ap, ◌∙◌}
use mathlib.Core.Bool.{Bool, false, cond}
use mathlib.Core.List.{List}
use lib.IntN.{ℤ, pos, nat_abs}
use mir.Syntax.{w64}
use mir.Val.{of_z}
use Rattle.integers.specs.Signs.{sent}
use Rattle.tables.specs.Tables.{same_z}
use Rattle.tables.proofs.Order.{is_same, not_same, word_is}
use Rattle.map.specs.declared.Head.{Head}
use Rattle.edit_rectangles.specs.FacePairs.{both, no_pair, pair_last, affected_after}
use Rattle.edit_rectangles.specs.declared.Affected.{Affected}
use Rattle.edit_rectangles.specs.declared.FacePair.{FacePair}
use Rattle.edit_rectangles.proofs.affected_after.Goals as goal

read : (c : goal.After-to_usize-e) → c.to_usize-e.result ≡ nat_abs c.args.after.edges
read c =
    c.to_usize-e.ensures
    ∙ ap nat_abs (sent {z = c.args.after.edges} c.struct_told-1.given.1.0.1)

pub last_pair-requires : goal.last_pair-requires
last_pair-requires c = rw (read c) c.requires.1

pub returns-then-draws : goal.returns-then-draws
returns-then-draws c =
    let d = c.before.before in
    let s = d in
    let a = s.args in
    c.both.ensures
    ∙ ap (λ (u : FacePair). both u no_pair) (c.last_pair.ensures
    ∙ ap (pair_last a.edges.now) (read d))
    ∙ sym (ap (λ (b : Bool). affected_after b a.edges.now a.h a.after a.a) d.if-draws.true)

-- no edge is drawn: the next face number decides
undrawn : (l : List ℤ) (h h' : Head) (a : Affected) {b d : Bool} → d ≡ false
    → same_z h'.next_face h.next_face ≡ b
    → cond b a (both (record { left = h.next_face; right = pos 0 }) no_pair) ≡ affected_after d l h h' a
undrawn l h h' a ed eb = sym (
    ap (λ (d : Bool). affected_after d l h h' a) ed
    ∙ ap (λ (b : Bool). cond b a (both (record { left = h.next_face; right = pos 0 }) no_pair)) eb
    )

pub returns-then-given-next : goal.returns-then-given-next
returns-then-given-next c =
    let d = c in
    let s = d in
    let a = s.args in
    let n = not_same a.after.next_face a.h.next_face (λ q. c.if-given-next.true (ap (of_z w64) q)) in
    c.both-then-given-next.ensures
    ∙ ap (λ (z : ℤ). both (record { left = z; right = pos 0 }) no_pair)
    (sent {z = a.h.next_face} d.struct_told-2-1.given.1.1.1.1.1.0.1)
    ∙ undrawn a.edges.now a.h a.after a.a s.if-draws.false n

pub returns : goal.returns
returns c =
    let d = c in
    let s = d in
    let a = s.args in
    let y = is_same a.after.next_face a.h.next_face
    (word_is (sfits_of d.struct_told-3-1.given.1.1.1.1.1.0.1)
    (sfits_of d.struct_told-2-1.given.1.1.1.1.1.0.1) c.if-given-next.false) in
    undrawn a.edges.now a.h a.after a.a s.if-draws.false y
