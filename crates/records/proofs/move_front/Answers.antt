-- Turned down, nothing is touched; carried out, the row that the number is found at is the one written anew.
use Rattle.std.specs.Prelude.{Some, None}
use Rattle.std.proofs.Common.{ℕ, List, ℤ, [], ◌∷◌, ◌≡◌, pos, take, to_z, of_z, w64, arith, sym, ◌∙◌}
use mir.Val.{SFits}
use mir.Facts.{to_z-of_z}
use Rattle.map.specs.declared.Head.{Head}
use Rattle.map.specs.Rows.{lent}
use Rattle.map.specs.Ticket.{ticket}
use Rattle.head.proofs.Words.{nodes_natural, nodes_read}
use Rattle.outcomes.specs.declared.Done.{Done}
use Rattle.outcomes.specs.Outcomes.{outcome}
use Rattle.outcomes.proofs.Formed.{counted}
use Rattle.outcomes.proofs.Words.{place_told}
use Rattle.records.proofs.Moving.{moves_refused, moves_carried, done_at, rises, found_at, row_in}
use Rattle.records.proofs.move_front.Goals as goal

-- what the ticket left, of the numbers as they were passed
said : (k : ℕ) (flat zs edges es faces ss : List ℤ) (h : Head) (z x y : ℤ) (r : Done) → SFits w64 z → SFits w64 x
    → SFits w64 y
    → outcome (take k zs) es ss r ≡ ticket (lent (take k flat) edges faces h)
    (pos 2 ∷ to_z w64 (of_z w64 z) ∷ to_z w64 (of_z w64 x) ∷ to_z w64 (of_z w64 y) ∷ [])
    → outcome (take k zs) es ss r ≡ ticket (lent (take k flat) edges faces h) (pos 2 ∷ z ∷ x ∷ y ∷ [])
said k flat zs edges es faces ss h z x y r fz fx fy e =
    let ez = to_z-of_z {w = w64} fz in
    let ex = to_z-of_z {w = w64} fx in
    let ey = to_z-of_z {w = w64} fy in
    e ∙ (λ j. ticket (lent (take k flat) edges faces h) (pos 2 ∷ ez j ∷ ex j ∷ ey j ∷ []))

pub returns-then-answer-ne0 : goal.returns-then-answer-ne0
returns-then-answer-ne0 c =
    let a = c.args in
    let f = c.ranges in
    let t = c.ticket_front-done in
    let l = t.new in
    moves_refused a.k a.flat.now l.flat a.edges.now l.edges a.faces.now l.faces a.h a.node a.x a.y t.result c.requires
    (said a.k a.flat.now l.flat a.edges.now l.edges a.faces.now l.faces a.h a.node a.x a.y t.result f.node f.x f.y
    t.ensures) c.if-answer-ne0.true

pub to_usize-count-requires : goal.to_usize-count-requires
to_usize-count-requires c =
    let a = c.args in
    let f = c.ranges in
    let t = c.ticket_front-done in
    let l = t.new in
    let s = said a.k a.flat.now l.flat a.edges.now l.edges a.faces.now l.faces a.h a.node a.x a.y t.result f.node f.x f.y
    t.ensures in
    nodes_natural (counted (done_at a.k a.flat.now l.flat a.edges.now l.edges a.faces.now l.faces a.h a.node a.x a.y
    t.result c.requires s c.if-answer-ne0.false).formed)

pub find_row-requires : goal.find_row-requires
find_row-requires c =
    let a = c.args in
    let f = c.ranges in
    let t = c.ticket_front-done in
    let l = t.new in
    let s = said a.k a.flat.now l.flat a.edges.now l.edges a.faces.now l.faces a.h a.node a.x a.y t.result f.node f.x f.y
    t.ensures in
    let n = nodes_read (counted (done_at a.k a.flat.now l.flat a.edges.now l.edges a.faces.now l.faces a.h a.node a.x a.y
    t.result c.requires s c.if-answer-ne0.false).formed) c.to_usize-count.ensures in
    rw n (rises a.k a.flat.now l.flat a.edges.now l.edges a.faces.now l.faces a.h a.node a.x a.y t.result c.requires s
    c.if-answer-ne0.false)

pub returns-in_default : goal.returns-in_default
returns-in_default c =
    let a = c.args in
    let f = c.ranges in
    let t = c.ticket_front-done in
    let l = t.new in
    let s = said a.k a.flat.now l.flat a.edges.now l.edges a.faces.now l.faces a.h a.node a.x a.y t.result f.node f.x f.y
    t.ensures in
    let d = done_at a.k a.flat.now l.flat a.edges.now l.edges a.faces.now l.faces a.h a.node a.x a.y t.result c.requires s
    c.if-answer-ne0.false in
    let n = nodes_read (counted d.formed) c.to_usize-count.ensures in
    let q : None ≡ Some d.i = sym (place_told 4 l.flat n (to_z-of_z {w = w64} f.node) c.find_row.ensures
    c.in_default.is)
    ∙ found_at a.k a.flat.now l.flat a.edges.now l.edges a.faces.now l.faces a.h a.node a.x a.y t.result c.requires s
    c.if-answer-ne0.false in
    let z : ◌≡◌ {A = ℕ} 0 1 = cc in
    absurd (omega arith)

pub row_at-requires : goal.row_at-requires
row_at-requires c =
    let a = c.args in
    let f = c.ranges in
    let t = c.ticket_front-done in
    let l = t.new in
    let s = said a.k a.flat.now l.flat a.edges.now l.edges a.faces.now l.faces a.h a.node a.x a.y t.result f.node f.x f.y
    t.ensures in
    let n = nodes_read (counted (done_at a.k a.flat.now l.flat a.edges.now l.edges a.faces.now l.faces a.h a.node a.x a.y
    t.result c.requires s c.if-answer-ne0.false).formed) c.to_usize-count.ensures in
    row_in a.k a.flat.now l.flat a.edges.now l.edges a.faces.now l.faces a.h a.node a.x a.y t.result c.requires s
    c.if-answer-ne0.false c.in-Some.i
    (place_told 4 l.flat n (to_z-of_z {w = w64} f.node) c.find_row.ensures c.in-Some.is)

pub returns : goal.returns
returns c =
    let a = c.args in
    let f = c.ranges in
    let t = c.ticket_front-done in
    let l = t.new in
    let s = said a.k a.flat.now l.flat a.edges.now l.edges a.faces.now l.faces a.h a.node a.x a.y t.result f.node f.x f.y
    t.ensures in
    let n = nodes_read (counted (done_at a.k a.flat.now l.flat a.edges.now l.edges a.faces.now l.faces a.h a.node a.x a.y
    t.result c.requires s c.if-answer-ne0.false).formed) c.to_usize-count.ensures in
    moves_carried a.k a.flat.now l.flat a.edges.now l.edges a.faces.now l.faces a.h a.node a.x a.y t.result c.requires s
    c.if-answer-ne0.false c.in-Some.i
    (place_told 4 l.flat n (to_z-of_z {w = w64} f.node) c.find_row.ensures c.in-Some.is)
    (record { count = c.to_usize-count.result; node = c.row_at.result })
    (λ j. record { count = n j; node = c.row_at.ensures j })
