use Rattle.std.proofs.Common.{arith, ◌≡◌, ◌+◌, ◌<◌, List, ℕ, ◌++◌, length, drop, get_or, sym, ap, ◌∙◌, append_assoc}
use Rattle.std.proofs.Math.ListN.{drop_of_length-le}
use Rattle.lists.specs.Scans.{fold}
use Rattle.console.specs.Desks.{desk_now}
use Rattle.console.specs.Lines.{Desk, served}
use Rattle.console.specs.Printed.{byte_printed, printed}
use Rattle.console.proofs.Lines.{served_turn, each_byte}
use Rattle.console.proofs.Wrote.{wrote_more}
use Rattle.console.proofs.Printed.{printed_turn}
use Rattle.console.proofs.Desk.serve_bytes.Goals as goal

-- the byte is served
pub loop-b-preserved : goal.loop-b-preserved
loop-b-preserved g c =
    let l = c.loop-b in
    let w = c.serve_byte in
    let rows = c.args.rows in
    let bytes = c.args.bytes.now in
    let i = l.b-index in
    let b = get_or bytes i 0 in
    let rest = drop (i + 1) bytes in
    let within : i < length bytes = omega arith in
    let now = desk_now l.self in
    let next = desk_now w.new.self in
    let leaves : next ≡ served now b = w.ensures.leaves in
    let text = l.invariant.2.0 in
    let more = byte_printed rows now b in (
      (w.ensures.loans.0 ∙ l.invariant.0.0, w.ensures.loans.1 ∙ l.invariant.0.1, w.ensures.loans.2 ∙ l.invariant.0.2),
      l.invariant.1 ∙ served_turn now bytes i within ∙ ap (λ (d : Desk). fold served d rest) (sym leaves),
      (
        text ++ more,
        wrote_more g.W.Write.contents c.args.streams.now l.streams w.new.streams text more l.invariant.2.1 w.ensures.writes,
        l.invariant.2.2
            ∙ ap (λ (t : List ℕ). text ++ t)
            (printed_turn rows now bytes i within ∙ ap (λ (d : Desk). more ++ printed rows d rest) (sym leaves))
            ∙ sym (append_assoc text more (printed rows next rest)),
      ),
    )

pub returns-clause-leaves : goal.returns-clause-leaves
returns-clause-leaves g c =
    let l = c.loop-b in
    let bytes = c.args.bytes.now in
    let none_left = drop_of_length-le bytes {i = l.b-index} (omega arith) in
    sym (l.invariant.1 ∙ rw none_left)

pub returns-clause-are_bytes : goal.returns-clause-are_bytes
returns-clause-are_bytes g c = each_byte c.args.bytes.now (λ i. (c.type_inv.bytes i).fits)
