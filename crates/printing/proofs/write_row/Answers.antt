use Rattle.std.proofs.Common.{rules, arith, ◌≡◌, ◌+◌, ◌<◌, sym, ap, ◌∙◌, ℕ, List, length, get_or, drop}
use Rattle.std.specs.Prelude.{pos}
use Rattle.std.proofs.Math.ListN.{set}
use Rattle.std.proofs.lemmas.List.Edits.{sets}
use mir.Syntax.{w64}
use mir.Val.{of_z, to_z}
use Rattle.integers.specs.Signs.{sent}
use Rattle.printing.specs.Texts.{number_text, row_text}
use Rattle.printing.proofs.Rows.{number_few, row_turn, row_length, row_end}
use Rattle.printing.proofs.write_row.Goals as goal

pub loop-z-preserved : goal.loop-z-preserved
loop-z-preserved c =
    let l = c.loop-z in
    let i = l.z-index in
    let row = c.args.row.now in
    let b = c.put_text-end in
    let w = c.write_number-end in
    let z = to_z w64 (of_z w64 (get_or row i (pos 0))) in
    let read : z ≡ get_or row i (pos 0) = search (rules, sent) in
    let within : i < length row = omega arith in
    let rest = row_text (drop (i + 1) row) in
    let n = length (number_text z) in
    let end : w.result ≡ l.end + 1 + n = w.ensures.1 ∙ ap (λ (k : ℕ). k + n) b.ensures.1 in
    let out : w.new.out ≡ sets (set l.out l.end 32) (l.end + 1) (number_text z) =
    w.ensures.0 ∙ (λ j. sets (b.ensures.0 j) (b.ensures.1 j) (number_text z)) in (
      omega (arith, end, number_few z),
      l.invariant.1 ∙ row_turn row i within z read l.out l.end ∙ (λ j. sets (sym out j) (sym end j) rest),
      l.invariant.2 ∙ row_length row i within z read l.end ∙ ap (λ (k : ℕ). k + length rest) (sym end),
    )

pub returns : goal.returns
returns c =
    let l = c.loop-z in
    let p = c.put_text.ensures in
    let last = row_end c.args.row.now l.z-index (omega arith) in (
      p.0 ∙ sym (l.invariant.1 ∙ ap (sets l.out l.end) last),
      p.1 ∙ sym (l.invariant.2 ∙ ap (λ (t : List ℕ). l.end + length t) last),
    )
