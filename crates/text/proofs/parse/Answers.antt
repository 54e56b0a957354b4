use Rattle.std.proofs.Common.{sym, ◌∙◌, subst, arith}
use Rattle.std.specs.Prelude.{ℕ, pos, Option, replicate}
use Rattle.std.proofs.lemmas.List.{length-take, length-replicate}
use Rattle.text.specs.Lines.{line_numbers}
use Rattle.text.specs.Parsed.{ParsedAs}
use Rattle.text.proofs.Whole.{too_long, wrong_line, count_few, right_line}
use Rattle.text.proofs.parse.Goals as goal

pub returns-then-line-gt-LINE : goal.returns-then-line-gt-LINE
returns-then-line-gt-LINE c = let a = c.args in too_long a.line.now a.list.now (omega arith)

pub returns-in_err-n : goal.returns-in_err-n
returns-in_err-n c =
    let line = c.args.line.now in
    let list = c.args.list.now in
    subst (λ (r : Option ℕ). ParsedAs (line_numbers line) list r list) (sym c.from_residual.ensures)
    (wrong_line line list (omega arith) (sym c.read_numbers.ensures.count ∙ c.in_err-n.was))

pub slice_bounds-numbers-end : goal.slice_bounds-numbers-end
slice_bounds-numbers-end c =
    let a = c.args in
    let few =
    count_few a.line.now a.list.now (omega arith) c.in_ok-n.n (sym c.read_numbers.ensures.count ∙ c.in_ok-n.was) in
    omega (arith, few, c.read_numbers.array_long)

pub slice_bounds-write_numbers-end-2 : goal.slice_bounds-write_numbers-end-2
slice_bounds-write_numbers-end-2 c =
    let a = c.args in
    let l = c.read_numbers.new.list in
    let few =
    count_few a.line.now a.list.now (omega arith) c.in_ok-n.n (sym c.read_numbers.ensures.count ∙ c.in_ok-n.was) in
    omega (arith, few, c.read_numbers.array_long, length-take c.in_ok-n.n l)

pub returns : goal.returns
returns c =
    let a = c.args in
    right_line a.line.now a.list.now (omega arith) c.in_ok-n.n (sym c.read_numbers.ensures.count ∙ c.in_ok-n.was)
    (replicate 500 (pos 0)) c.read_numbers.new.list c.write_numbers.new.list (length-replicate 500 (pos 0))
    c.read_numbers.ensures.numbers c.write_numbers.ensures
