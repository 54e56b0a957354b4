-- The indent, a word, a number and a line end fit the buffer.
use Rattle.std.proofs.Common.{arith, ap, sym, ◌≡◌, ◌∙◌, ℕ, ◌*◌, List, length, to_z-of_z}
use Rattle.std.proofs.Math.Seq.{length-take-le}
use Rattle.std.proofs.lemmas.List.{length-replicate}
use Rattle.std.specs.Prelude.{replicate}
use mir.Syntax.{w64}
use mir.Val.{of_z, to_z}
use Rattle.printing.proofs.Puts.{copied}
use Rattle.outline.specs.Lines.{word_of}
use Rattle.outline.proofs.Lines.{word_few, line-put}
use Rattle.outline.proofs.put_line.Goals as goal

pub put_text-at-requires : goal.put_text-at-requires
put_text-at-requires c =
    let kind = ap word_of (to_z-of_z {w = w64} c.ranges.kind) in
    let word : c.as_bytes.result.now ≡ word_of c.args.kind = c.as_bytes.ensures.value ∙ c.word_of.ensures ∙ kind in
    omega (arith, ap length word, word_few c.args.kind, c.clamp-n.ensures.1)

pub write_row-requires : goal.write_row-requires
write_row-requires c =
    let kind = ap word_of (to_z-of_z {w = w64} c.ranges.kind) in
    let word : c.as_bytes.result.now ≡ word_of c.args.kind = c.as_bytes.ensures.value ∙ c.word_of.ensures ∙ kind in
    omega (arith, ap length word, word_few c.args.kind, c.clamp-n.ensures.1, c.put_text-at.ensures.1)

pub returns : goal.returns
returns c =
    let a = c.args in
    let n = c.clamp-n.result * 2 in
    let t = c.put_text-at in
    let w = c.write_row in
    let kind = ap word_of (to_z-of_z {w = w64} c.ranges.kind) in
    let word : c.as_bytes.result.now ≡ word_of a.kind = c.as_bytes.ensures.value ∙ c.word_of.ensures ∙ kind in
    let number = to_z-of_z {w = w64} c.ranges.number in
    let long = length-take-le n a.out.now (omega (arith, c.clamp-n.ensures.1)) in
    let blanks : c.fill.new.self ≡ replicate n 32 =
    c.fill.ensures.after (λ y e. e) ∙ ap (λ (k : ℕ). replicate k 32) long in
    let few : length (replicate {A = ℕ} n 32) ≡ n = length-replicate {A = ℕ} n 32 in
    line-put a.out.now _ t.new.out w.new.out
    a.depth a.kind a.number n t.result w.result
    (ap (λ (k : ℕ). k * 2) (rw (to_z-of_z {w = w64} c.ranges.depth) at c.clamp-n.ensures.0))
    (omega (arith, c.clamp-n.ensures.1))
    (copied a.out.now (replicate n 32) c.fill.new.self 0 n blanks few (omega (arith, few, c.clamp-n.ensures.1)))
    (rw word at t.ensures.0) (rw word at t.ensures.1)
    (rw number at w.ensures.0) (rw number at w.ensures.1)
    (omega arith)
