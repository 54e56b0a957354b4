-- `text::read_numbers` meets its contract: the words, in order, are numbers that are written. Assumes nothing.
use Rattle.std.proofs.Common.{◌≡◌, ◌+◌, ◌<◌, length, drop, sym, ap, ◌∙◌, arith, rules, tests, add-zero}
use Rattle.std.specs.Prelude.{ℤ, Option, Some}
use Rattle.std.specs.List.{filter, slice_split}
use Rattle.std.proofs.lemmas.List.{length_push}
use Rattle.std.proofs.lemmas.Iterator.Splits.{YieldsList-from_slice_split}
use Rattle.std.proofs.lemmas.Iterator.Consumers.{YieldsList-from_filter, YieldsList-at, YieldsList-turn, YieldsList-end}
use Rattle.text.specs.Lines.{blank, word_number, cons_number, words, numbers_of}
use Rattle.text.proofs.Words.{some_bytes, words_few}
use mir.Syntax.{w64}
use mir.Val.{SFits}
use mir.Facts.{to_z-of_z}
use Rattle.text.proofs.Numbers.{counted, counted_none, counted_more, put, put_more, put_told, never_put}
use Rattle.text.proofs.Numbers.{Taken, next_word, last_word}
use Rattle.text.proofs.read_numbers.Goals as goal
use Rattle.text.proofs.read_numbers.Goals.{In-Some, In-None}

-- the loop takes the parts that are not empty, in order
taken : (c : In-Some)
    → Taken (filter some_bytes (slice_split blank c.args.line.now)) (length c.loop-word.yielded) c.in-Some.word.now
taken c =
    YieldsList-turn
    (YieldsList-at c.into_iter-word-iterator.ensures.into_iter_gives
    (YieldsList-from_filter _ some_bytes
    (YieldsList-at c.filter-word-items.ensures.source
    (YieldsList-from_slice_split _ blank c.args.line.now c.split.ensures.rest c.split.ensures.done
    c.split.ensures.closure (λ x b q k. search (rules, tests))))
    c.filter-word-items.ensures.closure (λ x b q k. search (rules, tests))))
    c.loop-word.yielded _ c.loop-word.yielded_by _ _ c.in-Some.word c.in-Some.is c.next.ensures.steps

all_taken : (c : In-None) → length c.loop-word.yielded ≡ length (filter some_bytes (slice_split blank c.args.line.now))
all_taken c =
    (YieldsList-end
    (YieldsList-at c.into_iter-word-iterator.ensures.into_iter_gives
    (YieldsList-from_filter _ some_bytes
    (YieldsList-at c.filter-word-items.ensures.source
    (YieldsList-from_slice_split _ blank c.args.line.now c.split.ensures.rest c.split.ensures.done
    c.split.ensures.closure (λ x b q k. search (rules, tests))))
    c.filter-word-items.ensures.closure (λ x b q k. search (rules, tests))))
    c.loop-word.yielded _ c.loop-word.yielded_by _ _ c.in-None.is c.next.ensures.steps).1

-- the words from the n-th on are no numbers, as the n-th is none
pub returns-in_err-z-clause-count : goal.returns-in_err-z-clause-count
returns-in_err-z-clause-count c =
    let line = c.args.line.now in
    let i = c.loop-word in
    let next =
    next_word line _ i.n c.in-Some.word.now i.invariant.0 (taken (goal.at.returns-in_err-z-clause-count c).In-Some) in
    let none : word_number c.in-Some.word.now ≡ _ = sym c.number_of.ensures ∙ c.in_err-z.was in
    c.from_residual.ensures
    ∙ sym (counted_none (numbers_of (words line)) ∙ i.invariant.1
    ∙ ap (counted i.n) (next.1
    ∙ ap (λ (o : Option ℤ). cons_number o (numbers_of (drop (i.n + 1) (words line)))) none))

pub returns-in_err-z-clause-numbers : goal.returns-in_err-z-clause-numbers
returns-in_err-z-clause-numbers c =
    let line = c.args.line.now in
    let i = c.loop-word in
    let next =
    next_word line _ i.n c.in-Some.word.now i.invariant.0 (taken (goal.at.returns-in_err-z-clause-numbers c).In-Some) in
    let none : word_number c.in-Some.word.now ≡ _ = sym c.number_of.ensures ∙ c.in_err-z.was in
    λ zs e. never_put i.n _ i.list e (i.invariant.2
    ∙ ap (put i.n i.list) (next.1
    ∙ ap (λ (o : Option ℤ). cons_number o (numbers_of (drop (i.n + 1) (words line)))) none))

pub loop-word-preserved : goal.loop-word-preserved
loop-word-preserved c =
    let line = c.args.line.now in
    let i = c.loop-word in
    let next =
    next_word line _ i.n c.in-Some.word.now i.invariant.0 (taken (goal.at.loop-word-preserved c).In-Some) in
    let z = c.in_ok-z.z in
    let fits : SFits w64 z = search rules in
    let some : word_number c.in-Some.word.now ≡ _ = sym c.number_of.ensures ∙ c.in_ok-z.was in
    let os = numbers_of (drop (i.n + 1) (words line)) in
    let rest = next.1 ∙ ap (λ (o : Option ℤ). cons_number o os) some in (
      omega (arith, length_push i.yielded c.in-Some.word, i.invariant.0),
      i.invariant.1 ∙ ap (counted i.n) rest ∙ counted_more i.n z os,
      i.invariant.2 ∙ ap (put i.n i.list) rest ∙ put_more i.n i.list z _ os (to_z-of_z fits),
    )

pub bounds-list-n : goal.bounds-list-n
bounds-list-n c =
    let line = c.args.line.now in
    let i = c.loop-word in
    let next =
    next_word line _ i.n c.in-Some.word.now i.invariant.0 (taken (goal.at.bounds-list-n c).In-Some) in
    omega (arith, next.0, words_few line, c.requires)

pub returns-clause-count : goal.returns-clause-count
returns-clause-count c =
    let line = c.args.line.now in
    let i = c.loop-word in
    sym (counted_none (numbers_of (words line)) ∙ i.invariant.1
    ∙ ap (counted i.n) (last_word line _ i.n i.invariant.0 (all_taken (goal.at.returns-clause-count c).In-None))
    ∙ ap Some (add-zero i.n))

pub returns-clause-numbers : goal.returns-clause-numbers
returns-clause-numbers c =
    let line = c.args.line.now in
    let i = c.loop-word in
    λ zs e. put_told i.n _ i.list e (i.invariant.2
    ∙ ap (put i.n i.list) (last_word line _ i.n i.invariant.0 (all_taken (goal.at.returns-clause-numbers c).In-None)))
