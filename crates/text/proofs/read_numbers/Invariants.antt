-- n words are numbers and written, and those from there on are still to come.
use Rattle.std.proofs.Common.{◌≡◌, length, drop}
use Rattle.text.specs.Lines.{words, numbers_of}
use Rattle.text.proofs.Numbers.{counted, put}
use Rattle.text.proofs.read_numbers.Given as goal

abbrev pub invariant-loop-word : goal.invariant-loop-word
invariant-loop-word l =
    (l.n ≡ length l.yielded)
    × (counted 0 (numbers_of (words l.line)) ≡ counted l.n (numbers_of (drop l.n (words l.line))))
    × (put 0 l.initial.list (numbers_of (words l.line)) ≡ put l.n l.list (numbers_of (drop l.n (words l.line))))
