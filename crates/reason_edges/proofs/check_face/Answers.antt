-- `reason_edges::check_face` meets its contract. Assumes nothing.
use mathlib.Core.Path.{◌≡◌, sym, ap, ◌∙◌}
use Prim.Native.Nat.{ℕ}
use Rattle.lists.specs.Tests.{bit}
use Rattle.lists.proofs.Counts.{byte_bit}
use Rattle.map.specs.Rows.{counts}
use Rattle.map.proofs.Reasons.{first_hit, first_miss, first_none}
use Rattle.head.specs.Heads.{spent_at}
use Rattle.reason_edges.proofs.check_face.Lts as lts
use Rattle.reason_edges.proofs.check_face.Tie as tie
use Rattle.reason_edges.proofs.check_face.Reads as reads
use Rattle.reason_edges.proofs.check_face.Goals as goal

-- places in the code, by their names in what is generated
abbrev After-is_spent : Type 0
After-is_spent = lts.After-is_spent tie.the-claims reads.Pre reads.Post

told : (c : After-is_spent)
    → let a = c.args in c.is_spent.result ≡ spent_at a.h (counts 0 0 (bit a.makes))
told c = c.is_spent.ensures ∙ ap (λ (n : ℕ). spent_at c.args.h (counts 0 0 n))
    (byte_bit c.args.makes)

pub returns-then-is_spent : goal.returns-then-is_spent
returns-then-is_spent c = sym (first_hit 21 _ _ (sym (told c.before) ∙ c.if-is_spent.true))

pub returns : goal.returns
returns c = sym (first_miss 21 _ _ (sym (told c.before) ∙ c.if-is_spent.false) ∙ first_none)
