-- A text copied into a part of a buffer. Assumes nothing.
use Rattle.std.specs.Prelude.{◌≡◌, ℕ, ◌+◌, ◌≤◌, List, ◌++◌, length, take, drop}
use Rattle.std.proofs.Common.{refl, sym, ap, ◌∙◌, arith}
use Rattle.std.proofs.lemmas.List.{take_all}
use Rattle.std.proofs.lemmas.List.Edits.{sets, sets-eq}
use Rattle.std.proofs.lemmas.Slice.{put_mid-paste}
use borrow.Rule.Slice.PartMut.{put_mid}

pub copied : (out text ys : List ℕ) (at k : ℕ) → ys ≡ text → length text ≡ k → at + length text ≤ length out
    → put_mid at k out ys ≡ sets out at text
copied out text ys at k e n h =
    put_mid-paste at k out ys text k e refl (sym n)
    ∙ ap (λ (t : List ℕ). take at out ++ t ++ drop (at + k) out) (take_all k text (omega arith))
    ∙ ap (λ (m : ℕ). take at out ++ text ++ drop (at + m) out) (sym n)
    ∙ sym (sets-eq text out at h)
