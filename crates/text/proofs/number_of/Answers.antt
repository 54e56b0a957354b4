use Rattle.std.specs.Prelude.{◌≡◌, Result, Ok, Err, Some, None, MatchResult}
use Rattle.std.proofs.Common.{sym, subst, ◌∙◌}
use Rattle.std.specs.Result.{result_ok}
use Rattle.text.specs.Lines.{word_number}
use Rattle.text.proofs.Numerals.{no_text, number_read}
use Rattle.text.proofs.number_of.Goals as goal

module _ {S E : Type 0} (P : S → Type 0) (Q : E → Type 0) where
  no_text_told : (r : Result S E) → MatchResult r P Q → result_ok r ≡ None → (e : E) × Q e
  no_text_told (Ok s) m e = cc
  no_text_told (Err x) m e = (x, m)

  text_told : (r : Result S E) (s : S) → MatchResult r P Q → result_ok r ≡ Some s → P s
  text_told (Ok t) s m e = let q : t ≡ s = cc in subst P q m
  text_told (Err x) s m e = cc

pub returns-in_err-ok : goal.returns-in_err-ok
returns-in_err-ok c =
    let told = no_text_told _ _ c.from_utf8.result c.from_utf8.ensures.cases (sym c.ok.ensures.value ∙ c.in_err-ok.was) in
    c.from_residual.ensures ∙ sym (no_text c.args.word.now told.1.0)

pub returns : goal.returns
returns c =
    let told = text_told _ _ c.from_utf8.result _ c.from_utf8.ensures.cases (sym c.ok.ensures.value ∙ c.in_ok-ok.was) in
    let read = number_read _ c.parse.result c.parse.ensures.value.0 in
    c.ok-2.ensures.value ∙ subst (λ w. result_ok c.parse.result ≡ word_number w) told.0 read
