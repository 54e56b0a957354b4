-- Texts that are written one after the other. Assumes nothing.
use Rattle.std.specs.Prelude.{◌≡◌, List, [], ◌++◌, ℕ, Option, None, Some, IsNone, IsSome}
use Rattle.std.proofs.Common.{refl, sym, ap, subst, ◌∙◌, append_assoc, append-nil}
use Rattle.std.specs.Io.KnownBytes.{Appends}
use Rattle.console.specs.declared.channel.Streams.{Streams}
use Rattle.console.specs.Wrote.{Wrote}

pub appends_none : (o : Option (List ℕ)) → Appends o o []
appends_none None = tt
appends_none (Some xs) = sym (append-nil xs)

pub appends_more : (x y z : Option (List ℕ)) (text more : List ℕ) → Appends x y text → Appends y z more
    → Appends x z (text ++ more)
appends_more None y z text more f g = tt
appends_more (Some xs) None z text more f g = absurd f
appends_more (Some xs) (Some ys) None text more f g = absurd g
appends_more (Some xs) (Some ys) (Some zs) text more f g =
    g ∙ ap (λ (l : List ℕ). l ++ more) f ∙ append_assoc xs text more

-- what has not failed had not failed before
pub none_before : {E : Type 0} (before after : Option E) → (IsSome before → after ≡ before) → IsNone after → IsNone before
none_before None after f n = refl
none_before (Some e) after f n = subst IsNone (f refl) n

module _ {R W : Type 0} (contents : W → Option (List ℕ)) where
  -- nothing is written
  pub wrote_none : (s : Streams R W) → Wrote contents s s []
  wrote_none s = record {
    reads_none = refl;
    fails_once = λ h. refl;
    writes = λ n. appends_none (contents s.output);
  }

  -- one text and then another
  pub wrote_more : (a b c : Streams R W) (text more : List ℕ) → Wrote contents a b text → Wrote contents b c more
      → Wrote contents a c (text ++ more)
  wrote_more a b c text more f g = record {
    reads_none = g.reads_none ∙ f.reads_none;
    fails_once = λ h. g.fails_once (subst (λ (s : Streams R W). IsSome s.failure) (sym (f.fails_once h)) h) ∙ f.fails_once h;
    writes = λ n.
        appends_more (contents a.output) (contents b.output) (contents c.output) text more
        (f.writes (none_before b.failure c.failure (λ h. ap (λ (s : Streams R W). s.failure) (g.fails_once h)) n))
        (g.writes n);
  }
