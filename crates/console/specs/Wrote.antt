-- What is written to an output that says what it holds.
use Rattle.std.specs.Prelude.{◌≡◌, List, ℕ, Option, IsNone, IsSome}
use Rattle.std.specs.Io.KnownBytes.{Appends}
use Rattle.console.specs.declared.channel.Streams.{Streams}

-- nothing is read, and the text is written unless a call fails; after a failure nothing is written
pub record Wrote {R W : Type 0} (contents : W → Option (List ℕ)) (before after : Streams R W) (text : List ℕ) : Type 0 where
  pub reads_none : after.input ≡ before.input
  pub fails_once : IsSome before.failure → after ≡ before
  pub writes : IsNone after.failure → Appends (contents before.output) (contents after.output) text
