use Rattle.std.proofs.Common.{ap, ◌∙◌, to_z-of_z}
use Rattle.std.specs.Fmt.{signed_decimal}
use mir.Syntax.{w64}
use Rattle.printing.proofs.Decimals.{number_is}
use Rattle.printing.proofs.write_number.Goals as goal

pub returns : goal.returns
returns c =
    let sent = to_z-of_z {w = w64} c.ranges.z in
    let text = c.as_bytes.ensures.value ∙ c.format.ensures.text ∙ ap signed_decimal sent ∙ number_is c.args.z c.ranges.z in
    rw text at c.put_text.ensures
