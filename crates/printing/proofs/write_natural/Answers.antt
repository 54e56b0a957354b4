use Rattle.std.proofs.Common.{◌∙◌, arith}
use Rattle.printing.proofs.Decimals.{natural_is}
use Rattle.printing.proofs.write_natural.Goals as goal

pub returns : goal.returns
returns c =
    let text = c.as_bytes.ensures.value ∙ c.format.ensures.text ∙ natural_is c.args.n (omega arith) in
    rw text at c.put_text.ensures
