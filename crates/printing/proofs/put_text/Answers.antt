use Rattle.std.proofs.Common.{refl, arith}
use Rattle.printing.proofs.Puts.{copied}
use Rattle.printing.proofs.put_text.Goals as goal

pub returns : goal.returns
returns c = (
  copied c.args.out.now c.args.text.now _ c.args.at _ c.copy_from_slice.ensures.after (omega arith) c.requires,
  refl,
)
