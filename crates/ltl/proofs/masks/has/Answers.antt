use Rattle.model.proofs.Bits.{bit_shifted}
use Rattle.ltl.proofs.masks.has.Goals as goal

pub returns : goal.returns
returns c = bit_shifted c.args.mask c.args.i
