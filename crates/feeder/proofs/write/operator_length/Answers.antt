use Rattle.std.proofs.Common.{arith}
use Rattle.feeder.proofs.Shapes.{length_operator}
use Rattle.feeder.proofs.write.operator_length.Goals as goal

pub returns-clause-size : goal.returns-clause-size
returns-clause-size c = omega (arith, length_operator c.args.op.now)
