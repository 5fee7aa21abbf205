-- The vocabulary has the ground atom, so its fact is one of the 512.
use Rattle.std.proofs.Common.{arith}
use Rattle.std.proofs.lemmas.Grind.{common_steps}
use Rattle.strips.specs.Fitting.{ground_below}
use Rattle.strips.proofs.moves.Move.literal.Goals as goal

pub returns-clause-below : goal.returns-clause-below
returns-clause-below c = grind (arith, common_steps, ground_below)
