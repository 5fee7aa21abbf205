-- The tests of the definition decide whether the move can be made.
use Rattle.std.proofs.Common.{rules}
use Rattle.strips.specs.Stepping.{answered}
use Rattle.strips.proofs.plant.ActionPlant.applies.Goals as goal

pub returns-clause-law : goal.returns-clause-law
returns-clause-law c = answered _ _ _ _ (search rules)
