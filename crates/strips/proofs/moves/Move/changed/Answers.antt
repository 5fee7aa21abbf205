-- The vocabulary has the ground atoms of all effects.
use Rattle.std.proofs.Common.{arith}
use Rattle.std.proofs.lemmas.Grind.{common_steps}
use Rattle.codec.proofs.Coding.{every_at}
use Rattle.strips.specs.Fitting.{effects_ground}
use Rattle.strips.proofs.moves.Move.changed.Goals as goal

pub literal-requires : goal.literal-requires
literal-requires c = let m = c.args.self.now in grind (arith, common_steps, every_at, effects_ground m.table.now m.number m.exists m.takes)
