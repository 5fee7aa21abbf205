-- The vocabulary has the ground atoms of all preconditions.
use Rattle.std.proofs.Common.{◌≡◌, true, arith, rules}
use Rattle.std.proofs.lemmas.Grind.{common_steps}
use Rattle.std.proofs.lemmas.Iterator.{YieldsList-from_slice}
use Rattle.std.proofs.lemmas.Iterator.Adapters.{serves_from_places}
use Rattle.codec.proofs.Coding.{every_at}
use Rattle.strips.specs.Fitting.{needs_ground}
use Rattle.strips.specs.Grounding.{ground_fits}
use Rattle.strips.proofs.moves.Move.needs_hold.Goals as goal

pub all-requires-clause-callable : goal.all-requires-clause-callable
all-requires-clause-callable c =
    let m = c.args.self.now in
    serves_from_places (YieldsList-from_slice c.as_slice-needs.result.now (cc)) (λ x q k. search rules)
    (λ x k h e.
    let fits : ground_fits m.table.now m.number x.now ≡ true =
    grind (arith, common_steps, every_at, needs_ground m.table.now m.number m.exists m.takes)
    in search rules)
