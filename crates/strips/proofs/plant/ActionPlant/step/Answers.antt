-- Fact by fact the state is the next one, and so the law holds.
use Rattle.std.proofs.Common.{sym, rules}
use Rattle.strips.specs.Stepping.{lawful, next_drawn}
use Rattle.strips.proofs.plant.ActionPlant.step.Goals as goal

pub returns-in-Some-clause-next : goal.returns-in-Some-clause-next
returns-in-Some-clause-next c =
    next_drawn c.args.self.now.table c.args.state.now c.args.number (sym c.in-Some.ensures.allowed) c.apply.result
    (λ f. cc (c.in-Some.ensures.found.0, c.in-Some.ensures.found.1, c.apply.ensures f))

pub returns-in-Some-clause-law : goal.returns-in-Some-clause-law
returns-in-Some-clause-law c = lawful _ _ _ _ (returns-in-Some-clause-next c)

pub returns-in-None-clause-law : goal.returns-in-None-clause-law
returns-in-None-clause-law c = lawful _ _ _ _ (search rules)
