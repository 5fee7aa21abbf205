-- No move that was passed is allowed, so the lowest one from here on is the lowest of all.
use Rattle.std.proofs.Common.{◌≡◌, ◌-◌}
use Rattle.model.specs.Moves.{lowest_move}
use Rattle.strips.specs.Steps.{action_allowed}
use Rattle.strips.proofs.plant.ActionPlantPlant.allowed_from.Given as goal

abbrev pub invariant-loop-m : goal.invariant-loop-m
invariant-loop-m l =
    lowest_move (action_allowed l.self.table l.state) l.from ≡ lowest_move (action_allowed l.self.table l.state) l.number

abbrev pub decreases-loop-m : goal.decreases-loop-m
decreases-loop-m l = 65536 - l.number
