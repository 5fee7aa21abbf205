-- The moves below the place that the walk has come to are gathered, and that place rises.
use Rattle.std.proofs.Common.{◌≡◌, ◌-◌, ◌≤◌, vec_items}
use Rattle.model.specs.Pictures.{chosen}
use Rattle.inspect.proofs.moves.allowed_moves.Given as goal

abbrev pub invariant-loop-found : goal.invariant-loop-found
invariant-loop-found g l = (l.from ≤ 4096) × (vec_items l.moves ≡ chosen l.from (g.P.Plant.allowed l.plant l.state))

abbrev pub decreases-loop-found : goal.decreases-loop-found
decreases-loop-found g l = 4096 - l.from
