-- The facts listed so far are those of the words passed.
use Rattle.std.proofs.Common.{◌≡◌, ◌*◌}
use Rattle.model.specs.Ascents.{fact_numbers}
use Rattle.model.specs.Pictures.{chosen, holds}
use Rattle.model.proofs.picture.Picture.members.Given as goal

abbrev pub invariant-loop-w : goal.invariant-loop-w
invariant-loop-w l = fact_numbers l.facts ≡ chosen (64 * l.w) (holds l.self)
